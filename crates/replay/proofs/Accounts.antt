-- The theorem over whole runs. Assumes nothing.
use Rattle.std.proofs.Common.{◌≡◌, ℕ, ◌-◌, ◌*◌, Bool, true, false, not, ltb, List, [], ◌∷◌, length, replicate, is_ok, None, Ok, Err, Option, sym, refl, ap, ◌∙◌, ⊎_elim, arith}
use Rattle.std.proofs.lemmas.List.{get_or_past, get_or-replicate, length-replicate}
use Rattle.std.proofs.lemmas.Bool.{cases_lt, true≢false}
use Rattle.std.proofs.lemmas.Option.{none-some}
use Rattle.tallies.specs.Kinds.{Kind}
use Rattle.rules.specs.Rules.{Meaning}
use Rattle.seatings.specs.Seatings.{Seating, seatable}
use Rattle.seatings.proofs.Counts.{count_no}
use Rattle.seatings.proofs.Decided.{seatable_decides, unseatable}
use Rattle.seats.specs.declared.refusal.Refusal.{Refusal}
use Rattle.seats.specs.declared.refusal.Refusal.TheVariants.{Words, LongKey, NoAmount, RowLimit, NoSeating, NoNarrowSeating}
use Rattle.seats.specs.declared.seat.Seat.{Seat}
use Rattle.seats.specs.Seats.{at, vacant}
use Rattle.book.specs.declared.answer.Outcome.{Outcome}
use Rattle.book.specs.Answers.{Answer}
use Rattle.book.specs.Books.{Book, Call, Turn, post, reverse, erase, look_up, widen, narrow, fingerprint, too_few, too_long, has_room, has_slack, check, gets, posted, resize, resized, answer, answers, after, after_all}
use Rattle.table.specs.declared.table.Table.{Table}
use Rattle.table.specs.Tables.{Keeps, Fresh, first_book}
use Rattle.replay.specs.Runs.{Step, Ran, Each, calls, told, last_table}
use Rattle.replay.specs.Account.{AsBook, ExactlyWhen, WantsSeats, Account}

-- a table that was just opened keeps the blank book
module _ {V : Type 0} (k : Kind V) (t : Table V) (fresh : Fresh k t) where
  all_empty : (i : ℕ) → at k.empty t.seats.now i ≡ vacant k.empty
  all_empty i =
      let n = t.shape.buckets * t.shape.most in
      let v = vacant k.empty in
      ap (λ xs. at k.empty xs i) fresh.empty
      ∙ ⊎_elim (λ lt. get_or-replicate n i v v lt) (λ past. get_or_past (replicate n v) i v (omega (arith, length-replicate n v))) (cases_lt i n)

  unfilled : (i : ℕ) → ((at k.empty t.seats.now i).tally ≡ k.empty → ⊥) → ⊥
  unfilled i filled = filled (ap (λ (s : Seat V). s.tally) (all_empty i))

  pub fresh_keeps : Keeps k t (first_book t)
  fresh_keeps = record {
    sized = refl;
    room = sym (ap length fresh.empty ∙ length-replicate (t.shape.buckets * t.shape.most) (vacant k.empty));
    shows = record {
      gives_back = λ _ _ _ _ filled. absurd (unfilled _ filled);
      told = λ f i s. absurd (unfilled i s.filled);
      seated = λ f v is. absurd (none-some v is);
      alone = λ f i j s _. absurd (unfilled i s.filled);
      alike = λ _ _ _ _ _. all_empty _;
      upright = λ f i s _. absurd (unfilled i s.filled);
    };
    rest = λ _ _ _ _ _. all_empty _;
    values = λ f v is. absurd (none-some v is);
    counted = fresh.none ∙ sym (count_no _);
  }

by_seating : (A : Type 0) (m b range : ℕ) (held : ℕ → Bool) → ExactlyWhen A (seatable m b range held ≡ false) → ExactlyWhen A (Seating m b range held → ⊥)
by_seating A m b range held (onward, back) = (λ a s. true≢false (sym ((seatable_decides m b range held).1 s) ∙ onward a), λ none. back (unseatable m b range held none))

-- a turn that a check may stop, by its answer
module _ {V : Type 0} where
  -- an answer that gives something is no refusal
  never_both : (a : Answer V) (outcome : Outcome V) (why : Refusal) → a ≡ Err why → a ≡ Ok outcome → ⊥
  never_both a outcome why p q = true≢false (ap is_ok (sym q ∙ p))

  room_wanting : (b : Book V) (f : ℕ) (v : V) (room : Bool) (a : Answer V) → a ≡ (check b (not room) NoSeating (gets b f v)).answer → ExactlyWhen (a ≡ Err NoSeating) (room ≡ false)
  room_wanting b f v true a is = (λ q. absurd (never_both a _ NoSeating q is), λ q. absurd (true≢false q))
  room_wanting b f v false a is = (λ _. refl, λ _. is)

  slack_wanting : (b c : Book V) (slack : Bool) (a : Answer V) → a ≡ (check b (not slack) NoNarrowSeating (resized c)).answer → ExactlyWhen (a ≡ Err NoNarrowSeating) (slack ≡ false)
  slack_wanting b c true a is = (λ q. absurd (never_both a _ NoNarrowSeating q is), λ q. absurd (true≢false q))
  slack_wanting b c false a is = (λ _. refl, λ _. is)

  post_passes : (k : Kind V) (b : Book V) (f : ℕ) (amount : V) (few long real : Bool) (o : Option V) → few ≡ false → long ≡ false → real ≡ true → o ≡ None →
      check b few Words (check b long LongKey (check b (not real) NoAmount (posted k b f amount o))) ≡ check b (not (has_room b f)) NoSeating (gets b f amount)
  post_passes k b f amount few long real o hf hl hr ho =
      ap (λ x. check b x Words (check b long LongKey (check b (not real) NoAmount (posted k b f amount o)))) hf
      ∙ ap (λ x. check b x LongKey (check b (not real) NoAmount (posted k b f amount o))) hl
      ∙ ap (λ x. check b (not x) NoAmount (posted k b f amount o)) hr
      ∙ ap (posted k b f amount) ho

  narrow_passes : (b : Book V) (few more : Bool) (rest : Turn V) → few ≡ false → more ≡ true → check b few Words (check b (not more) RowLimit rest) ≡ rest
  narrow_passes b few more rest hf hm = ap (λ x. check b x Words (check b (not more) RowLimit rest)) hf ∙ ap (λ x. check b (not x) RowLimit rest) hm

module _ {V : Type 0} (k : Kind V) (rule : Meaning) where
  wants : (b : Book V) (c : Call V) (a : Answer V) → a ≡ answer k rule b c → WantsSeats k rule b c a
  wants b (post key amount words) a is = λ few long real new.
      let f = fingerprint rule b key in
      by_seating _ _ _ _ _ (room_wanting b f amount (has_room b f) a (is ∙ ap (λ (t : Turn V). t.answer) (post_passes k b f amount (too_few b words) (too_long key) (k.is_amount amount) (b.entries f) few long real new)))
  wants b (reverse key amount) a is = tt
  wants b (erase key) a is = tt
  wants b (look_up key) a is = tt
  wants b widen a is = tt
  wants b (narrow words) a is = λ few more.
      by_seating _ _ _ _ _ (slack_wanting b (resize b (b.size.rows - 1)) (has_slack b) a (is ∙ ap (λ (t : Turn V). t.answer) (narrow_passes b (too_few b words) (ltb 1 b.size.rows) _ few more)))

  -- at every step
  each_as_book : (t : Table V) (b : Book V) → Keeps k t b → (ss : List (Step V)) → Ran k rule t ss → Each (AsBook k rule) k rule b ss
  each_as_book t b keeps [] ran = tt
  each_as_book t b keeps (s ∷ ss) (did, ran) =
      let next = did.keeps b keeps in
      ((did.answers b keeps, next), each_as_book s.table (after k rule b s.call) next ss ran)

  each_wants : (b : Book V) (ss : List (Step V)) → Each (AsBook k rule) k rule b ss → Each (λ b s. WantsSeats k rule b s.call s.answer) k rule b ss
  each_wants b [] h = tt
  each_wants b (s ∷ ss) (h, hs) = (wants b s.call s.answer h.0, each_wants (after k rule b s.call) ss hs)

  -- a run's answers are the book's to its calls
  pub told_by_book : (b : Book V) (ss : List (Step V)) → Each (AsBook k rule) k rule b ss → told ss ≡ answers k rule b (calls ss)
  told_by_book b [] h = refl
  told_by_book b (s ∷ ss) (h, hs) = let rest = told_by_book (after k rule b s.call) ss hs in λ i. h.0 i ∷ rest i

  -- and the last table keeps the book after them
  pub ends : (t : Table V) (b : Book V) → Keeps k t b → (ss : List (Step V)) → Ran k rule t ss → Keeps k (last_table t ss) (after_all k rule b (calls ss))
  ends t b keeps [] ran = keeps
  ends t b keeps (s ∷ ss) (did, ran) = ends s.table (after k rule b s.call) (did.keeps b keeps) ss ran

  pub run_by_book : (t : Table V) (b : Book V) → Keeps k t b → (ss : List (Step V)) → Ran k rule t ss → told ss ≡ answers k rule b (calls ss)
  run_by_book t b keeps ss ran = told_by_book b ss (each_as_book t b keeps ss ran)

  pub account : Account k rule
  account = record {
    answers_are_the_books = λ t fresh ss ran. each_as_book t (first_book t) (fresh_keeps k t fresh) ss ran;
    seats_wanting_exactly_without_a_seating = λ t fresh ss ran. each_wants (first_book t) ss (each_as_book t (first_book t) (fresh_keeps k t fresh) ss ran);
    equal_books_answer_alike = λ t u ft fu ss rs rt ru same more other rm ro alike.
        let one = run_by_book (last_table t ss) _ (ends t (first_book t) (fresh_keeps k t ft) ss rt) more rm in
        let two = run_by_book (last_table u rs) _ (ends u (first_book u) (fresh_keeps k u fu) rs ru) other ro in
        one ∙ (λ i. answers k rule (same i) (alike i)) ∙ sym two;
  }
