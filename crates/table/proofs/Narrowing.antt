-- Narrowing. Assumes nothing.
use Rattle.std.proofs.Common.{◌≡◌, ℕ, ◌+◌, ◌-◌, ◌*◌, ◌<◌, ◌≤◌, Bool, true, false, cond, not, eqb, ltb, length, is_ok, Some, None, Ok, Err, Option, sym, refl, ap, ◌∙◌, subst, ⊎_elim, arith}
use Rattle.std.proofs.lemmas.Bool.{cases_eq, eq-eqb, true≢false}
use Rattle.std.proofs.lemmas.Option.{none-some, same_Some}
use Rattle.tallies.specs.Kinds.{Kind}
use Rattle.rules.specs.Rules.{Meaning}
use Rattle.seatings.specs.Seatings.{seatable}
use Rattle.seatings.proofs.Decided.{seatable_decides, unseatable}
use Rattle.seats.specs.declared.refusal.Refusal.{Refusal}
use Rattle.seats.specs.declared.refusal.Refusal.TheVariants.{Seats, Words, RowLimit, NoNarrowSeating}
use Rattle.seats.specs.declared.shape.Shape.{Shape}
use Rattle.seats.specs.Shapes.{Size, Sound, size, with_rows}
use Rattle.seats.specs.Seats.{Shows, at, vacant, held}
use Rattle.seats.proofs.Sitting.{shape_sound}
use Rattle.seats.proofs.Seated.{shows_seating}
use Rattle.narrowing.specs.Narrowed.{stops, narrower, Shifted, Crowded, Cleared}
use Rattle.book.specs.declared.answer.Rows.{Rows}
use Rattle.book.specs.declared.answer.Outcome.TheVariants.{Sized}
use Rattle.book.specs.Books.{Book, Turn, narrow, too_few, has_slack, check, turn, turned_away, resize, resized}
use Rattle.table.specs.declared.table.Table.{Table}
use Rattle.table.specs.Tables.{Keeps, Did}
use Rattle.table.proofs.Reading.{same_refusal}
use Rattle.table.proofs.Changing.{keeps_same}
use Rattle.table.proofs.Resizing.{keeps_resized, same_answer}

-- the book's first checks are those of the call
module _ {V : Type 0} (b : Book V) (rest : Turn V) where
  abbrev checks : Bool → Bool → Turn V
  checks few more = check b few Words (check b (not more) RowLimit rest)

  abbrev bars : Bool → Bool → Bool → Option Refusal
  bars few more fits = cond few (Some Words) (cond (not more) (Some RowLimit) (cond (not fits) (Some Seats) None))

  stopped_so : (few more fits : Bool) (why : Refusal) → fits ≡ true → bars few more fits ≡ Some why → checks few more ≡ turned_away b why
  stopped_so true more fits why fit is = ap (turned_away b) (same_Some Words why is)
  stopped_so false false fits why fit is = ap (turned_away b) (same_Some RowLimit why is)
  stopped_so false true true why fit is = absurd (none-some why is)
  stopped_so false true false why fit is = absurd (true≢false (sym fit))

  passed_so : (few more fits : Bool) → bars few more fits ≡ None → checks few more ≡ rest
  passed_so true more fits is = absurd (none-some Words (sym is))
  passed_so false false fits is = absurd (none-some RowLimit (sym is))
  passed_so false true fits is = refl

module _ {V : Type 0} (k : Kind V) (rule : Meaning) (t u : Table V) (words : ℕ) (lent : u.seats.ghost_name ≡ t.seats.ghost_name) (count : u.held ≡ t.held) where
  abbrev z : Size
  z = size t.shape

  abbrev stop : Option Refusal
  stop = stops z (length t.seats.now) words

  -- the book's own numbers stop the call alike
  stop_is : (b : Book V) → Keeps k t b → bars b (turned_away b Words) (too_few b words) (ltb 1 b.size.rows) (eqb (length t.seats.now) (b.size.buckets * b.size.most)) ≡ stop
  stop_is b keeps = ap (λ (y : Size). stops y (length t.seats.now) words) keeps.sized

  fits : (b : Book V) → Keeps k t b → eqb (length t.seats.now) (b.size.buckets * b.size.most) ≡ true
  fits b keeps = eq-eqb (length t.seats.now) (b.size.buckets * b.size.most) (sym keeps.room ∙ ap (λ (y : Size). y.buckets * y.most) (sym keeps.sized))

  abbrev rest : Book V → Turn V
  rest b = check b (not (has_slack b)) NoNarrowSeating (resized (resize b (b.size.rows - 1)))

  slack_is : (b : Book V) → Keeps k t b → has_slack b ≡ seatable z.buckets (z.rows - 1) z.range (held b.entries)
  slack_is b keeps = ap (λ (y : Size). seatable y.buckets (y.rows - 1) y.range (held b.entries)) keeps.sized

  by_slack : (b : Book V) (slack : Bool) → Keeps k t b → stop ≡ None → has_slack b ≡ slack → turn k rule b (narrow words) ≡ check b (not slack) NoNarrowSeating (resized (resize b (b.size.rows - 1)))
  by_slack b slack keeps goes is =
      passed_so b (rest b) (too_few b words) (ltb 1 b.size.rows) (eqb (length t.seats.now) (b.size.buckets * b.size.most)) (stop_is b keeps ∙ goes)
      ∙ ap (λ x. check b (not x) NoNarrowSeating (resized (resize b (b.size.rows - 1)))) is

  -- turned away at once
  pub narrow_stopped : (why : Refusal) → stop ≡ Some why → u.seats.now ≡ t.seats.now → u.shape ≡ t.shape → Did k rule t (narrow words) (Err why) u
  narrow_stopped why is seats shape =
      let turns : (b : Book V) → Keeps k t b → turn k rule b (narrow words) ≡ turned_away b why = λ b keeps.
      stopped_so b (rest b) (too_few b words) (ltb 1 b.size.rows) (eqb (length t.seats.now) (b.size.buckets * b.size.most)) why (fits b keeps) (stop_is b keeps ∙ is) in
      record {
        answers = λ b keeps. sym (ap (λ (x : Turn V). x.answer) (turns b keeps));
        keeps = λ b keeps. subst (λ (x : Turn V). Keeps k u x.book) (sym (turns b keeps)) (keeps_same k t u seats shape count b keeps);
        still = λ _ _ _. seats;
        lent = lent;
      }

  -- for want of seats: entries may have moved
  pub narrow_crowded : (why : Refusal) → why ≡ NoNarrowSeating → stop ≡ None → Shifted k.empty t.seats.now u.seats.now z → Crowded k.empty t.seats.now z → length u.seats.now ≡ length t.seats.now → u.shape ≡ t.shape →
      Did k rule t (narrow words) (Err why) u
  narrow_crowded why so goes shifted crowded long shape =
      let turns : (b : Book V) → Keeps k t b → turn k rule b (narrow words) ≡ turned_away b why = λ b keeps.
      by_slack b false keeps goes (slack_is b keeps ∙ unseatable z.buckets (z.rows - 1) z.range (held b.entries) (crowded b.entries keeps.shows)) ∙ ap (turned_away b) (sym so) in
      let kept : (b : Book V) → Keeps k t b → Keeps k u b = λ b keeps. record {
        sized = keeps.sized ∙ ap size (sym shape);
        room = ap (λ (s : Shape). s.buckets * s.most) shape ∙ keeps.room ∙ sym long;
        shows = subst (λ (s : Shape). Shows k.empty u.seats.now (size s) b.entries) (sym shape) (shifted.shows b.entries keeps.shows);
        rest = subst (λ (s : Shape). (bucket row : ℕ) → bucket < s.buckets → s.rows ≤ row → row < s.most → at k.empty u.seats.now (bucket * s.most + row) ≡ vacant k.empty) (sym shape)
            (λ bucket row low past high. shifted.beyond bucket row low past high ∙ keeps.rest bucket row low past high);
        values = keeps.values;
        counted = count ∙ keeps.counted;
      } in
      record {
        answers = λ b keeps. sym (ap (λ (x : Turn V). x.answer) (turns b keeps));
        keeps = λ b keeps. subst (λ (x : Turn V). Keeps k u x.book) (sym (turns b keeps)) (kept b keeps);
        still = λ other is apart. absurd (apart (sym (same_refusal why other is) ∙ so));
        lent = lent;
      }

  -- the last row is cleared
  pub narrow_done : (n : Rows) → n ≡ record { rows = u.shape.rows; held = u.held } → stop ≡ None → size u.shape ≡ narrower z → Cleared k.empty t.seats.now u.seats.now z → length u.seats.now ≡ length t.seats.now →
      Did k rule t (narrow words) (Ok (Sized n)) u
  narrow_done n is goes shape cleared long =
      let buckets : u.shape.buckets ≡ t.shape.buckets = ap (λ (y : Size). y.buckets) shape in
      let most : u.shape.most ≡ t.shape.most = ap (λ (y : Size). y.most) shape in
      let fewer : u.shape.rows ≡ t.shape.rows - 1 = ap (λ (y : Size). y.rows) shape in
      let rows : (b : Book V) → Keeps k t b → u.shape.rows ≡ b.size.rows - 1 = λ b keeps. fewer ∙ ap (λ (y : Size). y.rows - 1) (sym keeps.sized) in
      let sound : Sound (narrower z) = subst Sound shape (shape_sound u.shape) in
      let turns : (b : Book V) → Keeps k t b → turn k rule b (narrow words) ≡ resized (resize b (b.size.rows - 1)) = λ b keeps.
      by_slack b true keeps goes
      (slack_is b keeps ∙ (seatable_decides z.buckets (z.rows - 1) z.range (held b.entries)).1 (shows_seating k.empty sound u.seats.now b.entries (cleared.shows b.entries keeps.shows))) in
      record {
        answers = λ b keeps. ap (λ x. Ok (Sized x)) is ∙ same_answer k t u buckets most count b (b.size.rows - 1) keeps (rows b keeps) ∙ sym (ap (λ (x : Turn V). x.answer) (turns b keeps));
        keeps = λ b keeps.
            subst (λ (x : Turn V). Keeps k u x.book) (sym (turns b keeps))
            (subst (λ n. Keeps k u (resize b n)) (rows b keeps)
            (keeps_resized k t u buckets most count b keeps long
            (subst (λ n. Shows k.empty u.seats.now (with_rows z n) b.entries) (sym fewer) (cleared.shows b.entries keeps.shows))
            (λ bucket row low past high.
            ⊎_elim
            (λ (last : row ≡ t.shape.rows - 1). ap (λ n. at k.empty u.seats.now (bucket * t.shape.most + n)) last ∙ cleared.empty b.entries keeps.shows bucket low)
            (λ (apart : row ≡ t.shape.rows - 1 → ⊥).
            let further : t.shape.rows ≤ row = omega arith in
            cleared.beyond bucket row low further high ∙ keeps.rest bucket row low further high)
            (cases_eq row (t.shape.rows - 1)))));
        still = λ why is _. absurd (true≢false (ap is_ok is));
        lent = lent;
      }
