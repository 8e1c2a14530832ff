-- Calls that leave the table as it is, and what the seats say of a fingerprint. Assumes nothing.
use Rattle.std.proofs.Common.{◌≡◌, ℕ, ◌<◌, Bool, false, List, length, Some, None, Ok, Err, Option, Result, MatchOption, is_ok, ok_or, unwrap_or, sym, refl, ap, ◌∙◌, subst}
use Rattle.std.specs.Option.{IsSomeAnd}
use Rattle.std.specs.Result.{result_err}
use Rattle.std.proofs.lemmas.Bool.{true≢false}
use Rattle.std.proofs.lemmas.Option.{MatchOption-at_some, MatchOption-at_none}
use Rattle.tallies.specs.Kinds.{Kind}
use Rattle.rules.specs.Rules.{Meaning}
use Rattle.seats.specs.declared.refusal.Refusal.{Refusal}
use Rattle.seats.specs.declared.refusal.Refusal.TheVariants.{LongKey}
use Rattle.seats.specs.Shapes.{Size, size}
use Rattle.seats.specs.Seats.{Shows, at}
use Rattle.seats.proofs.Sitting.{shape_sound, filled_inside}
use Rattle.seats.proofs.Shown.{not_shown}
use Rattle.book.specs.declared.answer.Outcome.TheVariants.{Held}
use Rattle.book.specs.Answers.{Answer}
use Rattle.book.specs.Books.{Book, Call, Turn, look_up, fingerprint, too_long, check, turn}
use Rattle.table.specs.declared.table.Table.{Table}
use Rattle.table.specs.Tables.{Keeps, Did}
use Rattle.table.specs.Seated.{Keyed, SitsIn}

-- a check that the call passes
pub passed : {V : Type 0} (b : Book V) (test : Bool) (why : Refusal) (rest : Turn V) → test ≡ false → check b test why rest ≡ rest
passed b test why rest is = ap (λ x. check b x why rest) is

pub same_refusal : {V : Type 0} (x y : Refusal) → ◌≡◌ {A = Answer V} (Err x) (Err y) → x ≡ y
same_refusal x y is = cc

-- a value is lacking, and the refusal is the one named for that
pub lacking : {X : Type 0} (o : Option X) (why named : Refusal) → ◌≡◌ {A = Result X Refusal} (Err why) (ok_or o named) → (o ≡ None) × (why ≡ named)
lacking None why named is = (refl, ap (λ r. unwrap_or (result_err r) why) is)
lacking (Some x) why named is = absurd (true≢false (sym (ap is_ok is)))

module _ {V : Type 0} (k : Kind V) where
  -- what the seats say of f, whatever entries they show
  abbrev pub Reads : Table V → ℕ → Option V → Type 0
  Reads t f entry = (entries : ℕ → Option V) → Shows k.empty t.seats.now (size t.shape) entries → entries f ≡ entry

  pub reads_none : (t : Table V) (f : ℕ) → ((i : ℕ) → SitsIn k t f i → ⊥) → Reads t f None
  reads_none t f nowhere entries shows = not_shown k.empty (shape_sound t.shape) t.seats.now entries f shows nowhere

  pub reads_some : (t : Table V) (f i : ℕ) (v : V) → SitsIn k t f i → v ≡ (at k.empty t.seats.now i).tally → Reads t f (Some v)
  reads_some t f i v sits is entries shows = shows.told f i sits ∙ ap Some (sym is)

  -- by what looking for f found
  pub reads_nowhere : (t : Table V) (f : ℕ) (o : Option ℕ) → o ≡ None → MatchOption o ((i : ℕ) → SitsIn k t f i → ⊥) (λ i. SitsIn k t f i) → Reads t f None
  reads_nowhere t f o none looked = reads_none t f (MatchOption-at_none ((i : ℕ) → SitsIn k t f i → ⊥) (λ i. SitsIn k t f i) none looked)

  pub sits_found : (t : Table V) (f : ℕ) (o : Option ℕ) (i : ℕ) → o ≡ Some i → MatchOption o ((j : ℕ) → SitsIn k t f j → ⊥) (λ j. SitsIn k t f j) → SitsIn k t f i
  sits_found t f o i some looked = MatchOption-at_some ((j : ℕ) → SitsIn k t f j → ⊥) (λ j. SitsIn k t f j) i some looked

  -- what is found, if it is, has its seat's tally
  pub reads_found : (t : Table V) (f : ℕ) (o : Option ℕ) (entry : Option V) (P : ℕ → V → Type 0) → ((i : ℕ) (v : V) → P i v → v ≡ (at k.empty t.seats.now i).tally) →
      MatchOption o ((i : ℕ) → SitsIn k t f i → ⊥) (λ i. SitsIn k t f i) → MatchOption o (entry ≡ None) (λ i. IsSomeAnd entry (P i)) → Reads t f entry
  reads_found t f None entry P says nowhere none = rw none (reads_none t f nowhere)
  reads_found t f (Some i) (Some v) P says sits is = reads_some t f i v sits (says i v is)
  reads_found t f (Some i) None P says sits is = absurd is

  pub sits_inside : (t : Table V) (f i : ℕ) → SitsIn k t f i → i < length t.seats.now
  sits_inside t f i sits = filled_inside k.empty t.seats.now i sits.filled

  module _ (rule : Meaning) where
    -- a call that leaves the table as it is
    pub unmoved : (t : Table V) (c : Call V) (a : Answer V) → ((b : Book V) → Keeps k t b → turn k rule b c ≡ record { answer = a; book = b }) → Did k rule t c a t
    unmoved t c a does = record {
      answers = λ b keeps. sym (ap (λ (x : Turn V). x.answer) (does b keeps));
      keeps = λ b keeps. subst (λ (x : Turn V). Keeps k t x.book) (sym (does b keeps)) keeps;
      still = λ _ _ _. refl;
      lent = refl;
    }

module _ {V : Type 0} (k : Kind V) {rule : Meaning} {t : Table V} {key : List ℕ} {f : ℕ} (keyed : Keyed rule t key f) where
  -- the number that the table asks its rule for is the book's fingerprint of the key
  pub same_fingerprint : (b : Book V) → Keeps k t b → fingerprint rule b key ≡ f
  same_fingerprint b keeps = ap (λ (z : Size). rule key z.range) keeps.sized ∙ sym keyed.asked

  pub same_entry : (b : Book V) (entry : Option V) → Reads k t f entry → Keeps k t b → b.entries (fingerprint rule b key) ≡ entry
  same_entry b entry reads keeps = ap b.entries (same_fingerprint b keeps) ∙ reads b.entries keeps.shows

  pub looked_up : (entry : Option V) → Reads k t f entry → Did k rule t (look_up key) (Ok (Held entry)) t
  looked_up entry reads =
      unmoved k rule t (look_up key) (Ok (Held entry))
      (λ b keeps. passed b (too_long key) LongKey _ keyed.short ∙ ap (λ x. record { answer = Ok (Held x); book = b }) (same_entry b entry reads keeps))
