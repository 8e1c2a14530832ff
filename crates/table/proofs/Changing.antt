-- Calls that change the entry of one fingerprint. Assumes nothing.
use Rattle.std.proofs.Common.{◌≡◌, ℕ, ◌+◌, ◌*◌, ◌%◌, ◌<◌, ◌≤◌, true, false, eqb, List, length, set, is_ok, Some, None, Ok, Option, sym, refl, ap, ◌∙◌, subst, ⊎_elim, arith}
use Rattle.std.proofs.lemmas.Nat.{mod-mul-add}
use Rattle.std.proofs.lemmas.List.{get_or-set_same, get_or-set_other}
use Rattle.std.proofs.lemmas.Bool.{cond-true, cond-false, cases_Bool, true≢false}
use Rattle.tallies.specs.Kinds.{Kind}
use Rattle.rules.specs.Rules.{Meaning}
use Rattle.seats.specs.declared.seat.Seat.{Seat}
use Rattle.seats.specs.declared.shape.Shape.{Shape}
use Rattle.seats.specs.Shapes.{Size, Sound, size}
use Rattle.seats.specs.Places.{place_of}
use Rattle.seats.specs.Seats.{Shows, Sits, at, seat, vacant, changed}
use Rattle.seats.proofs.Shown.{sits_one, shows_filled, shows_emptied}
use Rattle.book.specs.declared.answer.Outcome.{Outcome}
use Rattle.book.specs.Books.{Book, Call, Turn, enter, holding, turn}
use Rattle.table.specs.declared.table.Table.{Table}
use Rattle.table.specs.Tables.{Keeps, Did}

-- one seat of the rows in use is written
module _ {X : Type 0} (e : X) {z : Size} (sound : Sound z) (xs : List (Seat X)) (f i : ℕ) (sits : Sits e xs z f i) (inside : i < length xs) where
  -- a seat past the rows in use is another
  pub past_rows : (s : Seat X) (bucket row : ℕ) → z.rows ≤ row → row < z.most → at e (set xs i s) (bucket * z.most + row) ≡ at e xs (bucket * z.most + row)
  past_rows s bucket row past low =
      let low' : sits.row < z.most = omega (arith, sits.in_rows, sound.within) in
      let apart : bucket * z.most + row ≡ i → ⊥ = λ is.
      let same : row ≡ sits.row = sym (mod-mul-add bucket z.most row low) ∙ ap (λ n. n % z.most) (is ∙ sits.lies) ∙ mod-mul-add sits.bucket z.most sits.row low' in
      omega (arith, sits.in_rows) in
      get_or-set_other xs i (bucket * z.most + row) s (vacant e) apart

  module _ (entries : ℕ → Option X) (shows : Shows e xs z entries) where
    before : (g : ℕ) → Sits e xs z g i → g ≡ f
    before g t = sits_one e sound xs g f i t sits

    only : (j : ℕ) → Sits e xs z f j → j ≡ i
    only j t = shows.alone f j i t sits

    pub vacated : Shows e (set xs i (vacant e)) z (changed entries f None)
    vacated = shows_emptied e sound xs entries f i (vacant e) shows inside before only refl

    -- the seat keeps its carry and its flag
    pub retallied : (w : X) → (w ≡ e → ⊥) → Shows e (set xs i (seat (at e xs i).carry (at e xs i).flag w)) z (changed entries f (Some w))
    retallied w some =
        let s : Seat X = seat (at e xs i).carry (at e xs i).flag w in
        let here : s ≡ at e (set xs i s) i = sym (get_or-set_same xs i s (vacant e) inside) in
        shows_filled e sound xs entries f i s shows inside before only
        (record {
          bucket = sits.bucket;
          row = sits.row;
          in_table = sits.in_table;
          in_rows = sits.in_rows;
          lies = sits.lies;
          filled = subst (λ (x : Seat X). x.tally ≡ e → ⊥) here some;
          home = subst (λ (x : Seat X). sits.bucket ≡ (place_of z.buckets f x.flag).bucket) here sits.home;
          carried = subst (λ (x : Seat X). x.carry ≡ (place_of z.buckets f x.flag).carry) here sits.carried;
          below = sits.below;
        })
        (shows.upright f i sits)

-- a table that is as it was keeps the books that it kept
pub keeps_same : {V : Type 0} (k : Kind V) (t u : Table V) → u.seats.now ≡ t.seats.now → u.shape ≡ t.shape → u.held ≡ t.held → (b : Book V) → Keeps k t b → Keeps k u b
keeps_same {V} k t u seats shape same b keeps = record {
  sized = keeps.sized ∙ ap size (sym shape);
  room = ap (λ (s : Shape). s.buckets * s.most) shape ∙ keeps.room ∙ sym (ap length seats);
  shows = let P : List (Seat V) → Shape → Type 0 = λ xs s. Shows k.empty xs (size s) b.entries in
      subst (λ s. P u.seats.now s) (sym shape) (subst (λ xs. P xs t.shape) (sym seats) keeps.shows);
  rest = let P : List (Seat V) → Shape → Type 0 = λ xs s. (bucket row : ℕ) → bucket < s.buckets → s.rows ≤ row → row < s.most → at k.empty xs (bucket * s.most + row) ≡ vacant k.empty in
      subst (λ s. P u.seats.now s) (sym shape) (subst (λ xs. P xs t.shape) (sym seats) keeps.rest);
  values = keeps.values;
  counted = same ∙ keeps.counted;
}

module _ {V : Type 0} (k : Kind V) (t u : Table V) (f : ℕ) (entry : Option V) where
  -- the seats of u are those of t but for the entry of f
  pub record Changes : Type 0 where
    pub shape : u.shape ≡ t.shape
    pub long : length u.seats.now ≡ length t.seats.now
    pub writes : (entries : ℕ → Option V) → Shows k.empty t.seats.now (size t.shape) entries → Shows k.empty u.seats.now (size t.shape) (changed entries f entry)
    pub past : (bucket row : ℕ) → bucket < t.shape.buckets → t.shape.rows ≤ row → row < t.shape.most → at k.empty u.seats.now (bucket * t.shape.most + row) ≡ at k.empty t.seats.now (bucket * t.shape.most + row)

  -- what a book holds after the change are values
  values_changed : (b : Book V) → Keeps k t b → ((v : V) → entry ≡ Some v → k.is_value v ≡ true) → (g : ℕ) (v : V) → changed b.entries f entry g ≡ Some v → k.is_value v ≡ true
  values_changed b keeps value g v is =
      ⊎_elim
      (λ (here : eqb g f ≡ true). value v (sym (cond-true (eqb g f) entry (b.entries g) here) ∙ is))
      (λ (there : eqb g f ≡ false). keeps.values g v (sym (cond-false (eqb g f) entry (b.entries g) there) ∙ is))
      (cases_Bool (eqb g f))

  pub keeps_changed : Changes → (b : Book V) → Keeps k t b → ((v : V) → entry ≡ Some v → k.is_value v ≡ true) → u.held ≡ holding (enter b f entry) → Keeps k u (enter b f entry)
  keeps_changed changes b keeps value count = record {
    sized = keeps.sized ∙ ap size (sym changes.shape);
    room = ap (λ (s : Shape). s.buckets * s.most) changes.shape ∙ keeps.room ∙ sym changes.long;
    shows = subst (λ (s : Shape). Shows k.empty u.seats.now (size s) (changed b.entries f entry)) (sym changes.shape) (changes.writes b.entries keeps.shows);
    rest = subst (λ (s : Shape). (bucket row : ℕ) → bucket < s.buckets → s.rows ≤ row → row < s.most → at k.empty u.seats.now (bucket * s.most + row) ≡ vacant k.empty) (sym changes.shape)
        (λ bucket row b past low. changes.past bucket row b past low ∙ keeps.rest bucket row b past low);
    values = values_changed b keeps value;
    counted = count;
  }

  -- the book's turn makes the same change
  pub record TurnsSo (rule : Meaning) (c : Call V) (outcome : Outcome V) (b : Book V) : Type 0 where
    pub changes : Changes
    pub turns : turn k rule b c ≡ record { answer = Ok outcome; book = enter b f entry }
    pub value : (v : V) → entry ≡ Some v → k.is_value v ≡ true
    pub count : u.held ≡ holding (enter b f entry)

  pub did_change : (rule : Meaning) (c : Call V) (outcome : Outcome V) → u.seats.ghost_name ≡ t.seats.ghost_name →
      ((b : Book V) → Keeps k t b → TurnsSo rule c outcome b) → Did k rule t c (Ok outcome) u
  did_change rule c outcome lent so = record {
    answers = λ b keeps. sym (ap (λ (x : Turn V). x.answer) (so b keeps).turns);
    keeps = λ b keeps. subst (λ (x : Turn V). Keeps k u x.book) (sym (so b keeps).turns) (keeps_changed (so b keeps).changes b keeps (so b keeps).value (so b keeps).count);
    still = λ why is _. absurd (true≢false (ap is_ok is));
    lent = lent;
  }
