-- How many fingerprints a book holds, with one entry changed. Assumes nothing.
use Rattle.std.proofs.Common.{◌≡◌, ℕ, ◌+◌, ◌<◌, ◌≤◌, Bool, true, false, cond, eqb, is_some, Some, None, Option, sym, refl, ap, ◌∙◌, arith}
use Rattle.std.proofs.lemmas.Bool.{eqb-true}
use Rattle.seatings.specs.Counts.{bit}
use Rattle.seatings.proofs.Counts.{count_add, count_all, count_le, count_one, count_same}
use Rattle.seats.specs.Seats.{held}
use Rattle.book.specs.Books.{Book, enter, holding}

-- at most the range
pub holding_few : {V : Type 0} (b : Book V) → holding b ≤ b.size.range
holding_few b = omega (arith, count_le (held b.entries) (λ _. true) b.size.range (λ _ _ _. refl), count_all b.size.range)

emptied : {V : Type 0} (here : Bool) (o : Option V) → (here ≡ true → is_some o ≡ true) → bit (is_some o) ≡ bit (is_some (cond here None o)) + bit here
emptied true o is = ap bit (is refl)
emptied false None is = refl
emptied false (Some v) is = refl

replaced : {V : Type 0} (here : Bool) (w : V) (o : Option V) → (here ≡ true → is_some o ≡ true) → is_some (cond here (Some w) o) ≡ is_some o
replaced true w o is = sym (is refl)
replaced false w o is = refl

added : {V : Type 0} (here : Bool) (w : V) (o : Option V) → (here ≡ true → is_some o ≡ false) → bit (is_some (cond here (Some w) o)) ≡ bit (is_some o) + bit here
added true w o is = sym (ap (λ x. bit x + 1) (is refl))
added false w None is = refl
added false w (Some v) is = refl

module _ {V : Type 0} (b : Book V) (f : ℕ) (below : f < b.size.range) where
  at_f : (o : Option V) → b.entries f ≡ o → (g : ℕ) → eqb g f ≡ true → is_some (b.entries g) ≡ is_some o
  at_f o is g same = ap (held b.entries) (eqb-true g f same) ∙ ap is_some is

  pub one_fewer : (v : V) → b.entries f ≡ Some v → holding b ≡ holding (enter b f None) + 1
  one_fewer v is =
      count_add (held b.entries) (held (enter b f None).entries) (λ g. eqb g f) b.size.range (λ g. emptied (eqb g f) (b.entries g) (at_f (Some v) is g))
      ∙ ap (λ n. holding (enter b f None) + n) (count_one f b.size.range below)

  pub one_more : (w : V) → b.entries f ≡ None → holding (enter b f (Some w)) ≡ holding b + 1
  one_more w is =
      count_add (held (enter b f (Some w)).entries) (held b.entries) (λ g. eqb g f) b.size.range (λ g. added (eqb g f) w (b.entries g) (at_f None is g))
      ∙ ap (λ n. holding b + n) (count_one f b.size.range below)

  pub as_many : (v w : V) → b.entries f ≡ Some v → holding (enter b f (Some w)) ≡ holding b
  as_many v w is = count_same (held (enter b f (Some w)).entries) (held b.entries) b.size.range (λ g _. replaced (eqb g f) w (b.entries g) (at_f (Some v) is g))
