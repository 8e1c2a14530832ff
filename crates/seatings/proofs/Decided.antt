-- `seatable` decides whether there is a seating: what it finds is one, and where there is one it finds one. Assumes nothing.
use Rattle.std.proofs.Common.{◌≡◌, ℕ, zero, suc, ◌+◌, ◌/◌, ◌%◌, ◌≤◌, Bool, true, false, cond, ◌&&◌, ◌||◌, eqb, ltb, ◌⊎◌, Decides, refl, inl, inr, ⊎_elim, arith}
use Rattle.std.proofs.lemmas.Bool.Decides.{nat_tests}
use Rattle.std.proofs.lemmas.Bool.{and_parts, cases_Bool}
use Rattle.seatings.specs.Seatings.{bucket, load, Seating, bumped, fits, seatable}
use Rattle.seatings.proofs.Counts.{count_same}

-- why `fits` is true: the fingerprint is not held, or its quotient's bucket serves, or its remainder's
ways : (h p q x y z : Bool) → cond h ((p && x) || (q && y)) z ≡ true → ((h ≡ false) × (z ≡ true)) ⊎ (((p ≡ true) × (x ≡ true)) ⊎ ((q ≡ true) × (y ≡ true)))
ways false p q x y z e = inl (refl, e)
ways true true q true y z e = inr (inl (refl, refl))
ways true true q false y z e = inr (inr (and_parts q y e))
ways true false q x y z e = inr (inr (and_parts q y e))

module _ (m b : ℕ) (held : ℕ → Bool) where
  -- the held fingerprints below n have room beside the loads
  abbrev Room : ℕ → (ℕ → ℕ) → Type 0
  Room n loads = (choice : ℕ → Bool) × ((i : ℕ) → loads i + load m n held choice i ≤ b)

  -- where there is room, `fits` is true: it tries the bucket that the choice gives, too
  room_found : (n : ℕ) (loads : ℕ → ℕ) (choice : ℕ → Bool) → ((i : ℕ) → loads i + load m n held choice i ≤ b) → fits m b held n loads ≡ true
  unfolding fits
  room_found zero loads choice room = refl
  room_found (suc f) loads choice room =
      let skip : held f ≡ false → fits m b held f loads ≡ true = λ e. room_found f loads choice (λ i. let r = room i in grind arith) in
      let first : held f ≡ true → choice f ≡ true → fits m b held f (bumped loads (f / m)) ≡ true = λ e c. room_found f (bumped loads (f / m)) choice (λ i. let r = room i in grind (arith, nat_tests)) in
      let second : held f ≡ true → choice f ≡ false → fits m b held f (bumped loads (f % m)) ≡ true = λ e c. room_found f (bumped loads (f % m)) choice (λ i. let r = room i in grind (arith, nat_tests)) in
      let room-quotient = room (f / m) in
      let room-remainder = room (f % m) in
      grind (arith, nat_tests)

  -- the choice, but for what it says of f
  choose : ℕ → Bool → (ℕ → Bool) → ℕ → Bool
  choose f c choice g = cond (eqb g f) c (choice g)

  -- a choice for f changes no load of the fingerprints below f
  same_below : (f : ℕ) (c : Bool) (choice : ℕ → Bool) (i : ℕ) → load m f held (choose f c choice) i ≡ load m f held choice i
  unfolding choose
  same_below f c choice i = count_same (λ g. held g && eqb (bucket m (choose f c choice) g) i) (λ g. held g && eqb (bucket m choice g) i) f (λ g h. grind (arith, nat_tests))

  -- room for the fingerprints below f, beside f in one of its buckets, is room for f too
  room_with : (f : ℕ) (c : Bool) (loads : ℕ → ℕ) → Room f (bumped loads (cond c (f / m) (f % m))) → Room (suc f) loads
  unfolding choose
  room_with f c loads (choice, room) = (choose f c choice, λ i. let r = room i in let same = same_below f c choice i in grind (arith, nat_tests))

  -- where `fits` is true, there is room
  found_room : (n : ℕ) (loads : ℕ → ℕ) → ((i : ℕ) → loads i ≤ b) → fits m b held n loads ≡ true → Room n loads
  unfolding fits
  found_room zero loads few e = (λ _. true, λ i. omega (arith, few i))
  found_room (suc f) loads few e =
      ⊎_elim (λ h. let (choice, room) = found_room f loads few h.1 in (choice, λ i. let r = room i in let unheld = h.0 in grind arith))
      (⊎_elim (λ h. room_with f true loads (found_room f (bumped loads (f / m)) (λ i. let k = few i in let free = h.0 in grind (arith, nat_tests)) h.1))
      (λ h. room_with f false loads (found_room f (bumped loads (f % m)) (λ i. let k = few i in let free = h.0 in grind (arith, nat_tests)) h.1)))
      (ways (held f) (ltb (loads (f / m)) b) (ltb (loads (f % m)) b) (fits m b held f (bumped loads (f / m))) (fits m b held f (bumped loads (f % m))) (fits m b held f loads) e)

pub seatable_decides : (m b range : ℕ) (held : ℕ → Bool) → Decides (seatable m b range held) (Seating m b range held)
unfolding seatable
seatable_decides m b range held = (
  λ e. let (choice, room) = found_room m b held range (λ _. 0) (λ i. omega arith) e in (choice, λ i. omega (arith, room i)),
  λ s. room_found m b held range (λ _. 0) s.0 (λ i. omega (arith, s.1 i)),
)

-- where there is no seating, `seatable` is false
pub unseatable : (m b range : ℕ) (held : ℕ → Bool) → (Seating m b range held → ⊥) → seatable m b range held ≡ false
unseatable m b range held none = ⊎_elim (λ e. absurd (none ((seatable_decides m b range held).0 e))) (λ e. e) (cases_Bool (seatable m b range held))
