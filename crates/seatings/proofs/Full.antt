-- A full and closed set of buckets has no room for one fingerprint more, by counting what sits in it before and after. Assumes nothing.
use Rattle.std.proofs.Common.{◌≡◌, ℕ, zero, suc, ◌*◌, ◌/◌, ◌%◌, ◌<◌, ◌≤◌, Bool, true, false, not, ◌&&◌, eqb, ltb, mod-lt, arith}
use Rattle.std.proofs.lemmas.Nat.{div_below}
use Rattle.std.proofs.lemmas.Bool.Decides.{nat_tests}
use Rattle.seatings.specs.Counts.{count}
use Rattle.seatings.specs.Seatings.{bucket, load, Seating, also}
use Rattle.seatings.specs.Closed.{Closed}
use Rattle.seatings.proofs.Counts.{count_trade, count_le, count_one, count_no, within_many, within_few}

-- each bucket of a fingerprint below m * m is one of the m buckets
bucket_below : (m : ℕ) (choice : ℕ → Bool) (f : ℕ) → f < m * m → bucket m choice f < m
bucket_below zero choice f h = omega arith
bucket_below (suc m) choice f h =
    let q = div_below f (suc m) (suc m) (omega arith) h in
    let r = mod-lt f {m = suc m} (omega arith) in
    grind arith

module _ (m b range : ℕ) (held place : ℕ → Bool) (f : ℕ) (seated : Seating m b range (also f held)) where
  -- the bucket of g by `place`
  abbrev old : ℕ → ℕ
  old g = bucket m place g

  -- the bucket of g where f is seated too
  abbrev now : ℕ → ℕ
  now g = bucket m seated.0 g

  -- the buckets of V are full, and f comes into V: so a held fingerprint leaves V
  one_leaves : (V : ℕ → Bool) → range ≤ m * m → f < range → held f ≡ false → ((i : ℕ) → i < m → V i ≡ true → b ≤ load m range held place i) →
      V (f / m) ≡ true → V (f % m) ≡ true → 1 ≤ count (λ g. held g && (V (old g) && not (V (now g)))) range
  one_leaves V small new unheld full q r =
      let many = within_many held old V range b m full in
      let few = within_few (also f held) now V range b m (λ i _ _. seated.1 i) in
      let more =
      count_trade (λ g. held g && (V (old g) && ltb (old g) m)) (λ g. eqb g f)
      (λ g. also f held g && (V (now g) && ltb (now g) m)) (λ g. held g && (V (old g) && not (V (now g)))) range
      (λ g h. let below = bucket_below m seated.0 g (omega arith) in grind (arith, nat_tests)) in
      omega (arith, count_one f range new)

  -- but V is closed: none can leave
  no_room : (V : ℕ → Bool) → Closed m b range held place f V → ⊥
  no_room V c =
      let none =
      count_le (λ g. held g && (V (old g) && not (V (now g)))) (λ _. false) range
      (λ g h e. let here = c.stays g h in grind arith) in
      omega (arith, one_leaves V c.small c.new c.unheld c.full c.quotient c.remainder, count_no range)

pub full_and_closed : (m b range : ℕ) (held place : ℕ → Bool) (f : ℕ) (V : ℕ → Bool) → Closed m b range held place f V → Seating m b range (also f held) → ⊥
full_and_closed m b range held place f V c seated = no_room m b range held place f seated V c
