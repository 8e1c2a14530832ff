-- A seating of more fingerprints is one of fewer, by the same choice. Assumes nothing.
use Rattle.std.proofs.Common.{◌≡◌, ℕ, ◌<◌, Bool, true, ◌&&◌, eqb, arith}
use Rattle.seatings.specs.Seatings.{bucket, Seating}
use Rattle.seatings.proofs.Counts.{count_le}

pub seating_fewer : (m b range : ℕ) (held kept : ℕ → Bool) → ((f : ℕ) → f < range → kept f ≡ true → held f ≡ true) → Seating m b range held → Seating m b range kept
seating_fewer m b range held kept each (choice, seats) =
    (choice, λ i. omega (arith, seats i, count_le (λ f. kept f && eqb (bucket m choice f) i) (λ f. held f && eqb (bucket m choice f) i) range (λ f h e. let is_held_lem = each f h in grind arith)))
