-- Fingerprints are the numbers below `range`, and `held` tells which are held. A fingerprint f may sit in one of two
-- of the m buckets, f / m (the quotient) and f % m (the remainder), and each bucket has b rows. Assumes nothing.
use Rattle.std.specs.Prelude.{ℕ, zero, suc, ◌+◌, ◌/◌, ◌%◌, ◌≤◌, Bool, true, cond, ◌&&◌, ◌||◌, ◌==◌, nat_lt}
use Rattle.seatings.specs.Counts.{bit, count}

-- the bucket that the choice gives f: the quotient's where it is true, and else the remainder's
abbrev pub bucket : ℕ → (ℕ → Bool) → ℕ → ℕ
bucket m choice f = cond (choice f) (f / m) (f % m)

-- how many of the held fingerprints the choice gives the bucket i
abbrev pub load : ℕ → ℕ → (ℕ → Bool) → (ℕ → Bool) → ℕ → ℕ
load m range held choice i = count (λ f. held f && bucket m choice f == i) range

-- a choice of quotient or remainder bucket for each held fingerprint, with at most b in any bucket
abbrev pub Seating : ℕ → ℕ → ℕ → (ℕ → Bool) → Type 0
Seating m b range held = (choice : ℕ → Bool) × ((i : ℕ) → load m range held choice i ≤ b)

-- what is held, and f too
abbrev pub also : ℕ → (ℕ → Bool) → ℕ → Bool
also f held g = g == f || held g

-- the loads, with one more in the bucket i
abbrev pub bumped : (ℕ → ℕ) → ℕ → ℕ → ℕ
bumped loads i j = bit (j == i) + loads j

-- whether the held fingerprints below a bound have room beside the loads: the largest goes into its quotient's bucket
-- or its remainder's, whichever has a free row and leaves room for the smaller ones
unfoldable pub fits : ℕ → ℕ → (ℕ → Bool) → ℕ → (ℕ → ℕ) → Bool
fits m b held zero loads = true
fits m b held (suc f) loads =
    let skip = fits m b held f loads in
    let left = fits m b held f (bumped loads (f / m)) in
    let right = fits m b held f (bumped loads (f % m)) in
    let first = nat_lt (loads (f / m)) b && left in
    let second = nat_lt (loads (f % m)) b && right in
    let either = first || second in
    cond (held f) either skip

-- whether the held fingerprints have room in empty buckets
unfoldable pub seatable : ℕ → ℕ → ℕ → (ℕ → Bool) → Bool
unfolding fits
seatable m b range held = fits m b held range (λ _. 0)
