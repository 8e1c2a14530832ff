-- The pigeonhole principle: what goes one to one into a set is no more than the set. Assumes nothing.
use Rattle.std.proofs.Common.{◌≡◌, ℕ, zero, suc, ◌<◌, ◌≤◌, Bool, true, false, ◌&&◌, eqb, ltb, refl, arith}
use Rattle.std.proofs.lemmas.Bool.Decides.{nat_tests}
use Rattle.seatings.specs.Counts.{count}
use Rattle.seatings.proofs.Counts.{count_le, count_no, count_all, within_few}

-- a test that no two numbers pass is passed by at most one
count_single : (p : ℕ → Bool) (n : ℕ) → ((f g : ℕ) → f < g → g < n → p f ≡ true → p g ≡ true → ⊥) → count p n ≤ 1
count_single p zero apart = omega arith
count_single p (suc n) apart =
    let below : count p n ≤ 1 = count_single p n (λ f g l h. apart f g l (omega arith)) in
    let others : p n ≡ true → count p n ≤ count (λ _. false) n = λ e. count_le p (λ _. false) n (λ f h x. absurd (apart f n h (omega arith) x e)) in
    let none = count_no n in
    grind arith

-- the numbers that pass p go one to one to numbers that pass q, at most one to each
pigeons : (p q : ℕ → Bool) (n k : ℕ) (to : ℕ → ℕ) →
    ((f : ℕ) → f < n → p f ≡ true → (to f < k) × (q (to f) ≡ true)) →
    ((f g : ℕ) → f < n → g < n → p f ≡ true → p g ≡ true → to f ≡ to g → f ≡ g) →
    count p n ≤ count q k
pigeons p q n k to lands apart =
    let few = within_few p to q n 1 k (λ i _ _. count_single (λ f. p f && eqb (to f) i) n (λ f g l h x y. let a = apart f g (omega arith) h in grind (arith, nat_tests))) in
    let all = count_le p (λ f. p f && (q (to f) && ltb (to f) k)) n (λ f h x. let l = lands f h x in grind (arith, nat_tests)) in
    omega arith

-- at most k pass, if each has a place of its own below k
pub pigeons_few : (p : ℕ → Bool) (n k : ℕ) (place : ℕ → ℕ) →
    ((f : ℕ) → f < n → p f ≡ true → place f < k) →
    ((f g : ℕ) → f < n → g < n → p f ≡ true → p g ≡ true → place f ≡ place g → f ≡ g) →
    count p n ≤ k
pigeons_few p n k place lands apart = omega (arith, pigeons p (λ _. true) n k place (λ f h x. (lands f h x, refl)) apart, count_all k)

-- at least k pass, if each of k places has one of its own
pub pigeons_many : (p : ℕ → Bool) (n k : ℕ) (number : ℕ → ℕ) →
    ((r : ℕ) → r < k → (number r < n) × (p (number r) ≡ true)) →
    ((r s : ℕ) → r < k → s < k → number r ≡ number s → r ≡ s) →
    k ≤ count p n
pigeons_many p n k number lands apart = omega (arith, pigeons (λ _. true) p k n number (λ r h _. lands r h) (λ r s h l _ _. apart r s h l), count_all k)
