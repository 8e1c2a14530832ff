-- The laws of `count`: tests compared number by number, and what is placed counted place by place. Assumes nothing.
use Rattle.std.proofs.Common.{◌≡◌, ℕ, zero, suc, ◌+◌, ◌*◌, ◌<◌, ◌≤◌, Bool, true, false, ◌&&◌, eqb, ltb, refl, ap, arith}
use Rattle.std.proofs.lemmas.Bool.Decides.{nat_tests}
use Rattle.seatings.specs.Counts.{bit, count}

-- two tests pass together no more than two others at each number below n, and so in all
pub count_trade : (p q r s : ℕ → Bool) (n : ℕ) → ((k : ℕ) → k < n → bit (p k) + bit (q k) ≤ bit (r k) + bit (s k)) → count p n + count q n ≤ count r n + count s n
count_trade p q r s zero each = omega arith
count_trade p q r s (suc n) each = omega (arith, each n, count_trade p q r s n (λ k h. each k (omega arith)))

-- a test that implies another passes no more numbers
pub count_le : (p q : ℕ → Bool) (n : ℕ) → ((k : ℕ) → k < n → p k ≡ true → q k ≡ true) → count p n ≤ count q n
count_le p q zero each = omega arith
count_le p q (suc n) each =
    let below : count p n ≤ count q n = count_le p q n (λ k h. each k (omega arith)) in
    let here : p n ≡ true → q n ≡ true = each n (omega arith) in
    grind arith

pub count_same : (p q : ℕ → Bool) (n : ℕ) → ((k : ℕ) → k < n → p k ≡ q k) → count p n ≡ count q n
count_same p q zero each = refl
count_same p q (suc n) each = omega (arith, ap bit (each n (omega arith)), count_same p q n (λ k h. each k (omega arith)))

-- a test that splits into two
pub count_add : (p q r : ℕ → Bool) (n : ℕ) → ((k : ℕ) → bit (p k) ≡ bit (q k) + bit (r k)) → count p n ≡ count q n + count r n
count_add p q r zero each = refl
count_add p q r (suc n) each = omega (arith, each n, count_add p q r n each)

pub count_all : (n : ℕ) → count (λ _. true) n ≡ n
count_all zero = refl
count_all (suc n) = omega (arith, count_all n)

pub count_no : (n : ℕ) → count (λ _. false) n ≡ 0
count_no zero = refl
count_no (suc n) = omega (arith, count_no n)

-- no number below n is f, if f is not below n
count_none : (f n : ℕ) → n ≤ f → count (λ g. eqb g f) n ≡ 0
count_none f zero h = refl
count_none f (suc n) h =
    let below : count (λ g. eqb g f) n ≡ 0 = count_none f n (omega arith) in
    grind (arith, nat_tests)

-- one number below n is f, if f is below n
pub count_one : (f n : ℕ) → f < n → count (λ g. eqb g f) n ≡ 1
count_one f zero h = omega arith
count_one f (suc n) h =
    let below : f < n → count (λ g. eqb g f) n ≡ 1 = count_one f n in
    let none : n ≤ f → count (λ g. eqb g f) n ≡ 0 = count_none f n in
    grind (arith, nat_tests)

module _ (held : ℕ → Bool) (place : ℕ → ℕ) (V : ℕ → Bool) (range : ℕ) where
  -- how many are held at the place i
  abbrev held_at : ℕ → ℕ
  held_at i = count (λ f. held f && eqb (place f) i) range

  -- how many are held at the places of V below j
  abbrev within : ℕ → ℕ
  within j = count (λ f. held f && (V (place f) && ltb (place f) j)) range

  within_more : (j : ℕ) → V j ≡ true → within (suc j) ≡ within j + held_at j
  within_more j v =
      count_add (λ f. held f && (V (place f) && ltb (place f) (suc j))) (λ f. held f && (V (place f) && ltb (place f) j)) (λ f. held f && eqb (place f) j) range
      (λ f. grind (arith, nat_tests))

  within_skip : (j : ℕ) → V j ≡ false → within (suc j) ≡ within j
  within_skip j v =
      count_same (λ f. held f && (V (place f) && ltb (place f) (suc j))) (λ f. held f && (V (place f) && ltb (place f) j)) range
      (λ f _. grind (arith, nat_tests))

  within_none : (n : ℕ) → count (λ f. held f && (V (place f) && ltb (place f) 0)) n ≡ 0
  within_none zero = refl
  within_none (suc n) =
      let below : count (λ f. held f && (V (place f) && ltb (place f) 0)) n ≡ 0 = within_none n in
      grind (arith, nat_tests)

  -- if each place of V below j has b or more, together they have b times the number of those places or more
  pub within_many : (b j : ℕ) → ((i : ℕ) → i < j → V i ≡ true → b ≤ held_at i) → b * count V j ≤ within j
  within_many b zero each = omega arith
  within_many b (suc j) each =
      let below : b * count V j ≤ within j = within_many b j (λ i h. each i (omega arith)) in
      let more = within_more j in
      let skip = within_skip j in
      let here = each j (omega arith) in
      grind arith

  -- if each place of V below j has at most b, together they have at most b times the number of those places
  pub within_few : (b j : ℕ) → ((i : ℕ) → i < j → V i ≡ true → held_at i ≤ b) → within j ≤ b * count V j
  within_few b zero each = omega (arith, within_none range)
  within_few b (suc j) each =
      let below : within j ≤ b * count V j = within_few b j (λ i h. each i (omega arith)) in
      let more = within_more j in
      let skip = within_skip j in
      let here = each j (omega arith) in
      grind arith
