-- Where the first byte that is not zero lies. Assumes nothing.
use Rattle.std.proofs.Common.{◌≡◌, ℕ, ◌+◌, ◌-◌, ◌<◌, cond, not, eqb, List, [], ◌∷◌, length, take, drop, Some, sym, ap, ◌∙◌, ⊎_elim, arith, length-drop, length-take}
use Rattle.std.proofs.lemmas.Bool.{cases_Bool}
use Rattle.paper.specs.Records.{first_nonzero}

nonzero_below : (bytes : List ℕ) (k p : ℕ) → first_nonzero k bytes ≡ Some p → p < k + length bytes
nonzero_below [] k p is = cc
nonzero_below (b ∷ bs) k p is =
    ⊎_elim
    (λ t. let on : first_nonzero (k + 1) bs ≡ Some p = sym (ap (λ t. cond (not t) (Some k) (first_nonzero (k + 1) bs)) t) ∙ is in let h = nonzero_below bs (k + 1) p on in omega arith)
    (λ t. let here : Some k ≡ Some p = sym (ap (λ t. cond (not t) (Some k) (first_nonzero (k + 1) bs)) t) ∙ is in let h : k ≡ p = cc in omega arith)
    (cases_Bool (eqb b 0))

-- a byte found in a part lies before the part's end
pub nonzero_within : (bytes : List ℕ) (from to k : ℕ) → Some k ≡ first_nonzero 0 (take (to - from) (drop from bytes)) → from + k < to
nonzero_within bytes from to k is =
    let below = simp (length-take, length-drop) at (nonzero_below (take (to - from) (drop from bytes)) 0 k (sym is)) in
    omega arith
