-- A record's bytes, read and written again. Assumes nothing.
use Rattle.std.proofs.Common.{◌≡◌, ℕ, suc, true, List, [], ◌∷◌, ◌++◌, map, length, get_or, take, drop, Ok, sym, refl, ap, ◌∙◌, arith, length-drop, take-append-drop}
use Rattle.std.specs.List.{flat_map, AllByRecursion}
use Rattle.std.proofs.lemmas.List.{drop-drop, take_all}
use Rattle.std.proofs.lemmas.Bool.{and_parts}
use Rattle.std.proofs.lemmas.Bool.Decides.{nat_tests}
use Rattle.blocks.proofs.Bytes.{Bytes, part_back}
use Rattle.blocks.proofs.Tells.{cond_tells}
use Rattle.paper.specs.Records.{call_of, code_of, is_code, record_bytes, record_fits, record_of}
use Rattle.paper.specs.Checks.{part_fits, records_checked}

code_back : (n : ℕ) → is_code n ≡ true → code_of (call_of n) ≡ n
code_back n is = grind (arith, nat_tests)

record_back : (bytes : List ℕ) → length bytes ≡ 26 → Bytes bytes → is_code (get_or bytes 0 0) ≡ true → record_bytes (record_of bytes) ≡ bytes
record_back [] long each is = absurd (omega arith)
record_back (x ∷ ys) long each is =
    let packets = part_back (x ∷ ys) 14 4 (omega arith) each in
    let octets = part_back (x ∷ ys) 18 8 (omega arith) each in
    let end : take 8 (drop 17 ys) ≡ drop 17 ys = take_all 8 (drop 17 ys) (omega (arith, length-drop 17 ys)) in
    let middle : take 4 (drop 13 ys) ++ drop 17 ys ≡ drop 13 ys = ap (λ t. take 4 (drop 13 ys) ++ t) (sym (drop-drop 4 13 ys)) ∙ take-append-drop 4 (drop 13 ys) in
    (λ i. code_back x is i ∷ (take 13 ys ++ (packets i ++ octets i)))
    ∙ ap (λ t. x ∷ (take 13 ys ++ (take 4 (drop 13 ys) ++ t))) end
    ∙ ap (λ t. x ∷ (take 13 ys ++ t)) middle
    ∙ ap (λ t. x ∷ t) (take-append-drop 13 ys)

pub records_back : (kind place i : ℕ) (parts : List (List ℕ)) → AllByRecursion (λ p. length p ≡ 26) parts → AllByRecursion Bytes parts → records_checked kind place i parts ≡ Ok tt →
    flat_map record_bytes (map record_of parts) ≡ flat_map (λ (p : List ℕ). p) parts
records_back kind place i [] long each sound = refl
records_back kind place i (p ∷ ps) long each sound =
    let t = cond_tells (part_fits kind p) _ _ tt sound in
    let is = (and_parts (is_code (get_or p 0 0)) (record_fits kind (record_of p)) t.0).0 in
    let one = record_back p long.0 each.0 is in
    let rest = records_back kind place (suc i) ps long.1 each.1 t.1 in
    λ k. one k ++ rest k
