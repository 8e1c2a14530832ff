-- The number in a key's first eight bytes, read from the last byte to the first. Assumes nothing.
use Rattle.std.proofs.Common.{◌≡◌, ℕ, suc, ◌+◌, ◌-◌, ◌*◌, ◌^◌, ◌<◌, ◌≤◌, min, List, length, get_or, take, drop, sym, ap, arith}
use native.Mathlib.Nat.{pow-succ', pow-le-pow_right}
use Rattle.std.proofs.lemmas.List.{drop_more, get_or-take, length-take, drop_all}
use Rattle.numbers.specs.LittleEndian.{number}

pub number_none : (key : List ℕ) (i : ℕ) → i ≡ min (length key) 8 → 0 ≡ number (drop i (take 8 key))
number_none key i is = let long = length-take 8 key in sym (ap number (drop_all i (take 8 key) (omega arith)))

-- one byte more, in front of those read
pub number_more : (key : List ℕ) (i n : ℕ) → 0 < i → i ≤ min (length key) 8 → n ≡ number (drop i (take 8 key)) → n * 256 + get_or key (i - 1) 0 ≡ number (drop (i - 1) (take 8 key))
number_more key i n some low is =
    let long = length-take 8 key in
    let front : number (drop (i - 1) (take 8 key)) ≡ get_or (take 8 key) (i - 1) 0 + 256 * number (drop ((i - 1) + 1) (take 8 key)) = ap number (drop_more (take 8 key) (i - 1) 0 (omega arith)) in
    let byte = get_or-take 8 key (i - 1) 0 (omega arith) in
    let rest : number (drop ((i - 1) + 1) (take 8 key)) ≡ number (drop i (take 8 key)) = ap (λ k. number (drop k (take 8 key))) (omega arith) in
    omega arith

-- 8 - i bytes are below 256 ^ (8 - i)
pub power_more : (i n byte : ℕ) → 0 < i → i ≤ 8 → n < 256 ^ (8 - i) → byte < 256 → n * 256 + byte < 256 ^ (8 - (i - 1))
power_more i n byte some low below small =
    let next : 256 ^ (8 - (i - 1)) ≡ 256 ^ suc (8 - i) = ap (λ k. 256 ^ k) (omega arith) in
    let times = pow-succ' 256 (8 - i) in
    omega arith

pub power_low : (i n : ℕ) → 0 < i → n < 256 ^ (8 - i) → n < 256 ^ 7
power_low i n some below =
    let positive : 0 < 256 = omega arith in
    let low : 8 - i ≤ 7 = omega arith in
    let most : 256 ^ (8 - i) ≤ 256 ^ 7 = pow-le-pow_right positive low in
    omega arith
