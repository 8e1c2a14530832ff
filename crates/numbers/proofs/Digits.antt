-- One digit written, and one more behind those before it. Assumes nothing.
use Rattle.std.proofs.Common.{◌≡◌, ℕ, ◌+◌, ◌/◌, ◌%◌, ◌^◌, ◌<◌, ◌≤◌, List, [], ◌∷◌, length, set, decimal, sym, ap, ◌∙◌, arith}
use Rattle.std.proofs.lemmas.List.{length_push}
use Rattle.std.proofs.lemmas.Fmt.{decimal_digit, decimal_step}
use Rattle.numbers.specs.Buffers.{put}
use Rattle.numbers.proofs.Puts.{put_byte, put_put, length_put}

pub one_digit : (n : ℕ) → n < 10 → length (decimal n) ≡ 1
one_digit n small = ap length (decimal_digit n small)

pub one_digit_put : (buffer : List ℕ) (place n : ℕ) → n < 10 → place < length buffer → set buffer place (48 + n) ≡ put buffer place (decimal n)
one_digit_put buffer place n small h = put_byte buffer place (48 + n) h ∙ ap (put buffer place) (sym (decimal_digit n small))

pub one_digit_more : (n : ℕ) → 10 ≤ n → n < 2 ^ 64 → length (decimal n) ≡ length (decimal (n / 10)) + 1
one_digit_more n big fits = ap length (decimal_step n big fits) ∙ length_push (decimal (n / 10)) (48 + n % 10)

-- the last digit, behind the digits of n / 10
pub last_digit_put : (before buffer : List ℕ) (place next n : ℕ) → 10 ≤ n → n < 2 ^ 64 → place + length (decimal n) ≤ length before →
    next ≡ place + length (decimal (n / 10)) → buffer ≡ put before place (decimal (n / 10)) → set buffer next (48 + n % 10) ≡ put before place (decimal n)
last_digit_put before buffer place next n big fits room is written =
    let long = one_digit_more n big fits in
    let same : length buffer ≡ length before = ap length written ∙ length_put before (decimal (n / 10)) place (omega arith) in
    put_byte buffer next (48 + n % 10) (omega arith)
    ∙ ap (λ b. put b next ((48 + n % 10) ∷ [])) written
    ∙ put_put before (decimal (n / 10)) ((48 + n % 10) ∷ []) place next is (omega arith)
    ∙ ap (put before place) (sym (decimal_step n big fits))
