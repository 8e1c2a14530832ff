-- FNV-1a in its 64-bit form. Assumes nothing.
use Rattle.std.specs.Prelude.{ℕ, ◌*◌, ◌%◌, ◌^◌, List, fold, bit_xor}

-- a byte is exclusive-ored into the number, which is multiplied and keeps 64 bits
abbrev pub fnv_step : ℕ → ℕ → ℕ
fnv_step hash byte = (bit_xor hash byte * 1099511628211) % 2 ^ 64

-- each byte in its turn, from FNV's start on
abbrev pub fnv_1a : List ℕ → ℕ
fnv_1a bytes = fold fnv_step 14695981039346656037 bytes
