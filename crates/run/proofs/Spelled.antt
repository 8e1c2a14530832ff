-- Lines with their digits worked out. Assumes nothing.
use Rattle.std.proofs.Common.{◌≡◌, ℕ, zero, suc, ◌+◌, ◌/◌, ◌%◌, ◌^◌, ◌<◌, Bool, true, cond, ◌&&◌, ltb, List, [], ◌∷◌, ◌++◌, sym, refl, ap, arith}
use Rattle.std.specs.List.{flat_map}
use Rattle.std.proofs.lemmas.Fmt.{AppendsLastDigit, decimal_from_appends, length-decimal-le}
use Rattle.std.proofs.lemmas.Bool.{and_parts, ltb-true, lt-ltb, le-ltb, cond-true, cond-false}
use Rattle.blocks.specs.declared.fault.Figures.{Figures}
use Rattle.run.specs.Lines.{figure, line, fault_line}

-- the decimal digits of a number that has at most so many
abbrev digits : ℕ → ℕ → List ℕ
digits zero n = []
digits (suc k) n = cond (ltb n 10) ((48 + n) ∷ []) (digits k (n / 10) ++ ((48 + n % 10) ∷ []))

spells : AppendsLastDigit digits
spells = record {
  one = λ k n low. cond-true (ltb n 10) _ _ (lt-ltb n 10 low);
  more = λ k n high. cond-false (ltb n 10) _ _ (le-ltb n 10 high);
}

-- and a byte behind all of them
abbrev then_digits : ℕ → ℕ → List ℕ
then_digits n end = digits 20 n ++ end ∷ []

then_spelled : (n end : ℕ) → n < 2 ^ 64 → figure n end ≡ then_digits n end
unfolding figure
then_spelled n end small = ap (λ l. l ++ end ∷ []) (sym (decimal_from_appends digits spells 20 n small (length-decimal-le 20 n (omega arith) (omega arith) (omega arith))))

-- the four numbers of a line
pub record Row : Type 0 where
  pub place : ℕ
  pub number : ℕ
  pub first : ℕ
  pub second : ℕ

abbrev pub row : ℕ → ℕ → ℕ → ℕ → Row
row place number first second = record { place = place; number = number; first = first; second = second }

-- its line, and the same with the digits worked out
abbrev pub row_line : Row → List ℕ
row_line r = line r.place r.number r.first r.second

abbrev pub row_digits : Row → List ℕ
row_digits r = ((then_digits r.place 32 ++ then_digits r.number 32) ++ then_digits r.first 32) ++ then_digits r.second 10

abbrev below : ℕ → Bool
below n = ltb n (2 ^ 64)

abbrev pub small : Row → Bool
small r = below r.place && (below r.number && (below r.first && below r.second))

pub row_spelled : (r : Row) → small r ≡ true → row_line r ≡ row_digits r
unfolding line
row_spelled r fits =
    let (a, rest) = and_parts (below r.place) _ fits in
    let (b, others) = and_parts (below r.number) _ rest in
    let (c, d) = and_parts (below r.first) (below r.second) others in
    λ i. ((then_spelled r.place 32 (ltb-true _ _ a) i ++ then_spelled r.number 32 (ltb-true _ _ b) i) ++ then_spelled r.first 32 (ltb-true _ _ c) i)
    ++ then_spelled r.second 10 (ltb-true _ _ d) i

abbrev pub all_small : List Row → Bool
all_small [] = true
all_small (r ∷ rs) = small r && all_small rs

pub rows_spelled : (rs : List Row) → all_small rs ≡ true → flat_map row_line rs ≡ flat_map row_digits rs
rows_spelled [] fits = refl
rows_spelled (r ∷ rs) fits =
    let (this, others) = and_parts (small r) (all_small rs) fits in
    λ i. row_spelled r this i ++ rows_spelled rs others i

-- the figures of a fault
abbrev pub told : ℕ → ℕ → ℕ → Figures
told number block place = record { number = number; block = block; «record» = place }

pub fault_spelled : (f : Figures) → f.number < 2 ^ 64 → f.block < 2 ^ 64 → f.«record» < 2 ^ 64 →
    fault_line f ≡ (((70 ∷ 32 ∷ []) ++ then_digits f.number 32) ++ then_digits f.block 32) ++ then_digits f.«record» 10
unfolding fault_line
fault_spelled f a b c = λ i. (((70 ∷ 32 ∷ []) ++ then_spelled f.number 32 a i) ++ then_spelled f.block 32 b i) ++ then_spelled f.«record» 10 c i
