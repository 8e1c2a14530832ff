-- Printed lines. Assumes nothing.
use Rattle.std.specs.Prelude.{ℕ, List, [], ◌∷◌, ◌++◌, decimal}
use Rattle.blocks.specs.declared.fault.Figures.{Figures}

-- a number's decimal digits, and a byte behind them
unfoldable pub figure : ℕ → ℕ → List ℕ
figure n end = decimal n ++ end ∷ []

-- of a call: its place in the paper, the number of its refusal, or 0, and two figures, with single spaces and byte 10 at the end
unfoldable pub line : ℕ → ℕ → ℕ → ℕ → List ℕ
line place number first second = ((figure place 32 ++ figure number 32) ++ figure first 32) ++ figure second 10

-- of a fault: F, its number, its block and its record
unfoldable pub fault_line : Figures → List ℕ
fault_line f = (((70 ∷ 32 ∷ []) ++ figure f.number 32) ++ figure f.block 32) ++ figure f.«record» 10
