-- How long lines are. Assumes nothing.
use Rattle.std.proofs.Common.{◌≡◌, ℕ, ◌+◌, [], ◌∷◌, length, decimal, length-append}
use Rattle.blocks.specs.declared.fault.Figures.{Figures}
use Rattle.run.specs.Lines.{figure, line, fault_line}

pub figure_long : (n end : ℕ) → length (figure n end) ≡ length (decimal n) + 1
unfolding figure
figure_long n end = length-append (decimal n) (end ∷ [])

pub line_long : (a b c d : ℕ) → length (line a b c d) ≡ length (figure a 32) + length (figure b 32) + length (figure c 32) + length (figure d 10)
unfolding line
line_long a b c d = simp length-append

pub fault_long : (f : Figures) → length (fault_line f) ≡ 2 + length (figure f.number 32) + length (figure f.block 32) + length (figure f.«record» 10)
unfolding fault_line
fault_long f = simp length-append
