-- A list cut into pieces of one length. Assumes nothing.
use Rattle.std.specs.Prelude.{ℕ, List}
use Rattle.std.specs.Simd.{first_chunks}

-- n pieces of the width, one after another; where the list ends, a piece is shorter, and those behind it are empty
abbrev pub pieces : {X : Type 0} → ℕ → ℕ → List X → List (List X)
pieces width n xs = first_chunks width n xs
