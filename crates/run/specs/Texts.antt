-- Printed bytes, written as text. Assumes nothing.
use Rattle.std.specs.Prelude.{ℕ, List, [], ◌∷◌, ◌++◌}
use Prim.Native.Char.{code}
use Prim.Native.String.{String, [] as empty, ◌∷◌ as ◌before◌}

-- the numbers of a text's characters; those of ASCII are its bytes
abbrev pub bytes_of_text : String → List ℕ
bytes_of_text empty = []
bytes_of_text (c before cs) = code c ∷ bytes_of_text cs

-- each text with byte 10 at its end
abbrev pub lines_of : List String → List ℕ
lines_of [] = []
lines_of (l ∷ ls) = bytes_of_text l ++ 10 ∷ lines_of ls
