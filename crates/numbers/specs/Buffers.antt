-- Bytes in a lent buffer. Assumes nothing.
use Rattle.std.specs.Prelude.{ℕ, ◌+◌, List, ◌++◌, length, take, drop}

-- the buffer with these bytes over what stood at a place, and the rest as it was
unfoldable pub put : List ℕ → ℕ → List ℕ → List ℕ
put buffer place bytes = take place buffer ++ (bytes ++ drop (place + length bytes) buffer)
