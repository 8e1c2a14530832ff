-- A row of calls in bytes, and the numbers that they are answered by. Assumes nothing.
use Rattle.std.specs.Prelude.{ℕ, ◌-◌, ◌*◌, ◌/◌, min, cond, List, map, take, drop, is_some, ◌==◌, slice_index}
use Rattle.blocks.specs.Pieces.{pieces}
use Rattle.tallies.specs.declared.replicas.Replicas.{Replicas}
use Rattle.tallies.specs.Replicas.{replicas, replicas_kind}
use Rattle.rules.specs.Rules.{plain_rule}
use Rattle.seats.specs.Shapes.{Size, wrong}
use Rattle.book.specs.Answers.{answer_number}
use Rattle.book.specs.Books.{Book, Call, post, reverse, erase, look_up, widen, narrow, answers}

-- how many work words are lent to each call: two for each bucket of a table with the most buckets
abbrev pub lent : ℕ
lent = 8192

-- the call by its code; posts and reversals are by one replica
abbrev pub asks : ℕ → List ℕ → Call Replicas
asks code key =
    cond (code == 1) (post key (replicas 1) lent)
    (cond (code == 2) (reverse key (replicas 1))
    (cond (code == 3) (erase key)
    (cond (code == 5) widen
    (cond (code == 6) (narrow lent) (look_up key)))))

-- a piece of five bytes is a code and a key of four
abbrev pub piece_asks : List ℕ → Call Replicas
piece_asks piece = asks (slice_index piece 0) (take 4 (drop 1 piece))

-- the calls of the first n pieces, each of five bytes
abbrev pub row_of : ℕ → List ℕ → List (Call Replicas)
row_of n bytes = map piece_asks (pieces 5 n bytes)

-- for each call the number of its refusal, or 0
abbrev pub told : Book Replicas → List (Call Replicas) → List ℕ
told b cs = map answer_number (answers replicas_kind plain_rule b cs)

-- the numbers of the table
abbrev pub size_of : ℕ → ℕ → ℕ → Size
size_of buckets most rows = record { buckets = buckets; most = most; rows = rows; range = buckets * (buckets - 1) }

-- how many calls are made: as many as there are whole pieces and places for their numbers, or none if no table is opened
abbrev pub how_many : ℕ → ℕ → ℕ → ℕ → ℕ → ℕ
how_many buckets most rows bytes places = cond (is_some (wrong buckets most rows (buckets * most))) 0 (min (bytes / 5) places)
