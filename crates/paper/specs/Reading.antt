-- The records of a paper, one after another. Assumes nothing.
use Rattle.std.specs.Prelude.{ℕ, ◌+◌, List, [], ◌++◌, map, drop, slice_index, slice_index_or}
use Rattle.std.specs.List.{flat_map}
use Rattle.blocks.specs.Blocks.{blocks_in}
use Rattle.blocks.specs.Pieces.{pieces}
use Rattle.paper.specs.Records.{record_of}
use Rattle.paper.specs.declared.«record».Record.{Record}

-- the records of a block, as many as it counts
abbrev pub block_records : List ℕ → List Record
block_records block = map record_of (pieces 26 (slice_index block 6) (drop 8 block))

-- the records of all blocks
abbrev pub paper_records : List ℕ → List Record
paper_records paper = flat_map block_records (blocks_in paper)

-- the records from a place of a block on, and those of the blocks behind it
unfoldable pub to_come : List ℕ → ℕ → ℕ → List Record
to_come paper block place = drop place (block_records (slice_index_or (blocks_in paper) block [])) ++ flat_map block_records (drop (block + 1) (blocks_in paper))
