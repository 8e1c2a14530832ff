-- What the check of a block and of a paper answers, each fault in its turn. Assumes nothing.
use Rattle.std.specs.Prelude.{ℕ, suc, ◌+◌, ◌-◌, ◌*◌, ◌/◌, Bool, true, false, cond, ◌&&◌, List, [], ◌∷◌, length, drop, Some, None, Ok, Err, Option, Result, ◌==◌, nat_le, nat_lt, slice_index, slice_range}
use Rattle.blocks.specs.Blocks.{is_length, blocks_in, check_holds}
use Rattle.blocks.specs.Faults.{then}
use Rattle.blocks.specs.Pieces.{pieces}
use Rattle.blocks.specs.declared.fault.RecordFault.{RecordFault}
use Rattle.blocks.specs.declared.fault.BlockFault.{BlockFault}
use Rattle.blocks.specs.declared.fault.BlockFault.TheVariants.{Check, Header, Record}
use Rattle.paper.specs.Headers.{header_of, header_fits, same_header}
use Rattle.paper.specs.Records.{is_code, record_of, record_fits, first_nonzero}
use Rattle.paper.specs.declared.header.Header as header
use Rattle.paper.specs.declared.fault.PaperFault.{PaperFault}
use Rattle.paper.specs.declared.fault.PaperFault.TheVariants.{Length, InBlock}

-- 19 records in every block but the last, and at least one there
abbrev pub count_fits : Bool → ℕ → Bool
count_fits last count = cond last (nat_le 1 count && nat_le count 19) (count == 19)

-- bytes 0 to 7: the header, as in the first block, the count of records, and the block's place
unfoldable pub front_fits : header.Header → ℕ → Bool → List ℕ → Bool
front_fits first place last block =
    header_fits (header_of block) && (same_header (header_of block) first && (count_fits last (slice_index block 6) && slice_index block 7 == place))

-- whether 26 bytes are a record that a paper of this kind may have
abbrev pub part_fits : ℕ → List ℕ → Bool
part_fits kind part = is_code (slice_index part 0) && record_fits kind (record_of part)

-- records counted from i, in the block in a place
abbrev pub records_checked : ℕ → ℕ → ℕ → List (List ℕ) → Result (Unit {0}) RecordFault
records_checked kind place i [] = Ok tt
records_checked kind place i (p ∷ ps) = cond (part_fits kind p) (records_checked kind place (suc i) ps) (Err (record { block = place; «record» = i + 1 }))

-- the place from 1 of the record in which a byte lies, or 0 for bytes 502 and 503
abbrev pub record_at : ℕ → ℕ
record_at byte = cond (nat_lt byte 502) ((byte - 8) / 26 + 1) 0

-- a byte that should be zero and is not, so far behind another
abbrev pub stray : ℕ → ℕ → Option ℕ → Result (Unit {0}) RecordFault
stray place from None = Ok tt
stray place from (Some k) = Err (record { block = place; «record» = record_at (from + k) })

-- the bytes from a place on, up to the check
abbrev pub zeros_checked : ℕ → ℕ → List ℕ → Result (Unit {0}) RecordFault
zeros_checked place from block = stray place from (first_nonzero 0 (slice_range block from 504))

unfoldable pub block_checked : header.Header → ℕ → Bool → List ℕ → Result (Unit {0}) BlockFault
block_checked first place last block =
    cond (check_holds block)
    (cond (front_fits first place last block)
    (then Record (records_checked (slice_index block 5) place 0 (pieces 26 (slice_index block 6) (drop 8 block)))
    (then Record (zeros_checked place (8 + 26 * slice_index block 6) block) (Ok tt)))
    (Err (Header place)))
    (Err (Check place))

-- whether nothing is left
abbrev pub is_nil : {X : Type 0} → List X → Bool
is_nil [] = true
is_nil (x ∷ xs) = false

-- blocks counted from i, up to the paper's last
abbrev pub blocks_checked : header.Header → ℕ → List (List ℕ) → Result header.Header PaperFault
blocks_checked first i [] = Ok first
blocks_checked first i (b ∷ bs) = then InBlock (block_checked first i (is_nil bs) b) (blocks_checked first (suc i) bs)

-- the answer for a whole paper: its header, or its first fault
unfoldable pub paper_checked : List ℕ → Result header.Header PaperFault
paper_checked paper = cond (is_length (length paper)) (blocks_checked (header_of paper) 0 (blocks_in paper)) (Err Length)
