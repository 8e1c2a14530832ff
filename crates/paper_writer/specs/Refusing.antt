-- What writing a paper answers, before a byte is written. Assumes nothing.
use Rattle.std.specs.Prelude.{◌≡◌, ℕ, ◌+◌, ◌*◌, ◌/◌, ◌%◌, Bool, cond, ◌&&◌, List, [], ◌∷◌, length, Ok, Err, Result, ◌==◌, nat_le}
use Rattle.blocks.specs.Faults.{then}
use Rattle.blocks.specs.declared.fault.RecordFault.{RecordFault}
use Rattle.blocks.specs.declared.fault.BlockFault.{BlockFault}
use Rattle.blocks.specs.declared.fault.BlockFault.TheVariants as fault
use Rattle.paper.specs.Checks.{paper_checked}
use Rattle.paper.specs.Headers.{header_fits}
use Rattle.paper.specs.Reading.{paper_records}
use Rattle.paper.specs.Records.{record_fits}
use Rattle.paper.specs.Writing.{blocks_for}
use Rattle.paper.specs.declared.header.Header.{Header}
use Rattle.paper.specs.declared.«record».Record.{Record}
use Rattle.paper.specs.declared.fault.PaperFault.{PaperFault}
use Rattle.paper.specs.declared.fault.PaperFault.TheVariants.{Length, InBlock}

-- records counted from k, 19 to a block
abbrev pub records_checked : ℕ → ℕ → List Record → Result (Unit {0}) RecordFault
records_checked kind k [] = Ok tt
records_checked kind k (r ∷ rs) = cond (record_fits kind r) (records_checked kind (k + 1) rs) (Err (record { block = k / 19; «record» = k % 19 + 1 }))

-- the answer for a header and its records
abbrev pub contents_checked : Header → List Record → Result (Unit {0}) BlockFault
contents_checked h records = cond (header_fits h) (then fault.Record (records_checked h.kind 0 records) (Ok tt)) (Err (fault.Header 0))

-- from one to 1,900 records, and a buffer of just the blocks that they need
abbrev pub room_fits : ℕ → ℕ → Bool
room_fits room n = nat_le 1 n && (nat_le n 1900 && room == 512 * blocks_for n)

-- the answer to writing them into so many bytes
unfoldable pub write_checked : ℕ → Header → List Record → Result (Unit {0}) PaperFault
write_checked room h records = cond (room_fits room (length records)) (then InBlock (contents_checked h records) (Ok tt)) (Err Length)

-- what is read of a paper
abbrev pub ReadsBack : List ℕ → Header → List Record → Type 0
ReadsBack paper h records = (paper_checked paper ≡ Ok h) × (paper_records paper ≡ records)
