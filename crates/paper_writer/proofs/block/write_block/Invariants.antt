use Rattle.std.proofs.Common.{◌≡◌, ◌+◌, ◌*◌, ◌++◌, take}
use Rattle.std.specs.List.{flat_map}
use Rattle.paper.specs.Records.{record_bytes}
use Rattle.paper_writer.proofs.block.write_block.Given as goal

abbrev pub invariant-loop-i : goal.invariant-loop-i
invariant-loop-i l = take (8 + 26 * l.i) l.block ≡ take 8 l.initial.block ++ flat_map record_bytes (take l.i l.records)
