use Rattle.std.proofs.Common.{◌≡◌}
use Rattle.paper.proofs.Steps.{records_left}
use Rattle.paper.proofs.block.check_records.Given as goal

abbrev pub invariant-loop-i : goal.invariant-loop-i
invariant-loop-i l = records_left l.kind l.place l.parts l.i ≡ records_left l.kind l.place l.parts 0
