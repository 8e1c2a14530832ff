use Rattle.std.proofs.Common.{◌≡◌}
use Rattle.paper.proofs.Steps.{blocks_left}
use Rattle.paper.proofs.check.check_paper.Given as goal

abbrev pub invariant-loop-i : goal.invariant-loop-i
invariant-loop-i l = blocks_left l.header l.parts l.i ≡ blocks_left l.header l.parts 0
