use Rattle.std.proofs.Common.{◌≡◌, ℕ, ◌<◌}
use Rattle.seats.specs.Seats.{at, vacant}
use Rattle.seats.proofs.write.vacate_all.Given as goal

abbrev pub invariant-loop-i : goal.invariant-loop-i
invariant-loop-i g l = (k : ℕ) → k < l.i → at g.T.Tally.kind.empty l.seats k ≡ vacant g.T.Tally.kind.empty
