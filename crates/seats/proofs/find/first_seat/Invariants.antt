use Rattle.std.proofs.Common.{ℕ, ◌<◌, false}
use Rattle.std.specs.Fn.{FnReturnsAt}
use Rattle.seats.specs.Seats.{at}
use Rattle.seats.proofs.find.first_seat.Given as goal

abbrev pub invariant-loop-row : goal.invariant-loop-row
invariant-loop-row g l = (k : ℕ) → k < l.row → FnReturnsAt g.F.Fn l.test (at g.T.Tally.kind.empty l.rows k) false
