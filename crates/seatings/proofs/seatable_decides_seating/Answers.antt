use Rattle.seatings.proofs.Decided.{seatable_decides}
use Rattle.seatings.proofs.seatable_decides_seating.Goals as goal

pub returns : goal.returns
returns c = seatable_decides
