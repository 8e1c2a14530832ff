use Rattle.seatings.proofs.Fewer.{seating_fewer}
use Rattle.seatings.proofs.seating_of_more_is_seating_of_fewer.Goals as goal

pub returns : goal.returns
returns c = seating_fewer
