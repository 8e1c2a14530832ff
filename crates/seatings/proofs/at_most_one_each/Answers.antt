use Rattle.seatings.proofs.Pigeons.{pigeons_few}
use Rattle.seatings.proofs.at_most_one_each.Goals as goal

pub returns : goal.returns
returns c = pigeons_few
