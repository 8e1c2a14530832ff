use Rattle.seatings.proofs.Pigeons.{pigeons_many}
use Rattle.seatings.proofs.at_least_one_each.Goals as goal

pub returns : goal.returns
returns c = pigeons_many
