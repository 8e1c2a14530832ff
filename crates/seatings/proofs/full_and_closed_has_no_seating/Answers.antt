use Rattle.seatings.proofs.Full.{full_and_closed}
use Rattle.seatings.proofs.full_and_closed_has_no_seating.Goals as goal

pub returns : goal.returns
returns c = full_and_closed
