use Rattle.std.proofs.Common.{sym}
use Rattle.paper.proofs.Fronts.{front_tells}
use Rattle.paper.proofs.block.check_block.Goals as goal

pub check_records-requires : goal.check_records-requires
check_records-requires c = (front_tells c.args.first c.args.place c.args.last c.args.block.now (sym c.if-not-front_fits.ensures)).few

pub check_zeros-requires : goal.check_zeros-requires
check_zeros-requires c = (front_tells c.args.first c.args.place c.args.last c.args.block.now (sym c.if-not-front_fits.ensures)).few
