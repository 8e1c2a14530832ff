use Rattle.std.proofs.Common.{◌+◌, ◌*◌, ◌<◌, arith}
use Rattle.paper.proofs.Nonzeros.{nonzero_within}
use Rattle.paper.proofs.block.check_zeros.Goals as goal

within : (c : goal.In-Some) → 8 + 26 * c.from.result + c.in-Some.k < 504
within c = nonzero_within c.args.block.now (8 + 26 * c.from.result) 504 c.in-Some.k c.in-Some.ensures

pub overflow_add-from-in-Some : goal.overflow_add-from-in-Some
overflow_add-from-in-Some c = let h = within c in omega arith

pub record_at-requires : goal.record_at-requires
record_at-requires c = within c
