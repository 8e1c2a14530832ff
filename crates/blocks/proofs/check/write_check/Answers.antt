use Rattle.std.proofs.Common.{◌∙◌, arith}
use Rattle.blocks.proofs.Checks.{written_check}
use Rattle.blocks.proofs.check.write_check.Goals as goal

pub returns : goal.returns
returns c = c.write.ensures ∙ written_check c.args.block.now c.fnv1a-check.result (omega arith) c.fnv1a-check.ensures
