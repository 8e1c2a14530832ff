use Rattle.std.proofs.Common.{sym, ap, ◌∙◌, arith}
use Rattle.std.proofs.lemmas.List.{at_drop_all}
use Rattle.paper.specs.Checks.{records_checked}
use Rattle.paper.proofs.Steps.{records_step, block_parts}
use Rattle.paper.proofs.block.check_records.Goals as goal

pub returns-then-not-part_fits : goal.returns-then-not-part_fits
returns-then-not-part_fits c =
    sym (records_step _ _ _ _ _ c.loop-i-test.true (sym c.if-not-part_fits.ensures))
    ∙ c.loop-i.invariant
    ∙ ap (records_checked _ _ 0) (c.as_chunks.ensures.front ∙ block_parts c.args.block.now _ _ (omega arith) c.requires (omega arith))

pub loop-i-preserved : goal.loop-i-preserved
loop-i-preserved c = sym (records_step _ _ _ _ _ c.loop-i-test.true (sym c.if-not-part_fits.ensures)) ∙ c.loop-i.invariant

pub returns : goal.returns
returns c =
    sym (at_drop_all (records_checked _ _ _) _ _ c.loop-i-test.false)
    ∙ c.loop-i.invariant
    ∙ ap (records_checked _ _ 0) (c.as_chunks.ensures.front ∙ block_parts c.args.block.now _ _ (omega arith) c.requires (omega arith))
