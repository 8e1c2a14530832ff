use Rattle.std.proofs.Common.{length, refl, ap, ◌∙◌, arith, rules}
use Rattle.std.proofs.lemmas.List.{take_at}
use Rattle.paper.specs.Writing.{block_bytes}
use Rattle.blocks.specs.Blocks.{with_check}
use Rattle.paper_writer.proofs.Fills.{record_next, body_filled}
use Rattle.paper_writer.proofs.block.write_block.Goals as goal

pub loop-i-preserved : goal.loop-i-preserved
loop-i-preserved c =
    record_next _ c.args.records.now c.loop-i.block _ c.write_record.new.part c.loop-i.i _ _ c.loop-i-test.true c.loop-i.invariant refl c.write_record.ensures (omega arith) (omega arith)

pub returns : goal.returns
unfolding block_bytes
returns c =
    c.write_check.ensures
    ∙ ap with_check
    (body_filled c.args.header c.args.place _ c.args.records.now c.loop-i.block _ c.fill.new.self c.loop-i.i _
    (take_at c.write_front.new.part _ 8 (ap length c.write_front.ensures) ∙ c.write_front.ensures)
    c.loop-i-test.false (omega arith) c.requires.1 c.loop-i.invariant (omega arith) refl (search rules))
