use Rattle.std.proofs.Common.{refl, ap, ◌∙◌, arith, length-drop, length-take}
use Rattle.std.specs.Iterator.Adapters.{enumerate_count, enumerate_source}
use Rattle.std.specs.Slice.Iter.{chunks_rest, chunks_size}
use Rattle.paper_writer.proofs.Fills.{filling_first, filling_next, filling_last}
use Rattle.paper_writer.proofs.write.write_blocks.Goals as goal

pub loop-i-init : goal.loop-i-init
loop-i-init c =
    let begun = c.into_iter-i-iterator.ensures.into_iter_gives in
    let source = ap enumerate_source begun ∙ c.enumerate-i-items.ensures.source in
    record {
      wide = ap chunks_size source ∙ c.chunks.ensures.size;
      filling =
          filling_first c.args.header c.args.records.now.all.now c.args.buffer.now _ _ (ap enumerate_count begun ∙ c.enumerate-i-items.ensures.count) (ap chunks_rest source ∙ c.chunks.ensures.rest);
    }

pub write_block-requires : goal.write_block-requires
write_block-requires c =
    let step = c.in-Some.ensures.steps in
    let parts = step.0.1 in
    let wide = c.loop-i.invariant.wide in
    let count = c.loop-i.invariant.filling.count in
    (simp (length-take, length-drop) (omega arith), omega arith)

pub loop-i-preserved : goal.loop-i-preserved
loop-i-preserved c =
    let step = c.in-Some.ensures.steps in
    let parts = step.0.1 in
    let wide = c.loop-i.invariant.wide in
    record {
      wide = step.0.0 ∙ wide;
      filling =
          filling_next c.args.header c.args.records.now.all.now c.loop-i.buffer _ c.write_block.new.block c.in-Some.i _ _ _ _ c.in-Some.group.now _ c.loop-i.invariant.filling step.1 step.2
          (omega arith) parts.0 (omega arith) parts.2 refl c.write_block.ensures (omega arith);
    }

pub returns : goal.returns
returns c = filling_last c.args.header c.args.records.now.all.now c.loop-i.buffer _ _ c.loop-i.invariant.filling (omega arith) c.in-None.ensures.steps.0.1.0
