use Rattle.std.proofs.Common.{◌≡◌}
use Rattle.std.specs.Iterator.Adapters.{enumerate_count, enumerate_source}
use Rattle.std.specs.Slice.Iter.{chunks_rest, chunks_size}
use Rattle.paper_writer.proofs.Fills.{Filling}
use Rattle.paper_writer.proofs.write.write_blocks.Given as goal

abbrev pub invariant-loop-i : goal.invariant-loop-i
invariant-loop-i l = record {
  wide : chunks_size (enumerate_source l.i-iterator) ≡ 19;
  filling : Filling l.header l.records.all.now l.buffer (enumerate_count l.i-iterator) (chunks_rest (enumerate_source l.i-iterator));
}
