use Rattle.std.specs.Iterator.Adapters.{enumerate_source, enumerate_count}
use Rattle.seats.specs.Shapes.{size}
use Rattle.book.specs.Books.{blank}
use Rattle.paper.specs.Reading.{paper_records}
use Rattle.paper.specs.Walking.{records_left}
use Rattle.run.specs.Printed.{lines}
use Rattle.run.proofs.Running.{Going}
use Rattle.run.proofs.calls.write_lines.Given as goal

abbrev pub invariant-loop-i : goal.invariant-loop-i
invariant-loop-i g l =
    let k = g.T.Tally.kind in
    let rule = g.R.Rule.meaning l.rule in
    let shown = g.T.Figured.shown in
    let made = g.T.Figured.made in
    (goal.iterator-loop-i g).can_next l.i-iterator × (goal.iterator-loop-i g).is_finite l.i-iterator
    × Going k rule shown made (lines k rule shown made (blank (size l.initial.table.shape)) 1 (paper_records l.paper.bytes.now)) l.initial.printer
    l.table (records_left (enumerate_source l.i-iterator)) l.printer (enumerate_count l.i-iterator)
