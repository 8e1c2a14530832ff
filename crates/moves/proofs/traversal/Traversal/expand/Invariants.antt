use Rattle.std.proofs.Common.{◌≡◌, ◌-◌}
use Rattle.seats.specs.Shapes.{size}
use Rattle.moves.specs.Traversal.{Expanding}
use Rattle.moves.proofs.traversal.Traversal.expand.Given as goal

abbrev pub invariant-loop-row : goal.invariant-loop-row
invariant-loop-row g l = record {
  shape : l.self.shape ≡ l.initial.self.shape;
  head : l.self.head ≡ l.initial.self.head;
  expanding : Expanding g.T.Tally.kind.empty l.seats (size l.initial.self.shape) l.bucket l.row l.initial.self.links.now l.initial.self.queue.now (l.initial.self.head - 1) l.initial.self.end l.self.links.now l.self.queue.now l.self.end;
}
