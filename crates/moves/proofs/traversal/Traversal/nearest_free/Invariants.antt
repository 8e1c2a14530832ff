use Rattle.std.proofs.Common.{◌≡◌, ◌-◌}
use Rattle.seats.specs.Shapes.{size}
use Rattle.moves.specs.Traversal.{Traversing}
use Rattle.moves.proofs.traversal.Traversal.nearest_free.Given as goal

abbrev pub invariant-loop-bucket : goal.invariant-loop-bucket
invariant-loop-bucket g l = record {
  shape : l.self.shape ≡ l.fn.self.shape;
  traversing : Traversing g.T.Tally.kind.empty l.seats (size l.fn.self.shape) l.fingerprint l.self.links.now l.self.queue.now l.self.head l.self.end;
}

abbrev pub decreases-loop-bucket : goal.decreases-loop-bucket
decreases-loop-bucket g l = l.fn.self.shape.buckets - l.self.head
