use Rattle.std.proofs.Common.{suc}
use Rattle.seats.specs.Shapes.{size}
use Rattle.moves.specs.Walk.{Walking, depth}
use Rattle.moves.proofs.walk.walk_back.Given as goal

abbrev pub invariant-loop-bucket : goal.invariant-loop-bucket
invariant-loop-bucket g l = Walking g.T.Tally.kind.empty l.initial.seats l.seats (size l.traversal.shape) l.traversal.links.now l.hole l.bucket

abbrev pub decreases-loop-bucket : goal.decreases-loop-bucket
decreases-loop-bucket g l = depth l.traversal.links.now l.traversal.shape.most (suc l.traversal.shape.buckets) l.bucket
