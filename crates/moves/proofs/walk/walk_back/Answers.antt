use Rattle.std.proofs.Common.{◌≡◌, ◌*◌, length, arith}
use Rattle.seats.proofs.Sitting.{shape_sound}
use Rattle.moves.proofs.Walks.{walking_none, walking_more, depth_falls, hole_inside, parent_inside}
use Rattle.moves.proofs.walk.walk_back.Goals as goal

pub loop-bucket-init : goal.loop-bucket-init
loop-bucket-init g c = walking_none (shape_sound c.args.traversal.now.shape) c.requires.chain

pub move_entry-requires : goal.move_entry-requires
move_entry-requires g c =
    let sound = shape_sound c.args.traversal.now.shape in
    let long : length c.loop-bucket.seats ≡ c.args.traversal.now.shape.buckets * c.args.traversal.now.shape.most = omega arith in
    let hole = hole_inside sound long c.loop-bucket.invariant in
    let from = parent_inside sound long c.loop-bucket.invariant c.loop-bucket-test.true in
    (omega arith, omega arith)

pub loop-bucket-preserved : goal.loop-bucket-preserved
loop-bucket-preserved g c = walking_more (shape_sound c.args.traversal.now.shape) (omega arith) c.loop-bucket.invariant c.loop-bucket-test.true c.move_entry.ensures

pub loop-bucket-smaller : goal.loop-bucket-smaller
loop-bucket-smaller g c =
    let w = c.loop-bucket.invariant in
    depth_falls (shape_sound c.args.traversal.now.shape) w.tree c.loop-bucket.bucket w.opened.in_table w.seen c.loop-bucket-test.true
