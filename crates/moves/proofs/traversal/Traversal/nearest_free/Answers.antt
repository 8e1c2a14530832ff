use Rattle.std.proofs.Common.{◌≡◌, ◌-◌, sym, ◌∙◌, subst, arith}
use Rattle.seats.specs.Shapes.{size}
use Rattle.seats.proofs.Sitting.{shape_sound}
use Rattle.moves.specs.Tree.{Reached}
use Rattle.moves.specs.Traversal.{Expanding, Stopped, Traversing, Stuck}
use Rattle.moves.proofs.Traversals.{traversing_none, traversing_more, traversing_all, traversing_found}
use Rattle.moves.proofs.traversal.Traversal.nearest_free.Goals as goal

pub loop-bucket-init : goal.loop-bucket-init
loop-bucket-init g c =
    let begun = c.begin.new.self in
    record {
      shape = c.begin.ensures.shape;
      traversing =
          subst (λ h. Traversing g.T.Tally.kind.empty c.args.seats.now (size c.args.self.now.shape) c.args.fingerprint begun.links.now begun.queue.now h begun.end) (sym c.begin.ensures.head)
          (traversing_none (shape_sound c.args.self.now.shape) c.begin.ensures.begun);
    }

pub expand-requires-clause-reached : goal.expand-requires-clause-reached
expand-requires-clause-reached g c =
    let e = g.T.Tally.kind.empty in
    let next = c.in-Some.ensures in
    let shape = next.shape ∙ c.loop-bucket.invariant.shape in
    let place : c.next_bucket.new.self.head - 1 ≡ c.loop-bucket.self.head = omega (arith, next.next.1) in
    coe 1 0 (i. Reached e c.args.seats.now (size (shape i)) (next.links i) (next.queue i) (place i) (next.end i)) c.loop-bucket.invariant.traversing.reached

pub returns-in-Some-expand-clause-found : goal.returns-in-Some-expand-clause-found
returns-in-Some-expand-clause-found g c =
    let e = g.T.Tally.kind.empty in
    let next = c.in-Some.ensures in
    let shape = next.shape ∙ c.loop-bucket.invariant.shape in
    let place : c.next_bucket.new.self.head - 1 ≡ c.loop-bucket.self.head = omega (arith, next.next.1) in
    let new = c.expand.new.self in
    traversing_found (shape_sound c.args.self.now.shape) c.loop-bucket.invariant.traversing _ next.next.0
    (coe 0 1 (i. Stopped e c.args.seats.now (size (shape i)) (next.next.2 i) c.in-Some-expand.free (next.links i) (next.queue i) (place i) (next.end i) new.links.now new.queue.now)
    c.in-Some-expand.ensures.expanded)

pub loop-bucket-preserved : goal.loop-bucket-preserved
loop-bucket-preserved g c =
    let e = g.T.Tally.kind.empty in
    let next = c.in-Some.ensures in
    let shape = next.shape ∙ c.loop-bucket.invariant.shape in
    let place : c.next_bucket.new.self.head - 1 ≡ c.loop-bucket.self.head = omega (arith, next.next.1) in
    let new = c.expand.new.self in
    record {
      shape = c.in_default-expand.ensures.shape ∙ shape;
      traversing =
          subst (λ h. Traversing e c.args.seats.now (size c.args.self.now.shape) c.args.fingerprint new.links.now new.queue.now h new.end)
          (sym (c.in_default-expand.ensures.head ∙ next.next.1))
          (traversing_more (shape_sound c.args.self.now.shape) c.loop-bucket.invariant.traversing next.next.0
          (coe 0 1 (i. Expanding e c.args.seats.now (size (shape i)) (next.next.2 i) (shape i).rows (next.links i) (next.queue i) (place i) (next.end i) new.links.now new.queue.now new.end)
          c.in_default-expand.ensures.expanded));
    }

pub returns-clause-found : goal.returns-clause-found
returns-clause-found g c =
    subst (λ l. Stuck g.T.Tally.kind.empty c.args.seats.now (size c.args.self.now.shape) c.args.fingerprint l) (sym c.in_default.ensures.links)
    (traversing_all (shape_sound c.args.self.now.shape) c.loop-bucket.invariant.traversing c.in_default.ensures.next.0)
