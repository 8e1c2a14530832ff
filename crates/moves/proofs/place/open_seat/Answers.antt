use Rattle.std.proofs.Common.{refl, ◌∙◌, subst, inl, inr}
use Rattle.seats.specs.declared.shape.Shape.{Shape}
use Rattle.seats.specs.Shapes.{size}
use Rattle.seats.proofs.Sitting.{shape_sound}
use Rattle.moves.specs.Queue.{Roots}
use Rattle.moves.specs.Traversal.{Stuck}
use Rattle.moves.specs.Walk.{Opened}
use Rattle.moves.proofs.Refuting.{unseatable}
use Rattle.moves.proofs.Placing.{ready_root, ready_first}
use Rattle.moves.proofs.place.open_seat.Goals as goal

pub returns-in-Some : goal.returns-in-Some
returns-in-Some g c = record { seat = ready_first (shape_sound c.args.shape) c.requires.below c.in-Some.ensures; spared = inl refl }

pub returns-in_err-free-clause-seat : goal.returns-in_err-free-clause-seat
returns-in_err-free-clause-seat g c =
    let e = g.T.Tally.kind.empty in
    let links = c.nearest_free.new.self.links.now in
    let stuck = subst (λ (s : Shape). Stuck e c.args.seats.now (size s) c.args.fingerprint links) c.new-traversal.ensures c.in_err-free.ensures.found in
    rw c.from_residual.ensures (record {
      same = refl;
      unseatable = λ below entries shows none.
          unseatable e (shape_sound c.args.shape) c.args.seats.now entries shows c.args.fingerprint links below none stuck;
    })

pub returns : goal.returns
returns g c =
    let e = g.T.Tally.kind.empty in
    let links = c.nearest_free.new.self.links.now in
    let (bucket, at_root, opened) = c.walk_back.ensures in
    let roots = subst (λ (s : Shape). Roots (size s) c.args.fingerprint links) c.new-traversal.ensures c.in_ok-free.ensures.found.roots in
    let opened' = subst (λ (s : Shape). Opened e c.args.seats.now c.walk_back.new.seats (size s) bucket c.walk_back.result) (c.in_ok-free.ensures.shape ∙ c.new-traversal.ensures) opened in
    record { seat = ready_root (size c.args.shape) c.args.fingerprint links roots at_root opened' c.in_default.ensures; spared = inr c.in_default.ensures }
