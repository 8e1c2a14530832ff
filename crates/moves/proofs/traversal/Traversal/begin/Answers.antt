use Rattle.std.proofs.Common.{get_or, ap, ◌∙◌, subst, arith}
use Rattle.std.proofs.lemmas.List.{get_or-replicate}
use Rattle.seats.specs.declared.place.Place.{Place}
use Rattle.seats.specs.declared.shape.Shape.{Shape}
use Rattle.seats.proofs.Sitting.{shape_sound}
use Rattle.moves.specs.Queue.{unseen, root, Visit}
use Rattle.moves.proofs.Visits.{begun}
use Rattle.moves.proofs.traversal.Traversal.begin.Goals as goal

pub returns : goal.returns
returns c =
    let old = c.args.self.now in
    let first = c.visit.new.self in
    let last = c.visit-2.new.self in
    let buckets = ap (λ (s : Shape). s.buckets) c.visit.ensures.shape in
    let forgotten = c.fill.ensures.after (λ y is. is) in
    record {
      shape = c.visit-2.ensures.shape ∙ c.visit.ensures.shape;
      head = c.visit-2.ensures.head ∙ c.visit.ensures.head;
      begun =
          begun (shape_sound old.shape) c.args.fingerprint c.requires {links = c.fill.new.self} {queue = old.queue.now}
          (λ j h. ap (λ l. get_or l j 0) forgotten ∙ get_or-replicate _ j unseen 0 (omega arith)) (omega arith) (omega arith)
          {links' = first.links.now} {queue' = first.queue.now}
          (subst (λ b. Visit c.fill.new.self old.queue.now 0 b root first.links.now first.queue.now first.end) (ap (λ (p : Place). p.bucket) c.place.ensures.value) c.visit.ensures.visit)
          (omega (arith, first.linked, buckets)) (omega (arith, first.wide, buckets))
          (subst (λ b. Visit first.links.now first.queue.now first.end b root last.links.now last.queue.now last.end) (ap (λ (p : Place). p.bucket) c.place-2.ensures.value) c.visit-2.ensures.visit);
    }
