use Rattle.std.proofs.Common.{◌≡◌, ℕ, ◌+◌, ◌-◌, ◌*◌, ◌<◌, ◌≤◌, List, get_or, sym, refl, ap, ◌∙◌, subst, arith}
use Rattle.std.proofs.lemmas.List.Edits.{length-between}
use Rattle.std.proofs.lemmas.Bool.{both_ways}
use Rattle.seats.specs.declared.seat.Seat.{Seat}
use Rattle.seats.specs.declared.shape.Shape.{Shape}
use Rattle.seats.specs.Shapes.{Size, Sound, size}
use Rattle.seats.specs.Seats.{Filled}
use Rattle.seats.proofs.Rows.{read_row}
use Rattle.seats.proofs.Sitting.{shape_sound}
use Rattle.moves.specs.declared.traversal.Traversal.{Traversal}
use Rattle.moves.specs.Tree.{Reached}
use Rattle.moves.specs.Traversal.{Expanding}
use Rattle.moves.proofs.Visits.{room}
use Rattle.moves.proofs.Traversals.{bucket_inside, expanding_more, expanding_past, expanding_all}
use Rattle.moves.proofs.traversal.Traversal.expand.Goals as goal
use Rattle.moves.proofs.traversal.Traversal.expand.Goals.{then-seat-shape, else-seat-shape}

-- the rows in use of the bucket that left the queue lie within the seats
inside : {X : Type 0} {e : X} {seats : List (Seat X)} {z : Size} {links queue : List ℕ} {head tail bucket : ℕ} → Sound z → Reached e seats z links queue head tail →
    (head < tail) × (bucket ≡ get_or queue head 0) → bucket * z.most + z.rows ≤ z.buckets * z.most
inside {bucket} sound r left = bucket_inside sound bucket (omega (arith, left.1, r.order.low _ left.0))

pub slice_bounds-rows-end : goal.slice_bounds-rows-end
slice_bounds-rows-end g c = omega (arith, inside (shape_sound c.args.self.now.shape) c.requires.reached c.requires.left)

pub visit-requires-clause-room : goal.visit-requires-clause-room
visit-requires-clause-room g c = λ none.
    let buckets = ap (λ (s : Shape). s.buckets) c.loop-row.invariant.shape in
    omega (arith, c.loop-row.self.wide, buckets, room c.loop-row.invariant.expanding.reached.order _ c.if-seat-shape.true none)

pub returns-then-is_empty : goal.returns-then-is_empty
returns-then-is_empty g c =
    let e = g.T.Tally.kind.empty in
    let xs = c.args.seats.now in
    let x = c.loop-row.invariant.expanding in
    let shape = c.args.self.now.shape in
    let within = inside (shape_sound shape) c.requires.reached c.requires.left in
    let first = c.args.bucket * shape.most in
    let (past, read) = read_row e xs _ first (first + shape.rows) c.loop-row.row c.index-rows-row.result refl (omega arith) c.loop-row-test.true c.index-rows-row.is in
    let low : c.loop-row.row < shape.rows = omega arith in
    let empty = (g.met.T.Tally.lawful.empty_told c.index-rows-row.result.tally).0 (sym c.is_empty.ensures.value ∙ c.if-is_empty.true) in
    record {
      shape = c.loop-row.invariant.shape;
      head = c.loop-row.invariant.head;
      expanded = record {
        end = c.loop-row.self.end;
        reached = x.reached;
        grown = x.grown;
        lies = (c.loop-row.row, low, refl);
        empty = ap (λ (s : Seat g.row.T.Denot). s.tally) (sym read) ∙ empty;
      };
    }

pub loop-row-preserved : goal.loop-row-preserved
loop-row-preserved g c =
    let e = g.T.Tally.kind.empty in
    let xs = c.args.seats.now in
    let old = c.args.self.now in
    let z = size old.shape in
    let sound = shape_sound old.shape in
    let row = c.loop-row.row in
    let i = c.args.bucket * old.shape.most + row in
    let within = inside sound c.requires.reached c.requires.left in
    let first = c.args.bucket * old.shape.most in
    let (past, read) = read_row e xs _ first (first + old.shape.rows) row c.index-rows-row.result refl (omega arith) c.loop-row-test.true c.index-rows-row.is in
    let low : row < old.shape.rows = omega arith in
    let filled : Filled e xs i = λ empty.
    both_ways c.is_empty.result c.if-is_empty.false
    (c.is_empty.ensures.value ∙ (g.met.T.Tally.lawful.empty_told c.index-rows-row.result.tally).1 (ap (λ (s : Seat g.row.T.Denot). s.tally) read ∙ empty))
    in
    let carry = ap (λ (s : Seat g.row.T.Denot). s.carry) read in
    let buckets = ap (λ (s : Shape). s.buckets) c.loop-row.invariant.shape in
    let Kept : Traversal → Type 0 = λ t. record {
      shape : t.shape ≡ old.shape;
      head : t.head ≡ old.head;
      expanding : Expanding e xs z c.args.bucket (row + 1) old.links.now old.queue.now (old.head - 1) old.end t.links.now t.queue.now t.end;
    } in
    elim c.if-seat-shape.branch [
      | then-seat-shape w ↦
          subst Kept (sym w.self-is) (record {
            shape = w.visit.ensures.shape ∙ c.loop-row.invariant.shape;
            head = w.visit.ensures.head ∙ c.loop-row.invariant.head;
            expanding =
                expanding_more sound c.requires.reached c.requires.left.0 c.args.bucket c.requires.left.1 row low c.loop-row.invariant.expanding filled
                (omega (arith, c.loop-row.self.linked, buckets)) (omega (arith, c.loop-row.self.wide, buckets)) _ carry w.if-seat-shape.true w.visit.ensures.visit;
          })
      | else-seat-shape w ↦
          subst Kept (sym w.self-is) (record {
            shape = c.loop-row.invariant.shape;
            head = c.loop-row.invariant.head;
            expanding =
                expanding_past sound c.requires.reached c.requires.left.0 c.args.bucket c.requires.left.1 row low c.loop-row.invariant.expanding filled
                (omega (arith, carry, w.if-seat-shape.false));
          })
    ]

pub returns : goal.returns
returns g c =
    let old = c.args.self.now.shape in
    let first = c.args.bucket * old.most in
    let within = inside (shape_sound old) c.requires.reached c.requires.left in
    let long = length-between c.args.seats.now first (first + old.rows) (omega arith) in
    record {
      shape = c.loop-row.invariant.shape;
      head = c.loop-row.invariant.head;
      expanded = expanding_all (shape_sound old) (omega (arith, long, c.loop-row-test.false)) c.loop-row.invariant.expanding;
    }
