use Rattle.std.proofs.Common.{◌≡◌, length, Err, refl, ◌∙◌, inr, arith, rules}
use Rattle.seats.specs.Shapes.{size}
use Rattle.seats.proofs.Sitting.{shape_sound}
use Rattle.narrowing.proofs.Clearing.{stops_none, cleared_more, not_cleared, cleared_all}
use Rattle.narrowing.proofs.clear_last_row.Goals as goal

pub returns-in_err-lower_entry : goal.returns-in_err-lower_entry
returns-in_err-lower_entry g c =
    let why = c.in_err-lower_entry.field-0.0 in
    let none = stops_none (size c.args.shape) (length c.args.seats.now) (length c.args.words.now) (omega arith) (omega arith) (omega arith) in
    let failed = not_cleared g.T.Tally.kind.empty (shape_sound c.args.shape) (omega arith) c.args.seats.now c.loop-bucket.seats c.lower_entry.new.seats c.loop-bucket.bucket why c.loop-bucket.invariant.2 c.in_err-lower_entry.ensures in
    let refused : c.from_residual.result ≡ Err why = search rules in
    record { narrowed = rw refused (inr (none, failed.0, failed.1, failed.2)); kept = λ barred. absurd (barred none) }

pub loop-bucket-preserved : goal.loop-bucket-preserved
loop-bucket-preserved g c =
    let more = cleared_more g.T.Tally.kind.empty (shape_sound c.args.shape) (omega arith) c.args.seats.now c.loop-bucket.seats c.lower_entry.new.seats c.loop-bucket.bucket (omega arith)
    c.loop-bucket.invariant.2 c.loop-bucket.invariant.3 c.in_ok-lower_entry.ensures in
    (c.lower_entry.auto.seats ∙ c.loop-bucket.invariant.0, c.lower_entry.auto.words ∙ c.loop-bucket.invariant.1, more.0, more.1)

pub returns : goal.returns
returns g c =
    let none = stops_none (size c.args.shape) (length c.args.seats.now) (length c.args.words.now) (omega arith) (omega arith) (omega arith) in
    record {
      narrowed = (none, refl, cleared_all g.T.Tally.kind.empty (shape_sound c.args.shape) (omega arith) c.args.seats.now c.loop-bucket.seats c.loop-bucket.invariant.2 (λ other low. c.loop-bucket.invariant.3 other (omega arith)));
      kept = λ barred. absurd (barred none);
    }
