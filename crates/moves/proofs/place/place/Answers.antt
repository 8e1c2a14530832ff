use Rattle.std.proofs.Common.{◌≡◌, ◌<◌, length, Some, None, ◌∙◌, arith, rules}
use Rattle.std.proofs.lemmas.Bool.Decides.{nat_tests}
use Rattle.std.proofs.lemmas.Bool.{both_ways}
use Rattle.seats.specs.Shapes.{size}
use Rattle.seats.proofs.Sitting.{shape_sound}
use Rattle.moves.specs.Placed.{bar}
use Rattle.moves.proofs.Placing.{accepted, spared}
use Rattle.moves.proofs.place.place.Goals as goal

pub returns : goal.returns
returns g c =
    let is : c.open_seat.result ≡ Some c.in_ok-hole.hole = search rules in
    let let_in : bar g.T.Tally.kind c.args.seats.now (size c.args.shape) c.args.tally (length c.args.words.now) ≡ None = grind (arith, nat_tests) in
    let below : c.args.fingerprint < (size c.args.shape).range = omega arith in
    let ready = rw is at c.open_seat.ensures.seat in
    record {
      placed = (
        let_in,
        accepted {before = c.args.seats.now} {after = c.open_seat.new.seats} (shape_sound c.args.shape) c.args.fingerprint (omega arith) ready below c.args.tally
            (λ empty. both_ways c.is_empty.result c.if-is_empty.false (c.is_empty.ensures.value ∙ (g.met.T.Tally.lawful.empty_told c.args.tally).1 empty))
            c.enter.ensures,
      );
      spared = spared g.T.Tally.kind c.args.seats.now (size c.args.shape) c.args.fingerprint c.args.tally c.args.words.now c.open_seat.new.words let_in below c.open_seat.ensures.spared;
    }
