use Rattle.std.proofs.Common.{◌≡◌, ◌+◌, ◌-◌, ◌*◌, ◌<◌, false, length, Some, None, Ok, Err, Result, is_ok, sym, refl, subst, arith, rules}
use Rattle.moves.specs.Placed.{Accepted, Refused, bar}
use Rattle.seats.specs.declared.refusal.Refusal.{Refusal}
use Rattle.seats.specs.declared.refusal.Refusal.TheVariants.{NoNarrowSeating}
use Rattle.seats.specs.Shapes.{Size}
use Rattle.seats.proofs.Sitting.{shape_sound}
use Rattle.narrowing.proofs.Lowering.{inside, no_fingerprint, no_seat, seat_below}
use Rattle.narrowing.proofs.lower_entry.Goals as goal

-- a call that gave no value was refused
refused_since : (r : Result (Unit {0}) Refusal) → is_ok r ≡ false → (why : Refusal) × (r ≡ Err why)
refused_since (Ok x) is = absurd (cc)
refused_since (Err why) is = (why, refl)

pub offset_bounds-seats-i : goal.offset_bounds-seats-i
offset_bounds-seats-i g c =
    let low : c.args.bucket * c.args.shape.most + (c.args.shape.rows - 1) < length c.args.seats.now = omega (arith, inside g.T.Tally.kind.empty (shape_sound c.args.shape) c.requires.lower.0 c.args.bucket c.requires.sizes.2) in
    search rules

pub bounds-seats-i : goal.bounds-seats-i
bounds-seats-i g c = omega (arith, inside g.T.Tally.kind.empty (shape_sound c.args.shape) c.requires.lower.0 c.args.bucket c.requires.sizes.2)

pub returns-in_err-fingerprint : goal.returns-in_err-fingerprint
returns-in_err-fingerprint g c =
    let k = g.T.Tally.kind in
    let none : c.fingerprint_at.result ≡ None = search rules in
    let refused : c.from_residual.result ≡ Err NoNarrowSeating = search rules in
    rw refused (no_fingerprint k.empty (shape_sound c.args.shape) c.requires.lower.0 k refl g.met.T.Tally.lawful c.args.seats.now c.requires.sizes.0 c.args.bucket c.requires.sizes.2
    c.index-seats-i.result c.index-seats-i.is (sym c.if-is_empty.ensures.value) (rw none at c.fingerprint_at.ensures))

pub returns-in_err-map_err : goal.returns-in_err-map_err
returns-in_err-map_err g c =
    let k = g.T.Tally.kind in
    let xs = c.args.seats.now in
    let s = c.index-seats-i.result in
    let f = c.in_ok-fingerprint.fingerprint in
    let found : c.fingerprint_at.result ≡ Some f = search rules in
    let given = rw found at c.fingerprint_at.ensures in
    let unseated : is_ok c.place.result ≡ false = search rules in
    let (why, is) = refused_since c.place.result unseated in
    let placed = rw is at c.place.ensures.placed in
    let told = rw is at c.map_err.ensures.cases in
    let refused : c.from_residual-in_err-map_err.result ≡ Err NoNarrowSeating = search rules in
    let unplaced = subst (λ (z : Size). Refused k.empty xs c.place.new.seats z f (bar k xs z s.tally (length c.args.words.now)) why) c.requires.lower.1 placed in
    rw refused (no_seat k.empty (shape_sound c.args.shape) c.requires.lower.0 k refl g.met.T.Tally.lawful xs c.requires.sizes.0 c.args.bucket c.requires.sizes.2
    s c.index-seats-i.is (sym c.if-is_empty.ensures.value) f given.0 c.place.new.seats (length c.args.words.now) why c.requires.sizes.1 unplaced)

pub returns : goal.returns
returns g c =
    let k = g.T.Tally.kind in
    let xs = c.args.seats.now in
    let s = c.index-seats-i.result in
    let f = c.in_ok-fingerprint.fingerprint in
    let found : c.fingerprint_at.result ≡ Some f = search rules in
    let given = rw found at c.fingerprint_at.ensures in
    let seated : c.place.result ≡ Ok tt = search rules in
    let placed = rw seated at c.place.ensures.placed in
    let accepted = subst (λ (z : Size). Accepted k.empty xs c.place.new.seats z f s.tally) c.requires.lower.1 placed.1 in
    seat_below k.empty (shape_sound c.args.shape) c.requires.lower.0 k refl g.met.T.Tally.lawful xs c.requires.sizes.0 c.args.bucket c.requires.sizes.2
    s c.index-seats-i.is (sym c.if-is_empty.ensures.value) f given.0 c.place.new.seats c.vacate.new.seats c.place.auto.seats accepted c.vacate.ensures.after
