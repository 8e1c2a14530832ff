use Rattle.std.proofs.lemmas.Result.{err_from_is_err_and}
use Rattle.seats.specs.declared.refusal.Refusal.TheVariants.{NotHeld}
use Rattle.table.proofs.Reading.{lacking, reads_nowhere, sits_found}
use Rattle.table.proofs.Reversing.{erased_none, erased_some}
use Rattle.table.proofs.table.Table.erase.Goals as goal

pub returns-in_err-i : goal.returns-in_err-i
returns-in_err-i g c =
    let k = g.T.Tally.kind in
    let p = err_from_is_err_and c.from_residual-in_err-i.result c.from_residual-in_err-i.ensures.1 in
    let (none, why) = lacking c.seat_of.result c.in_err-i.field-0.0 NotHeld c.in_err-i.ensures.value in
    rw (p.1, p.2, why) (erased_none k c.in_ok-fingerprint.ensures (reads_nowhere k c.args.self.now c.in_ok-fingerprint.fingerprint c.seat_of.result none c.seat_of.ensures))

pub returns : goal.returns
returns g c =
    let k = g.T.Tally.kind in
    let sits = sits_found k c.args.self.now c.in_ok-fingerprint.fingerprint c.seat_of.result c.in_ok-i.i c.in_ok-i.ensures.ok_part c.seat_of.ensures in
    erased_some k c.in_ok-fingerprint.ensures c.take_out-tally.new.self c.in_ok-i.i c.take_out-tally.result sits c.take_out-tally.ensures.tally c.take_out-tally.ensures.after
