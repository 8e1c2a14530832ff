use Rattle.std.proofs.Common.{sym, refl, ◌∙◌}
use Rattle.std.proofs.lemmas.Result.{err_from_is_err_and}
use Rattle.seats.specs.declared.refusal.Refusal.TheVariants.{NotHeld}
use Rattle.table.proofs.Reading.{lacking, reads_nowhere, sits_found}
use Rattle.table.proofs.Reversing.{reversed_none, reversed_all, reversed_part}
use Rattle.table.proofs.table.Table.reverse.Goals as goal

pub returns-in_err-i : goal.returns-in_err-i
returns-in_err-i g c =
    let k = g.T.Tally.kind in
    let p = err_from_is_err_and c.from_residual-in_err-i.result c.from_residual-in_err-i.ensures.1 in
    let (none, why) = lacking c.seat_of.result c.in_err-i.field-0.0 NotHeld c.in_err-i.ensures.value in
    rw (p.1, p.2, why) (reversed_none k c.in_ok-fingerprint.ensures c.args.amount (sym c.if-not-is_amount.ensures.value)
    (reads_nowhere k c.args.self.now c.in_ok-fingerprint.fingerprint c.seat_of.result none c.seat_of.ensures))

pub returns-then-is_empty : goal.returns-then-is_empty
returns-then-is_empty g c =
    let k = g.T.Tally.kind in
    let sits = sits_found k c.args.self.now c.in_ok-fingerprint.fingerprint c.seat_of.result c.in_ok-i.i c.in_ok-i.ensures.ok_part c.seat_of.ensures in
    reversed_all k c.in_ok-fingerprint.ensures c.args.amount (sym c.if-not-is_amount.ensures.value)
    c.take_out-tally.new.self c.in_ok-i.i c.tally_of.result c.in_ok-rest.rest sits c.tally_of.ensures (sym c.take_back.ensures.value ∙ c.in_ok-rest.ensures.ok_part)
    (sym c.if-is_empty.ensures.value) c.take_out-tally.ensures.after

pub returns : goal.returns
returns g c =
    let k = g.T.Tally.kind in
    let sits = sits_found k c.args.self.now c.in_ok-fingerprint.fingerprint c.seat_of.result c.in_ok-i.i c.in_ok-i.ensures.ok_part c.seat_of.ensures in
    reversed_part k c.in_ok-fingerprint.ensures c.args.amount (sym c.if-not-is_amount.ensures.value)
    _ c.in_ok-i.i c.tally_of.result c.in_ok-rest.rest sits c.tally_of.ensures (sym c.take_back.ensures.value ∙ c.in_ok-rest.ensures.ok_part)
    g.met.T.Tally.lawful (sym c.if-is_empty.ensures.value) c.retally.ensures refl refl refl
