use Rattle.std.proofs.Common.{length, sym, refl, ◌∙◌, arith}
use Rattle.std.proofs.lemmas.Result.{err_from_is_err_and}
use Rattle.seats.specs.declared.refusal.Refusal.TheVariants.{Ceiling}
use Rattle.table.proofs.Reading.{lacking, reads_none, reads_some}
use Rattle.table.proofs.Posting.{posted_over, posted_more, posted_new, posted_full}
use Rattle.table.proofs.table.Table.post.Goals as goal

pub returns-in_err-tally-in-Some-clause-did : goal.returns-in_err-tally-in-Some-clause-did
returns-in_err-tally-in-Some-clause-did g c =
    let k = g.T.Tally.kind in
    let p = err_from_is_err_and c.from_residual-in_err-tally-in-Some.result c.from_residual-in_err-tally-in-Some.ensures.1 in
    let (none, why) = lacking c.join.result c.in_err-tally-in-Some.field-0.0 Ceiling c.in_err-tally-in-Some.ensures.value in
    rw (p.1, p.2, why) (posted_over k c.in_ok-fingerprint.ensures c.args.amount (length c.args.words.now) (omega arith) (sym c.if-not-is_amount.ensures.value)
    c.tally_of.result (reads_some k c.args.self.now c.in_ok-fingerprint.fingerprint c.in-Some.i c.tally_of.result c.in-Some.ensures c.tally_of.ensures) (sym c.join.ensures.value ∙ none))

pub returns-in_ok-tally-in-Some-clause-did : goal.returns-in_ok-tally-in-Some-clause-did
returns-in_ok-tally-in-Some-clause-did g c =
    posted_more g.T.Tally.kind c.in_ok-fingerprint.ensures c.args.amount (length c.args.words.now) (omega arith) (sym c.if-not-is_amount.ensures.value)
    g.met.T.Tally.lawful _ c.in-Some.i c.tally_of.result c.in_ok-tally-in-Some.tally c.in-Some.ensures c.tally_of.ensures
    (sym c.join.ensures.value ∙ c.in_ok-tally-in-Some.ensures.ok_part) c.retally.ensures refl refl refl

pub returns-in_ok-place-in-None-clause-did : goal.returns-in_ok-place-in-None-clause-did
returns-in_ok-place-in-None-clause-did g c =
    let k = g.T.Tally.kind in
    posted_new k c.in_ok-fingerprint.ensures c.args.amount (length c.args.words.now) (omega arith) (sym c.if-not-is_amount.ensures.value)
    (reads_none k c.args.self.now c.in_ok-fingerprint.fingerprint c.in-None.ensures)
    g.met.T.Tally.lawful _ c.in_ok-place-in-None.ensures.placed.1 c.place.auto.seats refl c.saturating_add-self.ensures refl

pub returns-in_err-place-in-None-clause-did : goal.returns-in_err-place-in-None-clause-did
returns-in_err-place-in-None-clause-did g c =
    let k = g.T.Tally.kind in
    let p = err_from_is_err_and c.from_residual-in_err-place-in-None.result c.from_residual-in_err-place-in-None.ensures.1 in
    rw (p.1, p.2) (posted_full k c.in_ok-fingerprint.ensures c.args.amount (length c.args.words.now) (omega arith) (sym c.if-not-is_amount.ensures.value)
    (reads_none k c.args.self.now c.in_ok-fingerprint.fingerprint c.in-None.ensures)
    _ _ c.in_err-place-in-None.ensures.placed.same refl refl refl g.met.T.Tally.lawful c.in_err-place-in-None.ensures.placed.reason)
