use Rattle.std.proofs.Common.{length, refl, ⊎_elim}
use Rattle.std.proofs.lemmas.Result.{err_from_is_err_and}
use Rattle.table.proofs.Narrowing.{narrow_stopped, narrow_crowded, narrow_done}
use Rattle.table.proofs.table.Table.narrow.Goals as goal

pub returns-clause-did : goal.returns-clause-did
returns-clause-did g c = λ rule.
    let done = c.in_ok-narrower.ensures.narrowed in
    narrow_done g.T.Tally.kind rule c.args.self.now _ (length c.args.words.now) refl refl _ refl done.0 done.1 done.2 c.clear_last_row.auto.seats

pub returns-in_err-narrower-clause-did : goal.returns-in_err-narrower-clause-did
returns-in_err-narrower-clause-did g c =
    let p = err_from_is_err_and c.from_residual.result c.from_residual.ensures.1 in
    let k = g.T.Tally.kind in
    let t = c.args.self.now in
    rw (p.1, p.2) (λ rule.
    ⊎_elim
    (λ h. narrow_stopped k rule t _ (length c.args.words.now) refl refl _ h.0 h.1 refl)
    (λ h. narrow_crowded k rule t _ (length c.args.words.now) refl refl _ h.1 h.0 h.2 h.3 c.clear_last_row.auto.seats refl)
    c.in_err-narrower.ensures.narrowed)
