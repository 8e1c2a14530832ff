use Rattle.std.proofs.Common.{length, sym, ap, ◌∙◌}
use Rattle.std.proofs.lemmas.Result.{err_from_is_err_and}
use Rattle.book.specs.Books.{narrow}
use Rattle.table.specs.Requests.{asked}
use Rattle.table.proofs.Asking.{did_same, part_long}
use Rattle.table.proofs.table.Table.call.Goals as goal

pub returns-in_ok-widened-in-Widen-clause-did : goal.returns-in_ok-widened-in-Widen-clause-did
returns-in_ok-widened-in-Widen-clause-did g c =
    did_same (sym (ap (asked (length c.args.words.now)) c.in-Widen.is)) (c.in_ok-widened-in-Widen.ensures (g.R.Rule.meaning c.args.rule.now))

pub returns-in_err-widened-in-Widen-clause-did : goal.returns-in_err-widened-in-Widen-clause-did
returns-in_err-widened-in-Widen-clause-did g c =
    let p = err_from_is_err_and c.from_residual.result c.from_residual.ensures.1 in
    rw (p.1, p.2) (did_same (sym (ap (asked (length c.args.words.now)) c.in-Widen.is)) (c.in_err-widened-in-Widen.ensures (g.R.Rule.meaning c.args.rule.now)))

pub returns-in_ok-narrowed-in-Narrow-clause-did : goal.returns-in_ok-narrowed-in-Narrow-clause-did
returns-in_ok-narrowed-in-Narrow-clause-did g c =
    let words = c.args.words.now in
    let long = part_long words c.min-lent-in-Narrow.result c.in-Narrow.count c.min-lent-in-Narrow.ensures in
    did_same (ap narrow long ∙ sym (ap (asked (length words)) c.in-Narrow.is)) (c.in_ok-narrowed-in-Narrow.ensures.did (g.R.Rule.meaning c.args.rule.now))

pub returns-in_err-narrowed-in-Narrow-clause-did : goal.returns-in_err-narrowed-in-Narrow-clause-did
returns-in_err-narrowed-in-Narrow-clause-did g c =
    let words = c.args.words.now in
    let long = part_long words c.min-lent-in-Narrow.result c.in-Narrow.count c.min-lent-in-Narrow.ensures in
    let p = err_from_is_err_and c.from_residual-in_err-narrowed-in-Narrow.result c.from_residual-in_err-narrowed-in-Narrow.ensures.1 in
    rw (p.1, p.2) (did_same (ap narrow long ∙ sym (ap (asked (length words)) c.in-Narrow.is)) (c.in_err-narrowed-in-Narrow.ensures.did (g.R.Rule.meaning c.args.rule.now)))
