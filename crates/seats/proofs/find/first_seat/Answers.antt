use Rattle.std.proofs.Common.{◌+◌, ◌*◌, ◌<◌, true, false, get_or, sym, refl, ap, ◌∙◌, subst, arith, below_more}
use Rattle.std.proofs.lemmas.Fn.{says_at}
use Rattle.std.proofs.lemmas.List.{get_or_read}
use Rattle.std.proofs.lemmas.List.Edits.{get_or-between}
use Rattle.std.specs.Fn.{FnReturnsAt}
use Rattle.seats.specs.declared.seat.Seat.{Seat}
use Rattle.seats.specs.Seats.{vacant}
use Rattle.seats.proofs.Rows.{read_row}
use Rattle.seats.proofs.find.first_seat.Goals as goal

pub loop-row-preserved : goal.loop-row-preserved
loop-row-preserved g c =
    let rows = c.in_ok-rows.rows.now in
    below_more _ _ c.loop-row.invariant
    (subst (λ (s : Seat g.row.T.Denot). FnReturnsAt g.F.Fn c.args.test s false)
    (get_or_read rows c.loop-row.row c.index-rows-row.result c.loop-row-test.true c.index-rows-row.is (vacant g.T.Tally.kind.empty)) (says_at g.F.Fn c.test.ensures c.if-test.false))

pub returns-then-test : goal.returns-then-test
returns-then-test g c =
    let seats = c.args.seats.now in
    let rows = c.in_ok-rows.rows.now in
    let first = c.args.bucket * c.args.shape.most in
    let row = c.loop-row.row in
    let (part, _) = c.in_ok-rows.ensures.lookup in
    let (within, there) = read_row g.T.Tally.kind.empty seats rows first c.min-end.result row c.index-rows-row.result part.2 (omega arith) c.loop-row-test.true c.index-rows-row.is in
    ((row, omega arith, refl), omega arith, subst (λ (s : Seat g.row.T.Denot). FnReturnsAt g.F.Fn c.args.test s true) there (says_at g.F.Fn c.test.ensures c.if-test.true))

pub returns : goal.returns
returns g c = λ i (row, low, lies) inside.
    let none = vacant g.T.Tally.kind.empty in
    let seats = c.args.seats.now in
    let rows = c.in_ok-rows.rows.now in
    let first = c.args.bucket * c.args.shape.most in
    let (part, _) = c.in_ok-rows.ensures.lookup in
    let within : first + row < c.min-end.result = omega arith in
    subst (λ (s : Seat g.row.T.Denot). FnReturnsAt g.F.Fn c.args.test s false)
    (ap (λ xs. get_or xs row none) part.2 ∙ get_or-between seats first c.min-end.result row none within ∙ ap (λ j. get_or seats j none) (sym lies))
    (c.loop-row.invariant row (omega arith))
