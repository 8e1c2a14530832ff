use Rattle.std.proofs.Common.{◌^◌, ◌<◌, ap, ◌∙◌, arith, rules}
use Rattle.table.specs.Requests.{asked}
use Rattle.run.proofs.Calling.{called}
use Rattle.run.proofs.call.call_line.Goals as goal

pub returns : goal.returns
returns g c = λ b keeps.
    let narrow : c.from-2.result < 2 ^ 32 = omega arith in
    called g.T.Tally.kind (g.R.Rule.meaning c.args.rule.now) g.T.Figured.shown g.T.Figured.made c.args.table.now c.call-answer.new.self b c.args.record.now
    _ c.call-answer.result c.figures_after-first.result c.args.place c.from.result c.from-2.result keeps
    (ap (λ n. asked n c.request_of-request.result) (search rules) ∙ c.request_of-request.ensures)
    c.call-answer.ensures.did (c.figures_after-first.ensures _) (c.from.ensures ∙ c.number_of.ensures) c.from-2.ensures narrow
