use Rattle.std.proofs.Common.{◌≡◌, ◌+◌, ◌<◌, length, take, drop, sym, refl, ap, ◌∙◌, subst, rules, arith}
use borrow.Author.Rules.{scaled_Fits}
use Rattle.std.proofs.lemmas.List.{drop-drop, drop-set-lt}
use Rattle.table.specs.Tables.{Did}
use Rattle.table.specs.Requests.{asked}
use Rattle.replay.specs.Replayed.{all_asked, Replayed}
use Rattle.replay.proofs.Accounts.{account}
use Rattle.replay.proofs.Replaying.{replayed_none, replayed_more}
use Rattle.replay.proofs.replay.Goals as goal

pub loop-i-init : goal.loop-i-init
loop-i-init g c = (refl, replayed_none _ _ _)

pub offset_bounds-answers-i : goal.offset_bounds-answers-i
offset_bounds-answers-i g c = scaled_Fits c.loop-i.i (length c.args.answers.now) _ (omega arith) (search rules)

pub loop-i-preserved : goal.loop-i-preserved
loop-i-preserved g c =
    let k = g.T.Tally.kind in
    let rule = g.R.Rule.meaning c.args.rule.now in
    let i = c.loop-i.i in
    let xs = c.loop-i.answers in
    let low : i < length c.args.requests.now = omega arith in
    let room : i < length xs = omega arith in
    let past : i < i + 1 = omega arith in
    let did = subst (λ n. Did k rule c.loop-i.table (asked n c.index-requests-i.result) c.call.result c.call.new.self) c.loop-i.auto.words c.call.ensures.did in (
      drop-set-lt (i + 1) xs i c.call.result past ∙ sym (drop-drop 1 i xs) ∙ ap (drop 1) c.loop-i.invariant.0 ∙ drop-drop 1 i c.args.answers.now,
      replayed_more k rule c.args.table.now c.loop-i.table c.call.new.self (length c.args.words.now) i c.args.requests.now c.index-requests-i.result
          xs _ c.call.result low c.index-requests-i.is room refl c.loop-i.invariant.1 did,
    )

pub returns : goal.returns
returns g c =
    let k = g.T.Tally.kind in
    let rule = g.R.Rule.meaning c.args.rule.now in
    let all : c.loop-i.i ≡ c.min-count.result = omega arith in
    record {
      made = c.min-count.ensures;
      replayed = subst (λ n. Replayed k rule c.args.table.now (all_asked (length c.args.words.now) (take n c.args.requests.now)) (take n c.loop-i.answers) c.loop-i.table) all c.loop-i.invariant.1;
      rest = subst (λ n. drop n c.loop-i.answers ≡ drop n c.args.answers.now) all c.loop-i.invariant.0;
      account = account k rule;
    }
