use Rattle.std.proofs.Common.{sym, ◌∙◌, subst}
use Rattle.std.specs.List.{AllByRecursion}
use Rattle.std.proofs.ByRecursion.{All-more}
use Rattle.std.proofs.lemmas.List.{at_drop_all, take_all}
use Rattle.std.proofs.lemmas.Bool.{false≢true}
use Rattle.paper.specs.Records.{Held}
use Rattle.paper_writer.specs.Refusing.{records_checked}
use Rattle.paper_writer.proofs.Refusals.{records_step}
use Rattle.paper_writer.proofs.check.check_records.Goals as goal

pub returns-then-not-fits : goal.returns-then-not-fits
returns-then-not-fits c =
    record {
      answer = sym (records_step _ _ _ _ _ c.loop-k-test.true (sym c.if-not-fits.ensures.value)) ∙ c.loop-k.invariant.0;
      held = λ is. absurd (false≢true is);
    }

pub loop-k-preserved : goal.loop-k-preserved
loop-k-preserved c = (
  sym (records_step _ _ _ _ _ c.loop-k-test.true (sym c.if-not-fits.ensures.value)) ∙ c.loop-k.invariant.0,
  All-more Held c.args.records.now.all.now c.loop-k.k _ c.loop-k-test.true c.loop-k.invariant.1 c.if-not-fits.ensures.held,
)

pub returns : goal.returns
returns c =
    record {
      answer = sym (at_drop_all (records_checked _ _) _ _ c.loop-k-test.false) ∙ c.loop-k.invariant.0;
      held = λ _. subst (AllByRecursion Held) (take_all c.loop-k.k c.args.records.now.all.now c.loop-k-test.false) c.loop-k.invariant.1;
    }
