use Rattle.std.proofs.Common.{◌≡◌, ℕ, List, Err, Result, sym, ap, ◌∙◌, arith}
use Rattle.std.proofs.lemmas.List.{at_drop_all}
use Rattle.std.proofs.lemmas.Bool.Decides.{nat_tests}
use Rattle.std.proofs.lemmas.Result.{err_from_is_err_and}
use Rattle.blocks.proofs.Bytes.{Bytes}
use Rattle.paper.specs.Checks.{blocks_checked, paper_checked}
use Rattle.paper.specs.Writing.{WritesBack}
use Rattle.paper.specs.declared.header.Header.{Header}
use Rattle.paper.specs.declared.fault.PaperFault.{PaperFault}
use Rattle.paper.specs.declared.fault.PaperFault.TheVariants.{Length}
use Rattle.paper.proofs.PapersBack.{paper_back}
use Rattle.paper.proofs.Steps.{blocks_step, blocks_counted, paper_blocks}
use Rattle.paper.proofs.check.check_paper.Goals as goal

answers : (paper : List ℕ) (r : Result Header PaperFault) → Bytes paper → r ≡ paper_checked paper → (r ≡ paper_checked paper) × WritesBack paper r
answers paper r each is = (is, λ h ok. paper_back paper h each (sym is ∙ ok))

pub returns-in_default : goal.returns-in_default
unfolding paper_checked
returns-in_default c =
    let a = answers c.args.paper.now (Err Length) (λ i. (c.type_inv.paper i).fits) (grind (arith, nat_tests)) in
    record { answer = a.0; written_back = a.1 }

pub loop-i-preserved : goal.loop-i-preserved
loop-i-preserved c =
    let count = blocks_counted c.args.paper.now _ c.in-Some.ensures in
    sym (blocks_step _ _ _ _ _ c.loop-i-test.true (omega arith) (sym c.in_ok-check_block.ensures)) ∙ c.loop-i.invariant

pub returns-in_err-check_block : goal.returns-in_err-check_block
returns-in_err-check_block c =
    let p = err_from_is_err_and c.from_residual.result c.from_residual.ensures.1 in
    let count = blocks_counted c.args.paper.now _ c.in-Some.ensures in
    let a =
    answers c.args.paper.now c.from_residual.result (λ i. (c.type_inv.paper i).fits)
    (p.1 ∙ ap Err p.2
    ∙ sym (blocks_step _ _ _ _ _ c.loop-i-test.true (omega arith) (sym c.in_err-check_block.ensures))
    ∙ c.loop-i.invariant
    ∙ ap (blocks_checked _ 0) c.as_chunks.ensures.front
    ∙ paper_blocks _ _ _ c.in-Some.ensures c.read-header.ensures) in
    record { answer = a.0; written_back = a.1 }

pub returns : goal.returns
returns c =
    let a =
    answers c.args.paper.now _ (λ i. (c.type_inv.paper i).fits)
    (sym (at_drop_all (blocks_checked _ _) _ _ c.loop-i-test.false)
    ∙ c.loop-i.invariant
    ∙ ap (blocks_checked _ 0) c.as_chunks.ensures.front
    ∙ paper_blocks _ _ _ c.in-Some.ensures c.read-header.ensures) in
    record { answer = a.0; written_back = a.1 }
