use Rattle.std.proofs.Common.{◌≡◌, ◌≤◌, length, take, Ok, Err, Result, rules}
use Rattle.paper.specs.declared.header.Header.{Header}
use Rattle.paper.specs.declared.fault.PaperFault.{PaperFault}
use Rattle.paper.specs.Checks.{paper_checked}
use Rattle.paper.specs.Reading.{paper_records}
use Rattle.run.proofs.Printing.{ran_unsound, ran_sound}
use Rattle.run.proofs.print.print_sound.Goals as goal

pub returns-in_err-header : goal.returns-in_err-header
returns-in_err-header c =
    let paper = c.args.paper.now in
    let roomy : 68400 ≤ length c.args.out.now = search rules in
    let front : c.in_ok-out.out.now ≡ take 68400 c.args.out.now = search rules in
    let so : ◌≡◌ {A = Result Header PaperFault} (paper_checked paper) (Err c.in_err-header.field-0.0) = search rules in
    ran_unsound c.args.out.now c.in_ok-out.out.now (paper_checked paper) (paper_records paper) c.in_err-header.field-0.0 c.from_residual-in_err-header.result roomy front so (search rules)

pub returns : goal.returns
returns c =
    let paper = c.args.paper.now in
    let roomy : 68400 ≤ length c.args.out.now = search rules in
    let front : c.in_ok-out.out.now ≡ take 68400 c.args.out.now = search rules in
    let so : ◌≡◌ {A = Result Header PaperFault} (paper_checked paper) (Ok c.in_ok-header.header) = search rules in
    ran_sound c.args.out.now c.in_ok-out.out.now c.write_by_kind.new.out (paper_checked paper) (paper_records paper) c.in_ok-header.header c.write_by_kind.result roomy front so c.write_by_kind.ensures
