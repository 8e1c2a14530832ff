use Rattle.run.proofs.Printing.{sound_answered, fault_answered}
use Rattle.run.proofs.print.print_paper.Goals as goal

pub returns-in-Ok : goal.returns-in-Ok
returns-in-Ok c =
    let told = sound_answered c.args.paper.now c.args.out.now c.print_sound.new.out c.in-Ok.n c.in-Ok.ensures in
    record { answer = told.answer; after = told.after }

pub returns-in-Err-InPaper : goal.returns-in-Err-InPaper
returns-in-Err-InPaper c =
    let told = fault_answered c.args.paper.now c.args.out.now c.print_sound.new.out c.in-Err-InPaper.field-0 c.in-Err-InPaper.fault c.in-Err-InPaper.field-0-is c.write_fault.new.out c.write_fault.result c.in-Err-InPaper.ensures c.write_fault.ensures in
    record { answer = told.answer; after = told.after }
