use Rattle.std.proofs.Common.{◌∷◌, ◌++◌, refl, ap, ◌∙◌, arith}
use Rattle.numbers.specs.LittleEndian.{bytes_of}
use Rattle.paper.specs.Records.{code_of}
use Rattle.paper_writer.proofs.Fills.{record_filled}
use Rattle.paper_writer.proofs.block.write_record.Goals as goal

pub returns : goal.returns
returns c =
    let e = c.args.entry.now in
    let key = c.copy_from_slice.new.self in
    let amounts = bytes_of 4 e.packets ++ bytes_of 8 e.octets in
    record_filled c.args.part.now _ _ key (bytes_of 4 e.packets) (bytes_of 8 e.octets) c.code.result (omega arith) (omega arith) refl refl c.write.ensures c.write-2.ensures
    ∙ ap (λ n. n ∷ (key ++ amounts)) c.code.ensures
    ∙ ap (λ k. code_of e.call ∷ (k ++ amounts)) c.copy_from_slice.ensures.after
