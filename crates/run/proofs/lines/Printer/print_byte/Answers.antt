use Rattle.std.proofs.Common.{refl, arith}
use Rattle.numbers.proofs.Puts.{put_byte}
use Rattle.run.proofs.lines.Printer.print_byte.Goals as goal

pub returns : goal.returns
returns c = record { next = refl; after = put_byte c.args.self.now.out.now c.args.self.now.at c.args.byte (omega arith); lent = refl }
