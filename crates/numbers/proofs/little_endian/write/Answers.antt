use Rattle.std.proofs.Common.{rules, sym}
use Rattle.numbers.proofs.Puts.{length_bytes_of, put_span}
use Rattle.numbers.proofs.little_endian.write.Goals as goal

pub returns : goal.returns
returns g c = search (rules, put_span, sym, length_bytes_of)
