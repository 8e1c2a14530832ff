use Rattle.std.proofs.Common.{sym, arith}
use Rattle.paper.proofs.Sound.{sound_counted}
use Rattle.paper.proofs.ToCome.{come_block}
use Rattle.paper.proofs.reader.Reader.new.Goals as goal

pub invariant_of-result : goal.invariant_of-result
invariant_of-result c = record { sound = c.requires; inside = omega arith; within = λ inside. let k = sound_counted c.args.paper.now 0 c.requires in let some = (k.told inside).some in let count = k.count inside in omega arith }

pub returns : goal.returns
returns c = sym (come_block c.args.paper.now 0)
