use Rattle.std.proofs.Common.{arith}
use Rattle.std.proofs.lemmas.Fmt.{length-decimal-le}
use Rattle.leaves_test.proofs.number_tests.decimal_among_dots.Goals as goal

pub write_decimal-next-requires : goal.write_decimal-next-requires
write_decimal-next-requires c = omega (arith, length-decimal-le 20 c.args.n (omega arith) (omega arith) (omega arith))
