use Rattle.std.proofs.Common.{◌-◌, length, arith}
use native.Mathlib.Nat.{one-le-pow}
use Rattle.rules.proofs.Prefixes.{number_none, number_more, power_more, power_low}
use Rattle.rules.proofs.plain_number.first_number.Goals as goal

pub loop-i-init : goal.loop-i-init
loop-i-init c = (
  number_none c.args.key.now (length c.args.key.now) (omega arith),
  omega (arith, one-le-pow (8 - length c.args.key.now) 256 (omega arith)),
  omega arith,
)

pub overflow_mul-number : goal.overflow_mul-number
overflow_mul-number c = omega (arith, power_low c.loop-i.i c.loop-i.number c.loop-i-test.true c.loop-i.invariant.1)

pub loop-i-preserved : goal.loop-i-preserved
loop-i-preserved c = (
  omega (arith, number_more c.args.key.now c.loop-i.i c.loop-i.number c.loop-i-test.true (omega arith) c.loop-i.invariant.0),
  power_more c.loop-i.i c.loop-i.number _ c.loop-i-test.true c.loop-i.invariant.2 c.loop-i.invariant.1 (omega (arith, c.type_inv.key (c.loop-i.i - 1))),
  omega arith,
)
