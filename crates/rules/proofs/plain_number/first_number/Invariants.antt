use Rattle.std.proofs.Common.{◌≡◌, ◌-◌, ◌^◌, ◌<◌, ◌≤◌, take, drop}
use Rattle.numbers.specs.LittleEndian.{number}
use Rattle.rules.proofs.plain_number.first_number.Given as goal

abbrev pub invariant-loop-i : goal.invariant-loop-i
invariant-loop-i l = (l.number ≡ number (drop l.i (take 8 l.key))) × (l.number < 256 ^ (8 - l.i)) × (l.i ≤ 8)
