use Rattle.std.proofs.Common.{◌≤◌, arith, mul-le-mul}
use Rattle.run.proofs.Papers.{header_sound, shape_limits}
use Rattle.run.proofs.sound.SoundPaper.shape.Goals as goal

pub invariant_of-result : goal.invariant_of-result
invariant_of-result c =
    let paper = c.args.self.now in
    let fit = shape_limits paper.header (header_sound paper.bytes.now paper.header paper.sound) in
    record { ok = (omega arith, omega arith, omega arith, omega arith, omega arith) }

pub returns-clause-few : goal.returns-clause-few
returns-clause-few c =
    let paper = c.args.self.now in
    let fit = shape_limits paper.header (header_sound paper.bytes.now paper.header paper.sound) in
    let low : c.from.result ≤ 256 = omega (arith, fit.few) in
    let small : c.from-2.result ≤ 8 = omega (arith, fit.narrow) in
    mul-le-mul low small
