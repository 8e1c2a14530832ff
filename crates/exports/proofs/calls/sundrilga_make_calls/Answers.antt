use Rattle.std.proofs.Common.{◌*◌, ◌/◌, ◌≤◌, min, cond, length, is_some, sym, ap, subst, mul-le-mul, arith}
use Rattle.numbers.proofs.Puts.{put_none}
use Rattle.exports.proofs.calls.sundrilga_make_calls.Goals as goal

pub slice_bounds-seats-end : goal.slice_bounds-seats-end
slice_bounds-seats-end c =
    let ok = c.in-Ok.shape.ok in
    let same = c.in-Ok.ensures in
    let low : c.args.buckets * c.args.most ≤ 4096 * 8 = mul-le-mul (subst (λ n. n ≤ 4096) same.1 ok.1) (subst (λ n. n ≤ 8) same.2 ok.4) in
    omega arith

pub returns-in-Err : goal.returns-in-Err
returns-in-Err c = record {
  made = ap (λ o. cond (is_some o) 0 (min (length c.args.calls.now / 5) (length c.args.numbers.now))) (sym c.in-Err.ensures);
  after = put_none c.args.numbers.now;
}
