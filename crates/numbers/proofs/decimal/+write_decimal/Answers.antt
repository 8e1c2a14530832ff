use Rattle.std.proofs.Common.{arith, rules}
use Rattle.numbers.proofs.Digits.{one_digit, one_digit_put, one_digit_more, last_digit_put}
use Rattle.numbers.proofs.decimal.+write_decimal.Goals as goal

pub bounds-buffer-place : goal.bounds-buffer-place
bounds-buffer-place t c = omega (arith, one_digit c.args.n c.if-n-lt10.true)

pub returns-then-n-lt10 : goal.returns-then-n-lt10
returns-then-n-lt10 t c =
    let one = one_digit c.args.n c.if-n-lt10.true in
    record { next = omega arith; after = one_digit_put c.args.buffer.now c.args.place c.args.n c.if-n-lt10.true (omega arith) }

pub write_decimal-last-requires : goal.write_decimal-last-requires
write_decimal-last-requires t c = let more = one_digit_more c.args.n c.if-n-lt10.false (omega arith) in (search rules, omega arith)

pub bounds-buffer-last : goal.bounds-buffer-last
bounds-buffer-last t c = let more = one_digit_more c.args.n c.if-n-lt10.false (omega arith) in omega arith

pub overflow_add-result-2 : goal.overflow_add-result-2
overflow_add-result-2 t c = let more = one_digit_more c.args.n c.if-n-lt10.false (omega arith) in omega arith

pub returns : goal.returns
returns t c =
    let more = one_digit_more c.args.n c.if-n-lt10.false (omega arith) in
    let written = c.write_decimal-last.ensures in
    record {
      next = omega arith;
      after = last_digit_put c.args.buffer.now _ c.args.place c.write_decimal-last.result c.args.n c.if-n-lt10.false (omega arith) c.requires written.next written.after;
    }
