use Rattle.std.proofs.Common.{◌<◌, ◌/◌, length, ap, arith}
use native.Mathlib.Nat.{div-lt_self, mod-lt}
use Rattle.address_format.proofs.numerals.Laws.{then, one_digit, last_digit, one_more}
use Rattle.address_format.proofs.numerals.+put_digits.Goals as goal

pub put_digit-requires : goal.put_digit-requires
put_digit-requires t c =
    let e = ap length (one_digit c.args.base c.args.n c.if-n-base.true) in
    (omega arith, omega arith)

pub returns-then-n-base : goal.returns-then-n-base
returns-then-n-base t c = rw (one_digit c.args.base c.args.n c.if-n-base.true) c.put_digit.ensures

pub put_digits-end-requires : goal.put_digits-end-requires
put_digits-end-requires t c =
    let e = one_more c.args.base c.args.n (omega arith) (omega arith) (omega arith) in
    let f : c.args.n / c.args.base < c.args.n = div-lt_self (omega arith) (omega arith) in
    (omega arith, (omega arith, (omega arith, omega arith)))

pub put_digit-requires-2 : goal.put_digit-requires-2
put_digit-requires-2 t c =
    let e = one_more c.args.base c.args.n (omega arith) (omega arith) (omega arith) in
    (omega (arith, mod-lt c.args.n {m = c.args.base} (omega arith)), omega arith)

pub returns : goal.returns
returns t c = rw (last_digit c.args.base c.args.n (omega arith) (omega arith) (omega arith)) (then c.put_digits-end.ensures c.put_digit-2.ensures)
