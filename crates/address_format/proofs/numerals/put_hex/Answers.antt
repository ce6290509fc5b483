use Rattle.std.proofs.Common.{arith}
use Rattle.address_format.proofs.numerals.Laws.{nothing, digits}
use Rattle.address_format.specs.numerals.Digits.{hex_of}
use Rattle.address_format.proofs.numerals.put_hex.Goals as goal

pub loop-b-init : goal.loop-b-init
unfolding hex_of
loop-b-init c = (omega arith, nothing _ _)

pub loop-b-preserved : goal.loop-b-preserved
loop-b-preserved c =
    let l = c.loop-b in
    (omega arith, digits c.args.s.now l.b-index c.hex_digit.result c.hex_digit-in-loop-b.result l.invariant.1 (omega arith) c.loop-b-test.true c.hex_digit.ensures c.hex_digit-in-loop-b.ensures)
