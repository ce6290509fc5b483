use Rattle.std.proofs.Common.{◌≡◌, length, sym, ◌∙◌, arith}
use lib.Seq.{drop-length}
use native.Mathlib.Numerals.{add-one}
use native.Mathlib.Nat.{pow-le-pow_right}
use Rattle.address_format.proofs.numerals.Reading.{digit_more, no_digit}
use Rattle.address_format.specs.numerals.Read.{digits_from}
use Rattle.address_format.proofs.numerals.read.digits_of.Goals.{Else-not-is_ascii_digit}
use Rattle.address_format.proofs.numerals.read.digits_of.Goals as goal

pub returns-then-not-is_ascii_digit : goal.returns-then-not-is_ascii_digit
returns-then-not-is_ascii_digit c = no_digit _ _ c.loop-b.value c.loop-b-test.true (sym c.is_ascii_digit.ensures.value ∙ c.if-not-is_ascii_digit.true) ∙ c.loop-b.invariant.1

pub overflow_mul-value : goal.overflow_mul-value
overflow_mul-value c = omega (arith, pow-le-pow_right {n = 10} (omega arith) {i = c.loop-b.b-index} {j = 17} (omega (arith, c.loop-b-test.true, c.requires)))

pub overflow_add-value : goal.overflow_add-value
overflow_add-value c = omega (arith, pow-le-pow_right {n = 10} (omega arith) {i = c.loop-b.b-index} {j = 17} (omega (arith, c.loop-b-test.true, c.requires)))

pub loop-b-preserved : goal.loop-b-preserved
loop-b-preserved c =
    let l = c.loop-b in
    let digit = sym c.is_ascii_digit.ensures.value ∙ c.if-not-is_ascii_digit.false in
    (rw (add-one l.b-index) (omega (arith, c.if-not-is_ascii_digit.ensures)), rw c.from.ensures (digit_more _ _ l.value c.loop-b-test.true digit ∙ l.invariant.1))

pub returns : goal.returns
unfolding digits_from
returns c = let e : c.loop-b.b-index ≡ length c.args.text.now = omega arith in rw (e, drop-length) at c.loop-b.invariant.1
