use Rattle.std.proofs.Common.{◌≡◌, ℕ, ◌+◌, ◌*◌, ◌<◌, Bool, cond, List, length, drop, sym, ◌∙◌, arith}
use Rattle.protocol.specs.Bytes.{byte}
use Rattle.protocol.specs.AddressReading.{hex_value, digits_from}
use Rattle.address_text.specs.declared.digits.Radix.{Radix}
use Rattle.address_text.specs.digits.Digits.{goes_by, radix_of, digits_of}
use Rattle.address_text.proofs.digits.Runs.{digits_step, digits_end, digits_all, within_none, within_small, within_more, digit_small}
use Rattle.address_text.proofs.digits.read_digits.Goals as goal

-- what is left to read from a digit on, by its own test
turn : (b : Radix) (s : List ℕ) (v n d : ℕ) (g : Bool) → n < length s → d ≡ hex_value (byte s n) → g ≡ goes_by b v n d
    → digits_from (goes_by b) (radix_of b) v n (drop n s) ≡ digits_of b s
    → cond g (digits_from (goes_by b) (radix_of b) (v * radix_of b + d) (n + 1) (drop (n + 1) s)) (record { count = n; value = v }) ≡ digits_of b s
turn b s v n d g h p q i = rw (q, p) (sym (digits_step (goes_by b) (radix_of b) v n s h) ∙ i)

pub loop-count-init : goal.loop-count-init
loop-count-init c =
    let a = c.args in
    (within_none a.radix, digits_all a.radix a.text.now)

pub goes-requires : goal.goes-requires
goes-requires c =
    let l = c.loop-count in
    within_small c.args.radix l.value l.count l.invariant.0

pub returns-then-not-goes : goal.returns-then-not-goes
returns-then-not-goes c = rw c.if-not-goes.true at (turn c.args.radix c.args.text.now c.loop-count.value c.loop-count.count c.hex_value-digit.result c.goes.result c.loop-count-test.true c.hex_value-digit.ensures c.goes.ensures c.loop-count.invariant.1)

pub with_digit-value-requires : goal.with_digit-value-requires
with_digit-value-requires c =
    let b = c.args.radix in
    let l = c.loop-count in
    (within_small b l.value l.count l.invariant.0, digit_small b l.value l.count c.hex_value-digit.result (sym c.goes.ensures ∙ c.if-not-goes.false))

pub loop-count-preserved : goal.loop-count-preserved
loop-count-preserved c =
    let b = c.args.radix in
    let l = c.loop-count in
    rw c.with_digit-value.ensures
    (within_more b l.value l.count c.hex_value-digit.result (sym c.goes.ensures ∙ c.if-not-goes.false) l.invariant.0, rw c.if-not-goes.false at (turn c.args.radix c.args.text.now c.loop-count.value c.loop-count.count c.hex_value-digit.result c.goes.result c.loop-count-test.true c.hex_value-digit.ensures c.goes.ensures c.loop-count.invariant.1))

pub returns : goal.returns
returns c =
    let a = c.args in
    let l = c.loop-count in
    let e : l.count ≡ length a.text.now = omega arith in
    rw e at (sym (digits_end (goes_by a.radix) (radix_of a.radix) l.value l.count a.text.now c.loop-count-test.false) ∙ l.invariant.1)
