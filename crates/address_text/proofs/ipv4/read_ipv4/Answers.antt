use Rattle.std.proofs.Common.{◌≡◌, [], ◌∷◌, ◌++◌, take, arith, eq-eqb, ne_eqb}
use mathlib.Core.Option.{none, some}
use Rattle.protocol.specs.AddressReading.{ipv4_of}
use Rattle.address_text.proofs.ipv4.Texts.{four_stored}
use Rattle.address_text.specs.declared.digits.Radix.TheVariants.{Decimal}
use Rattle.address_text.proofs.digits.Runs.{digits_within}
use Rattle.address_text.proofs.ipv4.Dots.{no_numbers, dot_turn, dots_end}
use Rattle.address_text.proofs.ipv4.read_ipv4.Goals as goal

pub loop-k-init : goal.loop-k-init
loop-k-init c = no_numbers _

pub returns-then-not-mark_at : goal.returns-then-not-mark_at
returns-then-not-mark_at c = rw (rw c.if-not-mark_at.true at (dot_turn c.loop-k.invariant c.read_digits-number.result c.read_digits-number.ensures c.loop-k-test.true c.mark_at.result c.mark_at.ensures)) c.no_address.ensures

pub overflow_cast-bytes : goal.overflow_cast-bytes
overflow_cast-bytes c = let h = digits_within Decimal _ c.read_digits-number.result c.read_digits-number.ensures in omega arith

pub overflow_add-at : goal.overflow_add-at
overflow_add-at c = let h = (rw c.if-not-mark_at.false at (dot_turn c.loop-k.invariant c.read_digits-number.result c.read_digits-number.ensures c.loop-k-test.true c.mark_at.result c.mark_at.ensures)).inside in omega arith

pub overflow_add-at-in-loop-k : goal.overflow_add-at-in-loop-k
overflow_add-at-in-loop-k c = let h = (rw c.if-not-mark_at.false at (dot_turn c.loop-k.invariant c.read_digits-number.result c.read_digits-number.ensures c.loop-k-test.true c.mark_at.result c.mark_at.ensures)).inside in omega arith

pub loop-k-preserved : goal.loop-k-preserved
loop-k-preserved c = rw c.if-not-mark_at.false at (dot_turn c.loop-k.invariant c.read_digits-number.result c.read_digits-number.ensures c.loop-k-test.true c.mark_at.result c.mark_at.ensures)

pub returns-then-number-eq0 : goal.returns-then-number-eq0
returns-then-number-eq0 c = let e : none ≡ ipv4_of _ = rw (eq-eqb _ _ c.if-number-eq0.true) at (dots_end c.loop-k.invariant c.read_digits-number-2.result c.read_digits-number-2.ensures c.loop-k-test.false) in rw (← e) c.no_address-then-number-eq0.ensures

pub returns-then-number-rest : goal.returns-then-number-rest
returns-then-number-rest c =
    let e : none ≡ ipv4_of _ = rw (ne_eqb _ _ c.if-number-eq0.false, ne_eqb _ _ c.if-number-rest.true) at (dots_end c.loop-k.invariant c.read_digits-number-2.result c.read_digits-number-2.ensures c.loop-k-test.false) in
    rw (← e) c.no_address-then-number-rest.ensures

pub overflow_cast-bytes-2 : goal.overflow_cast-bytes-2
overflow_cast-bytes-2 c =
    let d = c.read_digits-number-2 in
    let h = digits_within Decimal _ d.result d.ensures in
    omega arith

pub returns : goal.returns
returns c =
    let l = c.loop-k in
    let d = c.read_digits-number-2.result in
    let e : some (take 3 l.bytes ++ (d.value ∷ [])) ≡ ipv4_of _ =
    rw (ne_eqb _ _ c.if-number-eq0.false, eq-eqb _ _ c.if-number-rest.false) at (dots_end c.loop-k.invariant c.read_digits-number-2.result c.read_digits-number-2.ensures c.loop-k-test.false) in
    rw (← e, four_stored l.bytes d.value l.invariant.sixteen l.invariant.zeros)
