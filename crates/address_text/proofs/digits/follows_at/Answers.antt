use Rattle.std.proofs.Common.{sym, ◌∙◌, arith, eq-eqb, ne_eqb}
use Rattle.protocol.proofs.AddressDigits.{mark_is}
use Rattle.protocol.specs.AddressReading.{follows_at}
use Rattle.address_text.proofs.digits.follows_at.Goals as goal

pub returns-then-count-eq0 : goal.returns-then-count-eq0
unfolding follows_at
returns-then-count-eq0 c = simp (eq-eqb _ _ c.if-count-eq0.true)

pub returns-then-count-text : goal.returns-then-count-text
unfolding follows_at
returns-then-count-text c = simp (ne_eqb _ _ c.if-count-eq0.false, eq-eqb _ _ c.if-count-text.true)

pub returns-then-mark_at : goal.returns-then-mark_at
unfolding follows_at
returns-then-mark_at c = simp (ne_eqb _ _ c.if-count-eq0.false, ne_eqb _ _ c.if-count-text.false, ← c.mark_at.ensures, c.if-mark_at.true)

pub overflow_add-count : goal.overflow_add-count
overflow_add-count c =
    let m = (mark_is 0x3A _ _ (sym c.mark_at-2.ensures ∙ c.if-mark_at-2.true)).inside in
    omega arith

pub returns-then-mark_at-3 : goal.returns-then-mark_at-3
unfolding follows_at
returns-then-mark_at-3 c = simp (ne_eqb _ _ c.if-count-eq0.false, ne_eqb _ _ c.if-count-text.false, ← c.mark_at.ensures, c.if-mark_at.false, ← c.mark_at-2.ensures, c.if-mark_at-2.true, ← c.mark_at-then-mark_at-2.ensures, c.if-mark_at-3.true)

pub returns-then-mark_at-2 : goal.returns-then-mark_at-2
unfolding follows_at
returns-then-mark_at-2 c = simp (ne_eqb _ _ c.if-count-eq0.false, ne_eqb _ _ c.if-count-text.false, ← c.mark_at.ensures, c.if-mark_at.false, ← c.mark_at-2.ensures, c.if-mark_at-2.true, ← c.mark_at-then-mark_at-2.ensures, c.if-mark_at-3.false)

pub returns : goal.returns
unfolding follows_at
returns c = simp (ne_eqb _ _ c.if-count-eq0.false, ne_eqb _ _ c.if-count-text.false, ← c.mark_at.ensures, c.if-mark_at.false, ← c.mark_at-2.ensures, c.if-mark_at-2.false)
