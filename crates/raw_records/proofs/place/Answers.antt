use native.Mathlib.Omega.{arith}
use mathlib.Core.Path.{refl, sym, ◌∙◌}
use Rattle.raw_records.proofs.Laws.{skipped}
use Rattle.raw_records.proofs.place.Goals as goal

pub loop-at-init : goal.loop-at-init
loop-at-init c = (omega arith, refl)

pub returns-then-serves : goal.returns-then-serves
returns-then-serves c =
    let l = c.loop-at in
    record { inside = l.invariant.0; skips = l.invariant.1; serves = λ h. sym c.serves.ensures ∙ c.if-serves.true }

pub loop-at-preserved : goal.loop-at-preserved
loop-at-preserved c =
    let a = c.args in
    let l = c.loop-at in
    (omega arith, skipped a.four a.records.now l.at c.loop-at-test.true (sym c.serves.ensures ∙ c.if-serves.false) ∙ l.invariant.1)

pub returns : goal.returns
returns c =
    let l = c.loop-at in
    record { inside = l.invariant.0; skips = l.invariant.1; serves = λ h. absurd (omega arith) }
