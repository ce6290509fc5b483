use mathlib.Core.Path.{sym, ap, ◌∙◌}
use mathlib.Core.Bool.{Bool, ◌&&◌}
use lib.Dec.{eqb}
use Rattle.captures.proofs.walk.Rows.{goes_on, unlawful, over}
use Rattle.captures.proofs.walk.walk.Goals as goal

pub returns-then-not-pass : goal.returns-then-not-pass
returns-then-not-pass c = unlawful c.loop-entry.invariant c.in-Some.entry.behind.now c.in-Some.ensures.entry c.if-not-pass.true c.pass.ensures

pub loop-entry-preserved : goal.loop-entry-preserved
loop-entry-preserved c = goes_on c.loop-entry.invariant c.in-Some.entry.behind.now c.in-Some.ensures.entry c.if-not-pass.false c.pass.ensures

pub returns-then-is_open : goal.returns-then-is_open
returns-then-is_open c es q =
    let o = c.loop-entry.course in
    ap (λ (t : Bool). t && eqb o.sent o.due) (sym c.if-is_open.true ∙ c.is_open.ensures) ∙ over c.loop-entry.invariant c.in_default.ensures.none es q

pub returns-else-is_open : goal.returns-else-is_open
returns-else-is_open c es q =
    let o = c.loop-entry.course in
    c.if-is_open.false ∙ ap (λ (t : Bool). t && eqb o.sent o.due) (sym c.if-is_open.false ∙ c.is_open.ensures) ∙ over c.loop-entry.invariant c.in_default.ensures.none es q
