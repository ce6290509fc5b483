use mathlib.Core.Path.{◌∙◌}
use Rattle.captures.proofs.walk.Laws.{pointwise_same, begins_all, begins_short, begins_other, begins_on, rest_short}
use Rattle.captures.proofs.walk.begin_with.Goals as goal

pub returns-in_default-left : goal.returns-in_default-left
returns-in_default-left c = let l = c.loop-rest in begins_short l.left.now l.rest.now c.in-len1-up.len_at_least c.in_default-left.len_below ∙ l.invariant

pub returns-then-byte-next : goal.returns-then-byte-next
returns-then-byte-next c = let l = c.loop-rest in begins_other l.left.now l.rest.now c.in-len1-up.len_at_least c.in-len1-up-left.len_at_least c.if-byte-next.true ∙ l.invariant

pub loop-rest-smaller : goal.loop-rest-smaller
loop-rest-smaller c = rest_short c.loop-rest.rest.now c.in-len1-up.len_at_least

pub loop-rest-preserved : goal.loop-rest-preserved
loop-rest-preserved c = let l = c.loop-rest in begins_on l.left.now l.rest.now c.in-len1-up.len_at_least c.in-len1-up-left.len_at_least c.if-byte-next.false ∙ l.invariant

pub returns : goal.returns
returns c = let l = c.loop-rest in begins_all l.left.now l.rest.now c.in_default.len_below ∙ l.invariant

pub returns-then-piece-ge8 : goal.returns-then-piece-ge8
returns-then-piece-ge8 c = c.starts_with.ensures.value ∙ pointwise_same c.args.piece.now _
