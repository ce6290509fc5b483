use borrow.Author.Tests.{lt-ltb, le-ltb}
use Rattle.lent_proxy.specs.State.{stage_at}
use Rattle.lent_proxy.proofs.state.stage_at.Goals as goal

pub returns-then-code-ge96 : goal.returns-then-code-ge96
unfolding stage_at
returns-then-code-ge96 c = simp (le-ltb _ _ c.if-code-ge96.true)

pub returns-then-kept-limit : goal.returns-then-kept-limit
unfolding stage_at
returns-then-kept-limit c = simp (lt-ltb _ _ c.if-code-ge96.false, ← c.limit.ensures, lt-ltb _ _ c.if-kept-limit.true)

pub returns : goal.returns
unfolding stage_at
returns c = simp (lt-ltb _ _ c.if-code-ge96.false, ← c.limit.ensures, le-ltb _ _ c.if-kept-limit.false)
