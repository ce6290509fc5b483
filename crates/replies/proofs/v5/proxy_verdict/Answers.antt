use borrow.Author.Tests.{eq-eqb, ne_eqb}
use Rattle.protocol.specs.Replies.{proxy_verdict}
use Rattle.replies.proofs.v5.proxy_verdict.Goals as goal

pub returns-then-rep-ne0 : goal.returns-then-rep-ne0
unfolding proxy_verdict
returns-then-rep-ne0 c = simp (← c.name_allowed.ensures, c.if-name_allowed.true, ne_eqb _ _ c.if-rep-ne0.true)

pub returns-then-name_allowed : goal.returns-then-name_allowed
unfolding proxy_verdict
returns-then-name_allowed c = simp (← c.name_allowed.ensures, c.if-name_allowed.true, eq-eqb _ _ c.if-rep-ne0.false)

pub returns : goal.returns
unfolding proxy_verdict
returns c = simp (← c.name_allowed.ensures, c.if-name_allowed.false)
