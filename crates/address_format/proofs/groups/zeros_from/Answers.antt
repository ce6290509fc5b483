use borrow.Author.Tests.{eq-eqb, ne_eqb}
use native.Mathlib.Numerals.{add-one}
use Rattle.address_format.proofs.groups.zeros_from.Goals as goal

pub returns-then-group-eq0 : goal.returns-then-group-eq0
returns-then-group-eq0 c = rw (eq-eqb _ _ c.if-group-eq0.true) (add-one _)

pub returns-else-group-eq0 : goal.returns-else-group-eq0
returns-else-group-eq0 c = rw (ne_eqb _ _ c.if-group-eq0.false)
