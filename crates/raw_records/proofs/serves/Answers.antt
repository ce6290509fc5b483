use borrow.Author.Tests.{eq-eqb, ne_eqb}
use Rattle.raw_records.specs.Records.{serves_number}
use Rattle.raw_records.proofs.serves.Goals as goal

pub returns-then-n-eq4 : goal.returns-then-n-eq4
unfolding serves_number
returns-then-n-eq4 c = simp (eq-eqb _ _ c.if-n-eq4.true)

pub returns : goal.returns
unfolding serves_number
returns c = simp (ne_eqb _ _ c.if-n-eq4.false)
