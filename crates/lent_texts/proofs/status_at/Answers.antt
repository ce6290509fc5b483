use Rattle.std.proofs.Common.{arith}
use Rattle.std.proofs.lemmas.Bool.Decides.{nat_tests}
use Rattle.lent_texts.proofs.Laws.{picks5, picks4}
use Rattle.lent_texts.proofs.status_at.Goals as goal

pub returns-in-0-to-8 : goal.returns-in-0-to-8
returns-in-0-to-8 c = picks5 c.ranges.status.fits c.in-5.is (grind (arith, nat_tests))

pub returns-in_default-status : goal.returns-in_default-status
returns-in_default-status c = picks5 c.ranges.status.fits c.in-5.is (grind (arith, nat_tests))

pub returns-in-90-to-93 : goal.returns-in-90-to-93
returns-in-90-to-93 c = picks4 c.ranges.status.fits (λ q. omega (arith, q)) (grind (arith, nat_tests))

pub returns-in_default-status-2 : goal.returns-in_default-status-2
returns-in_default-status-2 c = picks4 c.ranges.status.fits (λ q. omega (arith, q)) (grind (arith, nat_tests))

pub returns-in_default-status-2-2 : goal.returns-in_default-status-2-2
returns-in_default-status-2-2 c = picks4 c.ranges.status.fits (λ q. omega (arith, q)) (grind (arith, nat_tests))
