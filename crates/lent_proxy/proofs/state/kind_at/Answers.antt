use Rattle.std.proofs.Common.{arith}
use Rattle.std.proofs.lemmas.Bool.Decides.{nat_tests}
use Rattle.lent_proxy.specs.State.{kind_at}
use Rattle.lent_proxy.proofs.state.kind_at.Goals as goal

pub returns-in-1 : goal.returns-in-1
unfolding kind_at
returns-in-1 c = grind (arith, nat_tests, c.in-1.is)

pub returns-in-2 : goal.returns-in-2
unfolding kind_at
returns-in-2 c = grind (arith, nat_tests, c.in-2.is)

pub returns-in_default : goal.returns-in_default
unfolding kind_at
returns-in_default c = grind (arith, nat_tests)
