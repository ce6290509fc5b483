use Rattle.std.proofs.Common.{arith}
use Rattle.std.proofs.lemmas.Bool.Decides.{nat_tests}
use Rattle.lent_proxy.specs.State.{limit}
use Rattle.lent_proxy.proofs.state.limit.Goals as goal

pub returns-in-0 : goal.returns-in-0
unfolding limit
returns-in-0 c = grind (arith, nat_tests, c.in-0.is)

pub returns-in-7 : goal.returns-in-7
unfolding limit
returns-in-7 c = grind (arith, nat_tests, c.in-7.is)

pub returns-in-9 : goal.returns-in-9
unfolding limit
returns-in-9 c = grind (arith, nat_tests)

pub returns-in_default : goal.returns-in_default
unfolding limit
returns-in_default c = grind (arith, nat_tests)

pub returns-in_default-2 : goal.returns-in_default-2
unfolding limit
returns-in_default-2 c = grind (arith, nat_tests)
