use Rattle.std.proofs.Common.{arith}
use Rattle.std.proofs.lemmas.Bool.Decides.{nat_tests}
use Rattle.lent_proxy.specs.State.{field_of}
use Rattle.lent_proxy.proofs.state.field_of.Goals as goal

pub returns-in-1 : goal.returns-in-1
unfolding field_of
returns-in-1 c = grind (arith, nat_tests, c.in-1.is)

pub returns-in-2 : goal.returns-in-2
unfolding field_of
returns-in-2 c = grind (arith, nat_tests, c.in-2.is)

pub returns-in-3 : goal.returns-in-3
unfolding field_of
returns-in-3 c = grind (arith, nat_tests, c.in-3.is)

pub returns-in-4 : goal.returns-in-4
unfolding field_of
returns-in-4 c = grind (arith, nat_tests, c.in-4.is)

pub returns-in-5 : goal.returns-in-5
unfolding field_of
returns-in-5 c = grind (arith, nat_tests, c.in-5.is)

pub returns-in-6 : goal.returns-in-6
unfolding field_of
returns-in-6 c = grind (arith, nat_tests, c.in-6.is)

pub returns-in-7 : goal.returns-in-7
unfolding field_of
returns-in-7 c = grind (arith, nat_tests, c.in-7.is, c.low.ensures, c.low-in-7.ensures)

pub returns-in-8 : goal.returns-in-8
unfolding field_of
returns-in-8 c = grind (arith, nat_tests, c.in-8.is)

pub returns-in-9 : goal.returns-in-9
unfolding field_of
returns-in-9 c = grind (arith, nat_tests, c.in-9.is, c.ports_of.ensures)

pub returns-in_default : goal.returns-in_default
unfolding field_of
returns-in_default c = grind (arith, nat_tests, c.ports_of-in_default.ensures)
