use Rattle.std.proofs.Common.{arith}
use Rattle.std.proofs.lemmas.Bool.Decides.{nat_tests}
use Rattle.raw_server.specs.Raw.{stage_of}
use Rattle.raw_server.proofs.stage_of.Goals as goal

pub returns-in-1-to-10 : goal.returns-in-1-to-10
unfolding stage_of
returns-in-1-to-10 c = grind (arith, nat_tests, c.awaited_of.ensures)

pub returns-in-11 : goal.returns-in-11
unfolding stage_of
returns-in-11 c = grind (arith, nat_tests, c.in-11.is)

pub returns-in-12 : goal.returns-in-12
unfolding stage_of
returns-in-12 c = grind (arith, nat_tests, c.in-12.is)

pub returns-in-13 : goal.returns-in-13
unfolding stage_of
returns-in-13 c = grind (arith, nat_tests, c.in-13.is)

pub returns-in-14 : goal.returns-in-14
unfolding stage_of
returns-in-14 c = grind (arith, nat_tests, c.in-14.is)

pub returns-in_default : goal.returns-in_default
unfolding stage_of
returns-in_default c = grind (arith, nat_tests, c.error_of.ensures)
