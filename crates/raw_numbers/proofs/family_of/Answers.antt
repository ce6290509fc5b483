use Rattle.std.proofs.Common.{ap, sym, arith}
use Rattle.std.proofs.lemmas.Bool.Decides.{nat_tests}
use Rattle.raw_numbers.specs.Numbers.{family_of}
use Rattle.raw_numbers.proofs.family_of.Goals as goal

pub returns-in-4 : goal.returns-in-4
unfolding family_of
returns-in-4 c = ap family_of (sym c.in-4.is)

pub returns-in_default : goal.returns-in_default
unfolding family_of
returns-in_default c = grind (arith, nat_tests)
