use Rattle.std.proofs.Common.{ap, sym, arith}
use Rattle.std.proofs.lemmas.Bool.Decides.{nat_tests}
use Rattle.raw_numbers.specs.Numbers.{kind_of}
use Rattle.raw_numbers.proofs.kind_of.Goals as goal

pub returns-in-3 : goal.returns-in-3
unfolding kind_of
returns-in-3 c = ap kind_of (sym c.in-3.is)

pub returns-in-4 : goal.returns-in-4
unfolding kind_of
returns-in-4 c = ap kind_of (sym c.in-4.is)

pub returns-in_default : goal.returns-in_default
unfolding kind_of
returns-in_default c = grind (arith, nat_tests)
