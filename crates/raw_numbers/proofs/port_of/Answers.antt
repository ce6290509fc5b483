use borrow.Author.Tests.{lt-ltb, le-ltb}
use Rattle.raw_numbers.specs.Numbers.{port_of}
use Rattle.raw_numbers.proofs.port_of.Goals as goal

pub returns-then-n-lt65536 : goal.returns-then-n-lt65536
unfolding port_of
returns-then-n-lt65536 c = simp (lt-ltb _ _ c.if-n-lt65536.true)

pub returns-else-n-lt65536 : goal.returns-else-n-lt65536
unfolding port_of
returns-else-n-lt65536 c = simp (le-ltb _ _ c.if-n-lt65536.false)
