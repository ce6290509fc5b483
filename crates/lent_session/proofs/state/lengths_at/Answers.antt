use Rattle.std.proofs.Common.{◌/◌, ◌%◌, eqb}
use Rattle.protocol.specs.Bytes.{byte}
use Rattle.lent_session.proofs.state.lengths_at.Goals as goal

pub returns : goal.returns
returns c = λ i. record { optimistic = eqb (byte c.args.s.now 18 / 16 % 2) 1; first = c.two_at.ensures.0 i; authentication = c.two_at-2.ensures.0 i; proxy = c.two_at-3.ensures.0 i }
