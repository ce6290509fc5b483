use Rattle.std.proofs.Common.{arith}
use Rattle.lent_proxy.proofs.delivery.Texts.{null_on}
use Rattle.lent_proxy.proofs.delivery.has_no_null.Goals as goal

pub loop-b-preserved : goal.loop-b-preserved
loop-b-preserved c = let l = c.loop-b in null_on c.args.bytes.now l.b-index (omega (arith, c.loop-b-test.true)) c.min-least.ensures l.invariant
