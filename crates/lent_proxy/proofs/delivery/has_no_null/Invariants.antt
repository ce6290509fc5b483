use Rattle.std.specs.Prelude.{◌<◌, take}
use Rattle.lent_proxy.specs.delivery.Lacking.{NoNull}
use Rattle.lent_proxy.proofs.delivery.has_no_null.Given as goal

abbrev pub invariant-loop-b : goal.invariant-loop-b
invariant-loop-b l = 0 < l.least → NoNull (take l.b-index l.bytes)
