use Rattle.std.proofs.Common.{◌≡◌, ◌&&◌, leb, drop}
use Rattle.protocol.specs.Host.{all_allowed}
use Rattle.address_text.proofs.host.all_allowed.Given as goal

abbrev pub invariant-loop-b : goal.invariant-loop-b
invariant-loop-b l = (leb l.top 0x5D && all_allowed (drop l.b-index l.host)) ≡ all_allowed l.host
