use mathlib.Core.Path.{◌≡◌}
use Prim.Native.Nat.{min}
use lib.ListN.{length}
use Rattle.proxy_url_spec.specs.Reading.{ipv6_goes_on, ipv6_end}
use Rattle.proxy_url.proofs.hosts.Laws.{along_from}
use Rattle.proxy_url.proofs.hosts.ipv6_end.Given as goal

abbrev pub invariant-loop-n : goal.invariant-loop-n
invariant-loop-n l = (l.end ≡ min (length l.text) 45) × (along_from ipv6_goes_on 45 l.text l.n ≡ ipv6_end l.text)
