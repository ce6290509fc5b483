use mathlib.Core.Path.{◌≡◌}
use Prim.Native.Nat.{◌≤◌}
use lib.ListN.{drop}
use Rattle.protocol.specs.AddressReading.{digits_from}
use Rattle.proxy_url_spec.specs.Reading.{port_goes}
use Rattle.proxy_url.proofs.ports.read_port.Given as goal

abbrev pub invariant-loop-n : goal.invariant-loop-n
invariant-loop-n l = (l.value ≤ 65535) × (digits_from port_goes 10 l.value l.n (drop l.n l.text) ≡ digits_from port_goes 10 0 0 l.text)
