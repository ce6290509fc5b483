-- How many bytes the address field of a ProxyReq has.
use mathlib.Core.Path.{◌≡◌}
use mathlib.Core.List.{List}
use Prim.Native.Nat.{ℕ}
use native.Mathlib.Omega.{arith}
use lib.ListN.{length}
use Rattle.protocol.specs.declared.AddressKind.{AddressKind}
use Rattle.protocol.specs.declared.AddressKind.TheVariants.{Ipv4, Ipv6, Domain}
use Rattle.protocol.specs.Requests.{address_field, kind_of}
use Rattle.requests.specs.v5.Sizes.{address_size}

pub field_size : (k : AddressKind) (bs : List ℕ) → length (address_field (kind_of k bs)) ≡ address_size k (length bs)
unfolding address_field
field_size Ipv4 bs = omega arith
field_size Ipv6 bs = omega arith
field_size Domain bs = omega arith
