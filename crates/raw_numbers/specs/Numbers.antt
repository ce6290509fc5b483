-- Numbers for what C has no type for, and back. Every number has a meaning.
use Rattle.std.specs.Prelude.{ℕ, Bool, true, false, cond, not, eqb, ltb}
use Rattle.protocol.specs.declared.AddressKind.{AddressKind}
use Rattle.protocol.specs.declared.AddressKind.TheVariants.{Ipv4, Ipv6, Domain}
use Rattle.protocol.specs.declared.Family.{Family}
use Rattle.protocol.specs.declared.Family.TheVariants.{Four, Six}
use Rattle.protocol.specs.Answers.{Port, Missing, Given}

-- 0 is false, and any other number true
unfoldable pub truth : ℕ → Bool
truth n = not (eqb n 0)

abbrev pub bit : Bool → ℕ
bit true = 1
bit false = 0

-- RFC 1928, section 4: ATYP's numbers; any other is an IPv4 address
unfoldable pub kind_of : ℕ → AddressKind
kind_of n = cond (eqb n 3) Domain (cond (eqb n 4) Ipv6 Ipv4)

abbrev pub kind_number : AddressKind → ℕ
kind_number Ipv4 = 1
kind_number Ipv6 = 4
kind_number Domain = 3

-- the same numbers; any other is family four
unfoldable pub family_of : ℕ → Family
family_of n = cond (eqb n 4) Six Four

-- a number above 65535 is no port
unfoldable pub port_of : ℕ → Port
port_of n = cond (ltb n 65536) (Given n) Missing
