-- F-1: an address and port as text. IPv6's groups as `groups_text` has them.
use Rattle.std.specs.Prelude.{ℕ, List, ◌∷◌, ◌++◌}
use Rattle.address_format.specs.numerals.Digits.{digits_of}
use Rattle.protocol.specs.declared.Address.{Address}
use Rattle.protocol.specs.Host.{bracketed}
use Rattle.protocol.specs.AddressReading.{Destination, ipv4, ipv6, domain}
use Rattle.protocol.specs.Bound.{destination}
use Rattle.address_format.specs.groups.Groups.{split_by, groups_of, groups_text}

-- IPv4 dotted, IPv6 in square brackets, a name as received
unfoldable pub host_text : Destination → List ℕ
host_text (ipv4 bs) = split_by 10 0x2E bs
host_text (ipv6 bs) = bracketed (groups_text (groups_of bs))
host_text (domain s) = s

-- then a colon and the port in decimal
unfoldable pub text_of : Destination → ℕ → List ℕ
text_of d port = host_text d ++ (0x3A ∷ digits_of 10 port)

unfoldable pub bound_text : Address → List ℕ
bound_text a = text_of (destination a) a.port
