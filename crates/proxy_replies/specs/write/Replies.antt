-- F-3: the bytes of a reply with an address: a record as a lookup gives it, and a port.
use Rattle.std.specs.Prelude.{ℕ, List, ◌∷◌, ◌++◌, replicate}
use Rattle.protocol.specs.declared.Family.{Family}
use Rattle.protocol.specs.declared.Family.TheVariants.{Four, Six}
use Rattle.protocol.specs.declared.Record.{Record}
use Rattle.protocol.specs.Bytes.{two}
use Rattle.protocol.specs.Bound.{Endpoint}
use Rattle.proxy_spec.specs.End.{bound_field, dst_ip}

abbrev pub no_address : Record
no_address = record { family = Four; address = replicate 16 0 }

abbrev pub size_of : Family → ℕ
size_of Four = 4
size_of Six = 16

abbrev pub type_of : Family → ℕ
type_of Four = 0x01
type_of Six = 0x04

abbrev pub four_in : Family → List ℕ → List ℕ
four_in Four bs = bs
four_in Six bs = replicate 16 0

abbrev pub four_of : Record → List ℕ
four_of r = four_in r.family r.address

-- RFC 1928, section 6, and the SOCKS4 memo, with the status that is sent
abbrev pub connect_reply : ℕ → Endpoint → List ℕ
connect_reply status x = 0x05 ∷ status ∷ 0x00 ∷ (bound_field x.address ++ two x.port)

abbrev pub request_reply : ℕ → Endpoint → List ℕ
request_reply status x = 0x00 ∷ status ∷ (two x.port ++ dst_ip x.address)
