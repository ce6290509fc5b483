-- 01, "Address text": what a text stands for, as the definitions of protocol give it.
use Rattle.std.specs.Prelude.{ℕ, List, [], ◌++◌, replicate}
use Rattle.std.proofs.Math.Option.{Option, none}
use Rattle.protocol.specs.declared.AddressKind.TheVariants.{Ipv4, Ipv6, Domain}
use Rattle.protocol.specs.AddressReading.{Destination, ipv4, ipv6, domain, chosen}
use Rattle.address_text.specs.declared.ipv4.AddressText.{AddressText}

-- an ipv4's four bytes and twelve zeros, an ipv6's sixteen bytes, sixteen zeros for a name
abbrev pub address_text : Destination → AddressText
address_text (ipv4 bs) = record { kind = Ipv4; bytes = bs ++ replicate 12 0 }
address_text (ipv6 bs) = record { kind = Ipv6; bytes = bs }
address_text (domain s) = record { kind = Domain; bytes = replicate 16 0 }

-- the same for a text that is read by one family's rule alone
abbrev pub ipv4_text : Option (List ℕ) → AddressText
ipv4_text r = address_text (chosen [] r none)
