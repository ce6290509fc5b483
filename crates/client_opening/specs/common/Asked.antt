-- 01, "Opening v5" and "Opening v4", and F-7: what an opening asks for: the host as it was read, or the record that was looked up for it.
use Rattle.std.specs.Prelude.{ℕ, cond, List, [], take, Option, None, Some}
use Rattle.protocol.specs.declared.AddressKind.{AddressKind}
use Rattle.protocol.specs.declared.AddressKind.TheVariants.{Ipv4, Ipv6, Domain}
use Rattle.protocol.specs.declared.Family.{Family}
use Rattle.protocol.specs.declared.Family.TheVariants.{Four, Six}
use Rattle.protocol.specs.declared.Record.{Record}
use Rattle.protocol.specs.AddressReading.{Destination, ipv4, ipv6, domain}
use Rattle.protocol.specs.Requests.{kind_of, Destination4, address, name}
use Rattle.protocol.specs.Opening.{is_name}
use Rattle.address_text.specs.declared.ipv4.AddressText.{AddressText}

abbrev pub record_kind : Family → AddressKind
record_kind Four = Ipv4
record_kind Six = Ipv6

abbrev pub record_text : Record → AddressText
record_text r = record { kind = record_kind r.family; bytes = r.address }

-- what was read, or for a name that was looked up the record found
abbrev pub asked_text : AddressText → Option Record → AddressText
asked_text read None = read
asked_text read (Some r) = cond (is_name (kind_of read.kind [])) (record_text r) read

-- the destination that this stands for, with the host's text
abbrev pub target_by : AddressKind → List ℕ → List ℕ → Destination
target_by Ipv4 bs text = ipv4 (take 4 bs)
target_by Ipv6 bs text = ipv6 bs
target_by Domain bs text = domain text

abbrev pub target5 : AddressText → List ℕ → Destination
target5 t text = target_by t.kind t.bytes text

-- over v4, where no IPv6 address is asked for
abbrev pub target4_by : AddressKind → List ℕ → List ℕ → Destination4
target4_by Ipv4 bs text = address (take 4 bs)
target4_by Ipv6 bs text = address bs
target4_by Domain bs text = name text

abbrev pub target4 : AddressText → List ℕ → Destination4
target4 t text = target4_by t.kind t.bytes text
