-- What was read of a host says whether it is a name.
use mathlib.Core.Path.{◌≡◌, refl, ap, ◌∙◌}
use mathlib.Core.List.{List, []}
use Prim.Native.Nat.{ℕ}
use Rattle.protocol.specs.Host.{strip}
use Rattle.protocol.specs.AddressReading.{Destination, ipv4, ipv6, domain, destination_of}
use Rattle.protocol.specs.Requests.{kind_of}
use Rattle.protocol.specs.Opening.{is_name}
use Rattle.address_text.specs.declared.ipv4.AddressText.{AddressText}
use Rattle.address_text.specs.ipv4.Answers.{address_text}

name_kind : (d : Destination) → is_name (kind_of (address_text d).kind []) ≡ is_name d
name_kind (ipv4 bs) = refl
name_kind (ipv6 bs) = refl
name_kind (domain s) = refl

pub read_name : (host : List ℕ) (read : AddressText) → read ≡ address_text (destination_of (strip host)) → is_name (kind_of read.kind []) ≡ is_name (destination_of (strip host))
read_name host read e = ap (λ (t : AddressText). is_name (kind_of t.kind [])) e ∙ name_kind (destination_of (strip host))
