-- F-1: reading an address's text back.
use Rattle.std.specs.Prelude.{ℕ, ◌<◌, ◌≡◌, List, ◌∷◌, ◌++◌, length}
use Rattle.protocol.specs.Bytes.{Bytes, byte}
use Rattle.protocol.specs.Host.{strip}
use Rattle.protocol.specs.AddressReading.{Destination, ipv4, ipv6, domain, destination_of}
use Rattle.address_format.specs.endpoint.Text.{text_of}

-- an address, not a name
abbrev pub IsAddress : Destination → Type 0
IsAddress (ipv4 bs) = (length bs ≡ 4) × Bytes bs
IsAddress (ipv6 bs) = (length bs ≡ 16) × Bytes bs
IsAddress (domain s) = ⊥

-- a text split at its last colon
pub record LastColon (text before behind : List ℕ) : Type 0 where
  pub splits : text ≡ before ++ (0x3A ∷ behind)
  pub last : (i : ℕ) → i < length behind → byte behind i ≡ 0x3A → ⊥

-- the text has a last colon, and the part before it, without brackets, is read as the address
pub record ReadBack (d : Destination) (port : ℕ) : Type 0 where
  pub before : List ℕ
  pub behind : List ℕ
  pub splits : LastColon (text_of d port) before behind
  pub reads : (p q : List ℕ) → LastColon (text_of d port) p q → destination_of (strip p) ≡ d

-- equal texts mean equal addresses and ports
abbrev pub Told : Destination → ℕ → Type 0
Told d port = (e : Destination) (other : ℕ) → IsAddress e → other < 65536 → text_of d port ≡ text_of e other → (d ≡ e) × (port ≡ other)
