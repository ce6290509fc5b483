-- F-3: what a client sends, by its bytes: RFC 1928, sections 3 and 4, RFC 1929, section 2, and the SOCKS4 and SOCKS4A memos.
use Rattle.std.specs.Prelude.{ℕ, ◌≤◌, ◌≡◌, length}
use mathlib.Core.List.{List, [], ◌∷◌, ◌++◌, Memᴰ}
use Rattle.protocol.specs.Bytes.{two_of}
use Rattle.protocol.specs.AddressReading.{ipv4, ipv6, domain}
use Rattle.protocol.specs.Bound.{Endpoint, endpoint}
use Rattle.protocol.specs.Requests.{Announces}

-- VER, NMETHODS, METHODS; and the methods
pub data Greeting : List ℕ → List ℕ → Type 0 where
  greeting : {n : ℕ} (methods : List ℕ) → 1 ≤ n → n ≤ 255 → length methods ≡ n → Greeting (0x05 ∷ n ∷ methods) methods

-- VER, ULEN, UNAME, PLEN, PASSWD, where lengths of 0 are taken; and the user and the password
pub data Login : List ℕ → List ℕ → List ℕ → Type 0 where
  login : {n m : ℕ} (user password : List ℕ) → n ≤ 255 → m ≤ 255 → length user ≡ n → length password ≡ m → Login (0x01 ∷ n ∷ (user ++ (m ∷ password))) user password

-- ATYP, DST.ADDR, DST.PORT, where a name's bytes are not judged; and what is asked for
pub data Target : List ℕ → Endpoint → Type 0 where
  four : (a port : List ℕ) → length a ≡ 4 → length port ≡ 2 → Target (0x01 ∷ (a ++ port)) (endpoint (ipv4 a) (two_of port))
  six : (a port : List ℕ) → length a ≡ 16 → length port ≡ 2 → Target (0x04 ∷ (a ++ port)) (endpoint (ipv6 a) (two_of port))
  named : {n : ℕ} (s port : List ℕ) → 1 ≤ n → n ≤ 255 → length s ≡ n → length port ≡ 2 → Target (0x03 ∷ n ∷ (s ++ port)) (endpoint (domain s) (two_of port))

-- VER, CMD, RSV, and a target; with the command
pub data Connect : List ℕ → ℕ → Endpoint → Type 0 where
  connect : {command : ℕ} {a : List ℕ} {x : Endpoint} → Target a x → Connect (0x05 ∷ command ∷ 0x00 ∷ a) command x

-- a text that ends at a 00 has none
abbrev pub Unbroken : List ℕ → Type 0
Unbroken s = Memᴰ 0x00 s → ⊥

-- VN, CD, DSTPORT, DSTIP, USERID and a NULL; behind an address that announces a name the name and a NULL; with the command and what is asked for
pub data Request : List ℕ → ℕ → Endpoint → Type 0 where
  addressed : {command : ℕ} (q a user : List ℕ) → length q ≡ 2 → length a ≡ 4 → (Announces a → ⊥) → length user ≤ 255 → Unbroken user
      → Request (0x04 ∷ command ∷ (q ++ (a ++ (user ++ (0x00 ∷ []))))) command (endpoint (ipv4 a) (two_of q))
  announced : {command : ℕ} (q a user s : List ℕ) → length q ≡ 2 → length a ≡ 4 → Announces a → length user ≤ 255 → Unbroken user → 1 ≤ length s → length s ≤ 1014 → Unbroken s
      → Request (0x04 ∷ command ∷ (q ++ (a ++ (user ++ (0x00 ∷ (s ++ (0x00 ∷ []))))))) command (endpoint (domain s) (two_of q))
