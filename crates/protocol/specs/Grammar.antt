-- Document 01, "The grammar of an opening": the reply sequences, by their bytes.
use Rattle.std.specs.Prelude.{ℕ, ◌≤◌, ◌≡◌, Bool, List, [], ◌∷◌, ◌++◌, length}
use Rattle.protocol.specs.declared.AuthMethod.TheVariants.{NoAuth, UserPass}
use Rattle.protocol.specs.declared.Reply.{Reply}
use Rattle.protocol.specs.declared.Reply.TheVariants.{NegotiationRes, AuthenticationRes, ProxyRes, Response}
use Rattle.protocol.specs.Bytes.{two_of}
use Rattle.protocol.specs.AddressReading.{Destination, ipv4, ipv6, domain}
use Rattle.protocol.specs.Bound.{Endpoint, endpoint, unbound}
use Rattle.protocol.specs.Requests.{Destination4}
use Rattle.protocol.specs.Opening.{no_auth, user_pass, Opening, v5, v4}
use Rattle.protocol.specs.Utf8.{Utf8}
use Rattle.talk.specs.Lawful.{Begins}

-- what follows `05 00 00`, and the address and port that it names (F-1): the address's bytes, or a name, and the port's two
pub data BoundField : List ℕ → Endpoint → Type 0 where
  four : (a port : List ℕ) → length a ≡ 4 → length port ≡ 2 → BoundField (0x01 ∷ (a ++ port)) (endpoint (ipv4 a) (two_of port))
  six : (a port : List ℕ) → length a ≡ 16 → length port ≡ 2 → BoundField (0x04 ∷ (a ++ port)) (endpoint (ipv6 a) (two_of port))
  named : {n : ℕ} (s port : List ℕ) → 1 ≤ n → n ≤ 255 → length s ≡ n → Utf8 s → length port ≡ 2
      → BoundField (0x03 ∷ n ∷ (s ++ port)) (endpoint (domain s) (two_of port))

pub data Sequence : Opening → List ℕ → Endpoint → Type 0 where
  plain : {d : Destination} {port : ℕ} {o : Bool} {a : List ℕ} {x : Endpoint} → BoundField a x
      → Sequence (v5 no_auth d port o) (0x05 ∷ 0x00 ∷ 0x05 ∷ 0x00 ∷ 0x00 ∷ a) x
  credentials : {u p : List ℕ} {d : Destination} {port : ℕ} {o : Bool} {a : List ℕ} {x : Endpoint} → BoundField a x
      → Sequence (v5 (user_pass u p) d port o) (0x05 ∷ 0x02 ∷ 0x01 ∷ 0x00 ∷ 0x05 ∷ 0x00 ∷ 0x00 ∷ a) x
  version4 : {d : Destination4} {port : ℕ} (q a : List ℕ) → length q ≡ 2 → length a ≡ 4
      → Sequence (v4 d port) (0x00 ∷ 0x5A ∷ (q ++ a)) (endpoint (ipv4 a) (two_of q))

-- bytes begin with a reply sequence of the opening
abbrev pub Replied : Opening → List ℕ → Type 0
Replied o bs = (p : List ℕ) × (x : Endpoint) × Begins p bs × Sequence o p x

-- just one beginning is a reply sequence, it has so many bytes, and names this address and port
pub record JustOne (o : Opening) (bs : List ℕ) (n : ℕ) (x : Endpoint) : Type 0 where
  pub begin : List ℕ
  pub begins : Begins begin bs
  pub is : Sequence o begin x
  pub only : (p : List ℕ) (y : Endpoint) → Begins p bs → Sequence o p y → (p ≡ begin) × (y ≡ x)
  pub long : n ≡ length begin

-- the words of one reply, and what they name
pub data Word : Reply → List ℕ → Endpoint → Type 0 where
  method_00 : Word (NegotiationRes NoAuth) (0x05 ∷ 0x00 ∷ []) unbound
  method_02 : Word (NegotiationRes UserPass) (0x05 ∷ 0x02 ∷ []) unbound
  accepted : Word AuthenticationRes (0x01 ∷ 0x00 ∷ []) unbound
  connected : {a : List ℕ} {x : Endpoint} → BoundField a x → Word ProxyRes (0x05 ∷ 0x00 ∷ 0x00 ∷ a) x
  granted : (q a : List ℕ) → length q ≡ 2 → length a ≡ 4 → Word Response (0x00 ∷ 0x5A ∷ (q ++ a)) (endpoint (ipv4 a) (two_of q))
