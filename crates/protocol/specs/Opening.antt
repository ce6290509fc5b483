-- Document 01, "Opening v5" and "Opening v4", and F-7: the arguments, the checks of preparing in their order, and what an accepted opening asks and expects.
use Rattle.std.specs.Prelude.{ℕ, ◌≤◌, ◌<◌, ◌≡◌, ◌↔◌, ◌⊎◌, Bool, true, false, cond, ◌&&◌, ◌||◌, not, length, take, drop, ltb, eqb}
use Rattle.std.proofs.Math.Option.{Option, none, some}
use mathlib.Core.List.{List, [], ◌∷◌, Memᴰ}
use Rattle.protocol.specs.declared.AuthMethod.TheVariants.{NoAuth, UserPass}
use Rattle.protocol.specs.Answers.{Port, Missing, Given, Answer, Accepted, Refused}
use Rattle.protocol.specs.declared.Family.{Family}
use Rattle.protocol.specs.declared.Family.TheVariants.{Four, Six}
use Rattle.protocol.specs.declared.Record.{Record}
use Rattle.protocol.specs.declared.SocksConfig.{SocksConfig}
use Rattle.protocol.specs.declared.SocksError.{SocksError}
use Rattle.protocol.specs.declared.SocksError.TheVariants.{MissingHost, HostByte, MissingPort, CredentialTooLong, HostTooLong, IpV6, DnsFailure, AnnouncesName}
use Rattle.protocol.specs.declared.Reply.{Reply}
use Rattle.protocol.specs.declared.Reply.TheVariants.{NegotiationRes, AuthenticationRes, ProxyRes, Response}
use Rattle.protocol.specs.Bytes.{byte}
use Rattle.protocol.specs.Host.{strip, all_allowed, Forbidden}
use Rattle.protocol.specs.AddressText.{Ipv6 as Ipv6Text, Name}
use Rattle.protocol.specs.AddressReading.{Destination, ipv4, ipv6, domain, destination_of}
use Rattle.protocol.specs.Requests.{negotiation_req, authentication_req, proxy_req, Destination4, address, name, request, Announces}

-- ---- the arguments, without the output

pub record V5 : Type 0 where
  pub config : SocksConfig
  pub host : List ℕ
  pub port : Port
  pub user : List ℕ
  pub password : List ℕ
  pub records : List Record

pub record V4 : Type 0 where
  pub local_dns : Bool
  pub host : List ℕ
  pub port : Port
  pub records : List Record

-- ---- Lookup: v5 takes the first record, v4 the first of family four

abbrev pub record_family : Family → List ℕ → Destination
record_family Four bs = ipv4 (take 4 bs)
record_family Six bs = ipv6 bs

abbrev pub first_record : List Record → Option Destination
first_record [] = none
first_record (r ∷ rs) = some (record_family r.family r.address)

abbrev pub unless_four : Family → List ℕ → Option (List ℕ) → Option (List ℕ)
unless_four Four bs later = some (take 4 bs)
unless_four Six bs later = later

unfoldable pub first_four : List Record → Option (List ℕ)
first_four [] = none
first_four (r ∷ rs) = unless_four r.family r.address (first_four rs)

-- ---- what is asked for: typed, looked up, or a name. What is refused needs a value here too, which nothing uses: a record that is not there, IPv6 text over v4.

abbrev pub or_else : {A : Type 0} → Option A → A → A
or_else none a = a
or_else (some b) a = b

abbrev pub asked5 : Bool → List Record → Destination → Destination
asked5 lookup rs (ipv4 bs) = ipv4 bs
asked5 lookup rs (ipv6 bs) = ipv6 bs
asked5 lookup rs (domain s) = cond lookup (or_else (first_record rs) (domain s)) (domain s)

abbrev pub found_four : Option (List ℕ) → List ℕ → Destination4
found_four none s = name s
found_four (some bs) s = address bs

abbrev pub asked4 : Bool → List Record → Destination → Destination4
asked4 lookup rs (ipv4 bs) = address bs
asked4 lookup rs (ipv6 bs) = address bs
asked4 lookup rs (domain s) = cond lookup (found_four (first_four rs) s) (name s)

-- ---- the checks of preparing: 01's conditions in its order but that on the output, which a start has (F-7), each with its number

-- a condition, and the number with which it refuses
pub record Condition : Type 1 where
  pub Holds : Type 0
  pub number : ℕ

abbrev pub ◌↣◌ : Type 0 → ℕ → Condition
◌↣◌ P n = record { Holds = P; number = n }

infixr 6 ◌↣◌
abbrev pub conditions5 : V5 → List Condition
conditions5 a =
    (((a.host ≡ []) ⊎ (strip a.host ≡ [])) ↣ 2)
    ∷ (Forbidden (strip a.host) ↣ 3)
    ∷ ((a.port ≡ Missing) ↣ 4)
    ∷ (((a.config.proxy_auth ≡ true) × ((255 < length a.user) ⊎ (255 < length a.password))) ↣ 5)
    ∷ ((Name (strip a.host) × (255 < length (strip a.host))) ↣ 6)
    ∷ (((a.config.local_dns ≡ true) × Name (strip a.host) × (first_record a.records ≡ none)) ↣ 8)
    ∷ []

abbrev pub conditions4 : V4 → List Condition
conditions4 a =
    (((a.host ≡ []) ⊎ (strip a.host ≡ [])) ↣ 2)
    ∷ (Forbidden (strip a.host) ↣ 3)
    ∷ ((a.port ≡ Missing) ↣ 4)
    ∷ (((bs : List ℕ) × Ipv6Text (strip a.host) bs) ↣ 7)
    ∷ ((Name (strip a.host) × (1014 < length (strip a.host))) ↣ 6)
    ∷ (((a.local_dns ≡ true) × Name (strip a.host) × (first_four a.records ≡ none)) ↣ 8)
    ∷ (((bs : List ℕ) × (asked4 a.local_dns a.records (destination_of (strip a.host)) ≡ address bs) × Announces bs) ↣ 23)
    ∷ []

-- none holds
abbrev pub None : List Condition → Type 0
None [] = Unit {0}
None (c ∷ cs) = (c.Holds → ⊥) × None cs

-- one with this number holds, and none before it
abbrev pub First : ℕ → List Condition → Type 0
First n [] = ⊥
First n (c ∷ cs) = (c.Holds × (c.number ≡ n)) ⊎ ((c.Holds → ⊥) × First n cs)

-- the number that answers conditions in their order: 0 exactly when none holds, any other exactly when it is the first
pub record Answers (n : ℕ) (cs : List Condition) : Type 0 where
  pub accepts : n ≡ 0 ↔ None cs
  pub refuses : (k : ℕ) → 0 < k → n ≡ k ↔ First k cs

-- ---- the same as tests

abbrev pub refuse : Bool → SocksError → Answer → Answer
refuse b e later = cond b (Refused e) later

abbrev pub is_empty : List ℕ → Bool
is_empty s = eqb (length s) 0

abbrev pub is_missing : Port → Bool
is_missing Missing = true
is_missing (Given p) = false

abbrev pub is_name : Destination → Bool
is_name (ipv4 bs) = false
is_name (ipv6 bs) = false
is_name (domain s) = true

abbrev pub is_ipv6 : Destination → Bool
is_ipv6 (ipv4 bs) = false
is_ipv6 (ipv6 bs) = true
is_ipv6 (domain s) = false

abbrev pub is_none : {A : Type 0} → Option A → Bool
is_none none = true
is_none (some a) = false

-- whether four bytes announce a name, and whether what is asked for is an address that does
unfoldable pub announces : List ℕ → Bool
announces ip = eqb (length ip) 4 && (eqb (byte ip 0) 0 && (eqb (byte ip 1) 0 && (eqb (byte ip 2) 0 && ltb 0 (byte ip 3))))

abbrev pub is_announcing : Destination4 → Bool
is_announcing (address bs) = announces bs
is_announcing (name s) = false

unfoldable pub check5 : V5 → Answer
check5 a =
    refuse (is_empty a.host || is_empty (strip a.host)) MissingHost
    (refuse (not (all_allowed (strip a.host))) HostByte
    (refuse (is_missing a.port) MissingPort
    (refuse (a.config.proxy_auth && (ltb 255 (length a.user) || ltb 255 (length a.password))) CredentialTooLong
    (refuse (is_name (destination_of (strip a.host)) && ltb 255 (length (strip a.host))) HostTooLong
    (refuse (a.config.local_dns && (is_name (destination_of (strip a.host)) && is_none (first_record a.records))) DnsFailure Accepted)))))

unfoldable pub check4 : V4 → Answer
check4 a =
    refuse (is_empty a.host || is_empty (strip a.host)) MissingHost
    (refuse (not (all_allowed (strip a.host))) HostByte
    (refuse (is_missing a.port) MissingPort
    (refuse (is_ipv6 (destination_of (strip a.host))) IpV6
    (refuse (is_name (destination_of (strip a.host)) && ltb 1014 (length (strip a.host))) HostTooLong
    (refuse (a.local_dns && (is_name (destination_of (strip a.host)) && is_none (first_four a.records))) DnsFailure
    (refuse (is_announcing (asked4 a.local_dns a.records (destination_of (strip a.host)))) AnnouncesName Accepted))))))

-- ---- what an accepted opening asks

pub data Credentials : Type 0 where
  no_auth : Credentials
  user_pass : List ℕ → List ℕ → Credentials

-- v5: credentials, destination, port, optimistic. v4: destination, port.
pub data Opening : Type 0 where
  v5 : Credentials → Destination → ℕ → Bool → Opening
  v4 : Destination4 → ℕ → Opening

-- a missing port is refused, and this value used by nothing
abbrev pub port_number : Port → ℕ
port_number Missing = 0
port_number (Given p) = p

abbrev pub credentials_if : Bool → List ℕ → List ℕ → Credentials
credentials_if true user password = user_pass user password
credentials_if false user password = no_auth

unfoldable pub opening5 : V5 → Opening
opening5 a =
    v5 (credentials_if a.config.proxy_auth a.user a.password)
    (asked5 a.config.local_dns a.records (destination_of (strip a.host)))
    (port_number a.port) a.config.optimistic

unfoldable pub opening4 : V4 → Opening
opening4 a = v4 (asked4 a.local_dns a.records (destination_of (strip a.host))) (port_number a.port)

-- ---- its requests, and the replies expected, in order

abbrev pub requests : Opening → List (List ℕ)
requests (v5 no_auth d port o) = negotiation_req NoAuth ∷ proxy_req d port ∷ []
requests (v5 (user_pass u p) d port o) = negotiation_req UserPass ∷ authentication_req u p ∷ proxy_req d port ∷ []
requests (v4 d port) = request d port ∷ []

abbrev pub replies : Opening → List Reply
replies (v5 no_auth d port o) = NegotiationRes NoAuth ∷ ProxyRes ∷ []
replies (v5 (user_pass u p) d port o) = NegotiationRes UserPass ∷ AuthenticationRes ∷ ProxyRes ∷ []
replies (v4 d port) = Response ∷ []

-- the reply that is awaited first
abbrev pub first_reply : Opening → Reply
first_reply (v5 no_auth d port o) = NegotiationRes NoAuth
first_reply (v5 (user_pass u p) d port o) = NegotiationRes UserPass
first_reply (v4 d port) = Response

abbrev pub optimistic : Opening → Bool
optimistic (v5 c d port o) = o
optimistic (v4 d port) = false

-- what goes at the opening, which is at its start: the first request, or all; and what goes later
abbrev pub at_opening : Opening → List (List ℕ)
at_opening o = cond (optimistic o) (requests o) (take 1 (requests o))

abbrev pub later : Opening → List (List ℕ)
later o = cond (optimistic o) [] (drop 1 (requests o))

-- ---- F-4: each request has a limit of its own

-- the output that a start must lend, by the version: what the requests have at most
abbrev pub start_room : Opening → ℕ
start_room (v5 c d port o) = 778
start_room (v4 d port) = 1024

-- the output that a delivery must lend
abbrev pub delivery_room : Opening → ℕ
delivery_room (v5 c d port o) = 778
delivery_room (v4 d port) = 262

-- 3 bytes for a greeting, 513 for credentials, 262 for a connect; 1,024 over v4
abbrev pub Limits : Opening → Type 0
Limits (v5 no_auth d port o) = (length (negotiation_req NoAuth) ≡ 3) × (length (proxy_req d port) ≤ 262)
Limits (v5 (user_pass u p) d port o) = (length (negotiation_req UserPass) ≡ 3) × (length (authentication_req u p) ≤ 513) × (length (proxy_req d port) ≤ 262)
Limits (v4 d port) = length (request d port) ≤ 1024

-- each record has sixteen address bytes, as its array has
abbrev pub Sixteen : List Record → Type 0
Sixteen rs = (r : Record) → Memᴰ r rs → length r.address ≡ 16
