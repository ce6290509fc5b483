-- F-3: a client's opening and a proxy's end that fit each other, and what either has sent once all of it has reached the other.
use Rattle.std.specs.Prelude.{ℕ, ◌≤◌, ◌≡◌, true, false, List, [], ◌++◌, length}
use Rattle.protocol.specs.declared.Version.{Version}
use Rattle.protocol.specs.declared.Version.TheVariants.{V4, V5}
use Rattle.protocol.specs.declared.Outcome.TheVariants as outcome
use Rattle.protocol.specs.AddressReading.{Destination, ipv4, ipv6, domain}
use Rattle.protocol.specs.Bound.{Endpoint, endpoint}
use Rattle.protocol.specs.Requests.{Destination4, address, name, Announces}
use Rattle.protocol.specs.Opening.{Opening, v5, v4, no_auth, user_pass, requests}
use Rattle.protocol.specs.Machine as client
use Rattle.proxy_spec.specs.Words.{Unbroken}
use Rattle.proxy_spec.specs.End.{Setup, End, Standing, waits, asks, fails, asked, method_reply, login_reply, machine, used, reply_to, success, dst_ip}

-- ---- the opening and the end

abbrev pub version_of : Opening → Version
version_of (v5 c d port o) = V5
version_of (v4 d port) = V4

-- what it asks for: kind, bytes and port
abbrev pub wanted_by : Opening → Endpoint
wanted_by (v5 c d port o) = endpoint d port
wanted_by (v4 (address bs) port) = endpoint (ipv4 bs) port
wanted_by (v4 (name s) port) = endpoint (domain s) port

-- what every accepted opening has: addresses of their size, names of a byte or more; over v4 at most 1,014 and no 00 in a name, and no address that announces one
abbrev pub Sized : Destination → Type 0
Sized (ipv4 bs) = length bs ≡ 4
Sized (ipv6 bs) = length bs ≡ 16
Sized (domain s) = 1 ≤ length s

abbrev pub Sized4 : Destination4 → Type 0
Sized4 (address bs) = (length bs ≡ 4) × (Announces bs → ⊥)
Sized4 (name s) = (1 ≤ length s) × (length s ≤ 1014) × Unbroken s

abbrev pub Sendable : Opening → Type 0
Sendable (v5 c d port o) = Sized d
Sendable (v4 d port) = Sized4 d

-- equal credentials, none over v4
abbrev pub SameCredentials : Opening → Setup → Type 0
SameCredentials (v5 no_auth d port o) c = c.authenticates ≡ false
SameCredentials (v5 (user_pass u p) d port o) c = (c.authenticates ≡ true) × ((c.user ≡ u) × (c.password ≡ p))
SameCredentials (v4 d port) c = c.authenticates ≡ false

-- what the client sees of the bound address that the caller gives: over v4 an IPv6 one as 0.0.0.0 with its port
abbrev pub seen_of : Version → Endpoint → Endpoint
seen_of V4 x = endpoint (ipv4 (dst_ip x.address)) x.port
seen_of V5 x = x

-- ---- what either sends

-- the end: what it has sent of its own, and the caller's answer of success once it is asked
abbrev pub answer_to : Standing → Endpoint → List ℕ
answer_to waits x = []
answer_to (asks a) x = reply_to a.version (success a.version) x
answer_to (fails e) x = []

abbrev pub all_sent : End → Endpoint → List ℕ
all_sent e x = e.sent ++ answer_to e.standing x

-- its own replies to an opening that it grants: the method, and with credentials how they were judged; then the caller's answer of success
abbrev pub own_replies : Opening → List ℕ
own_replies (v5 no_auth d port o) = method_reply 0x00
own_replies (v5 (user_pass u p) d port o) = method_reply 0x02 ++ login_reply 0x00
own_replies (v4 d port) = []

abbrev pub all_replies : Opening → Endpoint → List ℕ
all_replies o x = own_replies o ++ reply_to (version_of o) (success (version_of o)) x

-- all requests of an opening, one behind the other
abbrev pub all_requests : Opening → List ℕ
all_requests o = client.sends (requests o) []

-- bytes that reached the client and the end: all that the other has sent, and any bytes behind it
pub record Arrived (o : Opening) (c : Setup) (x : Endpoint) (toClient toEnd tail tail' : List ℕ) : Type 0 where
  pub from_end : toClient ≡ all_sent (machine c toEnd) x ++ tail
  pub from_client : toEnd ≡ (client.machine o toClient).sent ++ tail'

-- then the client is open, the end was asked for the client's destination, all requests have gone, and the tails are unread
pub record Met (o : Opening) (c : Setup) (x : Endpoint) (toClient toEnd : List ℕ) : Type 0 where
  pub opened : (client.machine o toClient).outcome ≡ outcome.Open
  pub bound : (client.machine o toClient).bound ≡ seen_of (version_of o) x
  pub asks_for : (machine c toEnd).standing ≡ asks (asked (version_of o) (wanted_by o))
  pub requests_gone : (client.machine o toClient).sent ≡ all_requests o
  pub client_used : client.used o toClient ≡ length (all_sent (machine c toEnd) x)
  pub end_used : used c toEnd ≡ length (all_requests o)
