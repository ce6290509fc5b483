-- F-3: the plain machine of the proxy's end, in its words: whole requests in stream order. And what the caller's answer makes of it.
use Rattle.std.specs.Prelude.{ℕ, ◌+◌, Bool, true, false, cond, ◌&&◌, ◌||◌, List, [], ◌∷◌, ◌++◌, length, drop, replicate, leb, eqb}
use Rattle.protocol.specs.declared.Record.{Record}
use Rattle.protocol.specs.declared.SocksError.{SocksError}
use Rattle.protocol.specs.declared.SocksError.TheVariants.{Unsupported, Command, Malformed, WrongCredentials}
use Rattle.protocol.specs.declared.Version.{Version}
use Rattle.protocol.specs.declared.Version.TheVariants.{V4, V5}
use Rattle.protocol.specs.Bytes.{byte, two, same}
use Rattle.protocol.specs.AddressReading.{Destination, ipv4, ipv6, domain}
use Rattle.protocol.specs.Bound.{Endpoint, endpoint}
use Rattle.protocol.specs.Opening.{record_family}
use Rattle.proxy_spec.specs.declared.Says.{Says}
use Rattle.proxy_spec.specs.declared.Says.TheVariants.{Nothing, Method, Login, Reply5, Reply4}
use Rattle.proxy_spec.specs.declared.Stage.{Stage}
use Rattle.proxy_spec.specs.declared.Stage.TheVariants.{Open, Failed}
use Rattle.proxy_spec.specs.Reads.{Seen, short, wrong, unknown, whole, greeting_in, login_in, connect_in, request_in}

-- what the end was set up with
pub record Setup : Type 0 where
  pub authenticates : Bool
  pub user : List ℕ
  pub password : List ℕ

-- what is asked for, and in which version
pub record Asked : Type 0 where
  pub version : Version
  pub target : Endpoint

abbrev pub asked : Version → Endpoint → Asked
asked v x = record { version = v; target = x }

-- it waits for bytes; or has handed out what is asked for, and awaits the caller's answer; or has failed
pub data Standing : Type 0 where
  waits : Standing
  asks : Asked → Standing
  fails : SocksError → Standing

pub record End : Type 0 where
  pub sent : List ℕ
  pub standing : Standing
  pub place : ℕ

abbrev pub has : List ℕ → Standing → ℕ → End
has sent s place = record { sent = sent; standing = s; place = place }

-- ---- what it sends of its own: the method chosen, how credentials were judged, and replies with IPv4 zeros and port 0

abbrev pub chosen : Bool → ℕ
chosen true = 0x02
chosen false = 0x00

abbrev pub method_reply : ℕ → List ℕ
method_reply m = 0x05 ∷ m ∷ []

abbrev pub login_reply : ℕ → List ℕ
login_reply status = 0x01 ∷ status ∷ []

abbrev pub own_reply5 : ℕ → List ℕ
own_reply5 status = 0x05 ∷ status ∷ 0x00 ∷ 0x01 ∷ replicate 6 0x00

abbrev pub own_reply4 : ℕ → List ℕ
own_reply4 status = 0x00 ∷ status ∷ replicate 6 0x00

abbrev pub said_by : Says → List ℕ
said_by Nothing = []
said_by (Method m) = method_reply m
said_by (Login status) = login_reply status
said_by (Reply5 status) = own_reply5 status
said_by (Reply4 status) = own_reply4 status

unfoldable pub offers : ℕ → List ℕ → Bool
offers m [] = false
offers m (x ∷ xs) = eqb x m || offers m xs

-- ---- a request read on from the place: not there, it waits; wrong, it fails with 19 and sends nothing more; whole, it goes on

abbrev pub reads : {A : Type 0} → Seen A → List ℕ → ℕ → (ℕ → A → End) → End
reads short sent place on = has sent waits place
reads (wrong n) sent place on = has sent (fails Malformed) (place + n)
reads (unknown n) sent place on = has (sent ++ own_reply5 8) (fails (Command 8)) (place + n)
reads (whole n a) sent place on = on n a

-- a whole connect: a command other than 1 gets 7
abbrev pub connected : List ℕ → ℕ → ℕ → Endpoint → End
connected sent place command x = cond (eqb command 1) (has sent (asks (asked V5 x)) place) (has (sent ++ own_reply5 7) (fails (Command 7)) place)

unfoldable pub connecting : List ℕ → ℕ → List ℕ → End
connecting sent place bs = reads (connect_in (drop place bs)) sent place (λ n r. connected sent (place + n) r.0 r.1)

abbrev pub judged : Setup → List ℕ → ℕ → List ℕ → List ℕ → List ℕ → End
judged c sent place user password bs =
    cond (same user c.user && same password c.password) (connecting (sent ++ login_reply 0x00) place bs) (has (sent ++ login_reply 0x01) (fails WrongCredentials) place)

unfoldable pub signing : Setup → List ℕ → ℕ → List ℕ → End
signing c sent place bs = reads (login_in (drop place bs)) sent place (λ n r. judged c sent (place + n) r.0 r.1 bs)

-- credentials, if it was set up with them, and a connect
abbrev pub greeted : Setup → ℕ → List ℕ → List ℕ → End
greeted c place methods bs =
    cond (offers (chosen c.authenticates) methods)
    (cond c.authenticates (signing c (method_reply 0x02) place bs) (connecting (method_reply 0x00) place bs))
    (has (method_reply 0xFF) (fails Unsupported) place)

-- a whole v4 request: 20 if credentials are set, ahead of a command other than 1
abbrev pub requested : Setup → ℕ → ℕ → Endpoint → End
requested c place command x =
    cond c.authenticates (has (own_reply4 91) (fails WrongCredentials) place)
    (cond (eqb command 1) (has [] (asks (asked V4 x)) place) (has (own_reply4 91) (fails (Command 91)) place))

-- the first byte picks the version
unfoldable pub machine : Setup → List ℕ → End
machine c bs =
    cond (leb 1 (length bs))
    (cond (eqb (byte bs 0) 0x05) (reads (greeting_in bs) [] 0 (λ n methods. greeted c n methods bs))
    (cond (eqb (byte bs 0) 0x04) (reads (request_in bs) [] 0 (λ n r. requested c n r.0 r.1))
    (has [] (fails Malformed) 1)))
    (has [] waits 0)

-- its used bytes: all while it waits, otherwise up to the place
abbrev pub used_by : Standing → ℕ → List ℕ → ℕ
used_by waits place bs = length bs
used_by (asks x) place bs = place
used_by (fails e) place bs = place

unfoldable pub used : Setup → List ℕ → ℕ
used c bs = used_by (machine c bs).standing (machine c bs).place bs

-- ---- the caller's answer: a status, and the address and port that are bound, given as a record of a lookup and a port

abbrev pub endpoint_of : Record → ℕ → Endpoint
endpoint_of r port = endpoint (record_family r.family r.address) port

-- RFC 1928, section 6: 0 to 8; any other goes as 1
abbrev pub status5 : ℕ → ℕ
status5 s = cond (leb s 8) s 1

-- the SOCKS4 memo: 90 to 93; any other goes as 91
abbrev pub status4 : ℕ → ℕ
status4 s = cond (leb 90 s && leb s 93) s 91

abbrev pub bound_field : Destination → List ℕ
bound_field (ipv4 a) = 0x01 ∷ a
bound_field (ipv6 a) = 0x04 ∷ a
bound_field (domain s) = 0x03 ∷ length s ∷ s

-- over v4 only an IPv4 address has a place; another goes as zeros, with its port
abbrev pub dst_ip : Destination → List ℕ
dst_ip (ipv4 a) = a
dst_ip (ipv6 a) = replicate 4 0x00
dst_ip (domain s) = replicate 4 0x00

abbrev pub reply5 : ℕ → Endpoint → List ℕ
reply5 status x = 0x05 ∷ status5 status ∷ 0x00 ∷ (bound_field x.address ++ two x.port)

abbrev pub reply4 : ℕ → Endpoint → List ℕ
reply4 status x = 0x00 ∷ status4 status ∷ (two x.port ++ dst_ip x.address)

abbrev pub reply_to : Version → ℕ → Endpoint → List ℕ
reply_to V4 status x = reply4 status x
reply_to V5 status x = reply5 status x

-- the status sent, and the one that is success
abbrev pub status_to : Version → ℕ → ℕ
status_to V4 status = status4 status
status_to V5 status = status5 status

abbrev pub success : Version → ℕ
success V4 = 90
success V5 = 0

-- the end is then open, or failed with 15 and the status sent
abbrev pub stage_after : Version → ℕ → Stage
stage_after v status = cond (eqb (status_to v status) (success v)) (Open v) (Failed (Command (status_to v status)))
