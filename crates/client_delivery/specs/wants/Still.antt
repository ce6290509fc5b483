-- Whether a reply of which so much is held can still be good.
use Rattle.std.specs.Prelude.{ℕ, ◌-◌, Bool, true, false, ◌&&◌, ◌||◌, List, length, leb, ltb, eqb}
use Rattle.protocol.specs.declared.AuthMethod.TheVariants.{NoAuth, UserPass, NoneAcceptable}
use Rattle.protocol.specs.declared.Reply.{Reply}
use Rattle.protocol.specs.declared.Reply.TheVariants.{NegotiationRes, AuthenticationRes, ProxyRes, Response}
use Rattle.protocol.specs.declared.Utf8State.{Utf8State}
use Rattle.protocol.specs.declared.Utf8State.TheVariants.{Boundary, Tail1, Tail2, Tail3, AfterE0, AfterEd, AfterF0, AfterF4, Invalid}
use Rattle.protocol.specs.Bytes.{byte}
use Rattle.protocol.specs.Utf8.{scan}
use Rattle.protocol.specs.Replies.{name_field}
use Rattle.client_stages.specs.declared.due.Stage.{Stage}
use Rattle.client_stages.specs.declared.due.Stage.TheVariants.{Awaiting, Open, Failed}
use Rattle.client_delivery.specs.wants.Wants.{begins_with, may_connect}

-- a UTF-8 text read so far can end behind so many bytes more
abbrev pub ends_within : Utf8State → ℕ → Bool
ends_within Boundary n = true
ends_within Tail1 n = leb 1 n
ends_within Tail2 n = leb 2 n
ends_within Tail3 n = leb 3 n
ends_within AfterE0 n = leb 2 n
ends_within AfterEd n = leb 2 n
ends_within AfterF0 n = leb 3 n
ends_within AfterF4 n = leb 3 n
ends_within Invalid n = false

-- what came of a name, and as many bytes as it lacks
unfoldable pub name_still : List ℕ → Bool
name_still h = ends_within (scan Boundary (name_field h)) (byte h 4 - length (name_field h))

unfoldable pub type_still : List ℕ → Bool
type_still h = eqb (byte h 3) 0x01 || (eqb (byte h 3) 0x04 || (eqb (byte h 3) 0x03 && name_still h))

unfoldable pub proxy_still : List ℕ → Bool
proxy_still h = may_connect h && (ltb (length h) 4 || type_still h)

unfoldable pub response_still : List ℕ → Bool
response_still h = eqb (byte h 0) 0x00 && (ltb (length h) 2 || eqb (byte h 1) 0x5A)

abbrev pub good_still : Reply → List ℕ → Bool
good_still (NegotiationRes NoAuth) h = begins_with 0x05 h
good_still (NegotiationRes UserPass) h = begins_with 0x05 h
good_still (NegotiationRes NoneAcceptable) h = false
good_still AuthenticationRes h = begins_with 0x01 h
good_still ProxyRes h = proxy_still h
good_still Response h = response_still h

-- at a stage; nothing opens one that has settled
abbrev pub still_at : Stage → List ℕ → Bool
still_at (Awaiting e) h = good_still e h
still_at Open h = false
still_at (Failed x) h = false
