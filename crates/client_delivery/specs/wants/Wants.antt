-- How many bytes may be read at a stage without reading past the handshake, by what is held of the reply in turn. A byte that has not come counts as 00.
use Rattle.std.specs.Prelude.{ℕ, ◌+◌, ◌-◌, Bool, false, cond, ◌&&◌, ◌||◌, List, length, ltb, eqb}
use Rattle.protocol.specs.declared.AuthMethod.TheVariants.{NoAuth, UserPass, NoneAcceptable}
use Rattle.protocol.specs.declared.Reply.{Reply}
use Rattle.protocol.specs.declared.Reply.TheVariants.{NegotiationRes, AuthenticationRes, ProxyRes, Response}
use Rattle.protocol.specs.Bytes.{byte}
use Rattle.protocol.specs.Replies.{proxy_size}
use Rattle.client_stages.specs.declared.due.Stage.{Stage}
use Rattle.client_stages.specs.declared.due.Stage.TheVariants.{Awaiting, Open, Failed}

-- nothing is held, or first this byte
unfoldable pub begins_with : ℕ → List ℕ → Bool
begins_with b h = eqb (length h) 0 || eqb (byte h 0) b

-- of a ProxyRes: `05 00`, or what came of it
unfoldable pub may_connect : List ℕ → Bool
may_connect h = begins_with 0x05 h && eqb (byte h 1) 0x00

-- behind the type, ahead of the byte that may be a name's length: the shortest name has one byte
unfoldable pub size_from : ℕ → Bool → ℕ
size_from atyp may = cond (eqb atyp 0x01) 10 (cond (eqb atyp 0x04) 22 (cond (eqb atyp 0x03 && may) 8 5))

-- how many bytes a ProxyRes has at the least: `05 00 00 03 01`, a byte and the port; one that can only fail up to where it is decided, at 3, at 5 or whole
unfoldable pub proxy_least : List ℕ → ℕ
proxy_least h =
    cond (ltb (length h) 4) (cond (may_connect h) 8 (cond (ltb (length h) 3) 3 5))
    (cond (ltb (length h) 5) (size_from (byte h 3) (may_connect h)) (proxy_size (byte h 3) (byte h 4)))

abbrev pub least_size : Reply → List ℕ → ℕ
least_size (NegotiationRes m) h = 2
least_size AuthenticationRes h = 2
least_size ProxyRes h = proxy_least h
least_size Response h = 8

-- what it lacks of so many bytes. A session that was fed never holds them all; of another one byte is asked
unfoldable pub lacking : ℕ → ℕ → ℕ
lacking size held = cond (ltb held size) (size - held) 1

-- the shortest replies behind one that is good; no reply to NoneAcceptable is
abbrev pub behind : Reply → ℕ
behind (NegotiationRes NoAuth) = 8
behind (NegotiationRes UserPass) = 10
behind (NegotiationRes NoneAcceptable) = 0
behind AuthenticationRes = 8
behind ProxyRes = 0
behind Response = 0

-- where others follow, whether this one can still be good
abbrev pub may_follow : Reply → List ℕ → Bool
may_follow (NegotiationRes m) h = begins_with 0x05 h
may_follow AuthenticationRes h = begins_with 0x01 h
may_follow ProxyRes h = false
may_follow Response h = false

abbrev pub wants_for : Reply → List ℕ → ℕ
wants_for e h = lacking (least_size e h) (length h) + cond (may_follow e h) (behind e) 0

-- 0 unless it is started and waits
abbrev pub wants_at : Stage → Bool → List ℕ → ℕ
wants_at (Awaiting e) started h = cond started (wants_for e h) 0
wants_at Open started h = 0
wants_at (Failed x) started h = 0
