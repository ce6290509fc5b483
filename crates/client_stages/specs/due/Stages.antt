-- 01, "The call: the session": the stages of a session, and the session of a handshake's side that a stage stands for.
use Rattle.std.specs.Prelude.{ℕ, List, []}
use Rattle.protocol.specs.declared.Reply.{Reply}
use Rattle.protocol.specs.declared.Reply.TheVariants.{NegotiationRes, AuthenticationRes, ProxyRes, Response}
use Rattle.protocol.specs.declared.SocksError.{SocksError}
use Rattle.protocol.specs.declared.Bound.{Bound}
use Rattle.protocol.specs.Requests.{kind_of}
use Rattle.protocol.specs.Bound.{Endpoint, endpoint, bytes_in, bound_of}
use Rattle.client_stages.specs.declared.due.Stage.{Stage}
use Rattle.client_stages.specs.declared.due.Stage.TheVariants.{Awaiting, Open, Failed}
use Rattle.talk.specs.Talk as talk
use Rattle.talk.specs.Talk.{Fed}

abbrev pub SideSession : Type 0
SideSession = talk.Session Reply Endpoint SocksError

-- a stage with what it is bound to and what it holds
abbrev pub session_at : Stage → Endpoint → List ℕ → SideSession
session_at (Awaiting e) x h = talk.waiting e h
session_at Open x h = talk.ended (talk.done x)
session_at (Failed y) x h = talk.ended (talk.failed y)

-- F-1: what a session holds once it is open are the bytes of its bound address
abbrev pub view_at : Stage → Bound → List ℕ → SideSession
view_at stage b h = session_at stage (endpoint (kind_of b.kind h) b.port) h

abbrev pub stage_of : SideSession → Stage
stage_of (talk.waiting e h) = Awaiting e
stage_of (talk.ended (talk.done x)) = Open
stage_of (talk.ended (talk.failed x)) = Failed x

abbrev pub holds_of : SideSession → List ℕ
holds_of (talk.waiting e h) = h
holds_of (talk.ended (talk.done x)) = bytes_in x.address
holds_of (talk.ended (talk.failed x)) = []

-- the address's kind and port, as they were unless it is open
abbrev pub bound_after : SideSession → Bound → Bound
bound_after (talk.waiting e h) b = b
bound_after (talk.ended (talk.done x)) b = bound_of x
bound_after (talk.ended (talk.failed x)) b = b

abbrev pub SideFed : Type 0
SideFed = Fed Reply Endpoint SocksError

-- how many replies may still come
abbrev pub rank : Stage → ℕ
rank (Awaiting (NegotiationRes m)) = 3
rank (Awaiting AuthenticationRes) = 2
rank (Awaiting ProxyRes) = 1
rank (Awaiting Response) = 1
rank Open = 0
rank (Failed x) = 0
