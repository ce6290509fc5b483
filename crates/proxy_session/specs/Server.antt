-- F-3: the proxy's end as the calls hold it, and the session of a handshake's side that it stands for.
use Rattle.std.specs.Prelude.{ℕ, Bool, cond, List, ◌++◌, length, take, drop, replicate}
use Rattle.protocol.specs.Bytes.{padded}
use Rattle.protocol.specs.Requests.{kind_of}
use Rattle.protocol.specs.Bound.{Endpoint, endpoint, unbound, bound_of}
use Rattle.proxy_spec.specs.declared.Stage.{Stage}
use Rattle.proxy_spec.specs.End.{Setup}
use Rattle.proxy_spec.specs.Side.{EndSession, server}
use Rattle.proxy_spec.specs.Shortest.{wants_by}
use Rattle.proxy_decisions.specs.decision.Due.{session_at}
use Rattle.proxy_decisions.specs.declared.destination.Target.{Target}
use Rattle.proxy_decisions.specs.destination.Last.{target_as}
use Rattle.proxy_replies.specs.declared.stages.Outcome.{Outcome}
use Rattle.proxy_replies.specs.stages.Told.{outcome_at, has_destination}
use Rattle.proxy_delivery.specs.piece.Pieces.{stage_of, holds_of, bound_after}
use Rattle.proxy_session.specs.declared.Credential.{Credential}
use Rattle.proxy_session.specs.declared.Server.{Server}
use Rattle.talk.specs.Talk as talk

-- ---- what it was set up with

abbrev pub credential_of : List ℕ → Credential
credential_of s = record { len = length s; bytes = padded 255 s }

abbrev pub text_of : Credential → List ℕ
text_of k = take k.len k.bytes

abbrev pub setup_of : Server → Setup
setup_of s = record { authenticates = s.authenticates; user = text_of s.user; password = text_of s.password }

abbrev pub side_of : Server → talk.Side
side_of s = server (setup_of s)

-- ---- how it stands

-- the held bytes: the first of the hold, all of it where the count is larger
abbrev pub held_bytes : Server → List ℕ
held_bytes s = take s.held s.hold

-- what is asked for: a kind, the held bytes, and a port
abbrev pub asked_for : Server → Endpoint
asked_for s = endpoint (kind_of s.bound.kind (held_bytes s)) s.bound.port

abbrev pub view : Server → EndSession
view s = session_at s.stage (asked_for s) (held_bytes s)

-- an end made to stand for another session: of the hold only the first bytes change, as many as are held
abbrev pub packed : Server → EndSession → Server
packed s m =
    record {
      stage = stage_of m;
      held = length (holds_of m);
      hold = holds_of m ++ drop (length (holds_of m)) s.hold;
      bound = bound_after m s.bound;
      authenticates = s.authenticates;
      user = s.user;
      password = s.password;
    }

-- with another stage and all else as it was
abbrev pub at_stage : Stage → Server → Server
at_stage t s =
    record { stage = t; held = s.held; hold = s.hold; bound = s.bound; authenticates = s.authenticates; user = s.user; password = s.password }

abbrev pub outcome : Server → Outcome
outcome s = outcome_at s.stage

-- the destination that was handed out; of an end that neither awaits the caller's answer nor is open IPv4 zeros and port 0
abbrev pub destination : Server → Target
destination s = target_as (cond (has_destination s.stage) (asked_for s) unbound)

-- how many bytes may be read without reading past the client's requests
abbrev pub wants : Server → ℕ
wants s = wants_by (setup_of s) (view s)

-- one that holds nothing
abbrev pub fresh : Stage → Bool → Credential → Credential → Server
fresh stage authenticates user password =
    record {
      stage = stage;
      held = 0;
      hold = replicate 1014 0;
      bound = bound_of unbound;
      authenticates = authenticates;
      user = user;
      password = password;
    }
