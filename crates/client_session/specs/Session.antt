-- 01, "The call: the session": the session as the calls hold it, and the session of a handshake's side that it stands for.
use Rattle.std.specs.Prelude.{ℕ, ◌+◌, ◌%◌, ◌^◌, cond, List, [], ◌++◌, length, take, drop}
use Rattle.protocol.specs.declared.Outcome.{Outcome}
use Rattle.protocol.specs.declared.Address.{Address}
use Rattle.protocol.specs.declared.SocksError.TheVariants.{NotOpen}
use Rattle.protocol.specs.Bound.{address_of}
use Rattle.protocol.specs.Client as client
use Rattle.client_stages.specs.declared.due.Stage.{Stage}
use Rattle.client_stages.specs.declared.due.Stage.TheVariants.{Awaiting, Open, Failed}
use Rattle.client_stages.specs.outcome.Told.{is_open}
use Rattle.client_session.specs.declared.Session.{Session}
use Rattle.talk.specs.Talk as talk
use Rattle.client_stages.specs.due.Stages.{SideSession, view_at, stage_of, holds_of, bound_after}
use Rattle.address_format.specs.endpoint.Text.{bound_text}
use Rattle.address_format.specs.endpoint.Written.{TextCall, unwritten, write_text}
use Rattle.client_stages.specs.declared.due.Requests.{Requests}
use Rattle.client_stages.specs.due.Parts.{requests_of, first_of}
use Rattle.client_delivery.specs.wants.Wants.{wants_at}

abbrev pub side_of : Session → talk.Side
side_of s = client.client (requests_of s.requests)

-- the held bytes: the first of the hold, all of it where the count is larger
abbrev pub held_bytes : Session → List ℕ
held_bytes s = take s.held s.hold

abbrev pub view : Session → SideSession
view s = view_at s.stage s.bound (held_bytes s)

-- a session made to stand for another: of the hold only the first bytes change, as many as are held
abbrev pub packed : Session → SideSession → Session
packed s m =
    record {
      stage = stage_of m;
      started = s.started;
      held = length (holds_of m);
      hold = holds_of m ++ drop (length (holds_of m)) s.hold;
      bound = bound_after m s.bound;
      attempts = s.attempts;
      requests = s.requests;
    }

-- F-11: with so many attempts more; the number wraps at 2 to the 64, whatever it was before
abbrev pub attempted : ℕ → Session → Session
attempted n s =
    record { stage = s.stage; started = s.started; held = s.held; hold = s.hold; bound = s.bound; attempts = (s.attempts + n) % 2 ^ 64; requests = s.requests }

abbrev pub outcome : Session → Outcome
outcome s = client.outcome_of (view s)

-- how many bytes may be read without reading past the handshake; 0 unless it is started and waits
abbrev pub wants : Session → ℕ
wants s = wants_at s.stage s.started (held_bytes s)

-- F-1: the bound address, as it is handed out; of a session that is not open IPv4 zeros and port 0
abbrev pub bound : Session → Address
bound s = address_of (client.bound_in (view s))

-- its text: 17 if the session is not open, then 18 if the buffer is shorter than the text
unfoldable pub write_bound : Session → List ℕ → TextCall
write_bound s buffer = cond (is_open s.stage) (write_text (bound_text (bound s)) buffer) (unwritten NotOpen buffer)

-- F-7: the output that a start must lend, and what it sends; a waiting session's version is told by the reply that it waits for
abbrev pub first_room_at : Stage → ℕ
first_room_at (Awaiting e) = client.first_room e
first_room_at Open = 0
first_room_at (Failed x) = 0

abbrev pub first_at : Stage → Requests → List ℕ
first_at (Awaiting e) r = first_of e r
first_at Open r = []
first_at (Failed x) r = []

-- the output that a delivery must lend
abbrev pub room_at : Stage → ℕ
room_at (Awaiting e) = client.room e
room_at Open = 0
room_at (Failed x) = 0
