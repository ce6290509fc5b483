-- How many bytes may be read without reading past the handshake: what is promised of a session's `wants`.
use Rattle.std.specs.Prelude.{ℕ, ◌≤◌, ◌≡◌, true, false, List, [], ◌∷◌, ◌++◌, length}
use Rattle.protocol.specs.Answers.{Accepted}
use Rattle.protocol.specs.declared.Outcome.TheVariants.{Waiting, Open}
use Rattle.protocol.specs.Bytes.{Bytes, BytePieces}
use Rattle.protocol.specs.Opening.{Opening, delivery_room}
use Rattle.protocol.specs.Wants.{Some, Completes, WantedBy}
use Rattle.client_session.specs.declared.Session.{Session}
use Rattle.client_session.specs.declared.Prepared.{Prepared}
use Rattle.client_session.specs.Session.{outcome, wants}
use Rattle.client_session.specs.Calls.{start, deliver}
use Rattle.socks.specs.Demand3.{tunnel_of, joined_of}
use Rattle.talk.specs.Tunnel.{Delivery, rest}

-- of every session value: none unless it is started and waits, so a prepared one wants none; else at least one
pub record AnyWants (s : Session) : Type 0 where
  pub unstarted : s.started ≡ false → wants s ≡ 0
  pub settled : (outcome s ≡ Waiting → ⊥) → wants s ≡ 0
  pub some : s.started ≡ true → outcome s ≡ Waiting → 1 ≤ wants s

-- a stream of just so many bytes; it and any one byte behind it, delivered with enough output, open the session and leave just that byte
pub record LeavesOne (o : Opening) (s : Session) : Type 0 where
  pub stream : List ℕ
  pub bytes : Bytes stream
  pub long : length stream ≡ wants s
  pub opens : (b : ℕ) (out : List ℕ) → delivery_room o ≤ length out → outcome (deliver s (stream ++ (b ∷ [])) out).session ≡ Open
  pub used : (b : ℕ) (out : List ℕ) → delivery_room o ≤ length out → (deliver s (stream ++ (b ∷ [])) out).used ≡ wants s
  pub leaves : (b : ℕ) (out : List ℕ) → delivery_room o ≤ length out → rest (stream ++ (b ∷ [])) (deliver s (stream ++ (b ∷ [])) out).used ≡ b ∷ []

-- of an opening, the session behind deliveries and their joined bytes
pub record Reads (o : Opening) (s : Session) (came : List ℕ) : Type 0 where
  -- the length of the shortest stream that completes the joined bytes to a reply sequence of the opening's grammar; where none does, of the shortest with which
  -- the plain machine waits no more
  pub wanted : WantedBy o came (wants s)
  -- a piece of at most so many bytes behind which the session is open was used whole
  pub never_past : (piece out : List ℕ) → Bytes piece → length piece ≤ wants s → outcome (deliver s piece out).session ≡ Open → (deliver s piece out).used ≡ length piece
  -- while it waits it asks for some
  pub some : outcome s ≡ Waiting → 1 ≤ wants s
  -- where some stream opens it, of one byte more that byte would be left over
  pub left_over : outcome s ≡ Waiting → Some (Completes o came) → LeavesOne o s

-- for what preparing returned, any output with which it is started, and every list of deliveries from the session that the start returned
abbrev pub Read : Prepared → Opening → Type 0
Read p o =
    (out : List ℕ) → p.answer ≡ Accepted → (start p.session out).answer ≡ Accepted → (ds : List Delivery) → BytePieces ds
    → Reads o (tunnel_of o (start p.session out).session [] ds).session (joined_of o ds)
