-- 01, "Tunnel": demand 3, one claim over every list of deliveries to a tunnel: a field for each sentence.
use Rattle.std.specs.Prelude.{ℕ, ◌≡◌, ◌↔◌, List, take, drop}
use Rattle.protocol.specs.Answers.{Answer, Accepted}
use Rattle.protocol.specs.declared.Outcome.TheVariants.{Open}
use Rattle.protocol.specs.Bytes.{BytePieces}
use Rattle.protocol.specs.Bound.{address_of}
use Rattle.protocol.specs.Opening.{Opening, delivery_room}
use Rattle.protocol.specs.Machine.{machine, used}
use Rattle.protocol.specs.Grammar.{Replied, JustOne}
use Rattle.client_session.specs.declared.Session.{Session}
use Rattle.client_session.specs.Session.{outcome, bound}
use Rattle.client_session.specs.declared.Prepared.{Prepared}
use Rattle.client_session.specs.Calls.{start, deliver}
use Rattle.talk.specs.Tunnel.{Receiver, Delivery, joined, Tunnel, tunnel}

-- what two tunnels have alike: outcome with status, bound address, sent bytes, total count and rests. Not the attempts (F-11), in which lists with equal joined
-- bytes may differ
pub record Alike (t u : Tunnel Session) : Type 0 where
  pub outcomes : outcome t.session ≡ outcome u.session
  pub bounds : bound t.session ≡ bound u.session
  pub sent : t.sent ≡ u.sent
  pub count : t.count ≡ u.count
  pub rest : t.rest ≡ u.rest

-- a session takes pieces by the exported call; those deliveries count that lend so much output
abbrev pub receiver : ℕ → Receiver Session Answer
receiver room = record { room = room; deliver = deliver }

-- the tunnel of an opening, whose deliveries count if they lend what its version asks; and their joined bytes
abbrev pub tunnel_of : Opening → Session → List ℕ → List Delivery → Tunnel Session
tunnel_of o s sent ds = tunnel (receiver (delivery_room o)) s sent ds

abbrev pub joined_of : Opening → List Delivery → List ℕ
joined_of o ds = joined (receiver (delivery_room o)) ds

-- of an opening, the session that its start returned and the bytes that this sent
pub record Demand3 (o : Opening) (s : Session) (sent : List ℕ) (ds : List Delivery) : Type 0 where
  -- open exactly when the joined bytes begin with a reply sequence of the opening's grammar
  pub opens_just : outcome (tunnel_of o s sent ds).session ≡ Open ↔ Replied o (joined_of o ds)
  -- if open, just one beginning is such a sequence, and the total count is its length
  pub just_one : outcome (tunnel_of o s sent ds).session ≡ Open → JustOne o (joined_of o ds) (tunnel_of o s sent ds).count (machine o (joined_of o ds)).bound
  -- F-1: open or not, the bound address is the plain machine's; if open, it is the one that this beginning names, by just-one
  pub bound_as : bound (tunnel_of o s sent ds).session ≡ address_of (machine o (joined_of o ds)).bound
  -- open or not, the rests joined are exactly the joined bytes after the total count
  pub rests_are : (tunnel_of o s sent ds).rest ≡ drop (tunnel_of o s sent ds).count (joined_of o ds)
  -- all sent bytes, the outcome with its status and the total count equal the plain machine's
  pub sent_as : (tunnel_of o s sent ds).sent ≡ (machine o (joined_of o ds)).sent
  pub outcome_as : outcome (tunnel_of o s sent ds).session ≡ (machine o (joined_of o ds)).outcome
  pub count_as : (tunnel_of o s sent ds).count ≡ used o (joined_of o ds)
  -- two lists with equal joined bytes are alike in all of these
  pub alike : (ds' : List Delivery) → joined_of o ds' ≡ joined_of o ds → Alike (tunnel_of o s sent ds') (tunnel_of o s sent ds)

-- for what preparing returned, any output with which it is started, and every list of deliveries from the session that the start returned
abbrev pub Tunnelled : Prepared → Opening → Type 0
Tunnelled p o =
    (out : List ℕ) → p.answer ≡ Accepted → (start p.session out).answer ≡ Accepted → (ds : List Delivery) → BytePieces ds
    → Demand3 o (start p.session out).session (take (start p.session out).sent (start p.session out).output) ds
