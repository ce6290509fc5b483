-- F-13: every handshake of the load opens, whatever the seed, and uses all of its replies.
use Rattle.std.specs.Prelude.{◌≡◌, ℕ, ◌≤◌, Bool, List, [], ◌∷◌, length}
use Rattle.protocol.specs.Answers.{Accepted}
use Rattle.protocol.specs.declared.Outcome.TheVariants.{Open}
use Rattle.client_session.specs.declared.Session.{Session}
use Rattle.client_session.specs.Session.{outcome}
use Rattle.client_session.specs.Calls.{Call, start}
use Rattle.socks.specs.Demand3.{tunnel_of}
use Rattle.load_spec.specs.Load.{Handshake, opening_of}
use Rattle.load.specs.Runs.{prepared_for, sent_by, One}
use Rattle.talk.specs.Tunnel.{Delivery, Tunnel}

-- deliveries of pieces that each lend 1,024 bytes or more
pub data Lent : List (List ℕ) → List Delivery → Type 0 where
  none : Lent [] []
  more : {p out : List ℕ} {ps : List (List ℕ)} {ds : List Delivery} → 1024 ≤ length out → Lent ps ds → Lent (p ∷ ps) (record { piece = p; output = out } ∷ ds)

abbrev pub started_with : Handshake → List ℕ → Call
started_with h out = start (prepared_for h).session out

abbrev pub tunnel_for : Handshake → List ℕ → List Delivery → Tunnel Session
tunnel_for h out ds = tunnel_of (opening_of h.v5 h.credentials h.name) (started_with h out).session (sent_by (started_with h out)) ds

pub record Opens (h : Handshake) (out : List ℕ) (ds : List Delivery) : Type 0 where
  pub prepared : (prepared_for h).answer ≡ Accepted
  pub started : (started_with h out).answer ≡ Accepted
  pub opens : outcome (tunnel_for h out ds).session ≡ Open
  pub uses : (tunnel_for h out ds).count ≡ length h.replies

-- pieces as drawn, or byte by byte
abbrev pub EveryOpens : Type 0
EveryOpens =
    (single : Bool) (s s' : ℕ) (h : Handshake) → One single s h s' → (out : List ℕ) → 1024 ≤ length out → (ds : List Delivery) → Lent h.pieces ds → Opens h out ds
