-- F-5: a delivery to a route's proxies, each a session of its own: the one that is spoken to takes the piece; once it is open the next is begun, and takes what it left.
use Rattle.std.specs.Prelude.{◌≡◌, ℕ, zero, suc, ◌+◌, ◌-◌, ◌*◌, ◌^◌, ◌<◌, ◌≤◌, true, cond, List, ◌++◌, length, take, drop, replicate, slice_index_or}
use Rattle.protocol.specs.declared.AuthMethod.TheVariants.{NoAuth}
use Rattle.protocol.specs.declared.Reply.TheVariants.{NegotiationRes}
use Rattle.protocol.specs.Bound.{unbound, bound_of}
use Rattle.client_stages.specs.declared.due.Stage.{Stage}
use Rattle.client_stages.specs.declared.due.Stage.TheVariants.{Awaiting, Open, Failed}
use Rattle.client_stages.specs.declared.due.Lengths.{Lengths}
use Rattle.client_stages.specs.declared.due.Requests.{Requests}
use Rattle.client_stages.specs.due.Parts.{part, first_of}
use Rattle.client_stages.specs.due.Due.{still_due}
use Rattle.client_session.specs.declared.Session.{Session}
use Rattle.client_session.specs.Calls.{Call, nothing_kept, deliver}
use Rattle.buffers.specs.write.Written.{Wrote}
use Rattle.route_delivery.specs.declared.Hop.{Hop}
use Rattle.route_delivery.specs.declared.Spot.{Spot}
use Rattle.route_delivery.specs.declared.Relayed.{Relayed}

-- ---- what a route keeps of the proxy with an index; the last one's is 0. One that it lacks keeps nothing

abbrev pub no_hop : Hop
no_hop = record { first = NegotiationRes NoAuth; lengths = nothing_kept.lengths }

abbrev pub hop_at : List Hop → ℕ → Hop
hop_at hops n = slice_index_or hops n no_hop

abbrev pub bytes_at : List ℕ → ℕ → List ℕ
bytes_at bytes n = part bytes (1024 * n) 1024

abbrev pub requests_at : List Hop → List ℕ → ℕ → Requests
requests_at hops bytes n = record { lengths = (hop_at hops n).lengths; bytes = bytes_at bytes n }

-- what goes when it is begun
abbrev pub goes_at : List Hop → List ℕ → ℕ → List ℕ
goes_at hops bytes n = first_of (hop_at hops n).first (requests_at hops bytes n)

-- its session then: it is started and holds nothing; bytes of the hold, address and attempts are as the proxy before left them
abbrev pub begun_at : List Hop → List ℕ → ℕ → Session → Session
begun_at hops bytes n s =
    record {
      stage = Awaiting (hop_at hops n).first;
      started = true;
      held = 0;
      hold = s.hold;
      bound = s.bound;
      attempts = s.attempts;
      requests = requests_at hops bytes n;
    }

-- ---- a piece

-- where it leaves a route: the session of the proxy that is then spoken to, how many are behind that one, how much was used, and what was sent
pub record Relay : Type 0 where
  pub session : Session
  pub behind : ℕ
  pub used : ℕ
  pub sent : List ℕ

-- a proxy's own delivery, lent 1,024 bytes
abbrev pub handed : Session → List ℕ → Call
handed s piece = deliver s piece (replicate 1024 0)

abbrev pub alone : ℕ → Call → Relay
alone n c = record { session = c.session; behind = n; used = c.used; sent = take c.sent c.output }

-- by the stage behind it: open, what goes first is sent to the next, and the rest handed on
abbrev pub handing_on : Stage → Relay → List ℕ → Relay → Relay
handing_on (Awaiting e) here goes next = here
handing_on Open here goes next = record { session = next.session; behind = next.behind; used = here.used + next.used; sent = here.sent ++ (goes ++ next.sent) }
handing_on (Failed x) here goes next = here

unfoldable pub relayed : List Hop → List ℕ → ℕ → Session → List ℕ → Relay
relayed hops bytes zero s piece = alone zero (handed s piece)
relayed hops bytes (suc n) s piece =
    let c = handed s piece in
    handing_on c.session.stage (alone (suc n) c) (goes_at hops bytes n) (relayed hops bytes n (begun_at hops bytes n c.session) (drop c.used piece))

-- ---- as the code has it

-- a spot among the proxies, and the session that it stands for
abbrev pub session_at : List Hop → List ℕ → Spot → List ℕ → Session
session_at hops bytes p hold =
    record {
      stage = p.stage;
      started = true;
      held = p.held;
      hold = hold;
      bound = p.bound;
      attempts = p.attempts;
      requests = requests_at hops bytes p.behind;
    }

abbrev pub spot_of : ℕ → Session → ℕ → Spot
spot_of n s sent = record { behind = n; stage = s.stage; held = s.held; bound = s.bound; attempts = s.attempts; sent = sent }

-- ahead of all proxies
abbrev pub fresh_spot : ℕ → Spot
fresh_spot count = record { behind = count; stage = Open; held = 0; bound = bound_of unbound; attempts = 0; sent = 0 }

abbrev pub begun_spot : List Hop → Spot → ℕ → Spot
begun_spot hops p sent =
    record { behind = p.behind - 1; stage = Awaiting (hop_at hops (p.behind - 1)).first; held = 0; bound = p.bound; attempts = p.attempts; sent = sent }

-- at most so much is still due to the proxy that is spoken to
abbrev pub most_due : Lengths → Stage → ℕ
most_due l stage = cond l.optimistic 0 (still_due stage)

-- what a piece asks: the requests of the proxies from here on, and output for all that may still go
pub record Relayable (hops : List Hop) (p : Spot) (bytes : List ℕ) (out : ℕ) : Type 0 where
  pub few : p.behind ≤ 7
  pub small : p.attempts < 2 ^ 64
  pub whole : 1024 * (p.behind + 1) ≤ length bytes
  pub roomy : p.sent + (most_due (hop_at hops p.behind).lengths p.stage + 1024 * p.behind) ≤ out

-- what was done equals a relay: the spot behind it, the hold, and what was sent from a place of the output on
pub record RelayResult (q : Relay) (p : Spot) (piece out : List ℕ) (r : Relayed) (hold' out' : List ℕ) : Type 0 where
  pub spot : r.spot ≡ spot_of q.behind q.session r.spot.sent
  pub used : r.used ≡ q.used
  pub held : hold' ≡ q.session.hold
  pub wrote : Wrote out p.sent q.sent r.spot.sent out'
  pub within : r.used ≤ length piece
