-- F-5: what each call on a route answers and leaves, for any arguments and any route value.
use Rattle.std.specs.Prelude.{ℕ, zero, suc, ◌+◌, ◌-◌, ◌*◌, ◌≤◌, min, ◌≡◌, Bool, true, cond, ◌||◌, List, [], ◌∷◌, ◌++◌, length, drop, replicate, leb, ltb, eqb}
use Rattle.protocol.specs.declared.SocksError.{SocksError}
use Rattle.protocol.specs.declared.SocksError.TheVariants.{ShortOutput, Settled, RouteLength}
use Rattle.protocol.specs.Answers as code
use Rattle.protocol.specs.declared.Address.{Address}
use Rattle.protocol.specs.declared.Outcome.{Outcome}
use Rattle.protocol.specs.Bound.{unbound, bound_of}
use Rattle.protocol.specs.Opening.{refuse, Opening, first_reply}
use Rattle.client_stages.specs.declared.due.Stage.TheVariants.{Awaiting, Failed}
use Rattle.client_stages.specs.due.Parts.{first_of}
use Rattle.client_delivery.specs.wants.Wants.{wants_for}
use Rattle.client_delivery.specs.wants.Still.{still_at}
use Rattle.client_session.specs.declared.Session.{Session}
use Rattle.client_session.specs.Session as session
use Rattle.client_session.specs.Calls as session-calls
use Rattle.client_session.specs.Calls.{kept_by}
use Rattle.route_delivery.specs.declared.Hop.{Hop}
use Rattle.route_delivery.specs.Relay.{no_hop, hop_at, requests_at, Relay, relayed}
use Rattle.route_session.specs.plan.Plan.{hops_for, bytes_for}
use Rattle.route_spec.specs.Route as routing
use Rattle.route_spec.specs.Route.{room_for, check, openings}
use Rattle.route_session.specs.declared.calls.Route.{Route}
use Rattle.route_session.specs.declared.calls.Opened.{Opened}
use Rattle.route_session.specs.declared.calls.Delivered.{Delivered}
use Rattle.route_session.specs.declared.calls.Ended.{Ended}
use Rattle.talk.specs.Talk as talk
use Rattle.talk.specs.Tunnel.{Answer}

abbrev pub Call : Type 0
Call = Answer Route code.Answer

abbrev pub refusal : SocksError → Route → List ℕ → Call
refusal e r out = record { answer = code.Refused e; session = r; used = 0; sent = 0; output = out }

-- ---- a route value and the session of the proxy that is spoken to

-- how many proxies are behind the first, by a count of one to eight; any other counts as the nearer of these
abbrev pub last_in : ℕ → ℕ
last_in count = min (count - 1) 7

abbrev pub behind_in : Route → ℕ
behind_in r = min r.behind (last_in r.count)

-- the output that a delivery must lend: 1,024 bytes for each proxy, however many are open
abbrev pub room_in : Route → ℕ
room_in r = room_for (suc (last_in r.count))

abbrev pub session_in : Route → Session
session_in r =
    record {
      stage = r.stage;
      started = true;
      held = r.held;
      hold = r.hold;
      bound = r.bound;
      attempts = r.attempts;
      requests = requests_at r.hops r.bytes (behind_in r);
    }

abbrev pub with_session : Route → ℕ → Session → Route
with_session r n s =
    record {
      stage = s.stage;
      held = s.held;
      hold = s.hold;
      bound = s.bound;
      attempts = s.attempts;
      count = r.count;
      behind = n;
      hops = r.hops;
      bytes = r.bytes;
    }

abbrev pub outcome : Route → Outcome
outcome r = session.outcome (session_in r)

-- of a route that is not open IPv4 zeros and port 0
abbrev pub bound : Route → Address
bound r = session.bound (session_in r)

-- the shortest replies of the proxies behind: of each by the reply that it awaits first
unfoldable pub shortest_behind : List Hop → ℕ → ℕ
shortest_behind hops zero = 0
shortest_behind hops (suc n) = wants_for (hop_at hops n).first [] + shortest_behind hops n

-- how many bytes may be read without reading past the handshake: what the proxy that is spoken to wants and, unless nothing opens that one any more, those
abbrev pub wants : Route → ℕ
wants r = session.wants (session_in r) + cond (still_at r.stage (session.held_bytes (session_in r))) (shortest_behind r.hops (behind_in r)) 0

abbrev pub is_over : Route → Bool
is_over r = talk.is_over (session.view (session_in r))

-- ---- Opening

-- all zeros, failed with an error
abbrev pub empty_route : SocksError → Route
empty_route e =
    record {
      stage = Failed e;
      held = 0;
      hold = replicate 261 0;
      bound = bound_of unbound;
      attempts = 0;
      count = 0;
      behind = 0;
      hops = replicate 8 no_hop;
      bytes = replicate 8192 0;
    }

-- the first proxy is begun; what the openings keep stands at the arrays' start, the last one's first
abbrev pub started_for : Opening → List Opening → Route
started_for o os =
    record {
      stage = Awaiting (first_reply o);
      held = 0;
      hold = replicate 261 0;
      bound = bound_of unbound;
      attempts = 0;
      count = suc (length os);
      behind = length os;
      hops = hops_for (o ∷ os) ++ drop (suc (length os)) (replicate 8 no_hop);
      bytes = bytes_for (o ∷ os) ++ drop (1024 * suc (length os)) (replicate 8192 0);
    }

-- as the code has it: what stands in the arrays, and how many proxies there are
abbrev pub begun_with : List Hop → List ℕ → ℕ → Route
begun_with hops bytes count =
    record {
      stage = Awaiting (hop_at hops (count - 1)).first;
      held = 0;
      hold = replicate 261 0;
      bound = bound_of unbound;
      attempts = 0;
      count = count;
      behind = count - 1;
      hops = hops;
      bytes = bytes;
    }

abbrev pub begins : Route → List ℕ → List ℕ → Call
begins r first out = record { answer = code.Accepted; session = r; used = 0; sent = length first; output = first ++ drop (length first) out }

-- no route without an opening is accepted
abbrev pub open_by : code.Answer → List Opening → List ℕ → Call
open_by code.Accepted [] out = refusal RouteLength (empty_route RouteLength) out
open_by code.Accepted (o ∷ os) out = begins (started_for o os) (first_of (first_reply o) (kept_by o)) out
open_by (code.Refused e) os out = refusal e (empty_route e) out

-- what the number of proxies and the output lent answer, ahead of the openings' checks
abbrev pub size_answer : ℕ → ℕ → code.Answer
size_answer count out = refuse (eqb count 0 || ltb 8 count) RouteLength (refuse (ltb out (room_for count)) ShortOutput code.Accepted)

unfoldable pub opening : routing.Route → List ℕ → Call
opening a out = open_by (check a (length out)) (openings a) out

-- ---- Delivery

abbrev pub moves : Route → Relay → List ℕ → Call
moves r q out =
    record {
      answer = code.Accepted;
      session = with_session r q.behind q.session;
      used = q.used;
      sent = length q.sent;
      output = q.sent ++ drop (length q.sent) out;
    }

abbrev pub takes : Route → List ℕ → List ℕ → Call
takes r piece out = moves r (relayed r.hops r.bytes (behind_in r) (session_in r) piece) out

unfoldable pub deliver : Route → List ℕ → List ℕ → Call
deliver r piece out = cond (is_over r) (refusal Settled r out) (cond (leb (room_in r) (length out)) (takes r piece out) (refusal ShortOutput r out))

-- ---- End of stream: as that of the proxy's session

unfoldable pub end : Route → Call
end r =
    let c = session-calls.end (session_in r) in
    record { answer = c.answer; session = with_session r r.behind c.session; used = 0; sent = 0; output = [] }

-- ---- what a function of the code returns and leaves in the output, as a call says; with the bounds that a caller slices by

abbrev pub opened : Call → Opened
opened c = record { answer = c.answer; sent = c.sent; route = c.session }

pub record OpenResult (c : Call) (r : Opened) (out' : List ℕ) : Type 0 where
  pub returned : r ≡ opened c
  pub output : out' ≡ c.output
  pub inside : r.sent ≤ length out'

abbrev pub delivered : Call → Delivered
delivered c = record { answer = c.answer; used = c.used; sent = c.sent; route = c.session }

pub record DeliverResult (c : Call) (piece : List ℕ) (r : Delivered) (out' : List ℕ) : Type 0 where
  pub returned : r ≡ delivered c
  pub output : out' ≡ c.output
  pub inside : r.sent ≤ length out'
  pub within : r.used ≤ length piece

abbrev pub ended_by : Call → Ended
ended_by c = record { answer = c.answer; route = c.session }
