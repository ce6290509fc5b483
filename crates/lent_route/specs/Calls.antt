-- F-5: what a call on a route in lent bytes tells and leaves.
use Rattle.std.specs.Prelude.{ℕ, suc, ◌+◌, ◌-◌, ◌*◌, ◌≡◌, false, cond, ◌||◌, List, [], ◌++◌, eqb, leb, ltb, take, drop, replicate}
use Rattle.protocol.specs.Answers as code
use Rattle.protocol.specs.declared.SocksError.{SocksError}
use Rattle.protocol.specs.declared.SocksError.TheVariants.{RouteLength, Settled, OutOfOrder}
use Rattle.protocol.specs.Numbers.{number, answer_number}
use Rattle.protocol.specs.Opening.{refuse, Opening}
use Rattle.buffers.specs.write.Written.{overwrite}
use Rattle.client_session.specs.declared.Session.{Session}
use Rattle.client_session.specs.Session as session
use Rattle.client_session.specs.Calls.{kept_by}
use Rattle.raw_numbers.specs.Numbers.{truth, port_of}
use Rattle.lent_numbers.specs.declared.told.RawStep.{RawStep}
use Rattle.lent_numbers.specs.told.Told.{outcome_of}
use Rattle.lent_numbers.specs.bytes.Numbers.{digits}
use Rattle.lent_session.specs.declared.preparing.RawConfig.{RawConfig}
use Rattle.lent_session.specs.State as sessions
use Rattle.lent_session.specs.State.{session_at}
use Rattle.route_delivery.specs.Relay.{goes_at}
use Rattle.route_spec.specs.Route.{Asked, over5, over4, opening_for, check_for}
use Rattle.route_session.specs.declared.calls.Route.{Route}
use Rattle.route_session.specs.plan.Plan.{hop_for}
use Rattle.route_session.specs.calls.Calls.{Call, refusal, last_in, outcome, empty_route, begun_with, begins}
use Rattle.lent_route.specs.State.{Phase, preparing, opened, over, phase_at, hops_in, bytes_in, count_at, route_at, slot_of, carried, state_of}

-- ---- a delivery and an end of a route that is not being prepared: the route value's

abbrev pub step_by : Call → RawStep
step_by c = record { used = c.used; sent = c.sent; answer = answer_number c.answer; outcome = outcome_of (outcome c.session) }

-- the session of the proxy that is then spoken to; what the proxies keep stays
abbrev pub onward : Session → Route → Session
onward x r =
    record {
      stage = r.stage;
      started = x.started;
      held = r.held;
      hold = r.hold;
      bound = r.bound;
      attempts = r.attempts;
      requests = record {
        lengths = record {
          optimistic = x.requests.lengths.optimistic;
          first = x.requests.lengths.first;
          authentication = r.behind;
          proxy = x.requests.lengths.proxy;
        };
        bytes = x.requests.bytes;
      };
    }

-- a refused call leaves every byte as it was
abbrev pub left_by : code.Answer → Route → List ℕ → List ℕ
left_by code.Accepted after state = sessions.state_of (onward (session_at state) after)
left_by (code.Refused e) after state = state

pub record Leaves (c : Call) (state : List ℕ) (r : RawStep) (state' out' : List ℕ) : Type 0 where
  pub returned : r ≡ step_by c
  pub left : state' ≡ left_by c.answer c.session state
  pub means : route_at state' ≡ c.session
  pub output : out' ≡ c.output

-- ---- out of turn: a number, and nothing else

pub record Untimely (e : SocksError) (state out : List ℕ) (r : RawStep) (state' out' : List ℕ) : Type 0 where
  pub returned : r ≡ record { used = 0; sent = 0; answer = number e; outcome = outcome_of (session.outcome (session_at state)) }
  pub left : state' ≡ state
  pub output : out' ≡ out

-- before it is opened a delivery and an end are out of turn
abbrev pub Delivers : Phase → Call → List ℕ → List ℕ → RawStep → List ℕ → List ℕ → Type 0
Delivers preparing c state out r state' out' = Untimely OutOfOrder state out r state' out'
Delivers opened c state out r state' out' = Leaves c state r state' out'
Delivers over c state out r state' out' = Leaves c state r state' out'

-- ---- a hop: what its proxy is asked for, without local lookup

abbrev pub asked5 : RawConfig → List ℕ → ℕ → List ℕ → List ℕ → Asked
asked5 c host port user password =
    over5 (record {
      config = record { proxy_auth = truth c.proxy_auth; local_dns = false; optimistic = truth c.optimistic };
      host = host;
      port = port_of port;
      user = user;
      password = password;
      records = [];
    })

abbrev pub asked4 : List ℕ → ℕ → Asked
asked4 host port = over4 (record { local_dns = false; host = host; port = port_of port; records = [] })

-- its opening's number, 21 for a ninth; once it is opened 22, and settled 16
abbrev pub hop_answer : Phase → ℕ → Asked → code.Answer
hop_answer preparing count a = refuse (leb 8 count) RouteLength (check_for a)
hop_answer opened count a = code.Refused OutOfOrder
hop_answer over count a = code.Refused Settled

-- accepted, it is kept in the slot before those in use
abbrev pub with_hop : List ℕ → Opening → List ℕ
with_hop s o =
    let n = count_at s in
    overwrite
    (overwrite (overwrite s (346 + 1024 * (7 - n)) (kept_by o).bytes) (282 + 8 * (7 - n)) (slot_of (hop_for o)))
    10 (digits 2 (n + 1))

-- refused, the route is empty and has failed with that error; out of turn nothing changes
abbrev pub hop_left : Phase → code.Answer → List ℕ → Opening → List ℕ
hop_left preparing code.Accepted s o = with_hop s o
hop_left preparing (code.Refused e) s o = state_of (empty_route e)
hop_left opened x s o = s
hop_left over x s o = s

abbrev pub hop_told : Asked → List ℕ → code.Answer
hop_told a s = hop_answer (phase_at s) (count_at s) a

abbrev pub hopped : Asked → List ℕ → List ℕ
hopped a s = hop_left (phase_at s) (hop_told a s) s (opening_for a)

pub record Hops (a : Asked) (state : List ℕ) (r : ℕ) (state' : List ℕ) : Type 0 where
  pub returned : r ≡ answer_number (hop_told a state)
  pub left : state' ≡ hopped a state

-- ---- an opening of what was prepared: the first proxy is begun

unfoldable pub open_call : List ℕ → List ℕ → Call
open_call s out =
    let n = count_at s in
    let hops = hops_in s (last_in n) in
    let bytes = bytes_in s (last_in n) in
    cond (eqb n 0 || ltb 8 n) (refusal RouteLength (empty_route RouteLength) out) (begins (begun_with hops bytes n) (goes_at hops bytes (n - 1)) out)

abbrev pub open_left : code.Answer → Route → List ℕ → List ℕ
open_left code.Accepted after s = carried after (drop 282 s)
open_left (code.Refused e) after s = state_of after

pub record Opens (state out : List ℕ) (r : RawStep) (state' out' : List ℕ) : Type 0 where
  pub returned : r ≡ step_by (open_call state out)
  pub left : state' ≡ open_left (open_call state out).answer (open_call state out).session state
  pub means : route_at state' ≡ (open_call state out).session
  pub output : out' ≡ (open_call state out).output

-- once it is opened another opening is out of turn
abbrev pub OpensIn : Phase → List ℕ → List ℕ → RawStep → List ℕ → List ℕ → Type 0
OpensIn preparing state out r state' out' = Opens state out r state' out'
OpensIn opened state out r state' out' = Untimely OutOfOrder state out r state' out'
OpensIn over state out r state' out' = Untimely Settled state out r state' out'

-- ---- wiped: all is zero but the slots of requests that are not in use
abbrev pub wiped : List ℕ → List ℕ
wiped s = let last = last_in (count_at s) in replicate 346 0 ++ (take (1024 * (7 - last)) (drop 346 s) ++ replicate (1024 * suc last) 0)
