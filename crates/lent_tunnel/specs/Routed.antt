-- F-5's promise over routes in lent bytes, begun, prepared hop by hop and opened, one claim over every list of deliveries: a field for each sentence, in the numbers
-- that the calls tell. A call lends 8,192 bytes of output, which is what eight proxies ask, so that every piece counts.
use Rattle.std.specs.Prelude.{ℕ, ◌%◌, ◌^◌, ◌<◌, ◌≡◌, ◌↔◌, length, take, drop}
use mathlib.Core.List.{List, map, Memᴰ}
use Rattle.protocol.specs.declared.SocksError.{SocksError}
use Rattle.protocol.specs.declared.SocksError.TheVariants.{Settled, OutOfOrder}
use Rattle.protocol.specs.Bytes.{BytePieces}
use Rattle.protocol.specs.Bound as endpoints
use Rattle.protocol.specs.Numbers.{number, answer_number}
use Rattle.protocol.specs.Opening.{Opening}
use Rattle.lent_numbers.specs.told.Told.{outcome_of}
use Rattle.lent_session.specs.declared.preparing.RawConfig.{RawConfig}
use Rattle.lent_session.specs.Calls.{address_of, bound_at}
use Rattle.route_spec.specs.Route as routing
use Rattle.route_spec.specs.Route.{Asked, asked, openings, machines, used_in_turn, RepliedInTurn, JustOneRow}
use Rattle.route_session.specs.declared.calls.Route.{Route}
use Rattle.route_session.specs.calls.Calls.{Call, opening, deliver}
use Rattle.route.specs.Routed as routed
use Rattle.route.specs.Routed.{attempts_in_turn}
use Rattle.lent_route.specs.State.{Phase, preparing, opened, over, phase_at, route_at, state_of}
use Rattle.lent_route.specs.Calls.{step_by, left_by, asked5, asked4, open_call, open_left}
use Rattle.lent_route.specs.Together.{begun, all_told, reached}
use Rattle.lent_tunnel.specs.Demand3.{outcome_at, attempts_at, Alike}
use Rattle.talk.specs.Tunnel.{Answer, Receiver, Delivery, joined, Tunnel, tunnel}

-- ---- what a call gives back: what the exported function returns, and the lent bytes and the output that it leaves

abbrev pub returned : List ℕ → Call → Answer (List ℕ) ℕ
returned state c =
    record { answer = (step_by c).answer; session = left_by c.answer c.session state; used = (step_by c).used; sent = (step_by c).sent; output = c.output }

-- out of turn: a number, and nothing else
abbrev pub untimely : SocksError → List ℕ → List ℕ → Answer (List ℕ) ℕ
untimely e state out = record { answer = number e; session = state; used = 0; sent = 0; output = out }

-- an opening of what was prepared
abbrev pub begins : List ℕ → Call → Answer (List ℕ) ℕ
begins state c =
    record { answer = (step_by c).answer; session = open_left c.answer c.session state; used = (step_by c).used; sent = (step_by c).sent; output = c.output }

abbrev pub opens_in : Phase → List ℕ → List ℕ → Answer (List ℕ) ℕ
opens_in preparing s out = begins s (open_call s out)
opens_in opened s out = untimely OutOfOrder s out
opens_in over s out = untimely Settled s out

abbrev pub lent_open : List ℕ → List ℕ → Answer (List ℕ) ℕ
lent_open s out = opens_in (phase_at s) s out

-- a delivery or an end, by the route value's call: in turn on a route that is not being prepared
abbrev pub called_in : Phase → List ℕ → List ℕ → Call → Answer (List ℕ) ℕ
called_in preparing s out c = untimely OutOfOrder s out
called_in opened s out c = returned s c
called_in over s out c = returned s c

abbrev pub lent_deliver : List ℕ → List ℕ → List ℕ → Answer (List ℕ) ℕ
lent_deliver s piece out = called_in (phase_at s) s out (deliver (route_at s) piece out)

abbrev pub receiver : Receiver (List ℕ) ℕ
receiver = record { room = 8192; deliver = lent_deliver }

-- each delivery lends 8,192 bytes
abbrev pub Lent : List Delivery → Type 0
Lent ds = (d : Delivery) → Memᴰ d ds → length d.output ≡ 8192

abbrev pub tunnel_of : List ℕ → List ℕ → List Delivery → Tunnel (List ℕ)
tunnel_of s sent ds = tunnel receiver s sent ds

abbrev pub joined_of : List Delivery → List ℕ
joined_of ds = joined receiver ds

-- ---- the claim, of the openings, the route that the library's opening of them returns, the bytes that the calls left and those that they sent

pub record LentRouted (os : List Opening) (r : Route) (s : List ℕ) (sent : List ℕ) (ds : List Delivery) : Type 0 where
  -- open, which is 1, exactly when the joined bytes begin with the grammars of its openings in that order
  pub opens_just : (outcome_at (tunnel_of s sent ds).session).state ≡ 1 ↔ RepliedInTurn os (joined_of ds)
  -- and then just one beginning is such a row, and the count is the sum of their lengths
  pub just_one : (outcome_at (tunnel_of s sent ds).session).state ≡ 1 → JustOneRow os (joined_of ds) (tunnel_of s sent ds).count (machines os (joined_of ds)).bound
  -- open or not, sent bytes, outcome with its number and status and count are those of the plain machines in turn
  pub sent_as : (tunnel_of s sent ds).sent ≡ (machines os (joined_of ds)).sent
  pub outcome_as : outcome_at (tunnel_of s sent ds).session ≡ outcome_of (machines os (joined_of ds)).outcome
  pub count_as : (tunnel_of s sent ds).count ≡ used_in_turn os (joined_of ds)
  -- the bound address is the last proxy's
  pub bound_as : bound_at (tunnel_of s sent ds).session ≡ address_of (endpoints.address_of (machines os (joined_of ds)).bound)
  -- the rests joined are the joined bytes after the count
  pub rests_are : (tunnel_of s sent ds).rest ≡ drop (tunnel_of s sent ds).count (joined_of ds)
  -- like lists are alike
  pub alike : (ds' : List Delivery) → BytePieces ds' → Lent ds' → joined_of ds' ≡ joined_of ds → Alike (tunnel_of s sent ds') (tunnel_of s sent ds)
  -- F-11: its attempts are the sum over its proxies
  pub attempts_are : attempts_at (tunnel_of s sent ds).session ≡ attempts_in_turn os ds % 2 ^ 64
  -- the lent bytes mean the route of the library's own tunnel, and are the one writing of it
  pub means : route_at (tunnel_of s sent ds).session ≡ (routed.tunnel_of os r sent ds).session
  pub written : (tunnel_of s sent ds).session ≡ state_of (route_at (tunnel_of s sent ds).session)

-- of a route with a proxy whose hops, one call each from an empty route on, all answer 0: with any 8,192 bytes of output so does its opening; and then every list of
-- deliveries
abbrev pub LentThrough : routing.Route → Type 0
LentThrough a =
    answer_number (all_told (asked a) begun) ≡ 0 → 0 < length a.proxies → (out : List ℕ) → length out ≡ 8192
    → ((lent_open (reached a) out).answer ≡ 0)
    × ((ds : List Delivery) → BytePieces ds → Lent ds
    → LentRouted (openings a) (opening a out).session (lent_open (reached a) out).session (take (lent_open (reached a) out).sent (lent_open (reached a) out).output) ds)

-- ---- for any arguments of the calls that add hops

pub data Hop : Type 0 where
  hop5 : RawConfig → List ℕ → ℕ → List ℕ → List ℕ → Hop
  hop4 : List ℕ → ℕ → Hop

abbrev pub asked_for : Hop → Asked
asked_for (hop5 c host port user password) = asked5 c host port user password
asked_for (hop4 host port) = asked4 host port

-- they ask what the proxies of a route are asked
abbrev pub LentRoutes : Type 0
LentRoutes = (hops : List Hop) → (a : routing.Route) × (asked a ≡ map asked_for hops) × LentThrough a
