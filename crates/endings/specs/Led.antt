-- F-12 at the calls: a stream that leads somewhere, delivered in any pieces to a session or a route and followed by an end, ends there.
use Rattle.std.specs.Prelude.{◌≡◌, List, take, ℕ}
use Rattle.protocol.specs.Answers.{Accepted}
use Rattle.protocol.specs.Bytes.{BytePieces}
use Rattle.protocol.specs.Opening.{V5, V4, Opening, opening5, opening4, Sixteen}
use Rattle.client_session.specs.declared.Prepared.{Prepared}
use Rattle.client_session.specs.Session.{outcome}
use Rattle.client_session.specs.Calls.{prepare5, prepare4, start, end}
use Rattle.socks.specs.Demand3.{tunnel_of, joined_of}
use Rattle.route_spec.specs.Route as routing
use Rattle.route_spec.specs.Route.{openings}
use Rattle.route_session.specs.calls.Calls as route
use Rattle.route.specs.Routed as routed
use Rattle.endings_spec.specs.declared.OutcomeStatus.{OutcomeStatus}
use Rattle.endings_spec.specs.Endings.{ending_of, Leads}
use Rattle.endings_spec.specs.RouteEndings.{LeadsAt}
use Rattle.talk.specs.Tunnel.{Delivery}

-- from what a start sent and returned, over every list of deliveries whose joined bytes lead there, to the end behind them
abbrev pub LedTo : Prepared → Opening → Type 0
LedTo p o =
    (out : List ℕ) → p.answer ≡ Accepted → (start p.session out).answer ≡ Accepted → (ds : List Delivery) → BytePieces ds
    → (w : OutcomeStatus) → Leads o w (joined_of o ds)
    → ending_of (outcome (end (tunnel_of o (start p.session out).session (take (start p.session out).sent (start p.session out).output) ds).session).session) ≡ w

abbrev pub Led5 : Type 0
Led5 = (a : V5) → Sixteen a.records → LedTo (prepare5 a) (opening5 a)

abbrev pub Led4 : Type 0
Led4 = (a : V4) → LedTo (prepare4 a) (opening4 a)

abbrev pub LedRoute : Type 0
LedRoute =
    (r : routing.Route) (out : List ℕ) → (route.opening r out).answer ≡ Accepted → (ds : List Delivery) → BytePieces ds
    → (proxy : ℕ) (w : OutcomeStatus) → LeadsAt (openings r) proxy w (routed.joined_of (openings r) ds)
    → ending_of (route.outcome (route.end (routed.tunnel_of (openings r) (route.opening r out).session (take (route.opening r out).sent (route.opening r out).output) ds).session).session) ≡ w
