-- F-5: a piece for a route by its parts: where it stands, the hold and the bytes of the requests apart.
use Rattle.std.specs.Prelude.{ℕ, List, Result, Ok, Err}
use Rattle.protocol.specs.declared.SocksError.{SocksError}
use Rattle.protocol.specs.Answers.{Accepted, Refused}
use Rattle.route_delivery.specs.declared.Hop.{Hop}
use Rattle.route_delivery.specs.declared.Spot.{Spot}
use Rattle.route_delivery.specs.declared.Relayed.{Relayed}
use Rattle.route_session.specs.declared.calls.Route.{Route}
use Rattle.route_session.specs.declared.calls.Delivered.{Delivered}

abbrev pub route_at : List Hop → ℕ → Spot → List ℕ → List ℕ → Route
route_at hops count p bytes hold =
    record {
      stage = p.stage;
      held = p.held;
      hold = hold;
      bound = p.bound;
      attempts = p.attempts;
      count = count;
      behind = p.behind;
      hops = hops;
      bytes = bytes;
    }

-- a piece that is refused leaves the route where it stood
abbrev pub delivered_at : List Hop → ℕ → Spot → List ℕ → Result Relayed SocksError → List ℕ → Delivered
delivered_at hops count p bytes (Ok w) hold = record { answer = Accepted; used = w.used; sent = w.spot.sent; route = route_at hops count w.spot bytes hold }
delivered_at hops count p bytes (Err e) hold = record { answer = Refused e; used = 0; sent = 0; route = route_at hops count p bytes hold }
