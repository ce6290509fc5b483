-- F-5: the route that is returned with the first proxy begun.
use Rattle.std.specs.Prelude.{ℕ, List, replicate}
use Rattle.protocol.specs.Answers.{Accepted}
use Rattle.route_delivery.specs.declared.Hop.{Hop}
use Rattle.route_delivery.specs.declared.Spot.{Spot}
use Rattle.route_session.specs.declared.calls.Opened.{Opened}

abbrev pub opened_at : List Hop → ℕ → List ℕ → Spot → Opened
opened_at hops count bytes p =
    record {
      answer = Accepted;
      sent = p.sent;
      route = record { stage = p.stage; held = 0; hold = replicate 261 0; bound = p.bound; attempts = 0; count = count; behind = p.behind; hops = hops; bytes = bytes };
    }
