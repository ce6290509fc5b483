use Rattle.std.proofs.Common.{◌≡◌, ◌*◌, ◌≤◌}
use Rattle.route_session.specs.calls.Calls.{shortest_behind}
use Rattle.route_session.proofs.calls.shortest_behind.Given as goal

abbrev pub invariant-loop-hop : goal.invariant-loop-hop
invariant-loop-hop l = (l.sum ≡ shortest_behind l.hops l.hop-index) × (l.sum ≤ 12 * l.hop-index) × (l.hop-index ≤ l.behind)
