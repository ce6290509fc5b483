use Rattle.std.proofs.Common.{◌≡◌, ◌<◌, ◌∙◌, refl, ap, arith, length-take}
use Rattle.route_session.proofs.calls.Wants.{one_behind}
use Rattle.route_session.specs.calls.Calls.{shortest_behind}
use Rattle.route_session.proofs.calls.shortest_behind.Goals as goal

pub loop-hop-init : goal.loop-hop-init
unfolding shortest_behind
loop-hop-init c = (refl, omega arith, omega arith)

pub loop-hop-preserved : goal.loop-hop-preserved
loop-hop-preserved c =
    let (e, l, k) = c.loop-hop.invariant in
    let (f, m) = c.shortest-sum.ensures in
    let h : c.loop-hop.hop-index < c.args.behind = omega (arith, c.loop-hop-test.true, length-take c.args.behind c.args.hops.now) in
    (one_behind c.args.hops.now c.args.behind c.loop-hop.hop-index h e c.shortest-sum.ensures, omega arith, omega arith)

pub returns : goal.returns
returns c =
    let (e, l, k) = c.loop-hop.invariant in
    let z : c.loop-hop.hop-index ≡ c.args.behind = omega (arith, c.loop-hop-test.false, c.told-hops, c.requires, length-take c.args.behind c.args.hops.now) in
    (e ∙ ap (shortest_behind c.args.hops.now) z, omega (arith, c.requires))
