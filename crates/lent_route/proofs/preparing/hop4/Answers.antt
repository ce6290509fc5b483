use mathlib.Core.Bool.{false}
use Rattle.std.specs.Prelude.{None}
use Rattle.lent_route.specs.Calls.{asked4}
use Rattle.client_opening_v4.proofs.opening.Preparing.{prepares4}
use Rattle.lent_route.proofs.preparing.Hopping.{asks4}
use native.Mathlib.Omega.{arith}
use mathlib.Core.Path.{◌≡◌, refl, ◌∙◌}
use Prim.Native.Nat.{◌+◌, ◌-◌, ◌*◌}
use lib.ListN.{length}
use Rattle.lent_route.proofs.preparing.Hopping.{lent_zeros, twice, twice_long, hops_on}
use borrow.Author.Rules.{rules}
use Rattle.lent_route.proofs.preparing.hop4.Goals as goal

pub returns-then-hop-ne0 : goal.returns-then-hop-ne0
returns-then-hop-ne0 c = c.make_ready-hop.ensures.not c.if-hop-ne0.true _

pub overflow_sub-from : goal.overflow_sub-from
overflow_sub-from c = omega (arith, (c.make_ready-hop.ensures.taken c.if-hop-ne0.false).1.1.0)

pub begin-begun-requires : goal.begin-begun-requires
begin-begun-requires c =
    let s = c.args.s.now in
    let t = c.make_ready-hop.ensures.taken c.if-hop-ne0.false in
    lent_zeros s (346 + 1024 * (7 - c.make_ready-hop.result.count)) (omega (arith, c.requires, t.1.1.0)) t.1.1.1

pub keep-requires : goal.keep-requires
keep-requires c =
    let s = c.args.s.now in
    let t = c.make_ready-hop.ensures.taken c.if-hop-ne0.false in
    let k : length c.begin-begun.new.bytes ≡ 1024 = search rules in
    (twice_long s (346 + 1024 * (7 - c.make_ready-hop.result.count)) (omega (arith, c.requires, t.1.1.0)) t.1.1.1 c.begin-begun.new.bytes k ∙ c.requires, t.1.1.0)

pub returns : goal.returns
returns c =
    let a = c.args in
    let s = a.s.now in
    let v = c.make_ready-hop in
    let z = c.if-hop-ne0.false in
    let t = v.ensures.taken z in
    let g = c.begin-begun in
    let k : length c.begin-begun.new.bytes ≡ 1024 = search rules in
    let q = asks4 a.host.now a.port c.port_of.ensures (prepares4 false a.host.now c.read_host.result c.port_of.result None c.read_host.ensures refl g.ensures) in
    hops_on (asked4 a.host.now a.port) g.result g.new.bytes q s v.ensures z k (twice s (346 + 1024 * (7 - v.result.count)) (omega (arith, c.requires, t.1.1.0)) t.1.1.1 g.new.bytes k) c.keep.ensures
