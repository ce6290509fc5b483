use Rattle.address_format.proofs.endpoint.Texts.{brackets}
use Rattle.address_format.proofs.numerals.Laws.{one}
use lib.ListN.{length-set}
use native.Mathlib.Omega.{arith}
use borrow.Author.Rules.{rules}
use Rattle.address_format.proofs.endpoint.put_ipv6.Goals as goal

pub put_groups-end-requires : goal.put_groups-end-requires
put_groups-end-requires c = (c.groups_of-groups.ensures.0, simp length-set (omega arith))

pub bounds-out-end : goal.bounds-out-end
bounds-out-end c = omega (arith, simp length-set at c.put_groups-end.ensures.adds.same, c.put_groups-end.ensures.upper_bound)

pub shape_of-out : goal.shape_of-out
shape_of-out c = simp length-set (omega (arith, simp length-set at c.put_groups-end.ensures.adds.same))

pub returns : goal.returns
returns c =
    let g = c.put_groups-end in
    let s = simp length-set at c.put_groups-end.ensures.adds.same in
    record { upper_bound = search rules; adds = brackets c.args.bytes.now c.groups_of-groups.result c.groups_of-groups.ensures.1 (one _ _ _ (omega arith)) g.ensures.adds (one _ _ _ (omega (arith, g.ensures.upper_bound))) }
