use Rattle.std.proofs.Common.{arith, rules}
use lib.ListN.{length-set}
use Rattle.address_format.specs.groups.Groups.{behind_mark}
use Rattle.address_format.proofs.groups.Puts.{five, behind_more}
use Rattle.address_format.proofs.numerals.Laws.{nothing, one, then}
use Rattle.address_format.proofs.groups.put_behind.Goals as goal

pub loop-value-init : goal.loop-value-init
unfolding behind_mark
loop-value-init c = (omega arith, nothing _ _)

pub put_digits-end-requires : goal.put_digits-end-requires
put_digits-end-requires c =
    let f = five c.args.base c.from.result (omega arith) (omega (arith, c.type_inv.values c.loop-value.value-index)) in
    (search rules, (search rules, simp length-set (omega arith)))

pub loop-value-preserved : goal.loop-value-preserved
loop-value-preserved c =
    let a = c.args in
    let l = c.loop-value in
    let w = c.from in
    let f = five a.base w.result (omega arith) (omega (arith, c.type_inv.values l.value-index)) in
    let t = then (one l.out l.end a.mark (omega arith)) c.put_digits-end.ensures in
    (omega (arith, c.put_digits-end.ensures.place), behind_more a.base a.mark a.values.now l.value-index w.result c.loop-value-test.true w.ensures l.invariant.1 t)
