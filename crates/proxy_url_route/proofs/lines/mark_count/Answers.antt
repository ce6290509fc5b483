use Prim.Native.Nat.{◌-◌}
use Rattle.proxy_url_route.proofs.lines.Laws.{count_mark, count_other, count_end}
use Rattle.proxy_url_route.proofs.lines.mark_count.Goals.{then-text-i-eq-MARK, else-text-i-eq-MARK}
use Rattle.proxy_url_route.proofs.lines.mark_count.Goals as goal

pub loop-i-preserved : goal.loop-i-preserved
loop-i-preserved c =
    let s = c.args.text.now in
    let h = c.loop-i-test.true in
    let v = c.loop-i.invariant.1 in
    elim c.if-text-i-eq-MARK.branch [
      | then-text-i-eq-MARK w ↦ count_mark s c.loop-i.i h c.loop-i.n c.if-text-i-eq-MARK.n w.n-is v.0 v.1 w.if-text-i-eq-MARK.true
      | else-text-i-eq-MARK w ↦ count_other s c.loop-i.i h c.loop-i.n c.if-text-i-eq-MARK.n w.n-is v.0 v.1 w.if-text-i-eq-MARK.false
    ]

pub returns : goal.returns
returns c =
    count_end c.args.text.now c.loop-i.i c.loop-i.n c.loop-i.invariant.0 c.loop-i-test.false c.loop-i.invariant.1.1
