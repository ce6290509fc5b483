use Prim.Native.Nat.{◌-◌}
use Rattle.proxy_url_route.proofs.lines.Laws.{ends_here, ends_later, ends_last}
use Rattle.proxy_url_route.proofs.lines.line_end.Goals as goal

pub returns-then-text-at-eq-MARK : goal.returns-then-text-at-eq-MARK
returns-then-text-at-eq-MARK c = ends_here c.args.text.now c.loop-at.at c.loop-at-test.true c.loop-at.invariant.1 c.if-text-at-eq-MARK.true

pub loop-at-preserved : goal.loop-at-preserved
loop-at-preserved c = ends_later c.args.text.now c.loop-at.at c.loop-at-test.true c.loop-at.invariant.1 c.if-text-at-eq-MARK.false

pub returns : goal.returns
returns c = ends_last c.args.text.now c.loop-at.at c.loop-at.invariant.0 c.loop-at-test.false c.loop-at.invariant.1
