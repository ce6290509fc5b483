use native.Mathlib.Omega.{arith}
use Prim.Native.Nat.{◌-◌}
use Rattle.proxy_url_route.proofs.lines.Laws.{next_line, ends_within_lem, this_line}
use Rattle.proxy_url_route.proofs.lines.line_at.Goals as goal

pub loop-i-preserved : goal.loop-i-preserved
loop-i-preserved c =
    next_line c.args.text.now c.loop-i.at c.loop-i.i c.args.index c.loop-i.invariant.1.1 c.loop-i-test.true c.requires c.line_end-at.result
    c.line_end-at.ensures

pub overflow_add-at : goal.overflow_add-at
overflow_add-at c =
    let h = next_line c.args.text.now c.loop-i.at c.loop-i.i c.args.index c.loop-i.invariant.1.1 c.loop-i-test.true c.requires c.line_end-at.result
    c.line_end-at.ensures in
    omega (arith, h.1.0)

pub slice_bounds-result-count : goal.slice_bounds-result-count
slice_bounds-result-count c = omega (arith, c.line_end-end.ensures)

pub slice_bounds-result-start : goal.slice_bounds-result-start
slice_bounds-result-start c = omega (arith, c.line_end-end.ensures)

pub slice_bounds-result-end : goal.slice_bounds-result-end
slice_bounds-result-end c =
    ends_within_lem c.args.text.now c.loop-i.at c.line_end-end.result c.loop-i.invariant.1.0 c.line_end-end.ensures

pub returns : goal.returns
returns c =
    this_line c.args.text.now c.loop-i.at c.loop-i.i c.args.index c.loop-i.invariant.1.1 c.loop-i.invariant.0 c.loop-i-test.false c.line_end-end.result
    c.line_end-end.ensures
