use native.Mathlib.Omega.{arith}
use Prim.Native.Nat.{◌-◌}
use mathlib.Core.Path.{sym, ◌∙◌}
use Rattle.proxy_url_route.proofs.Laws.{filled_none, filled_more, filled_all}
use Rattle.proxy_url_route.proofs.put_lines.Goals as goal

pub loop-i-init : goal.loop-i-init
loop-i-init c = filled_none _ _ _ c.requires.1.1 c.no_proxies-proxies.ensures

pub line_at-requires : goal.line_at-requires
line_at-requires c = omega (arith, c.loop-i-test.true, c.requires.0)

pub put_line-requires : goal.put_line-requires
put_line-requires c =
    (omega (arith, c.loop-i-test.true, c.requires.1.0), c.loop-i.invariant.long)

pub bounds-proxies-i : goal.bounds-proxies-i
bounds-proxies-i c =
    omega (arith, c.loop-i-test.true, c.requires.1.0)

pub loop-i-preserved : goal.loop-i-preserved
loop-i-preserved c =
    filled_more c.loop-i.invariant (omega (arith, c.loop-i-test.true, c.requires.0)) (omega (arith, c.requires.0, c.requires.1.0)) _ _ c.put_line.result c.line_at.ensures c.put_line.ensures.value c.put_line.ensures.buffer_after

pub shape_of-buffer : goal.shape_of-buffer
shape_of-buffer c = c.loop-i.invariant.long ∙ sym c.requires.1.1

pub returns : goal.returns
returns c =
    let h = filled_all c.loop-i.invariant (omega (arith, c.loop-i-test.false, c.requires.0)) in
    record { value = h.0; buffer_after = h.1 }
