use Prim.Native.Nat.{◌-◌}
use Rattle.proxy_url_route.specs.Lines.{split}
use Rattle.proxy_url_route.proofs.Laws.{Filled}
use Rattle.proxy_url_route.proofs.put_lines.Given as goal

abbrev pub invariant-loop-i : goal.invariant-loop-i
invariant-loop-i l = Filled (split l.text) l.initial.buffer l.buffer l.proxies l.i

abbrev pub decreases-loop-i : goal.decreases-loop-i
decreases-loop-i l = l.count - l.i
