use Prim.Native.Nat.{◌-◌, ◌≤◌}
use mathlib.Core.Path.{◌≡◌}
use lib.ListN.{length, drop}
use Rattle.proxy_url_route.specs.Lines.{split}
use Rattle.proxy_url_route.proofs.lines.line_at.Given as goal

abbrev pub invariant-loop-i : goal.invariant-loop-i
invariant-loop-i l = (l.i ≤ l.index) × ((l.at ≤ length l.text) × (split (drop l.at l.text) ≡ drop l.i (split l.text)))

abbrev pub decreases-loop-i : goal.decreases-loop-i
decreases-loop-i l = l.index - l.i
