use Prim.Native.Nat.{◌-◌, ◌≤◌}
use mathlib.Core.Path.{◌≡◌}
use lib.ListN.{drop}
use Rattle.proxy_url_route.specs.Lines.{split}
use Rattle.proxy_url_route.specs.Calls.{first_refused}
use Rattle.proxy_url_route.proofs.first_refused.Given as goal

abbrev pub invariant-loop-i : goal.invariant-loop-i
invariant-loop-i l = (l.i ≤ l.count) × (first_refused l.i (drop l.i (split l.text)) ≡ first_refused 0 (split l.text))

abbrev pub decreases-loop-i : goal.decreases-loop-i
decreases-loop-i l = l.count - l.i
