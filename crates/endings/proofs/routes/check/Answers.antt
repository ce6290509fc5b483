use mathlib.Core.Path.{ap, ◌∙◌}
use Prim.Native.Nat.{ℕ}
use lib.ListN.{length-replicate}
use Rattle.route_session.specs.declared.calls.Opened.{Opened}
use Rattle.endings.proofs.Checks.{opened_check}
use Rattle.endings.proofs.routes.check.Goals as goal

pub returns : goal.returns
returns c = ap (λ (o : Opened). o.answer) c.«open».ensures.returned ∙ opened_check _ _ (length-replicate {A = ℕ} 8192 0)
