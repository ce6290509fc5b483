use Prim.Native.Nat.{ℕ}
use mathlib.Core.Path.{ap, ◌∙◌}
use lib.ListN.{replicate}
use Rattle.lent_proxy.proofs.setting_up.wipe.Goals as goal

pub returns : goal.returns
returns c = c.clear.ensures ∙ ap (λ (n : ℕ). replicate n 0) c.requires
