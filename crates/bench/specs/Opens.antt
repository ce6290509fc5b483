-- F-3: what the program answers a destination with, and what comes of it.
use Rattle.std.specs.Prelude.{ℕ, ◌≤◌, ◌≡◌}
use Rattle.proxy_spec.specs.declared.Stage.{Stage}
use Rattle.proxy_spec.specs.declared.Stage.TheVariants.{Awaiting, Asked, Open, Failed}
use Rattle.proxy_spec.specs.End.{success}
use Rattle.proxy_replies.specs.declared.stages.Outcome.TheVariants as outcome
use Rattle.proxy_session.specs.declared.Server.{Server}
use Rattle.proxy_session.specs.Server as calls

-- success in the version that asks
abbrev pub success_at : Stage → ℕ
success_at (Awaiting f) = 0
success_at (Asked v) = success v
success_at (Open v) = 0
success_at (Failed e) = 0

-- an end that was lent enough output and had handed out a destination is open after it
abbrev pub Opens : Server → ℕ → Server → Type 0
Opens s room s' = 262 ≤ room → calls.outcome s ≡ outcome.Asked → calls.outcome s' ≡ outcome.Open
