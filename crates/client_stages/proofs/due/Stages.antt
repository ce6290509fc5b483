-- A stage that waits has replies to come.
use mathlib.Core.Path.{◌≡◌}
use native.Mathlib.Omega.{arith}
use Rattle.protocol.specs.declared.Reply.{Reply}
use Rattle.protocol.specs.declared.Reply.TheVariants.{NegotiationRes, AuthenticationRes, ProxyRes, Response}
use Rattle.client_stages.specs.declared.due.Stage.TheVariants.{Awaiting}
use Rattle.client_stages.specs.due.Stages.{rank}

pub awaits : (e : Reply) → rank (Awaiting e) ≡ 0 → ⊥
awaits (NegotiationRes m) z = omega arith
awaits AuthenticationRes z = omega arith
awaits ProxyRes z = omega arith
awaits Response z = omega arith
