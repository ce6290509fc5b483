-- What is told of a proxy's end, in numbers.
use Prim.Native.Nat.{ℕ}
use mathlib.Core.Path.{◌≡◌, ap, ◌∙◌}
use Rattle.proxy_decisions.specs.declared.destination.Target.{Target}
use Rattle.proxy_session.specs.declared.Server.{Server}
use Rattle.proxy_session.specs.Server.{destination}
use Rattle.raw_numbers.specs.Numbers.{kind_number}
use Rattle.raw_session.specs.declared.RawOutcome.{RawOutcome}
use Rattle.raw_server.specs.declared.RawServer.{RawServer}
use Rattle.raw_server.specs.Raw.{server_of, standing_of}
use Rattle.raw_asked.specs.declared.RawTarget.{RawTarget}
use Rattle.raw_asked.specs.Asked.{target_of}

module _ (raw : RawServer) {s : Server} (e : s ≡ server_of raw) where
  pub says_standing : {r : RawOutcome} → r ≡ standing_of s.stage → r ≡ standing_of (server_of raw).stage
  says_standing q = q ∙ ap (λ (t : Server). standing_of t.stage) e

  pub says_target : {t : Target} {k : ℕ} → t ≡ destination s → k ≡ kind_number t.kind → ◌≡◌ {A = RawTarget} (record { len = t.len; port = t.port; kind = k; bytes = t.bytes }) (target_of (destination (server_of raw)))
  says_target {t} {k} p q = ap (λ (n : ℕ). record { len = t.len; port = t.port; kind = n; bytes = t.bytes }) q ∙ ap target_of (p ∙ ap destination e)
