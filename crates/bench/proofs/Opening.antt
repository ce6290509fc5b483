-- The answer to a destination opens the end.
use native.Mathlib.Omega.{arith}
use Prim.Native.Nat.{ℕ, ◌≤◌}
use mathlib.Core.Path.{◌≡◌}
use mathlib.Core.List.{List}
use lib.ListN.{length}
use borrow.Author.Tests.{le-leb}
use Rattle.protocol.specs.Bound.{Endpoint}
use Rattle.protocol.specs.declared.Version.TheVariants.{V4, V5}
use Rattle.proxy_spec.specs.declared.Stage.{Stage}
use Rattle.proxy_spec.specs.declared.Stage.TheVariants.{Awaiting, Asked, Open, Failed}
use Rattle.proxy_replies.specs.declared.stages.Outcome.TheVariants as outcome
use Rattle.proxy_replies.specs.stages.Told.{outcome_at}
use Rattle.proxy_replies.specs.stages.Answers.{answer_at}
use Rattle.proxy_session.specs.declared.Server.{Server}
use Rattle.proxy_session.specs.declared.Answered.{Answered}
use Rattle.proxy_session.specs.Calls.{answer, answered}
use Rattle.bench.specs.Opens.{success_at, Opens}

opens_at : (t : Stage) (x : Endpoint) (out : List ℕ) → 262 ≤ length out → outcome_at t ≡ outcome.Asked → outcome_at (answer_at t (success_at t) x out).said.stage ≡ outcome.Open
opens_at (Awaiting f) x out l a = let z : ◌≡◌ {A = ℕ} 0 1 = cc in absurd (omega arith)
opens_at (Asked V4) x out l a = rw (le-leb 262 (length out) l)
opens_at (Asked V5) x out l a = rw (le-leb 262 (length out) l)
opens_at (Open v) x out l a = let z : ◌≡◌ {A = ℕ} 0 1 = cc in absurd (omega arith)
opens_at (Failed e) x out l a = let z : ◌≡◌ {A = ℕ} 0 1 = cc in absurd (omega arith)

pub opens : (s : Server) (x : Endpoint) (out : List ℕ) {status : ℕ} {r : Answered} → status ≡ success_at s.stage → r ≡ answered (answer s status x out) → Opens s (length out) r.server
unfolding answer
opens s x out e q l a = rw (q, e) (opens_at s.stage x out l a)
