-- The caller's answer: what is sent, where the end then stands, and that the destination stays.
use Prim.Native.Nat.{ℕ, ◌≤◌}
use mathlib.Core.Path.{◌≡◌, refl, ap, sym, ◌∙◌}
use mathlib.Core.Bool.{Bool, cond}
use mathlib.Core.List.{List}
use lib.ListN.{length, take}
use lib.Seq.{take-append_seam}
use borrow.Author.Tests.{le-leb, eq-eqb, ne_eqb}
use Rattle.protocol.specs.declared.SocksError.TheVariants.{Command}
use Rattle.protocol.specs.declared.Version.{Version}
use Rattle.protocol.specs.Bound.{Endpoint, unbound}
use Rattle.proxy_spec.specs.declared.Stage.{Stage}
use Rattle.proxy_spec.specs.declared.Stage.TheVariants.{Awaiting, Asked, Open, Failed}
use Rattle.proxy_spec.specs.End.{reply_to, status_to, success, stage_after}
use Rattle.proxy_decisions.specs.destination.Last.{target_as}
use Rattle.proxy_replies.specs.declared.stages.Outcome.TheVariants as outcome
use Rattle.proxy_replies.specs.stages.Told.{outcome_at, has_destination}
use Rattle.proxy_replies.specs.stages.Answers.{sends, answer_at}
use Rattle.proxy_session.specs.declared.Server.{Server}
use Rattle.proxy_session.specs.Server.{asked_for, at_stage, outcome as told, destination}
use Rattle.proxy_session.specs.Calls.{Call, answer_by, answer}
use Rattle.proxy.specs.Turns.{failure, Tells, nowhere, Answering, AllAnswering}

module _ (s : Server) (v : Version) (q : s.stage ≡ Asked v) (status : ℕ) (x : Endpoint) (out : List ℕ) (h : 262 ≤ length out) where
  -- in turn and with room
  answer_is : answer s status x out ≡ answer_by s (sends (reply_to v status x) (stage_after v status) out)
  unfolding answer
  answer_is = ap (λ (t : Stage). answer_by s (answer_at t status x out)) q ∙ rw (le-leb 262 (length out) h)

  after : {t : Stage} → stage_after v status ≡ t → (answer s status x out).session ≡ at_stage t s
  after e = ap (λ (c : Call). c.session) answer_is ∙ ap (λ (t : Stage). at_stage t s) e

  opens : status_to v status ≡ success v → Tells (answer s status x out).session outcome.Open (destination s)
  opens z =
      let e = after (ap (λ (b : Bool). cond b (Open v) (Failed (Command (status_to v status)))) (eq-eqb (status_to v status) (success v) z)) in
      record { outcomes = ap told e; destinations = ap destination e ∙ ap (λ (t : Stage). target_as (cond (has_destination t) (asked_for s) unbound)) (sym q) }

  fails : (status_to v status ≡ success v → ⊥) → Tells (answer s status x out).session (outcome.Failed (Command (status_to v status))) nowhere
  fails n =
      let e = after (ap (λ (b : Bool). cond b (Open v) (Failed (Command (status_to v status)))) (ne_eqb (status_to v status) (success v) n)) in
      record { outcomes = ap told e; destinations = ap destination e }

  answering : Answering s v status x out
  answering =
      record {
        accepts = ap (λ (c : Call). c.answer) answer_is;
        sends = ap (λ (c : Call). take c.sent c.output) answer_is ∙ take-append_seam (reply_to v status x) _;
        opens = opens;
        fails = fails;
        fails_15 = λ n. ap failure (fails n).outcomes;
      }

pub all_answering : AllAnswering
all_answering = answering

-- out of turn nothing is sent
pub answer_unsent : (s : Server) → (told s ≡ outcome.Asked → ⊥) → (status : ℕ) (x : Endpoint) (out : List ℕ) → (answer s status x out).sent ≡ 0
unfolding answer
answer_unsent s n status x out = go s.stage n
  where
    go : (t : Stage) → (outcome_at t ≡ outcome.Asked → ⊥) → (answer_by s (answer_at t status x out)).sent ≡ 0
    go (Awaiting f) m = refl
    go (Asked v) m = absurd (m refl)
    go (Open v) m = refl
    go (Failed e) m = refl
