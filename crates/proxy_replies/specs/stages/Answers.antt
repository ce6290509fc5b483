-- F-3: what the caller's answer does, by the stage.
use Rattle.std.specs.Prelude.{ℕ, ◌≤◌, ◌≡◌, cond, List, ◌++◌, length, drop, leb}
use Rattle.protocol.specs.Answers.{Accepted, Refused}
use Rattle.protocol.specs.declared.SocksError.{SocksError}
use Rattle.protocol.specs.declared.SocksError.TheVariants.{ShortOutput, Settled}
use Rattle.protocol.specs.declared.Version.{Version}
use Rattle.protocol.specs.Bound.{Endpoint}
use Rattle.proxy_spec.specs.declared.Stage.{Stage}
use Rattle.proxy_spec.specs.declared.Stage.TheVariants.{Awaiting, Asked, Open, Failed}
use Rattle.proxy_spec.specs.End.{reply_to, stage_after}
use Rattle.proxy_replies.specs.declared.stages.Said.{Said}

abbrev pub unanswered : SocksError → Stage → Said
unanswered e s = record { answer = Refused e; sent = 0; stage = s }

-- what is said, and the output behind it
pub record Reply : Type 0 where
  pub said : Said
  pub output : List ℕ

abbrev pub refused : SocksError → Stage → List ℕ → Reply
refused e s out = record { said = unanswered e s; output = out }

-- the reply stands at the output's start
abbrev pub sends : List ℕ → Stage → List ℕ → Reply
sends reply s out = record { said = record { answer = Accepted; sent = length reply; stage = s }; output = reply ++ drop (length reply) out }

-- 1 for output under 262
abbrev pub answer_asked : Version → ℕ → Endpoint → List ℕ → Reply
answer_asked v status x out = cond (leb 262 (length out)) (sends (reply_to v status x) (stage_after v status) out) (refused ShortOutput (Asked v) out)

-- 16 when none is awaited
abbrev pub answer_at : Stage → ℕ → Endpoint → List ℕ → Reply
answer_at (Awaiting f) status x out = refused Settled (Awaiting f) out
answer_at (Asked v) status x out = answer_asked v status x out
answer_at (Open v) status x out = refused Settled (Open v) out
answer_at (Failed e) status x out = refused Settled (Failed e) out

-- the code's value and output are these; with the bound that a caller slices by
pub record AnswerResult (q : Reply) (r : Said) (out' : List ℕ) : Type 0 where
  pub returned : r ≡ q.said
  pub output : out' ≡ q.output
  pub inside : r.sent ≤ length out'
