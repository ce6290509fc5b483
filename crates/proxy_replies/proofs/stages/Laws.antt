-- What the ways through an answer come to.
use Prim.Native.Nat.{ℕ, ◌≤◌, ◌<◌}
use native.Mathlib.Nat.{zero-add}
use native.Mathlib.Omega.{arith}
use mathlib.Core.Path.{◌≡◌, refl, sym, ap, ◌∙◌}
use mathlib.Core.List.{List, ◌++◌}
use lib.ListN.{length, drop}
use borrow.Author.Tests.{le-leb, lt-leb, eq-eqb, ne_eqb}
use Rattle.protocol.specs.Answers.{Accepted}
use Rattle.protocol.specs.declared.SocksError.TheVariants.{ShortOutput, Settled, Command}
use Rattle.protocol.specs.declared.Version.{Version}
use Rattle.protocol.specs.Bound.{Endpoint}
use Rattle.proxy_spec.specs.declared.Stage.{Stage}
use Rattle.proxy_spec.specs.declared.Stage.TheVariants.{Awaiting, Asked, Open, Failed}
use Rattle.proxy_spec.specs.End.{status_to, success, reply_to, stage_after}
use Rattle.buffers.specs.write.Written.{overwrite, Wrote}
use Rattle.buffers.proofs.write.Laws.{wrote_length}
use Rattle.proxy_replies.specs.declared.stages.Said.{Said}
use Rattle.proxy_replies.specs.stages.Answers.{unanswered, refused, answer_asked, answer_at, AnswerResult}

module _ (v : Version) (s : ℕ) {t u : ℕ} (e : t ≡ status_to v s) (k : u ≡ success v) where
  pub opens : t ≡ u → Open v ≡ stage_after v s
  opens q = rw (eq-eqb (status_to v s) (success v) (sym e ∙ q ∙ k))

  pub fails : (t ≡ u → ⊥) → Failed (Command t) ≡ stage_after v s
  fails n = rw (ne_eqb (status_to v s) (success v) (λ q. n (e ∙ q ∙ sym k)), e)

module _ (v : Version) (s : ℕ) (x : Endpoint) {out : List ℕ} where
  pub answers_short : {r : Said} → length out < 262 → r ≡ unanswered ShortOutput (Asked v) → AnswerResult (answer_asked v s x out) r out
  answers_short h q = rw (lt-leb 262 (length out) h, q) (record { returned = refl; output = refl; inside = omega arith })

  pub answers_sent : {out' : List ℕ} {n : ℕ} {g : Stage} → 262 ≤ length out → Wrote out 0 (reply_to v s x) n out' → g ≡ stage_after v s
      → AnswerResult (answer_asked v s x out) (record { answer = Accepted; sent = n; stage = g }) out'
  unfolding overwrite
  answers_sent {out'} {n} {g} h w q =
      let p : n ≡ length (reply_to v s x) = w.place ∙ zero-add (length (reply_to v s x)) in
      let z : out' ≡ reply_to v s x ++ drop (length (reply_to v s x)) out =
      w.bytes ∙ ap (λ (k : ℕ). reply_to v s x ++ drop k out) (zero-add (length (reply_to v s x))) in
      let i : n ≤ length out' = omega (arith, w.place, w.inside, wrote_length w) in
      rw (le-leb 262 (length out) h)
      (record { returned = λ j. record { answer = Accepted; sent = p j; stage = q j }; output = z; inside = i })

-- none is awaited
pub declined : {g : Stage} {out : List ℕ} {r : Said} → r ≡ unanswered Settled g → AnswerResult (refused Settled g out) r out
declined q = rw q (record { returned = refl; output = refl; inside = omega arith })

pub declines : (g : Stage) (status : ℕ) (x : Endpoint) (out : List ℕ) {r : Said} → ((v : Version) → g ≡ Asked v → ⊥) → r ≡ unanswered Settled g → AnswerResult (answer_at g status x out) r out
declines (Awaiting f) status x out n q = declined q
declines (Asked v) status x out n q = absurd (n v refl)
declines (Open v) status x out n q = declined q
declines (Failed e) status x out n q = declined q
