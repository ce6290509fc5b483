-- F-3: which call is in turn, that a refused one touches nothing, and what an accepted one leaves, of any end.
use Prim.Native.Nat.{ℕ, ◌≤◌, ◌<◌}
use native.Mathlib.Omega.{arith}
use mathlib.Core.Path.{◌≡◌, refl, ap, sym, subst}
use mathlib.Core.Logic.{◌↔◌}
use mathlib.Core.Bool.{Bool, true, false, true≢false, cond, not}
use mathlib.Core.List.{List, [], ◌∷◌, ◌++◌}
use lib.ListN.{length, length-append}
use lib.Dec.{leb, lit<}
use borrow.Author.Tests.{leb-true}
use Rattle.protocol.specs.declared.SocksError.TheVariants.{ShortOutput, UnexpectedEof, Settled}
use Rattle.protocol.specs.Answers.{Accepted, Refused}
use Rattle.protocol.specs.declared.Version.{Version}
use Rattle.protocol.specs.declared.Version.TheVariants.{V4, V5}
use Rattle.protocol.specs.Bytes.{two}
use Rattle.protocol.specs.Numbers.{answer_number}
use Rattle.protocol.specs.AddressReading.{Destination, ipv4, ipv6, domain}
use Rattle.protocol.specs.Bound.{Endpoint, endpoint}
use Rattle.protocol.specs.Opening.{◌↣◌, Answers, refuse}
use Rattle.protocol.proofs.Judged.{refuses, accepts, answered, stays}
use Rattle.protocol.proofs.Openings.{clash, same_error, not_long, all_passed, checked}
use Rattle.proxy_spec.specs.declared.Stage.{Stage}
use Rattle.proxy_spec.specs.declared.Stage.TheVariants.{Awaiting, Asked, Open, Failed}
use Rattle.proxy_spec.specs.End.{reply_to, stage_after}
use Rattle.proxy_spec.proofs.Fits.{feed_sent}
use Rattle.proxy_decisions.specs.decision.Due.{session_at}
use Rattle.proxy_replies.specs.declared.stages.Outcome.{Outcome}
use Rattle.proxy_replies.specs.declared.stages.Outcome.TheVariants as outcome
use Rattle.proxy_replies.specs.stages.Told.{outcome_at}
use Rattle.proxy_replies.specs.stages.Answers.{refused, sends, answer_at}
use Rattle.proxy_session.specs.declared.Server.{Server}
use Rattle.proxy_session.specs.Server.{setup_of, side_of, asked_for, held_bytes, view, packed, at_stage, outcome as told}
use Rattle.proxy_session.specs.Calls.{Call, refusal, takes, deliver, answer_by, answer, end}
use Rattle.proxy.specs.Turns.{Given, Tells, nowhere, Untouched, InTurn}
use Rattle.talk.specs.Talk.{failed, ended, onward, is_over}
use Rattle.talk.specs.Tunnel.{Behind}
use Rattle.talk.proofs.Sends.{stand_at, none_sent}

-- ---- it is over exactly when it does not wait, and asked exactly when the stage says so

abbrev is_waiting : Outcome → Bool
is_waiting outcome.Waiting = true
is_waiting outcome.Asked = false
is_waiting outcome.Open = false
is_waiting (outcome.Failed e) = false

abbrev pub is_asked : Outcome → Bool
is_asked outcome.Waiting = false
is_asked outcome.Asked = true
is_asked outcome.Open = false
is_asked (outcome.Failed e) = false

over_just : (t : Stage) (x : Endpoint) (h : List ℕ) → is_over (session_at t x h) ≡ true ↔ (outcome_at t ≡ outcome.Waiting → ⊥)
over_just (Awaiting f) x h = (λ q. absurd (true≢false (sym q)), λ n. absurd (n refl))
over_just (Asked v) x h = (λ q e. true≢false (sym (ap is_waiting e)), λ n. refl)
over_just (Open v) x h = (λ q e. true≢false (sym (ap is_waiting e)), λ n. refl)
over_just (Failed d) x h = (λ q e. true≢false (sym (ap is_waiting e)), λ n. refl)

unasked_just : (t : Stage) → not (is_asked (outcome_at t)) ≡ true ↔ (outcome_at t ≡ outcome.Asked → ⊥)
unasked_just (Awaiting f) = (λ q e. true≢false (sym (ap is_asked e)), λ n. refl)
unasked_just (Asked v) = (λ q. absurd (true≢false (sym q)), λ n. absurd (n refl))
unasked_just (Open v) = (λ q e. true≢false (sym (ap is_asked e)), λ n. refl)
unasked_just (Failed d) = (λ q e. true≢false (sym (ap is_asked e)), λ n. refl)

-- ---- a delivery and an end

takes_accepts : (s : Server) (piece out : List ℕ) → (takes s piece out).answer ≡ Accepted
takes_accepts s [] out = refl
takes_accepts s (b ∷ bs) out = refl

module _ (s : Server) where
  over : is_over (view s) ≡ true ↔ (told s ≡ outcome.Waiting → ⊥)
  over = over_just s.stage (asked_for s) (held_bytes s)

  deliver_number : (piece out : List ℕ) → Answers (answer_number (deliver s piece out).answer) (((told s ≡ outcome.Waiting → ⊥) ↣ 16) ∷ ((length out < 262) ↣ 1) ∷ [])
  unfolding deliver
  deliver_number piece out =
      rw (answered s out (takes s piece out) (takes_accepts s piece out) (is_over (view s)) false (leb 262 (length out)) _ (λ z w. refl))
      (checked (is_over (view s)) _ Settled 16 _ _ refl (lit< tt) over
      (checked (not (leb 262 (length out))) _ ShortOutput 1 Accepted [] refl (lit< tt) (not_long 262 (length out)) all_passed))

  deliver_untouched : (piece out : List ℕ) → Untouched (deliver s piece out) s out
  unfolding deliver
  deliver_untouched piece out = refuses s out (takes s piece out) (takes_accepts s piece out) (is_over (view s)) false (leb 262 (length out))

  nothing : (out : List ℕ) → (deliver s [] out).answer ≡ Accepted → deliver s [] out ≡ record { answer = Accepted; session = s; used = 0; sent = 0; output = out }
  unfolding deliver
  nothing out p = (accepts s out (takes s [] out) refl (is_over (view s)) false (leb 262 (length out)) p).1

  -- it sends at most 14 bytes of its own
  sends_few : (t : Stage) (x : Endpoint) (h more : List ℕ) → length (onward (side_of s) (session_at t x h) more).sent ≤ 14
  unfolding onward
  sends_few (Awaiting f) x h more = feed_sent (setup_of s) f (h ++ more)
  sends_few (Asked v) x h more = omega arith
  sends_few (Open v) x h more = omega arith
  sends_few (Failed e) x h more = omega arith

  deliver_behind : (piece out : List ℕ) → Behind (deliver s piece out) out
  unfolding deliver
  deliver_behind piece out = stays s out (takes s piece out) (takes_accepts s piece out) (is_over (view s)) false (leb 262 (length out)) (λ q. go piece (leb-true 262 (length out) q))
    where
      go : (p : List ℕ) → 262 ≤ length out → Behind (takes s p out) out
      go [] h = none_sent _ s 0 out
      go (b ∷ bs) h = stand_at Accepted _ _ (onward (side_of s) (view s) (b ∷ bs)).sent out (omega (arith, sends_few s.stage (asked_for s) (held_bytes s) (b ∷ bs)))

  abbrev ending : Call
  ending = record { answer = Accepted; session = packed s (ended (failed UnexpectedEof)); used = 0; sent = 0; output = [] }

  end_number : Answers (answer_number (end s).answer) (((told s ≡ outcome.Waiting → ⊥) ↣ 16) ∷ [])
  unfolding end
  end_number =
      rw (answered s [] ending refl (is_over (view s)) false true true (λ z w. refl))
      (checked (is_over (view s)) _ Settled 16 Accepted [] refl (lit< tt) over all_passed)

  end_untouched : Untouched (end s) s []
  unfolding end
  end_untouched = refuses s [] ending refl (is_over (view s)) false true

  end_accepts : (end s).answer ≡ Accepted → end s ≡ ending
  unfolding end
  end_accepts p = (accepts s [] ending refl (is_over (view s)) false true p).1

-- an end uses and sends nothing
pub end_counts : (s : Server) → ((end s).used ≡ 0) × ((end s).sent ≡ 0)
unfolding end
end_counts s = go (is_over (view s))
  where
    go : (b : Bool) → ((cond b (refusal Settled s []) (ending s)).used ≡ 0) × ((cond b (refusal Settled s []) (ending s)).sent ≡ 0)
    go true = (refl, refl)
    go false = (refl, refl)

-- ---- the caller's answer, by the stage

reply_size : (v : Version) (status : ℕ) (d : Destination) (port : ℕ) → Given (endpoint d port) → length (reply_to v status (endpoint d port)) ≤ 22
reply_size V4 status (ipv4 a) port g = omega arith
reply_size V4 status (ipv6 a) port g = omega arith
reply_size V4 status (domain s) port g = absurd g
reply_size V5 status (ipv4 a) port g = omega (arith, length-append a (two port))
reply_size V5 status (ipv6 a) port g = omega (arith, length-append a (two port))
reply_size V5 status (domain s) port g = absurd g

module _ (s : Server) (status : ℕ) (x : Endpoint) (out : List ℕ) where
  -- at any stage
  abbrev at : Stage → Call
  at t = answer_by (at_stage t s) (answer_at t status x out)

  -- once it is asked, by whether the output is long enough
  abbrev asked : Version → Bool → Call
  asked v b = answer_by (at_stage (Asked v) s) (cond b (sends (reply_to v status x) (stage_after v status) out) (refused ShortOutput (Asked v) out))

  at_answers : (t : Stage) → (at t).answer ≡ refuse (not (is_asked (outcome_at t))) Settled (refuse (not (leb 262 (length out))) ShortOutput Accepted)
  at_answers (Awaiting f) = refl
  at_answers (Asked v) = go (leb 262 (length out))
    where
      go : (b : Bool) → (asked v b).answer ≡ refuse (not b) ShortOutput Accepted
      go true = refl
      go false = refl
  at_answers (Open v) = refl
  at_answers (Failed e) = refl

  at_untouched : (t : Stage) → Untouched (at t) (at_stage t s) out
  at_untouched (Awaiting f) e q = rw (same_error q)
  at_untouched (Asked v) e q = go (leb 262 (length out)) q
    where
      go : (b : Bool) → (asked v b).answer ≡ Refused e → asked v b ≡ refusal e (at_stage (Asked v) s) out
      go true r = absurd (clash r)
      go false r = rw (same_error r)
  at_untouched (Open v) e q = rw (same_error q)
  at_untouched (Failed d) e q = rw (same_error q)

  answering_number : Answers (answer_number (answer s status x out).answer) (((told s ≡ outcome.Asked → ⊥) ↣ 16) ∷ ((length out < 262) ↣ 1) ∷ [])
  unfolding answer
  answering_number =
      rw (at_answers s.stage)
      (checked (not (is_asked (told s))) _ Settled 16 _ _ refl (lit< tt) (unasked_just s.stage)
      (checked (not (leb 262 (length out))) _ ShortOutput 1 Accepted [] refl (lit< tt) (not_long 262 (length out)) all_passed))

  answer_untouched : Untouched (answer s status x out) s out
  unfolding answer
  answer_untouched = at_untouched s.stage

  -- it uses nothing
  pub answer_used : (answer s status x out).used ≡ 0
  unfolding answer
  answer_used = refl

  at_behind : Given x → (t : Stage) → Behind (at t) out
  at_behind g (Awaiting f) = none_sent _ _ 0 out
  at_behind g (Asked v) = go (leb 262 (length out)) refl
    where
      go : (b : Bool) → leb 262 (length out) ≡ b → Behind (asked v b) out
      go true q = stand_at Accepted _ 0 (reply_to v status x) out (omega (arith, reply_size v status x.address x.port g, leb-true 262 (length out) q))
      go false q = none_sent _ _ 0 out
  at_behind g (Open v) = none_sent _ _ 0 out
  at_behind g (Failed e) = none_sent _ _ 0 out

  answer_behind : Given x → Behind (answer s status x out) out
  unfolding answer
  answer_behind g = at_behind g s.stage

pub in_turn : (s : Server) → InTurn s
in_turn s =
    record {
      deliver_number = deliver_number s;
      answering_number = answering_number s;
      end_number = end_number s;
      deliver_untouched = deliver_untouched s;
      answer_untouched = answer_untouched s;
      end_untouched = end_untouched s;
      end_fails = λ p. subst (λ (c : Call). Tells c.session (outcome.Failed UnexpectedEof) nowhere) (sym (end_accepts s p)) (record { outcomes = refl; destinations = refl });
      end_nine = λ p. rw (end_accepts s p);
      nothing = nothing s;
      deliver_behind = deliver_behind s;
      answer_behind = answer_behind s;
    }
