-- What the calls make, in numbers.
use Prim.Native.Nat.{ℕ}
use mathlib.Core.Path.{◌≡◌, refl, ap, subst, ◌∙◌}
use mathlib.Core.Bool.{Bool, true, false, cond, not}
use mathlib.Core.List.{List, []}
use lib.Dec.{leb}
use lib.ListN.{length}
use Rattle.protocol.specs.Answers.{Accepted}
use Rattle.protocol.specs.declared.SocksError.TheVariants.{ShortOutput, UnexpectedEof, Settled, OutOfOrder}
use Rattle.client_session.specs.declared.Session.{Session}
use Rattle.client_session.specs.declared.Started.{Started}
use Rattle.client_session.specs.declared.Delivered.{Delivered}
use Rattle.client_session.specs.declared.Ended.{Ended}
use Rattle.client_session.specs.Session.{view, packed, first_room_at, first_at}
use Rattle.client_session.specs.Calls.{Call, refusal, StartResult, DeliverResult, ended_by, starts, start, deliver, end}
use Rattle.raw_session.specs.declared.RawSession.{RawSession}
use Rattle.raw_session.specs.declared.RawStep.{RawStep}
use Rattle.raw_session.specs.Raw.{session_of, step_of}
use Rattle.talk.specs.Talk.{failed, ended, is_over}
use Rattle.raw_calls.specs.Calls.{step_by, Says}

-- a start uses nothing, and an end sends nothing either
module _ (s : Session) where
  abbrev start_by : List ℕ → Bool → Bool → Bool → Call
  start_by out a b f = cond a (refusal Settled s out) (cond b (refusal OutOfOrder s out) (cond f (starts s (first_at s.stage s.requests) out) (refusal ShortOutput s out)))

  started_step : (out : List ℕ) (a b f : Bool) → step_of (start_by out a b f).answer (start_by out a b f).session 0 (start_by out a b f).sent ≡ step_by (start_by out a b f)
  started_step out true b f = refl
  started_step out false true f = refl
  started_step out false false true = refl
  started_step out false false false = refl

  start_step : (out : List ℕ) → step_of (start s out).answer (start s out).session 0 (start s out).sent ≡ step_by (start s out)
  unfolding start
  start_step out = started_step out (is_over (view s)) s.started (leb (first_room_at s.stage) (length out))

  abbrev end_by : Bool → Bool → Call
  end_by a b =
      cond a (refusal Settled s [])
      (cond b (refusal OutOfOrder s []) (record { answer = Accepted; session = packed s (ended (failed UnexpectedEof)); used = 0; sent = 0; output = [] }))

  ended_step : (a b : Bool) → step_of (end_by a b).answer (end_by a b).session 0 0 ≡ step_by (end_by a b)
  ended_step true b = refl
  ended_step false true = refl
  ended_step false false = refl

  end_step : step_of (end s).answer (end s).session 0 0 ≡ step_by (end s)
  unfolding end
  end_step = ended_step (is_over (view s)) (not s.started)

module _ (raw : RawSession) {s : Session} (e : s ≡ session_of raw) where
  pub says_started : (out out' : List ℕ) (d : Started) (r : RawStep) → StartResult (start s out) d out' → r ≡ step_of d.answer d.session 0 d.sent → Says (start (session_of raw) out) r out'
  says_started out out' d r h q =
      let g : StartResult (start (session_of raw) out) d out' = subst (λ (t : Session). StartResult (start t out) d out') e h in
      record { returned = q ∙ ap (λ (x : Started). step_of x.answer x.session 0 x.sent) g.returned ∙ start_step (session_of raw) out; output = g.output }

  pub says_delivered : (piece out out' : List ℕ) (d : Delivered) (r : RawStep) → DeliverResult (deliver s piece out) piece d out' → r ≡ step_of d.answer d.session d.used d.sent → Says (deliver (session_of raw) piece out) r out'
  says_delivered piece out out' d r h q =
      let g : DeliverResult (deliver (session_of raw) piece out) piece d out' = subst (λ (t : Session). DeliverResult (deliver t piece out) piece d out') e h in
      record { returned = q ∙ ap (λ (x : Delivered). step_of x.answer x.session x.used x.sent) g.returned; output = g.output }

  pub says_ended : {d : Ended} {r : RawStep} → d ≡ ended_by (end s) → r ≡ step_of d.answer d.session 0 0 → r ≡ step_by (end (session_of raw))
  says_ended h q = q ∙ ap (λ (x : Ended). step_of x.answer x.session 0 0) (h ∙ ap (λ (t : Session). ended_by (end t)) e) ∙ end_step (session_of raw)
