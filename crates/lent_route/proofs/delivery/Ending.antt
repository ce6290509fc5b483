-- An end of a route in lent bytes is that of the session of the proxy that is spoken to.
use Prim.Native.Nat.{ℕ}
use native.Mathlib.Omega.{arith}
use mathlib.Core.Path.{◌≡◌, refl, sym, ap, ◌∙◌}
use mathlib.Core.Bool.{Bool, true, false, cond, not}
use mathlib.Core.List.{List, [], ◌++◌}
use lib.ListN.{length, take, drop, replicate, length-replicate, take-append-drop}
use Rattle.protocol.specs.Answers.{Accepted}
use Rattle.protocol.specs.declared.SocksError.{SocksError}
use Rattle.protocol.specs.declared.SocksError.TheVariants.{Settled, OutOfOrder, UnexpectedEof}
use Rattle.protocol.specs.Numbers.{number}
use Rattle.protocol.specs.Bytes.{Bytes}
use Rattle.client_stages.specs.declared.due.Stage.{Stage}
use Rattle.client_stages.specs.declared.due.Stage.TheVariants.{Awaiting, Open, Failed}
use Rattle.client_stages.specs.due.Stages.{view_at}
use Rattle.client_session.specs.declared.Session.{Session}
use Rattle.client_session.specs.Session as session
use Rattle.client_session.specs.Session.{packed}
use Rattle.client_session.specs.Calls as session-calls
use Rattle.lent_numbers.specs.declared.told.RawStep.{RawStep}
use Rattle.lent_numbers.specs.told.Told.{outcome_of}
use Rattle.lent_session.specs.State as sessions
use Rattle.lent_session.specs.State.{session_at}
use Rattle.lent_session.specs.Fits.{Fits}
use Rattle.lent_session.specs.Calls as session-steps
use Rattle.route_session.specs.declared.calls.Route.{Route}
use Rattle.route_session.specs.calls.Calls.{Call, refusal, session_in, with_session, end}
use Rattle.talk.specs.Talk as talk
use Rattle.lent_route.specs.State.{phase_by, phase_at, route_at}
use Rattle.lent_route.specs.Calls.{step_by, left_by, Leaves, Untimely, Delivers}
use Rattle.lent_route.proofs.Writing.{keeping}
use Rattle.lent_route.proofs.Prefix.{prefix}
use Rattle.lent_route.proofs.Reading.{means_route}
use Rattle.lent_route.proofs.delivery.Relaying.{fits_first}
use Rattle.lent_route.proofs.delivery.Holding.{whole_again}

-- ---- the end of a session

abbrev eof : Session → session-calls.Call
eof x = record { answer = Accepted; session = packed x (talk.ended (talk.failed UnexpectedEof)); used = 0; sent = 0; output = [] }

module _ (x : Session) where
  end_by : (g : Stage) → x.stage ≡ g → (b : Bool) → x.started ≡ b → (c : session-calls.Call) → cond (talk.is_over (view_at g x.bound (take x.held x.hold))) (session-calls.refusal Settled x []) (cond (not b) (session-calls.refusal OutOfOrder x []) (eof x)) ≡ c → session-calls.end x ≡ c
  unfolding session-calls.end
  end_by g e b f c q = (λ i. cond (talk.is_over (view_at (e i) x.bound (take x.held x.hold))) (session-calls.refusal Settled x []) (cond (not (f i)) (session-calls.refusal OutOfOrder x []) (eof x))) ∙ q

-- ---- of a route

module _ (s : List ℕ) (y : Bytes s) (l : length s ≡ 8538) {k : RawStep} {p' : List ℕ} (v : session-steps.Leaves (session-calls.end (session_at (take 1306 s))) (take 1306 s) k p' []) where
  abbrev x : Session
  x = session_at s

  abbrev r : Route
  r = route_at s

  abbrev b₀ : List ℕ
  b₀ = take 1024 (drop 282 s)

  same : session_at (take 1306 s) ≡ keeping x b₀
  same = prefix s (omega (arith, l))

  same_end : session-calls.end (session_at (take 1306 s)) ≡ session-calls.end (keeping x b₀)
  same_end = ap session-calls.end same

  -- refused, all stays
  module _ (e : SocksError) (q : session-calls.end (keeping x b₀) ≡ session-calls.refusal e (keeping x b₀) []) where
    refused_step : k ≡ record { used = 0; sent = 0; answer = number e; outcome = outcome_of (session.outcome x) }
    refused_step = v.returned ∙ ap session-steps.step_by (same_end ∙ q)

    refused_state : p' ++ drop 1306 s ≡ s
    refused_state = ap (λ (t : List ℕ). t ++ drop 1306 s) (v.left ∙ ap (λ (c : session-calls.Call). session-steps.left_by c.answer c.session (take 1306 s)) (same_end ∙ q)) ∙ take-append-drop 1306 s

    untimely : Untimely e s [] k (p' ++ drop 1306 s) []
    untimely = record { returned = refused_step; left = refused_state; output = refl }

  -- settled
  end_refused : session-calls.end (keeping x b₀) ≡ session-calls.refusal Settled (keeping x b₀) []
      → session-calls.end (session_in r) ≡ session-calls.refusal Settled (session_in r) [] → Leaves (end r) s k (p' ++ drop 1306 s) []
  unfolding end
  end_refused q q' =
      let c : end r ≡ refusal Settled r [] = ap (λ (d : session-calls.Call). record { answer = d.answer; session = with_session r r.behind d.session; used = 0; sent = 0; output = [] }) q' in
      record {
        returned = refused_step Settled q ∙ ap step_by (sym c);
        left = refused_state Settled q ∙ sym (ap (λ (d : Call). left_by d.answer d.session s) c);
        means = ap route_at (refused_state Settled q) ∙ ap (λ (d : Call). d.session) (sym c);
        output = ap (λ (d : Call). d.output) (sym c);
      }

  ended_fits : Fits (keeping (packed x (talk.ended (talk.failed UnexpectedEof))) (replicate 1024 0))
  ended_fits =
      let f = fits_first s y l in
      record { attempts = f.attempts; held = omega arith; first = f.first; authentication = f.authentication; proxy = f.proxy; port = f.port; hold = f.hold; bytes = length-replicate {A = ℕ} 1024 0 }

  end_accepted : session-calls.end (keeping x b₀) ≡ eof (keeping x b₀) → session-calls.end (session_in r) ≡ eof (session_in r) → Leaves (end r) s k (p' ++ drop 1306 s) []
  unfolding end
  end_accepted q q' =
      let m = talk.ended (talk.failed UnexpectedEof) in
      let c : end r ≡ record { answer = Accepted; session = with_session r r.behind (packed (session_in r) m); used = 0; sent = 0; output = [] } =
      ap (λ (d : session-calls.Call). record { answer = d.answer; session = with_session r r.behind d.session; used = 0; sent = 0; output = [] }) q' in
      let left : p' ++ drop 1306 s ≡ sessions.state_of (packed x m) =
      ap (λ (t : List ℕ). t ++ drop 1306 s) (v.left ∙ ap (λ (d : session-calls.Call). session-steps.left_by d.answer d.session (take 1306 s)) (same_end ∙ q)) ∙ whole_again (packed x m) s in
      record {
        returned = v.returned ∙ ap session-steps.step_by (same_end ∙ q) ∙ ap step_by (sym c);
        left = left ∙ sym (ap (λ (d : Call). left_by d.answer d.session s) c);
        means = ap route_at left ∙ means_route (packed x m) s (replicate 1024 0) ended_fits refl ∙ ap (λ (d : Call). d.session) (sym c);
        output = ap (λ (d : Call). d.output) (sym c);
      }

  pub ends_so : Delivers (phase_at s) (end r) s [] k (p' ++ drop 1306 s) []
  ends_so = go x.stage refl x.started refl
    where
      go : (g : Stage) → x.stage ≡ g → (b : Bool) → x.started ≡ b → Delivers (phase_by g b) (end r) s [] k (p' ++ drop 1306 s) []
      go (Awaiting a) e false f = untimely OutOfOrder (end_by (keeping x b₀) (Awaiting a) e false f (session-calls.refusal OutOfOrder (keeping x b₀) []) refl)
      go (Awaiting a) e true f = end_accepted (end_by (keeping x b₀) (Awaiting a) e true f (eof (keeping x b₀)) refl) (end_by (session_in r) (Awaiting a) e true refl (eof (session_in r)) refl)
      go Open e b f = end_refused (end_by (keeping x b₀) Open e b f (session-calls.refusal Settled (keeping x b₀) []) refl) (end_by (session_in r) Open e true refl (session-calls.refusal Settled (session_in r) []) refl)
      go (Failed a) e b f = end_refused (end_by (keeping x b₀) (Failed a) e b f (session-calls.refusal Settled (keeping x b₀) []) refl) (end_by (session_in r) (Failed a) e true refl (session-calls.refusal Settled (session_in r) []) refl)
