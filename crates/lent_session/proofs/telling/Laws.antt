-- What is told of a session, by its stage and what stands in the bytes, and how it is wiped.
use Rattle.std.proofs.Common.{◌≡◌, ℕ, ◌+◌, ◌-◌, ◌%◌, min, Bool, true, false, cond, ◌&&◌, eqb, ltb, List, ◌++◌, length, take, drop, replicate, sym, refl, ap, ◌∙◌, arith, length-drop, length-take, take-take, Result, Ok, Err}
use Rattle.protocol.specs.declared.Address.{Address}
use Rattle.protocol.specs.Answers.{Answer, Accepted}
use Rattle.protocol.specs.declared.Bound.{Bound}
use Rattle.protocol.specs.declared.Reply.{Reply}
use Rattle.protocol.specs.declared.SocksError.{SocksError}
use Rattle.protocol.specs.Client as client
use Rattle.protocol.specs.Numbers.{number, status, answer_number}
use Rattle.protocol.specs.Bound.{endpoint, address_of, size_of}
use Rattle.protocol.specs.Requests.{kind_of}
use Rattle.address_format.specs.endpoint.Written.{with_length, TextResult}
use Rattle.client_stages.specs.declared.due.Stage.{Stage}
use Rattle.client_stages.specs.declared.due.Stage.TheVariants.{Awaiting, Open, Failed}
use Rattle.client_stages.specs.due.Stages.{view_at}
use Rattle.client_stages.specs.outcome.Told.{is_open}
use Rattle.client_session.specs.declared.Session.{Session}
use Rattle.client_delivery.specs.wants.Wants.{wants_at}
use Rattle.client_session.specs.Session.{wants, bound, write_bound}
use Rattle.client_session.proofs.Named.{bound_is, accepted_length, refused_empty}
use Rattle.raw_numbers.specs.Numbers as kinds
use Rattle.raw_errors.specs.Errors.{error_of}
use Rattle.lent_numbers.specs.declared.told.RawOutcome.{RawOutcome}
use Rattle.lent_numbers.specs.told.Told.{outcome_of}
use Rattle.lent_session.specs.declared.telling.RawAddress.{RawAddress}
use Rattle.lent_session.specs.State.{two_at, stage_of, stage_at, session_at, stage_number}
use Rattle.lent_session.specs.Fits.{awaited_number}
use Rattle.lent_session.specs.Calls as calls
use Rattle.lent_session.specs.Calls.{bound_at, Tells, written, wiped}
use Rattle.lent_session.specs.delivery.Changes.{stage_told}
use Rattle.lent_session.proofs.Codes.{reply_some, reply_small, stage_of_lem}

pub told_is : (g : Stage) (b : Bound) (h : List ℕ) → stage_told g ≡ outcome_of (client.outcome_of (view_at g b h))
told_is (Awaiting e) b h = refl
told_is Open b h = refl
told_is (Failed x) b h = refl

-- a stage of number 0 has failed, with the error that stands beside it
failed_number : (n error status : ℕ) → n ≡ 0 → stage_of n error status ≡ Failed (error_of error status)
unfolding stage_of
failed_number n error status q = rw q

pub failed_is : (code error status : ℕ) → stage_number (stage_at code error status) ≡ 0 → stage_at code error status ≡ Failed (error_of error status)
unfolding stage_at
failed_is code error status = go (eqb error 0 && (eqb status 0 && ltb code 96))
  where
    go : (t : Bool) → stage_number (cond t (stage_of (code % 8) error status) (Failed (error_of error status))) ≡ 0
        → cond t (stage_of (code % 8) error status) (Failed (error_of error status)) ≡ Failed (error_of error status)
    go true q = failed_number (code % 8) error status (sym (stage_of_lem (code % 8) error status (omega arith)) ∙ q)
    go false q = refl

pub told_failed : {g : Stage} {y e : SocksError} (b : Bound) (h : List ℕ) → g ≡ Failed y → e ≡ y → {n t : ℕ} → n ≡ number e → t ≡ status e
    → ◌≡◌ {A = RawOutcome} (record { state = 2; number = n; status = t }) (outcome_of (client.outcome_of (view_at g b h)))
told_failed b h w q r u = (λ i. record { state = 2; number = (r ∙ ap number q) i; status = (u ∙ ap status q) i }) ∙ ap (λ (s : Stage). outcome_of (client.outcome_of (view_at s b h))) (sym w)

pub told_open : (g : Stage) (b : Bound) (h : List ℕ) → stage_number g ≡ 7 → ◌≡◌ {A = RawOutcome} (record { state = 1; number = 0; status = 0 }) (outcome_of (client.outcome_of (view_at g b h)))
told_open (Awaiting e) b h q = absurd (omega (arith, reply_small e))
told_open Open b h q = refl
told_open (Failed x) b h q = absurd (omega arith)

pub told_waiting : (g : Stage) (b : Bound) (h : List ℕ) → (stage_number g ≡ 0 → ⊥) → (stage_number g ≡ 7 → ⊥) → ◌≡◌ {A = RawOutcome} (record { state = 0; number = 0; status = 0 }) (outcome_of (client.outcome_of (view_at g b h)))
told_waiting (Awaiting e) b h q r = refl
told_waiting Open b h q r = absurd (r refl)
told_waiting (Failed x) b h q r = absurd (q refl)

-- ---- the bound address

pub open_by : (g : Stage) {n : ℕ} → n ≡ stage_number g → n ≡ 7 → true ≡ is_open g
open_by (Awaiting e) q r = absurd (omega (arith, reply_small e))
open_by Open q r = refl
open_by (Failed x) q r = absurd (omega arith)

pub shut_by : (g : Stage) {n : ℕ} → n ≡ stage_number g → (n ≡ 7 → ⊥) → false ≡ is_open g
shut_by (Awaiting e) q r = refl
shut_by Open q r = absurd (r q)
shut_by (Failed x) q r = refl

-- by the first held bytes of the hold
pub bound_held : (s : List ℕ) → length s ≡ 1306 → true ≡ is_open (session_at s).stage → {n k : ℕ} {b : Bound} → k ≡ two_at s 8 → n ≡ min k 261 → b ≡ (session_at s).bound
    → address_of (endpoint (kind_of b.kind (take (21 + n - 21) (drop 21 s))) b.port) ≡ bound (session_at s)
bound_held s l o {n} {k} {b} q r w =
    let x = session_at s in
    let z : 21 + n - 21 ≡ n = omega arith in
    let h : take (21 + n - 21) (drop 21 s) ≡ take n x.hold = ap (λ (m : ℕ). take m (drop 21 s)) z ∙ sym (take-take n 261 (drop 21 s) (omega arith)) in
    (λ i. address_of (endpoint (kind_of (w i).kind (h i)) (w i).port)) ∙ bound_is x o refl (r ∙ ap (λ (m : ℕ). min m 261) q) (length-take 261 (drop 21 s) ∙ omega (arith, length-drop 21 s))

pub bound_as : (s : List ℕ) {a : Address} {k n : ℕ} → a ≡ bound (session_at s) → k ≡ kinds.kind_number a.kind → n ≡ size_of a.kind a.len → ◌≡◌ {A = RawAddress} (record { port = a.port; kind = k; len = n; bytes = a.bytes }) (bound_at s)
bound_as s {a} q r w = (λ i. record { port = a.port; kind = r i; len = w i; bytes = a.bytes }) ∙ ap calls.address_of q

module _ (x : Session) (text text' : List ℕ) (w : Result ℕ SocksError) (h : TextResult (write_bound x text) w text') where
  pub text_told : {n : ℕ} → w ≡ Ok n → Tells (write_bound x text) (record { len = n; answer = 0 }) text'
  text_told {n} p =
      let k : Ok n ≡ with_length (write_bound x text).answer (write_bound x text).len = rw p at h.returned in
      let t = accepted_length (write_bound x text).answer (write_bound x text).len k in
      record { returned = rw (t.0, t.1); buffer = h.buffer }

  pub text_refused : {e : SocksError} {n : ℕ} → w ≡ Err e → n ≡ number e → Tells (write_bound x text) (record { len = 0; answer = n }) text'
  text_refused {e} p q =
      let k = rw p at h.returned in
      let t = refused_empty x text k in
      record { returned = rw (t.0, t.1, q); buffer = h.buffer }

-- 261 bytes are enough
pub text_fits : {a : Answer} {n : ℕ} → n ≡ answer_number a → a ≡ Accepted → n ≡ 18 → ⊥
text_fits q r z = omega (arith, q ∙ ap answer_number r, z)

-- ---- wiped

module _ (s : List ℕ) (l : length s ≡ 1306) {f a p n : ℕ} (fw : f ≡ two_at s 10) (aw : a ≡ two_at s 12) (pw : p ≡ two_at s 14) (nw : n ≡ min (f + a + p) 1024) where
  pub wiped_long : 282 + n ≡ length (take (282 + n) s)
  wiped_long = sym (length-take (282 + n) s ∙ omega arith)

  pub wiped_as : {z : List ℕ} → z ≡ replicate (length (take (282 + n) s)) 0 → z ++ drop (282 + n) s ≡ wiped s
  wiped_as q =
      let m : n ≡ written s = nw ∙ (λ i. min (fw i + aw i + pw i) 1024) in
      ap (λ (t : List ℕ). t ++ drop (282 + n) s) (q ∙ ap (λ (k : ℕ). replicate k 0) (sym wiped_long)) ∙ ap (λ (k : ℕ). replicate (282 + k) 0 ++ drop (282 + k) s) m

-- ---- how much may be read

pub wants_none : (g : Stage) (b : Bool) (h : List ℕ) {n : ℕ} → n ≡ awaited_number g → n ≡ 0 → 0 ≡ wants_at g b h
wants_none (Awaiting e) b h q z = let k = reply_some e in absurd (omega arith)
wants_none Open b h q z = refl
wants_none (Failed x) b h q z = refl

pub wants_as : (s : List ℕ) {e reply : Reply} {started : Bool} {held r : ℕ} {hold : List ℕ} → (session_at s).stage ≡ Awaiting e → reply ≡ e → started ≡ (session_at s).started → held ≡ two_at s 8
    → hold ≡ take 261 (drop 21 s) → r ≡ wants_at (Awaiting reply) started (take held hold) → r ≡ wants (session_at s)
wants_as s {e} g q b n h w =
    w ∙ (λ i. wants_at (Awaiting (q i)) (b i) (take (n i) (h i))) ∙ ap (λ (t : Stage). wants_at t (session_at s).started (take (two_at s 8) (take 261 (drop 21 s)))) (sym g)
