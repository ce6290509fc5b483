-- What the code makes, field by field.
use Prim.Native.Nat.{ℕ}
use mathlib.Core.Path.{◌≡◌, sym, ap, ◌∙◌}
use mathlib.Core.Bool.{Bool}
use Rattle.protocol.specs.declared.AddressKind.{AddressKind}
use Rattle.protocol.specs.Answers.{Answer}
use Rattle.protocol.specs.declared.Outcome.{Outcome}
use Rattle.protocol.specs.declared.Outcome.TheVariants as outcomes
use Rattle.protocol.specs.declared.Reply.{Reply}
use Rattle.protocol.specs.declared.SocksError.{SocksError}
use Rattle.protocol.specs.Numbers.{number, status, answer_number}
use Rattle.client_stages.specs.declared.due.Requests.{Requests}
use Rattle.client_stages.specs.declared.due.Stage.{Stage}
use Rattle.client_stages.specs.declared.due.Stage.TheVariants.{Awaiting, Failed}
use Rattle.client_session.specs.declared.Session.{Session}
use Rattle.client_session.specs.Session.{outcome}
use Rattle.raw_numbers.specs.Numbers.{truth, bit, kind_of, kind_number}
use Rattle.raw_session.specs.declared.RawSession.{RawSession}
use Rattle.raw_session.specs.declared.RawOutcome.{RawOutcome}
use Rattle.raw_session.specs.declared.RawStep.{RawStep}
use Rattle.raw_session.specs.declared.StageNumbers.{StageNumbers}
use Rattle.raw_session.specs.Raw.{stage_of, reply_number, stage_numbers, requests_of, session_of, raw_of, outcome_of, step_of}

abbrev requests_with : RawSession → Bool → Requests
requests_with r o =
    record { lengths = record { optimistic = o; first = r.first; authentication = r.authentication; proxy = r.proxy }; bytes = r.requests }

pub requests_as : (r : RawSession) {o : Bool} → o ≡ truth r.optimistic → requests_with r o ≡ requests_of r
requests_as r o = ap (requests_with r) o

abbrev session_with : RawSession → Stage → AddressKind → Bool → Requests → Session
session_with r g k b q =
    record { stage = g; started = b; held = r.held; hold = r.hold; bound = record { kind = k; port = r.port }; attempts = r.attempts; requests = q }

pub session_as : (r : RawSession) {g : Stage} {k : AddressKind} {b : Bool} {q : Requests} → g ≡ stage_of r.stage r.error r.status → k ≡ kind_of r.kind → b ≡ truth r.started → q ≡ requests_of r
    → session_with r g k b q ≡ session_of r
session_as r g k b q = λ i. session_with r (g i) (k i) (b i) (q i)

pub awaiting_as : {g : Stage} {e : Reply} {n : ℕ} → g ≡ Awaiting e → n ≡ reply_number e → ◌≡◌ {A = StageNumbers} (record { stage = n; error = 0; status = 0 }) (stage_numbers g)
awaiting_as g n = (λ i. record { stage = n i; error = 0; status = 0 }) ∙ ap stage_numbers (sym g)

pub failing_as : {g : Stage} {e : SocksError} {n t : ℕ} → g ≡ Failed e → n ≡ number e → t ≡ status e → ◌≡◌ {A = StageNumbers} (record { stage = 0; error = n; status = t }) (stage_numbers g)
failing_as g n t = (λ i. record { stage = 0; error = n i; status = t i }) ∙ ap stage_numbers (sym g)

abbrev raw_with : Session → ℕ → StageNumbers → ℕ → ℕ → RawSession
raw_with s k g b o =
    record {
      attempts = s.attempts;
      held = s.held;
      first = s.requests.lengths.first;
      authentication = s.requests.lengths.authentication;
      proxy = s.requests.lengths.proxy;
      port = s.bound.port;
      kind = k;
      stage = g.stage;
      error = g.error;
      status = g.status;
      started = b;
      optimistic = o;
      hold = s.hold;
      requests = s.requests.bytes;
    }

pub raw_as : (s : Session) {k : ℕ} {g : StageNumbers} {b o : ℕ} → k ≡ kind_number s.bound.kind → g ≡ stage_numbers s.stage → b ≡ bit s.started → o ≡ bit s.requests.lengths.optimistic
    → raw_with s k g b o ≡ raw_of s
raw_as s k g b o = λ i. raw_with s (k i) (g i) (b i) (o i)

pub failed_as : {o : Outcome} {e : SocksError} {n t : ℕ} → o ≡ outcomes.Failed e → n ≡ number e → t ≡ status e
    → ◌≡◌ {A = RawOutcome} (record { state = 2; number = n; status = t }) (outcome_of o)
failed_as o n t = (λ i. record { state = 2; number = n i; status = t i }) ∙ ap outcome_of (sym o)

pub step_as : (a : Answer) (s : Session) (u n : ℕ) {o : Outcome} {r : RawSession} {x : ℕ} {w : RawOutcome} → o ≡ outcome s → r ≡ raw_of s → x ≡ answer_number a → w ≡ outcome_of o
    → ◌≡◌ {A = RawStep} (record { session = r; used = u; sent = n; answer = x; outcome = w }) (step_of a s u n)
step_as a s u n o r x w = let z = w ∙ ap outcome_of o in λ i. record { session = r i; used = u; sent = n; answer = x i; outcome = z i }
