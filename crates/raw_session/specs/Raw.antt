-- A session as numbers and arrays: the session that numbers mean, and the numbers of a session. Every number has a meaning.
use Rattle.std.specs.Prelude.{ℕ, cond, eqb, replicate}
use Rattle.protocol.specs.Answers.{Answer}
use Rattle.protocol.specs.declared.AuthMethod.{AuthMethod}
use Rattle.protocol.specs.declared.AuthMethod.TheVariants.{NoAuth, UserPass, NoneAcceptable}
use Rattle.protocol.specs.declared.Reply.{Reply}
use Rattle.protocol.specs.declared.Reply.TheVariants.{NegotiationRes, AuthenticationRes, ProxyRes, Response}
use Rattle.protocol.specs.declared.Outcome.{Outcome}
use Rattle.protocol.specs.declared.Outcome.TheVariants as outcomes
use Rattle.protocol.specs.Numbers.{number, status, answer_number}
use Rattle.client_stages.specs.declared.due.Stage.{Stage}
use Rattle.client_stages.specs.declared.due.Stage.TheVariants.{Awaiting, Open, Failed}
use Rattle.client_stages.specs.declared.due.Requests.{Requests}
use Rattle.client_session.specs.declared.Session.{Session}
use Rattle.client_session.specs.Session.{outcome}
use Rattle.raw_numbers.specs.Numbers.{truth, bit, kind_of, kind_number}
use Rattle.raw_errors.specs.Errors.{error_of}
use Rattle.raw_session.specs.declared.RawSession.{RawSession}
use Rattle.raw_session.specs.declared.RawOutcome.{RawOutcome}
use Rattle.raw_session.specs.declared.RawStep.{RawStep}
use Rattle.raw_session.specs.declared.StageNumbers.{StageNumbers}

-- ---- the session that numbers mean

-- a number that no other stage has is failed, with the error of a number and a status
unfoldable pub stage_of : ℕ → ℕ → ℕ → Stage
stage_of n error status =
    cond (eqb n 1) (Awaiting (NegotiationRes NoAuth))
    (cond (eqb n 2) (Awaiting (NegotiationRes UserPass))
    (cond (eqb n 3) (Awaiting (NegotiationRes NoneAcceptable))
    (cond (eqb n 4) (Awaiting AuthenticationRes)
    (cond (eqb n 5) (Awaiting ProxyRes) (cond (eqb n 6) (Awaiting Response) (cond (eqb n 7) Open (Failed (error_of error status))))))))

abbrev pub requests_of : RawSession → Requests
requests_of r =
    record {
      lengths = record { optimistic = truth r.optimistic; first = r.first; authentication = r.authentication; proxy = r.proxy };
      bytes = r.requests;
    }

abbrev pub session_of : RawSession → Session
session_of r =
    record {
      stage = stage_of r.stage r.error r.status;
      started = truth r.started;
      held = r.held;
      hold = r.hold;
      bound = record { kind = kind_of r.kind; port = r.port };
      attempts = r.attempts;
      requests = requests_of r;
    }

-- ---- the numbers of a session

abbrev pub method_number : AuthMethod → ℕ
method_number NoAuth = 1
method_number UserPass = 2
method_number NoneAcceptable = 3

abbrev pub reply_number : Reply → ℕ
reply_number (NegotiationRes m) = method_number m
reply_number AuthenticationRes = 4
reply_number ProxyRes = 5
reply_number Response = 6

abbrev pub stage_numbers : Stage → StageNumbers
stage_numbers (Awaiting e) = record { stage = reply_number e; error = 0; status = 0 }
stage_numbers Open = record { stage = 7; error = 0; status = 0 }
stage_numbers (Failed x) = record { stage = 0; error = number x; status = status x }

abbrev pub raw_of : Session → RawSession
raw_of s =
    record {
      attempts = s.attempts;
      held = s.held;
      first = s.requests.lengths.first;
      authentication = s.requests.lengths.authentication;
      proxy = s.requests.lengths.proxy;
      port = s.bound.port;
      kind = kind_number s.bound.kind;
      stage = (stage_numbers s.stage).stage;
      error = (stage_numbers s.stage).error;
      status = (stage_numbers s.stage).status;
      started = bit s.started;
      optimistic = bit s.requests.lengths.optimistic;
      hold = s.hold;
      requests = s.requests.bytes;
    }

-- all zeros
abbrev pub zeros : RawSession
zeros =
    record {
      attempts = 0;
      held = 0;
      first = 0;
      authentication = 0;
      proxy = 0;
      port = 0;
      kind = 0;
      stage = 0;
      error = 0;
      status = 0;
      started = 0;
      optimistic = 0;
      hold = replicate 261 0;
      requests = replicate 1024 0;
    }

-- ---- how it stands: 0 waiting, 1 open, 2 failed with a number and a status

abbrev pub outcome_of : Outcome → RawOutcome
outcome_of outcomes.Waiting = record { state = 0; number = 0; status = 0 }
outcome_of outcomes.Open = record { state = 1; number = 0; status = 0 }
outcome_of (outcomes.Failed e) = record { state = 2; number = number e; status = status e }

-- ---- what a call returns

abbrev pub step_of : Answer → Session → ℕ → ℕ → RawStep
step_of a s used sent = record { session = raw_of s; used = used; sent = sent; answer = answer_number a; outcome = outcome_of (outcome s) }
