-- No session is lost in numbers: those of a session mean it.
use mathlib.Core.Path.{◌≡◌, refl, sym, ap}
use Rattle.protocol.specs.declared.AuthMethod.TheVariants.{NoAuth, UserPass, NoneAcceptable}
use Rattle.protocol.specs.declared.Reply.TheVariants.{NegotiationRes, AuthenticationRes, ProxyRes, Response}
use Rattle.protocol.specs.declared.SocksError.TheVariants.{Settled}
use Rattle.client_stages.specs.declared.due.Stage.{Stage}
use Rattle.client_stages.specs.declared.due.Stage.TheVariants.{Awaiting, Open, Failed}
use Rattle.client_session.specs.declared.Session.{Session}
use Rattle.raw_errors.specs.Errors.{error_of, error_among}
use Rattle.raw_numbers.proofs.Back.{bit_back, kind_back}
use Rattle.raw_errors.proofs.Back.{error_back}
use Rattle.raw_session.proofs.Laws.{requests_as, session_as}
use Rattle.raw_session.specs.Raw.{stage_of, stage_numbers, session_of, raw_of, zeros}

pub stage_back : (s : Stage) → stage_of (stage_numbers s).stage (stage_numbers s).error (stage_numbers s).status ≡ s
unfolding stage_of
stage_back (Awaiting (NegotiationRes NoAuth)) = refl
stage_back (Awaiting (NegotiationRes UserPass)) = refl
stage_back (Awaiting (NegotiationRes NoneAcceptable)) = refl
stage_back (Awaiting AuthenticationRes) = refl
stage_back (Awaiting ProxyRes) = refl
stage_back (Awaiting Response) = refl
stage_back Open = refl
stage_back (Failed e) = ap Failed (error_back e)

pub session_back : (s : Session) → session_of (raw_of s) ≡ s
session_back s =
    let requests = requests_as (raw_of s) (sym (bit_back s.requests.lengths.optimistic)) in
    sym (session_as (raw_of s) (sym (stage_back s.stage)) (sym (kind_back s.bound.kind)) (sym (bit_back s.started)) requests)

-- all zeros refuses everything: it was never opened
pub zeros_mean : (session_of zeros).stage ≡ Failed Settled
unfolding stage_of error_of error_among
zeros_mean = refl
