-- No end is lost in numbers: those of an end mean it.
use mathlib.Core.Path.{◌≡◌, refl, sym, ap}
use mathlib.Core.Bool.{true, false}
use Rattle.protocol.specs.declared.SocksError.TheVariants.{Settled}
use Rattle.protocol.specs.declared.Version.TheVariants.{V4, V5}
use Rattle.proxy_spec.specs.declared.Field.TheVariants.{First, Methods, User, Password, Head, Address, Request, UserId, Name}
use Rattle.proxy_spec.specs.declared.Stage.{Stage}
use Rattle.proxy_spec.specs.declared.Stage.TheVariants.{Awaiting, Asked, Open, Failed}
use Rattle.proxy_session.specs.declared.Server.{Server}
use Rattle.raw_errors.specs.Errors.{error_of, error_among}
use Rattle.raw_numbers.proofs.Back.{bit_back, kind_back}
use Rattle.raw_errors.proofs.Back.{error_back}
use Rattle.raw_server.proofs.Laws.{server_as}
use Rattle.raw_server.specs.Raw.{awaited_of, stage_of, stage_numbers, server_of, raw_of, zeros}

pub stage_back : (s : Stage) → stage_of (stage_numbers s) ≡ s
unfolding stage_of awaited_of
stage_back (Awaiting First) = refl
stage_back (Awaiting Methods) = refl
stage_back (Awaiting User) = refl
stage_back (Awaiting (Password false)) = refl
stage_back (Awaiting (Password true)) = refl
stage_back (Awaiting Head) = refl
stage_back (Awaiting (Address c t)) = refl
stage_back (Awaiting Request) = refl
stage_back (Awaiting (UserId p)) = refl
stage_back (Awaiting (Name p)) = refl
stage_back (Asked V4) = refl
stage_back (Asked V5) = refl
stage_back (Open V4) = refl
stage_back (Open V5) = refl
stage_back (Failed e) = ap Failed (error_back e)

pub server_back : (s : Server) → server_of (raw_of s) ≡ s
server_back s =
    sym (server_as (raw_of s) (sym (stage_back s.stage)) (sym (kind_back s.bound.kind)) (sym (bit_back s.authenticates)))

-- all zeros refuses everything: it was never opened
pub zeros_mean : (server_of zeros).stage ≡ Failed Settled
unfolding stage_of error_of error_among
zeros_mean = refl
