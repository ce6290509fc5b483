-- Nothing is lost in numbers: an error's number and status mean it.
use mathlib.Core.Path.{◌≡◌, refl}
use Rattle.protocol.specs.declared.SocksError.{SocksError}
use Rattle.protocol.specs.declared.SocksError.TheVariants.{ShortOutput, MissingHost, HostByte, MissingPort, CredentialTooLong, HostTooLong, IpV6, DnsFailure, UnexpectedEof, Parsing, Unsupported, MethodMismatch, Failed, Command, Settled, NotOpen, ShortText, Malformed, WrongCredentials, RouteLength, OutOfOrder, AnnouncesName, BadLine, CaptureCut, CaptureNotAccepted, ShortStream}
use Rattle.protocol.specs.Numbers.{number, status}
use Rattle.raw_errors.specs.Errors.{error_of, error_among}

pub error_back : (e : SocksError) → error_of (number e) (status e) ≡ e
unfolding error_of error_among
error_back ShortOutput = refl
error_back MissingHost = refl
error_back HostByte = refl
error_back MissingPort = refl
error_back CredentialTooLong = refl
error_back HostTooLong = refl
error_back IpV6 = refl
error_back DnsFailure = refl
error_back UnexpectedEof = refl
error_back Parsing = refl
error_back Unsupported = refl
error_back MethodMismatch = refl
error_back Failed = refl
error_back (Command s) = refl
error_back Settled = refl
error_back NotOpen = refl
error_back ShortText = refl
error_back Malformed = refl
error_back WrongCredentials = refl
error_back RouteLength = refl
error_back OutOfOrder = refl
error_back AnnouncesName = refl
error_back BadLine = refl
error_back CaptureCut = refl
error_back CaptureNotAccepted = refl
error_back ShortStream = refl
