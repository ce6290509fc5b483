-- The errors that numbers mean. Every number has a meaning.
use Rattle.std.specs.Prelude.{ℕ, cond, List, [], ◌∷◌, eqb}
use Rattle.protocol.specs.declared.SocksError.{SocksError}
use Rattle.protocol.specs.declared.SocksError.TheVariants.{ShortOutput, MissingHost, HostByte, MissingPort, CredentialTooLong, HostTooLong, IpV6, DnsFailure, UnexpectedEof, Parsing, Unsupported, MethodMismatch, Failed, Command, Settled, NotOpen, ShortText, Malformed, WrongCredentials, RouteLength, OutOfOrder, AnnouncesName, BadLine, CaptureCut, CaptureNotAccepted, ShortStream}
use Rattle.protocol.specs.Numbers.{number}

-- the first of some errors that has a number; Settled, which is 16, where none has it
unfoldable pub error_among : List SocksError → ℕ → SocksError
error_among [] n = Settled
error_among (e ∷ es) n = cond (eqb n (number e)) e (error_among es n)

-- the errors from 13 on in the order of their numbers, 15 with a status, and without 16
abbrev pub later_errors : ℕ → List SocksError
later_errors status =
    MethodMismatch ∷ Failed ∷ Command status ∷ NotOpen ∷ ShortText ∷ Malformed ∷ WrongCredentials ∷ RouteLength ∷ OutOfOrder ∷ AnnouncesName ∷ BadLine ∷ CaptureCut ∷ CaptureNotAccepted ∷ ShortStream ∷ []

-- all of them
abbrev pub errors : ℕ → List SocksError
errors status =
    ShortOutput
    ∷ MissingHost
    ∷ HostByte
    ∷ MissingPort
    ∷ CredentialTooLong
    ∷ HostTooLong
    ∷ IpV6
    ∷ DnsFailure
    ∷ UnexpectedEof
    ∷ Parsing
    ∷ Unsupported
    ∷ later_errors status

unfoldable pub error_of : ℕ → ℕ → SocksError
error_of n status = error_among (errors status) n
