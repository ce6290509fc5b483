-- Document 01's number and status of each refusal and failure, and its numbers of an answer and of an outcome.
use Rattle.std.specs.Prelude.{ℕ}
use Rattle.protocol.specs.Answers.{Answer, Accepted, Refused}
use Rattle.protocol.specs.declared.Outcome.{Outcome}
use Rattle.protocol.specs.declared.Outcome.TheVariants as Out
use Rattle.protocol.specs.declared.Outcome.TheVariants.{Waiting, Open}
use Rattle.protocol.specs.declared.SocksError.{SocksError}
use Rattle.protocol.specs.declared.SocksError.TheVariants.{ShortOutput, MissingHost, HostByte, MissingPort, CredentialTooLong, HostTooLong, IpV6, DnsFailure, UnexpectedEof, Parsing, Unsupported, MethodMismatch, Failed, Command, Settled, NotOpen, ShortText, Malformed, WrongCredentials, RouteLength, OutOfOrder, AnnouncesName, BadLine, CaptureCut, CaptureNotAccepted, ShortStream}

-- number and status; the status is 0 except with 15
abbrev pub numbers : SocksError → ℕ × ℕ
numbers ShortOutput = (1, 0)
numbers MissingHost = (2, 0)
numbers HostByte = (3, 0)
numbers MissingPort = (4, 0)
numbers CredentialTooLong = (5, 0)
numbers HostTooLong = (6, 0)
numbers IpV6 = (7, 0)
numbers DnsFailure = (8, 0)
numbers UnexpectedEof = (9, 0)
numbers Parsing = (10, 0)
numbers Unsupported = (12, 0)
numbers MethodMismatch = (13, 0)
numbers Failed = (14, 0)
numbers (Command s) = (15, s)
numbers Settled = (16, 0)
numbers NotOpen = (17, 0)
numbers ShortText = (18, 0)
numbers Malformed = (19, 0)
numbers WrongCredentials = (20, 0)
numbers RouteLength = (21, 0)
numbers OutOfOrder = (22, 0)
numbers AnnouncesName = (23, 0)
numbers BadLine = (24, 0)
numbers CaptureCut = (25, 0)
numbers CaptureNotAccepted = (26, 0)
numbers ShortStream = (27, 0)

abbrev pub number : SocksError → ℕ
number e = (numbers e).0

abbrev pub status : SocksError → ℕ
status e = (numbers e).1

-- a call's answer: 0 if it was accepted
abbrev pub answer_number : Answer → ℕ
answer_number Accepted = 0
answer_number (Refused e) = number e

-- an outcome: 0 for open and for waiting, which is no failure
abbrev pub outcome_number : Outcome → ℕ
outcome_number Waiting = 0
outcome_number Open = 0
outcome_number (Out.Failed e) = number e
