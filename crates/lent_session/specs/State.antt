-- A session in the bytes that its caller lends: the session that they mean, and the one writing of a session. Every value of every byte has a meaning; all zeros is
-- a session that refuses everything.
use Rattle.std.specs.Prelude.{ℕ, ◌+◌, ◌*◌, ◌/◌, ◌%◌, Bool, cond, ◌&&◌, List, ◌∷◌, ◌++◌, take, drop, ◌==◌, nat_lt}
use Rattle.protocol.specs.declared.AddressKind.{AddressKind}
use Rattle.protocol.specs.declared.AddressKind.TheVariants.{Ipv4, Ipv6, Domain}
use Rattle.protocol.specs.declared.AuthMethod.{AuthMethod}
use Rattle.protocol.specs.declared.AuthMethod.TheVariants.{NoAuth, UserPass, NoneAcceptable}
use Rattle.protocol.specs.declared.Reply.{Reply}
use Rattle.protocol.specs.declared.Reply.TheVariants.{NegotiationRes, AuthenticationRes, ProxyRes, Response}
use Rattle.protocol.specs.Bytes.{byte}
use Rattle.protocol.specs.Numbers as numbers
use Rattle.client_stages.specs.declared.due.Stage.{Stage}
use Rattle.client_stages.specs.declared.due.Stage.TheVariants.{Awaiting, Open, Failed}
use Rattle.client_session.specs.declared.Session.{Session}
use Rattle.raw_numbers.specs.Numbers.{bit}
use Rattle.raw_errors.specs.Errors.{error_of}
use Rattle.lent_numbers.specs.bytes.Numbers.{number, digits}

-- Places: attempts 0 (8 bytes); held 8, the lengths of the requests 10, 12 and 14, port 16 (2 bytes each); code 18, error 19, status 20; hold 21 (261 bytes);
-- requests 282 (1,024 bytes); 1,306 in all.

-- ---- the session that bytes mean

abbrev pub two_at : List ℕ → ℕ → ℕ
two_at s at = number (take 2 (drop at s))

-- the stage of a number: failed for one that no other stage has
unfoldable pub stage_of : ℕ → ℕ → ℕ → Stage
stage_of n error status =
    cond (n == 1) (Awaiting (NegotiationRes NoAuth))
    (cond (n == 2) (Awaiting (NegotiationRes UserPass))
    (cond (n == 3) (Awaiting (NegotiationRes NoneAcceptable))
    (cond (n == 4) (Awaiting AuthenticationRes)
    (cond (n == 5) (Awaiting ProxyRes) (cond (n == 6) (Awaiting Response) (cond (n == 7) Open (Failed (error_of error status))))))))

-- A code is the number of a stage, 8 more if it is started, 16 more if it is optimistic, and 32 more for an IPv6 address, 64 for a name. One of 96 or more, and any
-- with an error or a status beside it, is failed
unfoldable pub stage_at : ℕ → ℕ → ℕ → Stage
stage_at code error status = cond (error == 0 && (status == 0 && nat_lt code 96)) (stage_of (code % 8) error status) (Failed (error_of error status))

abbrev pub kind_at : ℕ → AddressKind
kind_at code = cond (code / 32 == 1) Ipv6 (cond (code / 32 == 2) Domain Ipv4)

abbrev pub session_at : List ℕ → Session
session_at s =
    record {
      stage = stage_at (byte s 18) (byte s 19) (byte s 20);
      started = (byte s 18 / 8 % 2 == 1);
      held = two_at s 8;
      hold = take 261 (drop 21 s);
      bound = record { kind = kind_at (byte s 18); port = two_at s 16 };
      attempts = number (take 8 s);
      requests = record {
        lengths = record { optimistic = (byte s 18 / 16 % 2 == 1); first = two_at s 10; authentication = two_at s 12; proxy = two_at s 14 };
        bytes = drop 282 s;
      };
    }

-- ---- the one writing of a session

abbrev pub method_number : AuthMethod → ℕ
method_number NoAuth = 1
method_number UserPass = 2
method_number NoneAcceptable = 3

abbrev pub reply_number : Reply → ℕ
reply_number (NegotiationRes m) = method_number m
reply_number AuthenticationRes = 4
reply_number ProxyRes = 5
reply_number Response = 6

abbrev pub stage_number : Stage → ℕ
stage_number (Awaiting e) = reply_number e
stage_number Open = 7
stage_number (Failed x) = 0

abbrev pub kind_number : AddressKind → ℕ
kind_number Ipv4 = 0
kind_number Ipv6 = 1
kind_number Domain = 2

abbrev pub code_of : Stage → Bool → Bool → AddressKind → ℕ
code_of stage started optimistic kind = stage_number stage + (8 * bit started + (16 * bit optimistic + 32 * kind_number kind))

abbrev pub error_number : Stage → ℕ
error_number (Awaiting e) = 0
error_number Open = 0
error_number (Failed x) = numbers.number x

abbrev pub status_number : Stage → ℕ
status_number (Awaiting e) = 0
status_number Open = 0
status_number (Failed x) = numbers.status x

abbrev pub state_of : Session → List ℕ
state_of s =
    digits 8 s.attempts
    ++ (digits 2 s.held
    ++ (digits 2 s.requests.lengths.first
    ++ (digits 2 s.requests.lengths.authentication
    ++ (digits 2 s.requests.lengths.proxy
    ++ (digits 2 s.bound.port
    ++ (code_of s.stage s.started s.requests.lengths.optimistic s.bound.kind ∷ error_number s.stage ∷ status_number s.stage
    ∷ (s.hold ++ s.requests.bytes)))))))
