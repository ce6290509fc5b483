-- The proxy's end in the bytes that its caller lends: the end that they mean, and the one writing of an end. Every value of every byte has a meaning; all zeros is an
-- end that refuses everything.
use Rattle.std.specs.Prelude.{ℕ, ◌+◌, ◌*◌, ◌/◌, ◌%◌, Bool, true, false, cond, ◌&&◌, List, ◌∷◌, ◌++◌, eqb, leb, ltb, take, drop}
use Rattle.protocol.specs.declared.AddressKind.{AddressKind}
use Rattle.protocol.specs.declared.AddressKind.TheVariants.{Ipv4, Ipv6, Domain}
use Rattle.protocol.specs.declared.Version.{Version}
use Rattle.protocol.specs.declared.Version.TheVariants.{V4, V5}
use Rattle.protocol.specs.Bytes.{byte}
use Rattle.protocol.specs.Numbers as numbers
use Rattle.proxy_spec.specs.declared.Field.{Field}
use Rattle.proxy_spec.specs.declared.Field.TheVariants.{First, Methods, User, Password, Head, Address, Request, UserId, Name}
use Rattle.proxy_spec.specs.declared.Ports.{Ports}
use Rattle.proxy_spec.specs.declared.Stage.{Stage}
use Rattle.proxy_spec.specs.declared.Stage.TheVariants.{Awaiting, Asked, Open, Failed}
use Rattle.proxy_session.specs.declared.Server.{Server}
use Rattle.raw_numbers.specs.Numbers.{bit}
use Rattle.raw_errors.specs.Errors.{error_of}
use Rattle.lent_numbers.specs.bytes.Numbers.{number, digits}

-- Places: held 0, port 2 (2 bytes each); code 4, the lengths of the user 5 and of the password 6; what the stage keeps 7 (8 bytes); hold 15 (1,014 bytes);
-- user 1029, password 1284 (255 bytes each); 1,539 in all.

abbrev pub two_at : List ℕ → ℕ → ℕ
two_at s at = number (take 2 (drop at s))

abbrev pub kept_at : List ℕ → ℕ
kept_at s = number (take 8 (drop 7 s))

-- ---- the end that bytes mean

-- A code is the number of a stage, 16 more if the end authenticates, and 32 more for an IPv6 address, 64 for a name. What a stage keeps is a number: of an address field
-- the command and then the type, of a user id and a name the command, the port and the address, of a failure the error and the status, each from the lowest byte on

-- what the stage of a number keeps is below this
unfoldable pub limit : ℕ → ℕ
limit n =
    cond (eqb n 0) 0
    (cond (eqb n 7) 65536 (cond (eqb n 9) 72057594037927936 (cond (eqb n 10) 72057594037927936 (cond (eqb n 15) 0 1))))

-- the number of the stage; 0, which is failed, for a code of 96 or more, and for one that keeps more than its stage does
unfoldable pub stage_at : ℕ → ℕ → ℕ
stage_at code kept = cond (ltb code 96 && ltb kept (limit (code % 16))) (code % 16) 0

abbrev pub ports_of : ℕ → Ports
ports_of m =
    record {
      command = m % 256;
      port = m / 256 % 65536;
      first = m / 256 / 65536 % 256;
      second = m / 256 / 65536 / 256 % 256;
      third = m / 256 / 65536 / 256 / 256 % 256;
      fourth = m / 256 / 65536 / 256 / 256 / 256 % 256;
    }

-- the field that is awaited at a stage from 1 to 10
unfoldable pub field_of : ℕ → ℕ → Field
field_of n m =
    cond (eqb n 1) First
    (cond (eqb n 2) Methods
    (cond (eqb n 3) User
    (cond (eqb n 4) (Password false)
    (cond (eqb n 5) (Password true)
    (cond (eqb n 6) Head
    (cond (eqb n 7) (Address (m % 256) (m / 256 % 256)) (cond (eqb n 8) Request (cond (eqb n 9) (UserId (ports_of m)) (Name (ports_of m))))))))))

-- the stage of a number: failed for one that no other stage has
unfoldable pub stage_of : ℕ → ℕ → Stage
stage_of n m =
    cond (eqb n 0) (Failed (error_of (m % 256) (m / 256 % 256)))
    (cond (leb n 10) (Awaiting (field_of n m))
    (cond (eqb n 11) (Asked V4)
    (cond (eqb n 12) (Asked V5) (cond (eqb n 13) (Open V4) (cond (eqb n 14) (Open V5) (Failed (error_of (m % 256) (m / 256 % 256))))))))

unfoldable pub kind_at : ℕ → AddressKind
kind_at code = cond (eqb (code / 32) 1) Ipv6 (cond (eqb (code / 32) 2) Domain Ipv4)

unfoldable pub authenticates_at : ℕ → Bool
authenticates_at code = eqb (code / 16 % 2) 1

abbrev pub server_at : List ℕ → Server
server_at s =
    record {
      stage = stage_of (stage_at (byte s 4) (kept_at s)) (kept_at s);
      held = two_at s 0;
      hold = take 1014 (drop 15 s);
      bound = record { kind = kind_at (byte s 4); port = two_at s 2 };
      authenticates = authenticates_at (byte s 4);
      user = record { len = byte s 5; bytes = take 255 (drop 1029 s) };
      password = record { len = byte s 6; bytes = drop 1284 s };
    }

-- ---- the one writing of an end

abbrev pub password_number : Bool → ℕ
password_number true = 5
password_number false = 4

abbrev pub field_number : Field → ℕ
field_number First = 1
field_number Methods = 2
field_number User = 3
field_number (Password right) = password_number right
field_number Head = 6
field_number (Address command type) = 7
field_number Request = 8
field_number (UserId p) = 9
field_number (Name p) = 10

abbrev pub asked_number : Version → ℕ
asked_number V4 = 11
asked_number V5 = 12

abbrev pub open_number : Version → ℕ
open_number V4 = 13
open_number V5 = 14

abbrev pub stage_number : Stage → ℕ
stage_number (Awaiting f) = field_number f
stage_number (Asked v) = asked_number v
stage_number (Open v) = open_number v
stage_number (Failed e) = 0

abbrev pub kind_number : AddressKind → ℕ
kind_number Ipv4 = 0
kind_number Ipv6 = 1
kind_number Domain = 2

abbrev pub code_of : Stage → Bool → AddressKind → ℕ
code_of stage authenticates kind = stage_number stage + (16 * bit authenticates + 32 * kind_number kind)

abbrev pub ports_number : Ports → ℕ
ports_number p = p.command + 256 * (p.port + 65536 * (p.first + 256 * (p.second + 256 * (p.third + 256 * p.fourth))))

abbrev pub field_keeps : Field → ℕ
field_keeps First = 0
field_keeps Methods = 0
field_keeps User = 0
field_keeps (Password right) = 0
field_keeps Head = 0
field_keeps (Address command type) = command + 256 * type
field_keeps Request = 0
field_keeps (UserId p) = ports_number p
field_keeps (Name p) = ports_number p

abbrev pub stage_keeps : Stage → ℕ
stage_keeps (Awaiting f) = field_keeps f
stage_keeps (Asked v) = 0
stage_keeps (Open v) = 0
stage_keeps (Failed e) = numbers.number e + 256 * numbers.status e

abbrev pub state_of : Server → List ℕ
state_of s =
    digits 2 s.held
    ++ (digits 2 s.bound.port
    ++ (code_of s.stage s.authenticates s.bound.kind
    ∷ s.user.len
    ∷ s.password.len
    ∷ (digits 8 (stage_keeps s.stage) ++ (s.hold ++ (s.user.bytes ++ s.password.bytes)))))
