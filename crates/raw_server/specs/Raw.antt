-- The proxy's end as numbers and arrays: the end that numbers mean, and the numbers of an end. Every number has a meaning.
use Rattle.std.specs.Prelude.{ℕ, Bool, true, false, cond, eqb, leb, replicate}
use Rattle.protocol.specs.Answers.{Answer}
use Rattle.protocol.specs.declared.Version.{Version}
use Rattle.protocol.specs.declared.Version.TheVariants.{V4, V5}
use Rattle.protocol.specs.Numbers.{number, status, answer_number}
use Rattle.proxy_spec.specs.declared.Field.{Field}
use Rattle.proxy_spec.specs.declared.Field.TheVariants.{First, Methods, User, Password, Head, Address, Request, UserId, Name}
use Rattle.proxy_spec.specs.declared.Ports.{Ports}
use Rattle.proxy_spec.specs.declared.Stage.{Stage}
use Rattle.proxy_spec.specs.declared.Stage.TheVariants.{Awaiting, Asked, Open, Failed}
use Rattle.proxy_spec.specs.End.{success}
use Rattle.proxy_session.specs.declared.Server.{Server}
use Rattle.raw_numbers.specs.Numbers.{truth, bit, kind_of, kind_number}
use Rattle.raw_errors.specs.Errors.{error_of}
use Rattle.raw_session.specs.declared.RawOutcome.{RawOutcome}
use Rattle.raw_server.specs.declared.RawStage.{RawStage}
use Rattle.raw_server.specs.declared.RawServer.{RawServer}
use Rattle.raw_server.specs.declared.RawServed.{RawServed}

-- ---- the end that numbers mean

abbrev pub ports_of : RawStage → Ports
ports_of r = record { command = r.command; port = r.dstport; first = r.first; second = r.second; third = r.third; fourth = r.fourth }

-- the field that is awaited at a stage from 1 to 10
unfoldable pub awaited_of : RawStage → Field
awaited_of r =
    cond (eqb r.number 1) First
    (cond (eqb r.number 2) Methods
    (cond (eqb r.number 3) User
    (cond (eqb r.number 4) (Password false)
    (cond (eqb r.number 5) (Password true)
    (cond (eqb r.number 6) Head
    (cond (eqb r.number 7) (Address r.command r.atyp)
    (cond (eqb r.number 8) Request (cond (eqb r.number 9) (UserId (ports_of r)) (Name (ports_of r))))))))))

-- a number that no other stage has is failed, with the error of a number and a status
unfoldable pub stage_of : RawStage → Stage
stage_of r =
    cond (eqb r.number 0) (Failed (error_of r.error r.status))
    (cond (leb r.number 10) (Awaiting (awaited_of r))
    (cond (eqb r.number 11) (Asked V4)
    (cond (eqb r.number 12) (Asked V5)
    (cond (eqb r.number 13) (Open V4) (cond (eqb r.number 14) (Open V5) (Failed (error_of r.error r.status)))))))

abbrev pub server_of : RawServer → Server
server_of r =
    record {
      stage = stage_of r.stage;
      held = r.held;
      hold = r.hold;
      bound = record { kind = kind_of r.kind; port = r.port };
      authenticates = truth r.authenticates;
      user = record { len = r.userlen; bytes = r.user };
      password = record { len = r.passlen; bytes = r.password };
    }

-- ---- the numbers of an end

-- a stage that keeps nothing beside its number
abbrev pub numbered : ℕ → RawStage
numbered n =
    record { dstport = 0; number = n; error = 0; status = 0; command = 0; atyp = 0; first = 0; second = 0; third = 0; fourth = 0 }

abbrev pub with_ports : ℕ → Ports → RawStage
with_ports n p =
    record {
      dstport = p.port;
      number = n;
      error = 0;
      status = 0;
      command = p.command;
      atyp = 0;
      first = p.first;
      second = p.second;
      third = p.third;
      fourth = p.fourth;
    }

abbrev pub password_number : Bool → ℕ
password_number true = 5
password_number false = 4

abbrev pub asked_number : Version → ℕ
asked_number V4 = 11
asked_number V5 = 12

abbrev pub open_number : Version → ℕ
open_number V4 = 13
open_number V5 = 14

abbrev pub awaited_numbers : Field → RawStage
awaited_numbers First = numbered 1
awaited_numbers Methods = numbered 2
awaited_numbers User = numbered 3
awaited_numbers (Password b) = numbered (password_number b)
awaited_numbers Head = numbered 6
awaited_numbers (Address c t) =
    record { dstport = 0; number = 7; error = 0; status = 0; command = c; atyp = t; first = 0; second = 0; third = 0; fourth = 0 }
awaited_numbers Request = numbered 8
awaited_numbers (UserId p) = with_ports 9 p
awaited_numbers (Name p) = with_ports 10 p

abbrev pub stage_numbers : Stage → RawStage
stage_numbers (Awaiting f) = awaited_numbers f
stage_numbers (Asked v) = numbered (asked_number v)
stage_numbers (Open v) = numbered (open_number v)
stage_numbers (Failed e) =
    record { dstport = 0; number = 0; error = number e; status = status e; command = 0; atyp = 0; first = 0; second = 0; third = 0; fourth = 0 }

abbrev pub raw_of : Server → RawServer
raw_of s =
    record {
      held = s.held;
      stage = stage_numbers s.stage;
      port = s.bound.port;
      kind = kind_number s.bound.kind;
      authenticates = bit s.authenticates;
      userlen = s.user.len;
      passlen = s.password.len;
      hold = s.hold;
      user = s.user.bytes;
      password = s.password.bytes;
    }

-- all zeros
abbrev pub zeros : RawServer
zeros =
    record {
      held = 0;
      stage = numbered 0;
      port = 0;
      kind = 0;
      authenticates = 0;
      userlen = 0;
      passlen = 0;
      hold = replicate 1014 0;
      user = replicate 255 0;
      password = replicate 255 0;
    }

-- ---- how it stands: 0 waiting, 1 open, 2 failed with a number and a status, 3 asked, with the status that grants in the client's version

abbrev pub standing_of : Stage → RawOutcome
standing_of (Awaiting f) = record { state = 0; number = 0; status = 0 }
standing_of (Asked v) = record { state = 3; number = 0; status = success v }
standing_of (Open v) = record { state = 1; number = 0; status = 0 }
standing_of (Failed e) = record { state = 2; number = number e; status = status e }

-- ---- what a call returns

abbrev pub served_of : Answer → Server → ℕ → ℕ → RawServed
served_of a s used sent =
    record { server = raw_of s; used = used; sent = sent; answer = answer_number a; outcome = standing_of s.stage }
