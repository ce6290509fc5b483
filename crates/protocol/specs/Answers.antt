-- The papers' words for what the code says by `Result` and `Option`: answers and verdicts are `Result<(), SocksError>`, a port is `Option<u16>`.
use Rattle.std.specs.Prelude.{ℕ, Option, Result, Ok, Err, Some, None}
use Rattle.protocol.specs.declared.SocksError.{SocksError}

-- what a call answers beside its values
abbrev pub Answer : Type 0
Answer = Result (Unit {0}) SocksError

pattern abbrev pub Accepted : Answer
Accepted = Ok tt

pattern abbrev pub Refused : SocksError → Answer
Refused e = Err e

-- how a reply is judged
abbrev pub Verdict : Type 0
Verdict = Result (Unit {0}) SocksError

pattern abbrev pub Good : Verdict
Good = Ok tt

pattern abbrev pub Bad : SocksError → Verdict
Bad e = Err e

-- what the unread bytes say of a reply: not yet decided, or decided by so many of them, and how
abbrev pub Decision : Type 0
Decision = Option (ℕ × Verdict)

pattern abbrev pub Undecided : Decision
Undecided = None

pattern abbrev pub Decided : ℕ → Verdict → Decision
Decided n v = Some (n, v)

-- a destination's port, or none
abbrev pub Port : Type 0
Port = Option ℕ

pattern abbrev pub Missing : Port
Missing = None

pattern abbrev pub Given : ℕ → Port
Given p = Some p
