-- F-10: what each call answers, for any arguments.
use Rattle.std.specs.Prelude.{Bool, cond, Option, None, Some, Result, Ok, Err, List, ℕ}
use Rattle.protocol.specs.declared.SocksError.{SocksError}
use Rattle.protocol.specs.declared.SocksError.TheVariants.{CaptureCut, CaptureNotAccepted}
use Rattle.protocol.specs.Answers.{Answer, Accepted, Refused}
use Rattle.protocol.specs.Opening.{V5, V4}
use Rattle.client_session.specs.declared.Session.{Session}
use Rattle.client_session.specs.declared.Prepared.{Prepared}
use Rattle.client_session.specs.Calls.{prepare5, prepare4}
use Rattle.captures_spec.specs.Captures.{Entry}
use Rattle.captures_spec.specs.Reading.{row_of, alike}
use Rattle.captures.specs.Walk.{held}

-- ---- one capture

-- an entry runs past the end, or none does
abbrev pub whole : Option (List Entry) → Answer
whole None = Refused CaptureCut
whole (Some es) = Accepted

abbrev pub held_by : Session → Option (List Entry) → Answer
held_by s None = Refused CaptureCut
held_by s (Some es) = cond (held s es) Accepted (Refused CaptureNotAccepted)

abbrev pub checked_by : Answer → Session → List ℕ → Answer
checked_by Accepted s c = held_by s (row_of c)
checked_by (Refused e) s c = Refused e

abbrev pub checked : Prepared → List ℕ → Answer
checked p c = checked_by p.answer p.session c

unfoldable pub check5 : V5 → List ℕ → Answer
check5 a c = checked (prepare5 a) c

unfoldable pub check4 : V4 → List ℕ → Answer
check4 a c = checked (prepare4 a) c

-- ---- and a second one

-- alike or not, or a refusal
abbrev pub Compared : Type 0
Compared = Result Bool SocksError

abbrev pub answer_of : Compared → Answer
answer_of (Ok alike) = Accepted
answer_of (Err e) = Refused e

abbrev pub held_both : Session → Option (List Entry) → Option (List Entry) → Compared
held_both s None r = Err CaptureCut
held_both s (Some es) None = Err CaptureCut
held_both s (Some es) (Some fs) = cond (held s es) (Ok (alike es fs)) (Err CaptureNotAccepted)

abbrev pub compared_by : Answer → Session → List ℕ → List ℕ → Compared
compared_by Accepted s c c' = held_both s (row_of c) (row_of c')
compared_by (Refused e) s c c' = Err e

abbrev pub compared : Prepared → List ℕ → List ℕ → Compared
compared p c c' = compared_by p.answer p.session c c'

unfoldable pub compare5 : V5 → List ℕ → List ℕ → Compared
compare5 a c c' = compared (prepare5 a) c c'

unfoldable pub compare4 : V4 → List ℕ → List ℕ → Compared
compare4 a c c' = compared (prepare4 a) c c'
