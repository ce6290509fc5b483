-- F-10 as the code has it: behind some entries, and what is left of a direction.
use Rattle.std.specs.Prelude.{ℕ, ◌+◌, ◌≤◌, ◌<◌, ◌^◌, ◌≡◌, Bool, true, false, Some, List, ◌++◌, length, take}
use Rattle.client_session.specs.declared.Session.{Session}
use Rattle.client_session.specs.Calls.{deliver, DeliverResult}
use Rattle.client_delivery.specs.declared.piece.Taken.{Taken}
use Rattle.captures_spec.specs.declared.Direction.{Direction}
use Rattle.captures_spec.specs.Captures.{Entry, if, joined}
use Rattle.captures_spec.specs.Reading.{row_of}
use Rattle.captures.specs.declared.walk.Course.{Course}
use Rattle.captures.specs.Walk.{passed}

-- a course within an array of due bytes
abbrev pub Within : Course → List ℕ → Type 0
Within c due = (c.sent ≤ c.due) × (c.due ≤ length due)

-- what the types of a session's fields say, which a lent session does not tell
abbrev pub Typed : Session → Type 0
Typed s = (s.attempts < 2 ^ 64) × (length s.requests.bytes ≡ 1024)

abbrev pub Fits : Course → List ℕ → Type 0
Fits c due = Within c due × Typed c.session

-- an unlawful entry ends it
abbrev pub carried : Bool → Course → List ℕ → (Session → List ℕ → ℕ → Bool) → Bool
carried false c due on = false
carried true c due on = on c.session (take c.due due) c.sent

-- a course behind an entry: what is left to do from there is what was left ahead of it
pub record Passes (d : Direction) (bs : List ℕ) (c : Course) (due : List ℕ) (lawful : Bool) (c' : Course) (due' : List ℕ) : Type 0 where
  pub within : lawful ≡ true → Fits c' due'
  pub on : (on : Session → List ℕ → ℕ → Bool) → passed d bs c.session (take c.due due) c.sent on ≡ carried lawful c' due' on

-- a delivery to a session that is lent: what `Session::deliver` returns, its session left in place
abbrev pub Delivers : Session → List ℕ → List ℕ → Taken → Session → List ℕ → Type 0
Delivers s bs out t s' out' =
    let c = deliver s bs out in
    DeliverResult c bs (record { answer = c.answer; used = t.used; sent = t.sent; session = s' }) out'

-- what is left of a direction: bytes of an entry, and those of the entries behind it
pub record Remain (d : Direction) (bytes behind bs : List ℕ) : Type 0 where
  pub entries : List Entry
  pub is_row : row_of behind ≡ Some entries
  pub are : bs ≡ bytes ++ joined d entries

-- an entry's part of a direction
abbrev pub part : Direction → Direction → List ℕ → List ℕ
part d e bs = if d e bs

abbrev pub size : List ℕ → List ℕ → ℕ
size bytes behind = length bytes + length behind
