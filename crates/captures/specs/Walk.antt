-- F-10 in handy forms, not to be believed: a session over the entries of a capture, and what it makes due.
use Rattle.std.specs.Prelude.{ℕ, ◌+◌, Bool, true, false, cond, ◌&&◌, List, [], ◌∷◌, ◌++◌, length, take, drop, replicate, leb, eqb}
use Rattle.protocol.specs.Bytes.{same}
use Rattle.protocol.specs.declared.Outcome.{Outcome}
use Rattle.protocol.specs.declared.Outcome.TheVariants.{Waiting, Open, Failed}
use Rattle.client_session.specs.declared.Session.{Session}
use Rattle.client_session.specs.Session.{outcome}
use Rattle.client_session.specs.Calls.{Call, start, deliver}
use Rattle.captures_spec.specs.declared.Direction.{Direction}
use Rattle.captures_spec.specs.Captures.{sent, received, Entry}

abbrev pub is_open : Outcome → Bool
is_open Waiting = false
is_open Open = true
is_open (Failed e) = false

-- a delivery with output enough for any session
unfoldable pub taking : Session → List ℕ → Call
taking s bs = deliver s bs (replicate 778 0)

-- an entry. Received bytes are all taken, and what the session sends is due from there on; sent bytes are those that are due next
abbrev pub passed : Direction → List ℕ → Session → List ℕ → ℕ → (Session → List ℕ → ℕ → Bool) → Bool
passed sent bs s due n on = cond (same bs (take (length bs) (drop n due))) (on s due (n + length bs)) false
passed received bs s due n on =
    cond (leb (length due) 1024)
    (cond (eqb (taking s bs).used (length bs)) (on (taking s bs).session (due ++ take (taking s bs).sent (taking s bs).output) n) false)
    false

-- from a session, the bytes due so far, and how many of these were sent, over the entries to the end: it is open, and all was sent
unfoldable pub walked : List Entry → Session → List ℕ → ℕ → Bool
walked [] s due n = is_open (outcome s) && eqb n (length due)
walked (e ∷ es) s due n = passed e.direction e.bytes s due n (walked es)

-- all entries, from a prepared session
unfoldable pub held : Session → List Entry → Bool
held s es = let c = start s (replicate 1802 0) in walked es c.session (take c.sent c.output) 0
