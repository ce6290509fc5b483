-- F-11: the attempts of a tunnel, by the plain machine's decisions on the joined bytes up to each delivery, and its bounds.
use Rattle.std.specs.Prelude.{ℕ, ◌+◌, ◌-◌, ◌%◌, ◌^◌, ◌≤◌, ◌≡◌, Bool, true, false, cond, ◌&&◌, List, [], ◌∷◌, ◌++◌, length, ltb}
use Rattle.protocol.specs.Answers.{Answer, Accepted, Refused}
use Rattle.protocol.specs.declared.Outcome.{Outcome}
use Rattle.protocol.specs.declared.Outcome.TheVariants.{Waiting, Open, Failed}
use Rattle.protocol.specs.Opening.{Opening, delivery_room}
use Rattle.protocol.specs.Bound.{Endpoint, bytes_in}
use Rattle.protocol.specs.Machine.{Machine, machine, decided_on}
use Rattle.client_session.specs.declared.Session.{Session}
use Rattle.client_session.specs.declared.Prepared.{Prepared}
use Rattle.client_session.specs.Calls.{start, deliver}
use Rattle.protocol.specs.Bytes.{BytePieces}
use Rattle.talk.specs.Tunnel.{Receiver, Delivery, lends, answer_to, after, joined}

abbrev pub one_if : Bool → ℕ
one_if b = cond b 1 0

abbrev pub is_waiting : Outcome → Bool
is_waiting Waiting = true
is_waiting Open = false
is_waiting (Failed e) = false

abbrev pub is_accepted : Answer → Bool
is_accepted Accepted = true
is_accepted (Refused e) = false

abbrev pub has_byte : Delivery → Bool
has_byte d = ltb 0 (length d.piece)

-- a session takes pieces by the exported call; those deliveries count that lend what its opening's version asks
abbrev pub receiver_of : Opening → Receiver Session Answer
receiver_of o = record { room = delivery_room o; deliver = deliver }

abbrev pub lends_for : Opening → Delivery → Bool
lends_for o d = lends (receiver_of o) d

-- a delivery behind joined bytes is accepted, and its piece is not empty: it lends what is asked, and the machine still waits
abbrev pub counts : Opening → List ℕ → Delivery → Bool
counts o before d = lends_for o d && (has_byte d && is_waiting (machine o before).outcome)

-- its attempts: the replies that lie decided in its piece, and one more if the machine then waits
abbrev pub attempts_at : Opening → List ℕ → Delivery → ℕ
attempts_at o before d =
    cond (counts o before d) (decided_on o (before ++ d.piece) - decided_on o before + one_if (is_waiting (machine o (before ++ d.piece)).outcome)) 0

unfoldable pub attempts_of : Opening → List ℕ → List Delivery → ℕ
attempts_of o before [] = 0
attempts_of o before (d ∷ ds) = attempts_at o before d + attempts_of o (before ++ cond (lends_for o d) d.piece []) ds

-- how many deliveries of nonempty pieces are accepted, by their answers
unfoldable pub accepted_in : Opening → Session → List Delivery → ℕ
accepted_in o s [] = 0
accepted_in o s (d ∷ ds) =
    let a = answer_to (receiver_of o) s d in
    one_if (is_accepted a.answer && has_byte d) + accepted_in o a.session ds

-- how many bytes are held: of a reply that is not decided what has come of it; once open those of the bound address; once failed none
abbrev pub held_of : Outcome → Endpoint → ℕ → ℕ → ℕ
held_of Waiting x place n = n - place
held_of Open x place n = length (bytes_in x.address)
held_of (Failed e) x place n = 0

abbrev pub held_on : Machine → List ℕ → ℕ
held_on m bs = held_of m.outcome m.bound m.place (length bs)

-- of an opening and the session that its start returned
pub record Effort (o : Opening) (s : Session) (ds : List Delivery) : Type 0 where
  -- the session carries that number; it wraps past what any list of deliveries reaches
  pub attempts_are : (after (receiver_of o) s ds).attempts ≡ attempts_of o [] ds % 2 ^ 64
  -- and that number is at most the accepted nonempty deliveries plus three
  pub attempts_few : attempts_of o [] ds ≤ accepted_in o s ds + 3
  -- the held bytes are those, and never more than 261
  pub held_are : (after (receiver_of o) s ds).held ≡ held_on (machine o (joined (receiver_of o) ds)) (joined (receiver_of o) ds)
  pub held_few : (after (receiver_of o) s ds).held ≤ 261

-- for what preparing returned, any output with which it is started, and every list of deliveries
abbrev pub Tried : Prepared → Opening → Type 0
Tried p o =
    (out : List ℕ) → p.answer ≡ Accepted → (start p.session out).answer ≡ Accepted → (ds : List Delivery) → BytePieces ds → Effort o (start p.session out).session ds
