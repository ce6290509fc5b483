-- F-10: the capture of our own client's tunnel is accepted.
use Rattle.std.specs.Prelude.{ℕ, ◌≤◌, ◌≡◌, List, [], ◌∷◌, ◌++◌, length, take}
use Rattle.protocol.specs.Answers as code
use Rattle.protocol.specs.declared.Outcome.TheVariants.{Open}
use Rattle.protocol.specs.declared.SocksError.{SocksError}
use Rattle.protocol.specs.Bytes.{Bytes, BytePieces}
use Rattle.protocol.specs.Opening.{V5, V4, Opening, opening5, opening4, delivery_room, Sixteen}
use Rattle.client_session.specs.declared.Session.{Session}
use Rattle.client_session.specs.declared.Prepared.{Prepared}
use Rattle.client_session.specs.Session.{outcome}
use Rattle.client_session.specs.Calls.{Call, prepare5, prepare4, start}
use Rattle.socks.specs.Demand3.{receiver, tunnel_of}
use Rattle.talk.specs.Tunnel.{Receiver, Delivery, answer_to}
use Rattle.captures_spec.specs.declared.Direction.{Direction}
use Rattle.captures_spec.specs.Captures.{sent, received, Entry, entry, Row}
use Rattle.captures.specs.Calls.{check5, check4}

-- bytes of one direction, cut into entries
pub data Cut (d : Direction) : List ℕ → List Entry → Type 0 where
  nothing : Cut d [] []
  next : (bs : List ℕ) {more : List ℕ} {es : List Entry} → length bs ≤ 32767 → Cut d more es → Cut d (bs ++ more) (entry d bs ∷ es)

-- what a call sent
abbrev pub sent_in : Call → List ℕ
sent_in c = take c.sent c.output

-- what a list of deliveries leaves on the line: of each that is accepted its piece, then what it sent
pub data Recorded (K : Receiver Session code.Answer) : Session → List Delivery → List Entry → Type 0 where
  none : {s : Session} → Recorded K s [] []
  accepted : {s : Session} (d : Delivery) {ds : List Delivery} {es fs gs : List Entry} → (answer_to K s d).answer ≡ code.Accepted → Cut received d.piece es → Cut sent (sent_in (answer_to K s d)) fs
      → Recorded K (answer_to K s d).session ds gs → Recorded K s (d ∷ ds) (es ++ (fs ++ gs))
  refused : {s : Session} (d : Delivery) {ds : List Delivery} {gs : List Entry} (e : SocksError) → (answer_to K s d).answer ≡ code.Refused e
      → Recorded K (answer_to K s d).session ds gs → Recorded K s (d ∷ ds) gs

-- the start's bytes, and then the deliveries: whenever the tunnel is open with nothing unread, the capture is accepted
abbrev pub OwnAccepted : Prepared → Opening → (List ℕ → code.Answer) → Type 0
OwnAccepted p o check =
    (out : List ℕ) → p.answer ≡ code.Accepted → (start p.session out).answer ≡ code.Accepted → (ds : List Delivery) → BytePieces ds
    → (es fs : List Entry) → Cut sent (sent_in (start p.session out)) es → Recorded (receiver (delivery_room o)) (start p.session out).session ds fs
    → outcome (tunnel_of o (start p.session out).session (sent_in (start p.session out)) ds).session ≡ Open
    → (tunnel_of o (start p.session out).session (sent_in (start p.session out)) ds).rest ≡ []
    → (c : List ℕ) → Bytes c → Row c (es ++ fs) → check c ≡ code.Accepted

abbrev pub Own5 : Type 0
Own5 = (a : V5) → Sixteen a.records → OwnAccepted (prepare5 a) (opening5 a) (check5 a)

abbrev pub Own4 : Type 0
Own4 = (a : V4) → OwnAccepted (prepare4 a) (opening4 a) (check4 a)
