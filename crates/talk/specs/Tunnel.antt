-- Document 01, "Tunnel": deliveries, one after the other, to whatever takes them.
use Rattle.std.specs.Prelude.{ℕ, ◌+◌, ◌-◌, ◌≡◌, Bool, cond, List, [], ◌∷◌, ◌++◌, length, take, drop, leb}
use Rattle.talk.specs.Talk.{Side, SessionOf, FedOf, unmoved, onward, held_by, is_over, reached}

-- what a delivery gives back: its answer, the session, the counts of bytes used and sent, and the output lent
pub record Answer (X A : Type 0) : Type 0 where
  pub answer : A
  pub session : X
  pub used : ℕ
  pub sent : ℕ
  pub output : List ℕ

-- whatever takes deliveries: the output that one must lend, and what it gives back for a session, a piece and an output
pub record Receiver (X A : Type 0) : Type 0 where
  pub room : ℕ
  pub deliver : X → List ℕ → List ℕ → Answer X A

pub record Delivery : Type 0 where
  pub piece : List ℕ
  pub output : List ℕ

-- the bytes behind those that a call says it sent are as they were lent, and the output is as long as it was
pub record Behind {X A : Type 0} (c : Answer X A) (out : List ℕ) : Type 0 where
  pub bytes : drop c.sent c.output ≡ drop c.sent out
  pub size : length c.output ≡ length out

-- the rest call: what follows so many bytes of a piece
abbrev pub rest : List ℕ → ℕ → List ℕ
rest piece count = drop count piece

-- a delivery lends as much output as is asked
abbrev pub lends : {X A : Type 0} → Receiver X A → Delivery → Bool
lends K d = leb K.room (length d.output)

abbrev pub answer_to : {X A : Type 0} → Receiver X A → X → Delivery → Answer X A
answer_to K s d = K.deliver s d.piece d.output

-- the session after all deliveries, each given the session that the one before it returned
unfoldable pub after : {X A : Type 0} → Receiver X A → X → List Delivery → X
after K s [] = s
after K s (d ∷ ds) = after K (answer_to K s d).session ds

-- the joined bytes: the pieces of those that lend enough
unfoldable pub joined : {X A : Type 0} → Receiver X A → List Delivery → List ℕ
joined K [] = []
joined K (d ∷ ds) = cond (lends K d) d.piece [] ++ joined K ds

-- the rests of the same pieces, joined
unfoldable pub rests : {X A : Type 0} → Receiver X A → X → List Delivery → List ℕ
rests K s [] = []
rests K s (d ∷ ds) = cond (lends K d) (rest d.piece (answer_to K s d).used) [] ++ rests K (answer_to K s d).session ds

-- the total count: the used counts of all deliveries
unfoldable pub total : {X A : Type 0} → Receiver X A → X → List Delivery → ℕ
total K s [] = 0
total K s (d ∷ ds) = (answer_to K s d).used + total K (answer_to K s d).session ds

-- what the deliveries sent: of each output as many bytes from its start as the answer says
unfoldable pub sent_by : {X A : Type 0} → Receiver X A → X → List Delivery → List ℕ
sent_by K s [] = []
sent_by K s (d ∷ ds) = take (answer_to K s d).sent (answer_to K s d).output ++ sent_by K (answer_to K s d).session ds

-- what a list of deliveries comes to
pub record Tunnel (X : Type 0) : Type 0 where
  pub session : X
  pub sent : List ℕ
  pub count : ℕ
  pub rest : List ℕ

-- from the session that a start returned and the bytes that it sent
abbrev pub tunnel : {X A : Type 0} → Receiver X A → X → List ℕ → List Delivery → Tunnel X
tunnel K s opening ds = record { session = after K s ds; sent = opening ++ sent_by K s ds; count = total K s ds; rest = rests K s ds }

-- ---- a side's sessions take deliveries

pub data Taken (E : Type 0) : Type 0 where
  accepted : Taken E
  refused : E → Taken E

-- an empty piece changes nothing
abbrev pub given : (M : Side) → SessionOf M → List ℕ → FedOf M
given M s [] = unmoved s
given M s (b ∷ bs) = onward M s (b ∷ bs)

abbrev pub refusing : {X E : Type 0} → E → X → List ℕ → Answer X (Taken E)
refusing e s out = record { answer = refused e; session = s; used = 0; sent = 0; output = out }

-- what was sent stands at the output's start; the other output bytes stay
abbrev pub accepting : (M : Side) → SessionOf M → FedOf M → List ℕ → Answer (SessionOf M) (Taken M.Error)
accepting M s f out =
    record {
      answer = accepted;
      session = f.session;
      used = reached f - length (held_by s);
      sent = length f.sent;
      output = f.sent ++ drop (length f.sent) out;
    }

-- for an output of at least so many bytes
unfoldable pub deliver : (M : Side) → ℕ → SessionOf M → List ℕ → List ℕ → Answer (SessionOf M) (Taken M.Error)
deliver M room s piece out =
    cond (is_over s) (refusing M.over s out)
    (cond (leb room (length out)) (accepting M s (given M s piece) out) (refusing M.short s out))

abbrev pub receiver : (M : Side) → ℕ → Receiver (SessionOf M) (Taken M.Error)
receiver M room = record { room = room; deliver = deliver M room }
