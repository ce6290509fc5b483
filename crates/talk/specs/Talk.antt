-- 01, "Tunnel": one side of a handshake: what it does next, whatever it is told, and what bytes do to it.
use Rattle.std.specs.Prelude.{ℕ, ◌+◌, Bool, true, false, List, [], ◌++◌, length, take, drop}
use Rattle.talk.specs.Decision.{Decision, undecided, decided, good, bad}

-- how a talk ends: done with a result, or failed with an error
pub data Ending (R E : Type 0) : Type 0 where
  done : R → Ending R E
  failed : E → Ending R E

-- a talk ends; or sends bytes and goes on; or waits at a stage for a message and goes on by the message's bytes
pub data Talk (S R E : Type 0) : Type 0 where
  stop : Ending R E → Talk S R E
  send : List ℕ → Talk S R E → Talk S R E
  await : S → (List ℕ → Talk S R E) → Talk S R E

-- a side: its stages, results and errors; how a message is read at a stage; what is left to do at a stage;
-- and the errors with which it refuses a delivery once it has ended, and one that lends too little output
pub record Side : Type 1 where
  pub Stage : Type 0
  pub Result : Type 0
  pub Error : Type 0
  pub reads : Stage → List ℕ → Decision Error
  pub talk_at : Stage → Talk Stage Result Error
  pub over : Error
  pub short : Error

-- a waiting session has its stage and the bytes that it holds
pub data Session (S R E : Type 0) : Type 0 where
  waiting : S → List ℕ → Session S R E
  ended : Ending R E → Session S R E

abbrev pub TalkOf : Side → Type 0
TalkOf M = Talk M.Stage M.Result M.Error

abbrev pub SessionOf : Side → Type 0
SessionOf M = Session M.Stage M.Result M.Error

-- what bytes do: the session after them, what was sent, and the place up to which messages were decided
pub record Fed (S R E : Type 0) : Type 0 where
  pub session : Session S R E
  pub sent : List ℕ
  pub place : ℕ

abbrev pub FedOf : Side → Type 0
FedOf M = Fed M.Stage M.Result M.Error

abbrev pub unmoved : {S R E : Type 0} → Session S R E → Fed S R E
unmoved s = record { session = s; sent = []; place = 0 }

abbrev pub sending : {S R E : Type 0} → List ℕ → Fed S R E → Fed S R E
sending q f = record { session = f.session; sent = q ++ f.sent; place = f.place }

abbrev pub moving : {S R E : Type 0} → ℕ → Fed S R E → Fed S R E
moving n f = record { session = f.session; sent = f.sent; place = n + f.place }

-- by a decision: undecided, the session waits; good, it goes on behind the message; bad, it has failed
abbrev pub deciding : {S R E : Type 0} → Decision E → Session S R E → (ℕ → Fed S R E) → Fed S R E
deciding undecided s on = unmoved s
deciding (decided n good) s on = moving n (on n)
deciding (decided n (bad e)) s on = moving n (unmoved (ended (failed e)))

-- a talk fed with bytes
unfoldable pub feed : (M : Side) → TalkOf M → List ℕ → FedOf M
feed M (stop e) bs = unmoved (ended e)
feed M (send q t) bs = sending q (feed M t bs)
feed M (await s k) bs = deciding (M.reads s bs) (waiting s bs) (λ n. feed M (k (take n bs)) (drop n bs))

-- a session fed with more bytes
unfoldable pub onward : (M : Side) → SessionOf M → List ℕ → FedOf M
onward M (waiting s held) more = feed M (M.talk_at s) (held ++ more)
onward M (ended e) more = unmoved (ended e)

abbrev pub held_by : {S R E : Type 0} → Session S R E → List ℕ
held_by (waiting s held) = held
held_by (ended e) = []

abbrev pub is_over : {S R E : Type 0} → Session S R E → Bool
is_over (waiting s held) = false
is_over (ended e) = true

-- how far into the bytes a session has read: its decided messages and what it holds
abbrev pub reached : {S R E : Type 0} → Fed S R E → ℕ
reached f = f.place + length (held_by f.session)
