-- F-10: a capture is a row of entries; which an opening accepts, and which two are alike.
use Rattle.std.specs.Prelude.{ℕ, ◌+◌, ◌≤◌, ◌<◌, ◌≡◌, ◌⊎◌, List, [], ◌∷◌, ◌++◌, length, take}
use Rattle.protocol.specs.Bytes.{two}
use Rattle.protocol.specs.Bound.{Endpoint}
use Rattle.protocol.specs.Opening.{Opening}
use Rattle.protocol.specs.Machine.{machine}
use Rattle.protocol.specs.Grammar.{Sequence}
pub use Rattle.captures_spec.specs.declared.Direction.{Direction}
use Rattle.captures_spec.specs.declared.Direction.TheVariants.{Sent, Received}

-- ---- a row of entries

-- from the client, or to it
pattern abbrev pub sent : Direction
sent = Sent

pattern abbrev pub received : Direction
received = Received

pub record Entry : Type 0 where
  pub direction : Direction
  pub bytes : List ℕ

abbrev pub entry : Direction → List ℕ → Entry
entry d bs = record { direction = d; bytes = bs }

-- of 16 bits the top one
abbrev pub top_bit : Direction → ℕ
top_bit sent = 0
top_bit received = 32768

-- ahead of so many bytes: 16 bits, of which the top bit is the direction and 15 the length
abbrev pub header : Direction → ℕ → List ℕ
header d n = two (top_bit d + n)

-- bytes are just a row of entries
pub data Row : List ℕ → List Entry → Type 0 where
  none : Row [] []
  next : (d : Direction) (bs : List ℕ) {more : List ℕ} {es : List Entry} → length bs ≤ 32767 → Row more es → Row (header d (length bs) ++ (bs ++ more)) (entry d bs ∷ es)

-- an entry runs past the end: its two bytes, or what follows them
pub data RunsPast : List ℕ → Type 0 where
  header_cut : (b : ℕ) → RunsPast (b ∷ [])
  bytes_cut : (d : Direction) (n : ℕ) (bs : List ℕ) → n ≤ 32767 → length bs < n → RunsPast (header d n ++ bs)
  next : (d : Direction) (bs : List ℕ) {more : List ℕ} → length bs ≤ 32767 → RunsPast more → RunsPast (header d (length bs) ++ (bs ++ more))

-- one reading: just one row and nothing past the end, or an entry that runs past it and no row
abbrev pub OneReading : List ℕ → Type 0
OneReading c =
    ((es : List Entry) × Row c es × ((fs : List Entry) → Row c fs → fs ≡ es) × (RunsPast c → ⊥))
    ⊎ (RunsPast c × ((es : List Entry) → Row c es → ⊥))

-- ---- the bytes of a direction, joined

abbrev pub if : Direction → Direction → List ℕ → List ℕ
if sent sent bs = bs
if sent received bs = []
if received sent bs = []
if received received bs = bs

unfoldable pub joined : Direction → List Entry → List ℕ
joined d [] = []
joined d (e ∷ es) = if d e.direction e.bytes ++ joined d es

-- ---- accepted

-- a beginning of a capture, up to any of its bytes
pub data Beginning : List Entry → List Entry → Type 0 where
  nothing : {es : List Entry} → Beginning [] es
  part : (n : ℕ) (e : Entry) {es : List Entry} → Beginning (entry e.direction (take n e.bytes) ∷ []) (e ∷ es)
  next : (e : Entry) {b es : List Entry} → Beginning b es → Beginning (e ∷ b) (e ∷ es)

pub record Accepted (o : Opening) (es : List Entry) : Type 0 where
  -- the joined received bytes open the session, with nothing unread: they are exactly one reply sequence of the opening's grammar
  pub bound : Endpoint
  pub replied : Sequence o (joined received es) bound
  -- the joined sent bytes are all those that the plain machine sends
  pub all : joined sent es ≡ (machine o (joined received es)).sent
  -- none ahead of the end of the reply that makes it due: each beginning of the capture has sent no more than the plain machine sends on what that
  -- beginning received
  pub none_ahead : (b : List Entry) → Beginning b es → length (joined sent b) ≤ length (machine o (joined received b)).sent

abbrev pub AcceptedCapture : Opening → List ℕ → Type 0
AcceptedCapture o c = (es : List Entry) × Row c es × Accepted o es

-- ---- alike: both directions join to the same bytes

abbrev pub Alike : List Entry → List Entry → Type 0
Alike es fs = (d : Direction) → joined d es ≡ joined d fs

abbrev pub AlikeCaptures : List ℕ → List ℕ → Type 0
AlikeCaptures c c' = (es : List Entry) × (fs : List Entry) × Row c es × Row c' fs × Alike es fs
