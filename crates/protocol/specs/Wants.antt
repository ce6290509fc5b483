-- How many bytes may be read without reading past the handshake, by the grammar and the plain machine: the length of the shortest stream that opens it from
-- here; where nothing opens it any more, that of the shortest which settles it; 0 once it is settled.
use Rattle.std.specs.Prelude.{ℕ, ◌≤◌, ◌≡◌, List, [], ◌++◌, length}
use Rattle.protocol.specs.declared.Outcome.TheVariants.{Waiting}
use Rattle.protocol.specs.Bytes.{Bytes}
use Rattle.protocol.specs.Bound.{Endpoint}
use Rattle.protocol.specs.Opening.{Opening}
use Rattle.protocol.specs.Machine.{machine}
use Rattle.protocol.specs.Grammar.{Sequence}

-- a byte stream of a kind
abbrev pub Some : (List ℕ → Type 0) → Type 0
Some P = (bs : List ℕ) × Bytes bs × P bs

-- the shortest of a kind has so many bytes
pub record Least (P : List ℕ → Type 0) (n : ℕ) : Type 0 where
  pub stream : List ℕ
  pub bytes : Bytes stream
  pub is : P stream
  pub long : length stream ≡ n
  pub none_shorter : (bs : List ℕ) → Bytes bs → P bs → n ≤ length bs

-- by the streams that complete a handshake from here, and those that settle it
pub record Wanted (Completes Settles : List ℕ → Type 0) (n : ℕ) : Type 0 where
  -- nothing is left to settle
  pub settled : Settles [] → n ≡ 0
  -- it waits, and some stream opens it
  pub opens : (Settles [] → ⊥) → Some Completes → Least Completes n
  -- it waits, and none does
  pub fails : (Settles [] → ⊥) → (Some Completes → ⊥) → Least Settles n

-- behind bytes that came, others make up a reply sequence of the opening
abbrev pub Completes : Opening → List ℕ → List ℕ → Type 0
Completes o came bs = (x : Endpoint) × Sequence o (came ++ bs) x

-- and with them the machine waits no more
abbrev pub Settles : Opening → List ℕ → List ℕ → Type 0
Settles o came bs = (machine o (came ++ bs)).outcome ≡ Waiting → ⊥

abbrev pub WantedBy : Opening → List ℕ → ℕ → Type 0
WantedBy o came n = Wanted (Completes o came) (Settles o came) n
