-- F-12: to which outcome and status a stream of replies leads, and of those that lead there the shortest, among equals the first in byte order.
use Rattle.std.specs.Prelude.{ℕ, ◌≤◌, ◌<◌, ◌≡◌, List, ◌∷◌, length}
use Rattle.protocol.specs.declared.Outcome.{Outcome}
use Rattle.protocol.specs.declared.Outcome.TheVariants.{Waiting, Open, Failed}
use Rattle.protocol.specs.Bytes.{Bytes}
use Rattle.protocol.specs.Numbers.{number, status}
use Rattle.protocol.specs.Opening.{Opening}
use Rattle.protocol.specs.Machine.{machine}
use Rattle.endings_spec.specs.declared.OutcomeStatus.{OutcomeStatus}

-- where the plain machine stands when end of stream follows, by 01's number, 0 for open, and status: one that waits has failed with 9
abbrev pub ending_of : Outcome → OutcomeStatus
ending_of Waiting = record { number = 9; status = 0 }
ending_of Open = record { number = 0; status = 0 }
ending_of (Failed e) = record { number = number e; status = status e }

-- a stream leads there
abbrev pub Leads : Opening → OutcomeStatus → List ℕ → Type 0
Leads o w bs = ending_of (machine o bs).outcome ≡ w

-- byte order: the first byte at which two streams differ decides
pub data Before : List ℕ → List ℕ → Type 0 where
  here : {a b : ℕ} {xs ys : List ℕ} → a < b → Before (a ∷ xs) (b ∷ ys)
  there : {a : ℕ} {xs ys : List ℕ} → Before xs ys → Before (a ∷ xs) (a ∷ ys)

-- of the streams that lead somewhere the shortest, among equals the first in byte order
pub record Wanted (To : List ℕ → Type 0) (bs : List ℕ) : Type 0 where
  pub bytes : Bytes bs
  pub leads : To bs
  pub shortest : (cs : List ℕ) → Bytes cs → To cs → length bs ≤ length cs
  pub first : (cs : List ℕ) → Bytes cs → To cs → length cs ≡ length bs → Before cs bs → ⊥

-- no stream of bytes whatsoever leads there
abbrev pub Nowhere : (List ℕ → Type 0) → Type 0
Nowhere To = (bs : List ℕ) → Bytes bs → To bs → ⊥
