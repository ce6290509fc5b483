-- F-3: what a delivery comes to: the ways it goes, each as it leaves the hold and the output.
use Rattle.std.specs.Prelude.{ℕ, ◌≤◌, ◌<◌, ◌≡◌, List, length, take, Result, Ok, Err, IfOk}
use Rattle.protocol.specs.declared.SocksError.{SocksError}
use Rattle.protocol.specs.declared.SocksError.TheVariants.{ShortOutput, Settled}
use Rattle.protocol.specs.declared.Bound.{Bound}
use Rattle.proxy_spec.specs.declared.Field.{Field}
use Rattle.proxy_spec.specs.declared.Stage.{Stage}
use Rattle.proxy_spec.specs.declared.Stage.TheVariants.{Awaiting, Asked, Open, Failed}
use Rattle.proxy_spec.specs.End.{Setup}
use Rattle.proxy_delivery.specs.piece.Pieces.{TakeResult}
use Rattle.proxy_delivery.specs.declared.piece.Taken.{Taken}

abbrev pub untaken : Stage → ℕ → Bound → Taken
untaken s n x = record { stage = s; held = n; used = 0; sent = 0; bound = x }

abbrev pub Waits : Stage → Type 0
Waits (Awaiting f) = Unit {0}
Waits (Asked v) = ⊥
Waits (Open v) = ⊥
Waits (Failed e) = ⊥

pub data Ways (stage : Stage) (held : ℕ) (c : Setup) (hold piece : List ℕ) (bound : Bound) (out : List ℕ) (r : Result Taken SocksError) (hold' out' : List ℕ) : Type 0 where
  settled : (Waits stage → ⊥) → r ≡ Err Settled → hold' ≡ hold → out' ≡ out → Ways stage held c hold piece bound out r hold' out'
  short : Waits stage → length out < 262 → r ≡ Err ShortOutput → hold' ≡ hold → out' ≡ out → Ways stage held c hold piece bound out r hold' out'
  none : Waits stage → 262 ≤ length out → length piece ≡ 0 → r ≡ Ok (untaken stage held bound) → hold' ≡ hold → out' ≡ out → Ways stage held c hold piece bound out r hold' out'
  taken : (f : Field) (t : Taken) → stage ≡ Awaiting f → 262 ≤ length out → (length piece ≡ 0 → ⊥) → r ≡ Ok t → TakeResult c f (take held hold) piece hold bound out t hold' out'
      → Ways stage held c hold piece bound out r hold' out'

-- with the bounds that a caller goes by
pub record ReceiveResult (stage : Stage) (held : ℕ) (c : Setup) (hold piece : List ℕ) (bound : Bound) (out : List ℕ) (r : Result Taken SocksError) (hold' out' : List ℕ) : Type 0 where
  pub way : Ways stage held c hold piece bound out r hold' out'
  pub within : IfOk r (λ t. t.used ≤ length piece)
  pub inside : IfOk r (λ t. t.sent ≤ length out')
