-- 01, "Delivery", and F-2: what a delivery comes to before anything is sent: the ways it goes, each as it leaves the hold.
use Rattle.std.specs.Prelude.{ℕ, ◌+◌, ◌≤◌, ◌<◌, ◌≡◌, Bool, true, false, List, length, take, Result, Ok, Err, IfOk}
use Rattle.protocol.specs.declared.SocksError.{SocksError}
use Rattle.protocol.specs.declared.SocksError.TheVariants.{ShortOutput, Settled, OutOfOrder}
use Rattle.protocol.specs.declared.Reply.{Reply}
use Rattle.protocol.specs.declared.Bound.{Bound}
use Rattle.protocol.specs.Client as client
use Rattle.client_stages.specs.declared.due.Lengths.{Lengths}
use Rattle.client_stages.specs.declared.due.Stage.{Stage}
use Rattle.client_stages.specs.declared.due.Stage.TheVariants.{Awaiting}
use Rattle.client_stages.specs.due.Stages.{rank}
use Rattle.client_delivery.specs.piece.Takes.{TakeResult}
use Rattle.client_delivery.specs.declared.piece.Taken.{Taken}

-- nothing of a piece
abbrev pub unchanged : Stage → ℕ → Bound → Taken
unchanged s n x = record { stage = s; held = n; used = 0; from = 0; sent = 0; bound = x; attempts = 0 }

-- what a delivery answers, and what the piece came to; on a refusal nothing was taken
abbrev pub Received : Type 0
Received = Result Taken SocksError

pub data Ways (stage : Stage) (started : Bool) (held : ℕ) (l : Lengths) (hold piece : List ℕ) (lent : ℕ) (bound : Bound) (r : Received) (hold' : List ℕ) : Type 0 where
  settled : rank stage ≡ 0 → r ≡ Err Settled → hold' ≡ hold → Ways stage started held l hold piece lent bound r hold'
  unstarted : (e : Reply) → stage ≡ Awaiting e → started ≡ false → r ≡ Err OutOfOrder → hold' ≡ hold → Ways stage started held l hold piece lent bound r hold'
  short : (e : Reply) → stage ≡ Awaiting e → started ≡ true → lent < client.room e → r ≡ Err ShortOutput → hold' ≡ hold
      → Ways stage started held l hold piece lent bound r hold'
  none : (e : Reply) → stage ≡ Awaiting e → started ≡ true → client.room e ≤ lent → length piece ≡ 0 → r ≡ Ok (unchanged stage held bound) → hold' ≡ hold
      → Ways stage started held l hold piece lent bound r hold'
  taken : (e : Reply) (t : Taken) → stage ≡ Awaiting e → started ≡ true → client.room e ≤ lent → (length piece ≡ 0 → ⊥) → r ≡ Ok t → TakeResult l e (take held hold) piece hold bound t hold'
      → Ways stage started held l hold piece lent bound r hold'

-- the bounds that a caller goes by
pub record Bounded (piece : List ℕ) (lent : ℕ) (t : Taken) : Type 0 where
  pub within : t.used ≤ length piece
  pub fits : t.sent ≤ lent
  pub inside : t.from + t.sent ≤ 778

pub record ReceiveResult (stage : Stage) (started : Bool) (held : ℕ) (l : Lengths) (hold piece : List ℕ) (lent : ℕ) (bound : Bound) (r : Received) (hold' : List ℕ) : Type 0 where
  pub way : Ways stage started held l hold piece lent bound r hold'
  pub bounds : IfOk r (Bounded piece lent)
