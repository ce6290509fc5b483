-- Sessions with a part changed, as a start, a delivery and an end change them, and how a stage is told.
use Rattle.std.specs.Prelude.{ℕ, ◌+◌, ◌%◌, ◌^◌, List, length}
use Rattle.protocol.specs.declared.Bound.{Bound}
use Rattle.protocol.specs.declared.Outcome.TheVariants as outcomes
use Rattle.buffers.specs.write.Written.{overwrite}
use Rattle.client_stages.specs.declared.due.Stage.{Stage}
use Rattle.client_stages.specs.declared.due.Stage.TheVariants.{Awaiting, Open, Failed}
use Rattle.client_delivery.specs.declared.piece.Taken.{Taken}
use Rattle.client_session.specs.declared.Session.{Session}
use Rattle.lent_numbers.specs.declared.told.RawOutcome.{RawOutcome}
use Rattle.lent_numbers.specs.declared.told.RawStep.{RawStep}
use Rattle.lent_numbers.specs.told.Told.{outcome_of}

-- at another stage, with so many bytes held, and bound to an address
abbrev pub at : Stage → ℕ → Bound → Session → Session
at g n b x = record { stage = g; started = x.started; held = n; hold = x.hold; bound = b; attempts = x.attempts; requests = x.requests }

-- with another hold
abbrev pub holding : List ℕ → Session → Session
holding h x = record { stage = x.stage; started = x.started; held = x.held; hold = h; bound = x.bound; attempts = x.attempts; requests = x.requests }

-- with so many attempts more
abbrev pub trying : ℕ → Session → Session
trying n x =
    record { stage = x.stage; started = x.started; held = x.held; hold = x.hold; bound = x.bound; attempts = (x.attempts + n) % 2 ^ 64; requests = x.requests }

-- what a piece came to, beside the hold
abbrev pub settled : Taken → Session → Session
settled t x = at t.stage t.held t.bound (trying t.attempts x)

-- a piece is held behind what is held
abbrev pub appended : List ℕ → Session → Session
appended p x = at x.stage (x.held + length p) x.bound (holding (overwrite x.hold x.held p) (trying 1 x))

abbrev pub stage_told : Stage → RawOutcome
stage_told (Awaiting e) = outcome_of outcomes.Waiting
stage_told Open = outcome_of outcomes.Open
stage_told (Failed x) = outcome_of (outcomes.Failed x)

abbrev pub accepted : ℕ → ℕ → Stage → RawStep
accepted used sent g = record { used = used; sent = sent; answer = 0; outcome = stage_told g }
