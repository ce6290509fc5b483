-- What the code makes, field by field.
use Prim.Native.Nat.{ℕ}
use mathlib.Core.Path.{◌≡◌, sym, ap, ◌∙◌}
use Rattle.protocol.specs.declared.Outcome.{Outcome}
use Rattle.protocol.specs.declared.Outcome.TheVariants.{Failed}
use Rattle.protocol.specs.declared.SocksError.{SocksError}
use Rattle.protocol.specs.Numbers.{number, status}
use Rattle.lent_numbers.specs.declared.told.RawOutcome.{RawOutcome}
use Rattle.lent_numbers.specs.told.Told.{outcome_of}

pub failed_as : {o : Outcome} {e : SocksError} {n t : ℕ} → o ≡ Failed e → n ≡ number e → t ≡ status e → ◌≡◌ {A = RawOutcome} (record { state = 2; number = n; status = t }) (outcome_of o)
failed_as o n t = (λ i. record { state = 2; number = n i; status = t i }) ∙ ap outcome_of (sym o)
