use mathlib.Core.Path.{refl}
use Rattle.raw_numbers.specs.Numbers.{truth}
use Rattle.raw_numbers.proofs.truth.Goals as goal

pub returns : goal.returns
unfolding truth
returns c = refl
