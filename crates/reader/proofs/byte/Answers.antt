use mathlib.Core.Path.{ap}
use Rattle.reader.specs.Reader.{byte_at}
use Rattle.reader.proofs.byte.Goals as goal

pub returns : goal.returns
unfolding byte_at
returns c = ap (λ t. t.byte) c.byte_at-took.ensures
