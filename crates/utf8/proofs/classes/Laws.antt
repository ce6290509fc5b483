-- The table's rule.
use Prim.Native.Nat.{ℕ, ◌<◌}
use mathlib.Core.Path.{◌≡◌, refl}
use mathlib.Core.Bool.{Bool, true}
use lib.Dec.{eqb}
use lib.ListN.{get_or}
use borrow.Author.Tests.{eqb-true}
use Rattle.protocol.specs.Utf8.{class_of}
use Rattle.protocol.proofs.Tests.{all_below, below}
use Rattle.utf8.specs.classes.Table.{table}

abbrev right : ℕ → Bool
right b = eqb (get_or table b 0) (class_of b)

-- the one test of all entries, and what it says of each
classes : all_below 256 right ≡ true
unfolding table class_of
classes = refl

pub class_at : (b : ℕ) → b < 256 → get_or table b 0 ≡ class_of b
class_at b h = eqb-true (get_or table b 0) (class_of b) (below 256 right classes b h)
