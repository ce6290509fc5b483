use mathlib.Core.Path.{◌≡◌}
use Prim.Native.Nat.{min}
use lib.ListN.{length}
use Rattle.proxy_url_spec.specs.Reading.{common}
use Rattle.proxy_url.proofs.texts.Laws.{common_from}
use Rattle.proxy_url.proofs.texts.common.Given as goal

abbrev pub invariant-loop-n : goal.invariant-loop-n
invariant-loop-n l = (l.end ≡ min (length l.word) (length l.text)) × (common_from l.word l.text l.n ≡ common l.word l.text)
