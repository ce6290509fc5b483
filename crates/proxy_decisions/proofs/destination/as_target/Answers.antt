use mathlib.Core.Path.{refl, sym}
use native.Mathlib.Omega.{arith}
use lib.ListN.{length-take}
use lib.Seq.{length-take-le}
use Rattle.proxy_decisions.proofs.destination.Laws.{target_is}
use Rattle.proxy_decisions.proofs.destination.as_target.Goals as goal

pub slice_bounds-copy-end-2 : goal.slice_bounds-copy-end-2
slice_bounds-copy-end-2 c = let e = c.min-len.ensures in sym (length-take-le _ _ (omega arith))

pub copy-requires : goal.copy-requires
copy-requires c = let e = c.min-len.ensures in omega (arith, length-take c.min-len.result c.args.held.now)

pub returns : goal.returns
returns c = let a = c.args in target_is a.bound a.held.now c.min-len.ensures refl c.copy.ensures
