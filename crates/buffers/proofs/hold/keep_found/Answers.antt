use mathlib.Core.List.{◌++◌}
use lib.ListN.{take}
use Rattle.buffers.proofs.hold.Laws.{binds}
use Rattle.buffers.proofs.hold.keep_found.Goals as goal

pub returns : goal.returns
returns c =
    let a = c.args in
    λ most x f. binds (take a.n a.hold.now ++ a.piece.now) a.hold.now a.at f c.keep_part.ensures
