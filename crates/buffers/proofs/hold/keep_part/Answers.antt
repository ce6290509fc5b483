use Rattle.buffers.proofs.hold.Laws.{part_kept}
use Rattle.buffers.proofs.hold.keep_part.Goals as goal

pub returns : goal.returns
returns c =
    let a = c.args in
    let p = c.requires in
    part_kept a.hold.now a.piece.now a.n a.from a.to c.min-m.result p.0 p.1 p.3 c.min-m.ensures c.keep_rest.ensures
