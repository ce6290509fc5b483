use Rattle.std.proofs.Common.{arith}
use Rattle.lent_proxy.proofs.delivery.Texts.{held_lacks}
use Rattle.lent_proxy.proofs.delivery.is_held.Goals as goal

pub returns : goal.returns
returns c e =
    let a = c.args in
    held_lacks a.s.now a.piece.now a.held (omega arith) (omega arith) (c.lacks.ensures e)
