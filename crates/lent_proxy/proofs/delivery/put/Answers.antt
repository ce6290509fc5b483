use Rattle.lent_proxy.proofs.delivery.Laws.{one_put}
use Rattle.lent_proxy.proofs.delivery.put.Goals as goal

pub returns-then-piece-eq1 : goal.returns-then-piece-eq1
returns-then-piece-eq1 c =
    let a = c.args in
    one_put a.piece.now c.if-piece-eq1.true c.put_byte.ensures
