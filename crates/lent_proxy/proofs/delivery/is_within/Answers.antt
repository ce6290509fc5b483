use Rattle.lent_proxy.proofs.delivery.Texts.{null_one}
use Rattle.lent_proxy.proofs.delivery.is_within.Goals as goal

pub returns-then-piece-eq1 : goal.returns-then-piece-eq1
returns-then-piece-eq1 c e = null_one c.args.piece.now c.if-piece-eq1.true e
