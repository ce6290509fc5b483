use Rattle.lent_route.proofs.Laws.{slot_none, slot_some}
use Rattle.lent_route.proofs.state.hop_at.Goals as goal

pub returns-then-last-index : goal.returns-then-last-index
returns-then-last-index c = let a = c.args in slot_none a.s.now a.last a.index c.if-last-index.true

pub returns : goal.returns
returns c = let a = c.args in slot_some a.s.now a.last a.index c.if-last-index.false c.slot_at.ensures
