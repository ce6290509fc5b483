use Rattle.client_delivery.proofs.wants.Laws.{lacks_some, lacks_none}
use Rattle.client_delivery.proofs.wants.lacking.Goals as goal

pub returns-then-held-size : goal.returns-then-held-size
returns-then-held-size c = lacks_some _ _ c.if-held-size.true

pub returns-else-held-size : goal.returns-else-held-size
returns-else-held-size c = lacks_none _ _ c.if-held-size.false
