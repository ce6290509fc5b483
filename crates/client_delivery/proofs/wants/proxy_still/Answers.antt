use Rattle.std.proofs.Common.{◌∙◌}
use borrow.Author.Tests.{lt-ltb}
use Rattle.client_delivery.proofs.wants.Ways.{proxy_not, proxy_head, proxy_type}
use Rattle.client_delivery.proofs.wants.proxy_still.Goals as goal

pub returns-then-held-lt4 : goal.returns-then-held-lt4
returns-then-held-lt4 c = lt-ltb _ _ c.if-held-lt4.true ∙ proxy_head c.args.held.now c.may_connect.ensures c.if-may_connect.true c.if-held-lt4.true

pub returns-else-held-lt4 : goal.returns-else-held-lt4
returns-else-held-lt4 c = proxy_type c.args.held.now c.may_connect.ensures c.if-may_connect.true c.if-held-lt4.false c.type_still.ensures

pub returns-else-may_connect : goal.returns-else-may_connect
returns-else-may_connect c = c.if-may_connect.false ∙ proxy_not c.args.held.now c.may_connect.ensures c.if-may_connect.false
