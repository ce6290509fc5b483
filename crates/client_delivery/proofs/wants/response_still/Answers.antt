use Rattle.std.proofs.Common.{◌∙◌}
use borrow.Author.Tests.{lt-ltb}
use Rattle.client_delivery.proofs.wants.Ways.{response_not, response_head, response_code}
use Rattle.client_delivery.proofs.wants.response_still.Goals as goal

pub returns-then-held-lt2 : goal.returns-then-held-lt2
returns-then-held-lt2 c = lt-ltb _ _ c.if-held-lt2.true ∙ response_head c.args.held.now c.begins_with.ensures c.if-begins_with.true c.if-held-lt2.true

pub returns-else-held-lt2 : goal.returns-else-held-lt2
returns-else-held-lt2 c = response_code c.args.held.now c.begins_with.ensures c.if-begins_with.true c.if-held-lt2.false

pub returns-else-begins_with : goal.returns-else-begins_with
returns-else-begins_with c = c.if-begins_with.false ∙ response_not c.args.held.now c.begins_with.ensures c.if-begins_with.false
