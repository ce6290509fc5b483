use Rattle.std.proofs.Common.{sym, ◌∙◌}
use borrow.Author.Tests.{lt-ltb}
use Rattle.client_delivery.proofs.wants.Laws.{connect_short, connect_on, connect_off}
use Rattle.client_delivery.proofs.wants.may_connect.Goals as goal

pub returns-then-held-lt2 : goal.returns-then-held-lt2
returns-then-held-lt2 c = lt-ltb _ _ c.if-held-lt2.true ∙ sym c.if-begins_with.true ∙ c.begins_with.ensures ∙ connect_short _ c.if-held-lt2.true

pub returns-else-held-lt2 : goal.returns-else-held-lt2
returns-else-held-lt2 c = connect_on c.args.held.now c.begins_with.ensures c.if-begins_with.true

pub returns-else-begins_with : goal.returns-else-begins_with
returns-else-begins_with c = c.if-begins_with.false ∙ connect_off c.args.held.now c.begins_with.ensures c.if-begins_with.false
