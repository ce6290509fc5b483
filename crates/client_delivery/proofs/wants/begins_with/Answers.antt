use Rattle.std.proofs.Common.{rules, ◌∙◌}
use Rattle.client_delivery.proofs.wants.Laws.{begins_none, begins_first}
use Rattle.client_delivery.proofs.wants.begins_with.Goals as goal

pub returns-then-is_empty : goal.returns-then-is_empty
returns-then-is_empty c = c.if-is_empty.true ∙ begins_none _ _ (search rules)

pub returns-else-is_empty : goal.returns-else-is_empty
returns-else-is_empty c = begins_first _ _ (search rules)
