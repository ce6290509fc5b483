use Rattle.proxy_decisions.specs.decision.Due.{rank}
use Rattle.proxy_delivery.proofs.turns.+work.Given as goal

abbrev pub decreases-work : goal.decreases-work
decreases-work l = rank l.field
