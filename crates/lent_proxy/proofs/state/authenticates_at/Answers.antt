use borrow.Author.Rules.{rules}
use Rattle.lent_proxy.specs.State.{authenticates_at}
use Rattle.lent_proxy.proofs.state.authenticates_at.Goals as goal

pub returns : goal.returns
unfolding authenticates_at
returns c = search rules
