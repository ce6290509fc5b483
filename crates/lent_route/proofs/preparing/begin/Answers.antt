use Rattle.lent_route.proofs.preparing.Hopping.{begins_empty}
use Rattle.lent_route.proofs.preparing.begin.Goals as goal

pub returns : goal.returns
returns c = begins_empty c.args.s.now c.requires c.clear.ensures
