use Rattle.captures.proofs.walk.Rows.{held_as}
use Rattle.captures.proofs.walk.holds.Goals as goal

pub returns : goal.returns
returns c es q = held_as _ es c.start-started.ensures (c.walk.ensures es q)
