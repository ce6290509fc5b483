use Rattle.lent_route.proofs.preparing.Hopping.{fails_with}
use Rattle.lent_route.proofs.preparing.fail.Goals as goal

pub returns : goal.returns
returns c = let a = c.args in (c.number-2.ensures, fails_with a.s.now c.requires c.clear.ensures a.error c.number.ensures c.status.ensures c.put_code.ensures)
