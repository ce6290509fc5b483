use Rattle.lent_route.proofs.Laws.{numbers_put}
use Rattle.lent_route.proofs.state.put_numbers.Goals as goal

pub returns : goal.returns
returns c = numbers_put _ _ _ _ _ _ c.put_eight.ensures c.put_two.ensures c.put_two-2.ensures c.put_two-3.ensures c.put_two-4.ensures (rw c.from.ensures at c.put_two-5.ensures)
