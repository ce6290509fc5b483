use Rattle.lent_route.proofs.Laws.{code_put}
use Rattle.lent_route.proofs.state.put_code.Goals as goal

pub returns : goal.returns
returns c = code_put c.put_byte.ensures c.put_byte-2.ensures c.put_byte-3.ensures
