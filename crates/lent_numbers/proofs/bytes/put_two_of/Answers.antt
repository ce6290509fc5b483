use Rattle.lent_numbers.proofs.bytes.Laws.{two_put}
use Rattle.lent_numbers.proofs.bytes.put_two_of.Goals as goal

pub returns : goal.returns
returns c =
    two_put c.args.n c.put_byte-next.ensures c.put_byte.ensures c.low.ensures c.low-2.ensures
