use Rattle.lent_numbers.proofs.bytes.Laws.{four_put, room}
use Rattle.lent_numbers.proofs.bytes.put_four_of.Goals as goal

pub put_two_of-requires : goal.put_two_of-requires
put_two_of-requires c = room 2 c.args.n 2 c.put_two_of-next.ensures c.requires

pub returns : goal.returns
returns c = four_put c.args.n c.put_two_of-next.ensures c.put_two_of.ensures
