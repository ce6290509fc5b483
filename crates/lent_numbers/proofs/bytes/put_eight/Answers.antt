use Rattle.lent_numbers.proofs.bytes.Laws.{eight_put, room}
use Rattle.lent_numbers.proofs.bytes.put_eight.Goals as goal

pub put_four_of-requires : goal.put_four_of-requires
put_four_of-requires c = room 4 c.args.n 4 c.put_four_of-next.ensures c.requires

pub returns : goal.returns
returns c = eight_put c.args.n c.put_four_of-next.ensures c.put_four_of.ensures
