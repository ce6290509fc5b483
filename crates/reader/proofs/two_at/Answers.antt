use Rattle.reader.specs.Reader.{two_at}
use Rattle.reader.proofs.two_at.Goals as goal

pub returns : goal.returns
unfolding two_at
returns c = rw (c.take_byte-b.ensures, c.take_byte-a.ensures)
