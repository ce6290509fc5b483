use Rattle.address_text.proofs.address.Marks.{unmarked_all}
use Rattle.address_text.proofs.address.lacks_mark.Goals as goal

pub returns-then-text-ge5 : goal.returns-then-text-ge5
returns-then-text-ge5 c e = unmarked_all _ c.if-text-ge5.true (c.are_above.ensures.0 e)
