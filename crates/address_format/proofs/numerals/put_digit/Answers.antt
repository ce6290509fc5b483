use Rattle.address_format.proofs.numerals.Laws.{one}
use borrow.Author.Rules.{rules}
use Rattle.address_format.proofs.numerals.put_digit.Goals as goal

pub returns : goal.returns
returns c = rw (← c.hex_digit.ensures) (one _ _ _ (search rules))
