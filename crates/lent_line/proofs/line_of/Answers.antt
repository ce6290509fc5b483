use Rattle.lent_line.proofs.Laws.{line_as}
use Rattle.lent_line.proofs.line_of.Goals as goal

pub returns : goal.returns
returns c = line_as c.args.read c.answer_number.ensures c.version_number.ensures c.bit.ensures c.bit-2.ensures
