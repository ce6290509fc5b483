use mathlib.Core.Path.{◌∙◌}
use mathlib.Core.List.{◌++◌}
use Rattle.reader.proofs.Lists.{two_is}
use Rattle.reader.proofs.port_at.Goals as goal

pub returns : goal.returns
returns c =
    let a = c.args in
    two_is (a.held.now ++ a.piece.now) a.at (c.digit.ensures.0 ∙ c.byte-first.ensures) (c.digit-2.ensures.0 ∙ c.byte-second.ensures)
