use Rattle.reader.proofs.Lists.{in_first, in_second, behind}
use Rattle.reader.proofs.byte_at.Goals as goal

pub returns-then-at-n : goal.returns-then-at-n
returns-then-at-n c = let a = c.args in in_first a.held.now a.piece.now a.at c.if-at-n.true

pub returns-then-j-piece : goal.returns-then-j-piece
returns-then-j-piece c = let a = c.args in in_second a.held.now a.piece.now a.at c.if-at-n.false c.if-j-piece.true

pub returns : goal.returns
returns c = let a = c.args in behind a.held.now a.piece.now a.at c.if-at-n.false c.if-j-piece.false
