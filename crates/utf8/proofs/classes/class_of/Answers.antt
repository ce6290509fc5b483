use Rattle.utf8.specs.classes.Table.{table}
use Rattle.utf8.proofs.classes.Laws.{class_at}
use borrow.Author.Rules.{rules}
use Rattle.utf8.proofs.classes.class_of.Goals as goal

pub returns : goal.returns
unfolding table
returns c = rw c.from.ensures (class_at c.args.b (search rules))
