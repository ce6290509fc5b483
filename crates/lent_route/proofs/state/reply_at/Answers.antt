use Rattle.lent_route.proofs.Laws.{reply_last, reply_next}
use Rattle.lent_route.proofs.state.reply_at.Goals as goal

pub returns-then-n-ge5 : goal.returns-then-n-ge5
returns-then-n-ge5 c = reply_last _ c.if-n-ge5.true

pub returns : goal.returns
returns c = c.reply_of.ensures _ (reply_next _ c.if-n-ge5.false)
