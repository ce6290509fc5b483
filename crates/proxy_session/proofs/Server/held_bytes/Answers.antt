use borrow.Author.Rules.{rules}
use Rattle.proxy_session.proofs.Laws.{held_is}
use Rattle.proxy_session.proofs.Server.held_bytes.Goals as goal

pub returns : goal.returns
returns c = held_is c.args.self.now c.min.ensures (search rules)
