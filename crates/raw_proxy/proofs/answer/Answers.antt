use Rattle.raw_proxy.proofs.Laws.{says_answered}
use Rattle.raw_proxy.proofs.answer.Goals as goal

pub returns : goal.returns
returns c = says_answered c.args.server c.server_of.ensures c.args.status c.args.bound c.args.port _ _ _ _ c.record_of.ensures c.answer-made.ensures c.served.ensures
