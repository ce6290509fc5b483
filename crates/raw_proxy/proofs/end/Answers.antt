use Rattle.raw_proxy.proofs.Laws.{says_ended}
use Rattle.raw_proxy.proofs.end.Goals as goal

pub returns : goal.returns
returns c = says_ended c.args.server c.server_of.ensures c.end-made.ensures c.served.ensures
