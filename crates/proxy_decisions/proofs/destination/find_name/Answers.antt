use Rattle.proxy_decisions.proofs.destination.Laws.{finds_name}
use Rattle.proxy_decisions.proofs.destination.find_name.Goals as goal

pub returns : goal.returns
returns c = finds_name c.args.bytes.now c.requires c.len.ensures c.stands.ensures
