use Rattle.proxy_decisions.proofs.destination.Laws.{keeps_ip}
use Rattle.proxy_decisions.proofs.destination.keep_ip.Goals as goal

pub returns : goal.returns
returns c = keeps_ip c.args.ports c.copy.ensures
