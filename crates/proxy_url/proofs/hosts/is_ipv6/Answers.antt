use Rattle.proxy_url.proofs.hosts.Laws.{ended, ended_not}
use Rattle.proxy_url.proofs.hosts.is_ipv6.Goals as goal

pub returns-in-Ipv6 : goal.returns-in-Ipv6
returns-in-Ipv6 c = ended c.copy-n.ensures c.copy-end.ensures c.read_ipv6-address.ensures c.in-Ipv6.is

pub returns-in_default : goal.returns-in_default
returns-in_default c = ended_not c.copy-n.ensures c.copy-end.ensures c.read_ipv6-address.ensures c.in_default.not-Ipv6
