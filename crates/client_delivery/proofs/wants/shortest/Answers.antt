use Rattle.std.proofs.Common.{arith}
use Rattle.client_delivery.proofs.wants.Ways.{shortest_method, shortest_authentication, shortest_last}
use Rattle.client_delivery.proofs.wants.shortest.Goals as goal

pub returns-in-NegotiationRes : goal.returns-in-NegotiationRes
returns-in-NegotiationRes c = rw c.in-NegotiationRes.is (shortest_method c.in-NegotiationRes.method c.behind_method.ensures)

pub returns-in-AuthenticationRes : goal.returns-in-AuthenticationRes
returns-in-AuthenticationRes c = (rw c.in-AuthenticationRes.is shortest_authentication, omega arith)

pub returns-in-ProxyRes : goal.returns-in-ProxyRes
returns-in-ProxyRes c = (shortest_last c.args.reply c.in-ProxyRes.is, omega arith)
