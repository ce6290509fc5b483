use Rattle.proxy_delivery.proofs.delivery.receive.Goals as goal

pub returns-in-Awaiting : goal.returns-in-Awaiting
returns-in-Awaiting c = rw c.in-Awaiting.is c.receive_awaiting.ensures
