use Rattle.client_delivery.proofs.bound_address.Laws.{address_is}
use Rattle.client_delivery.proofs.bound_address.address.Goals as goal

pub returns : goal.returns
returns c = address_is c.args.bound c.args.held.now c.min-n.ensures c.copy_from_slice.ensures.after
