use mathlib.Core.List.{◌++◌}
use Rattle.client_delivery.proofs.bound_address.Laws.{finds_response}
use Rattle.client_delivery.proofs.bound_address.in_response.Goals as goal

pub returns : goal.returns
returns c = finds_response (c.args.held.now ++ c.args.piece.now) c.requires c.port_at.ensures c.stands.ensures
