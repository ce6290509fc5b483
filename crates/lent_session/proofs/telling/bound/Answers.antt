use Rattle.lent_session.proofs.telling.Laws.{bound_as}
use Rattle.lent_session.proofs.telling.bound.Goals as goal

pub returns : goal.returns
returns c = bound_as c.args.s.now c.address_at-address.ensures c.kind_number.ensures c.size_of.ensures
