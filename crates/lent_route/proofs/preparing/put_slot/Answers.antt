use Rattle.route_session.specs.plan.Plan.{first_in}
use Rattle.lent_route.proofs.preparing.Hopping.{slot_put}
use Rattle.lent_route.proofs.preparing.put_slot.Goals as goal

pub returns : goal.returns
returns c = let a = c.args in slot_put (record { first = first_in a.stage; lengths = a.lengths }) c.first_number.ensures c.bit.ensures c.put_byte.ensures c.put_byte-2.ensures c.put_two.ensures c.put_two-2.ensures c.put_two-3.ensures
