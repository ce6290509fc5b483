use Rattle.lent_route.proofs.preparing.Hopping.{kept_accepted, kept_refused}
use Rattle.lent_route.proofs.preparing.keep.Goals as goal

pub returns-in-Ok : goal.returns-in-Ok
returns-in-Ok c = kept_accepted c.in-Ok.is c.args.s.now c.args.count _ c.put_slot.ensures c.put_two.ensures

pub returns-in-Err : goal.returns-in-Err
returns-in-Err c = kept_refused c.in-Err.is c.args.s.now c.args.count _ c.fail.ensures
