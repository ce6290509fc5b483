use Rattle.lent_route.proofs.telling.Laws.{front_size, wiped_as}
use Rattle.lent_route.proofs.telling.wipe.Goals as goal

pub slice_bounds-clear-end-3 : goal.slice_bounds-clear-end-3
slice_bounds-clear-end-3 c = front_size c.args.s.now c.requires c.two_at.ensures.0 c.last_of-last.ensures c.clear.ensures

pub returns : goal.returns
returns c = wiped_as c.args.s.now c.requires c.two_at.ensures.0 c.last_of-last.ensures c.clear.ensures c.clear-2.ensures
