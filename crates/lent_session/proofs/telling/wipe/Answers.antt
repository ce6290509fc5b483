use Rattle.lent_session.proofs.telling.Laws.{wiped_long, wiped_as}
use Rattle.lent_session.proofs.telling.wipe.Goals as goal

pub slice_bounds-clear-end-2 : goal.slice_bounds-clear-end-2
slice_bounds-clear-end-2 c = wiped_long c.args.s.now c.requires c.two_at.ensures.0 c.two_at-2.ensures.0 c.two_at-3.ensures.0 c.min-end.ensures

pub returns : goal.returns
returns c = wiped_as c.args.s.now c.requires c.two_at.ensures.0 c.two_at-2.ensures.0 c.two_at-3.ensures.0 c.min-end.ensures c.clear.ensures
