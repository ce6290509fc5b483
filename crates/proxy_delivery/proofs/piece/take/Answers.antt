use Prim.Native.Nat.{zero-le}
use lib.ListN.{take}
use Rattle.proxy_delivery.proofs.piece.Keeping.{place_inside, room_said, takes_worked}
use Rattle.proxy_delivery.proofs.piece.take.Goals as goal

pub work-turn-requires : goal.work-turn-requires
work-turn-requires c = (zero-le, room_said c.args.field c.args.out.now c.requires.1)

pub came_to-requires : goal.came_to-requires
came_to-requires c =
    let a = c.args in
    let p = c.requires in
    let w = rw c.new-unread.ensures at c.work-turn.ensures in
    (c.told-hold, p.0, w.spans, place_inside a.n a.hold.now a.piece.now c.told-hold p.0 _ w.inside, w.rests, w.ready)

pub returns : goal.returns
returns c =
    let a = c.args in
    takes_worked a.credentials.now a.field (take a.n a.hold.now) a.piece.now a.hold.now a.bound a.out.now c.work-turn.result (rw c.new-unread.ensures at c.work-turn.ensures) c.came_to.ensures
