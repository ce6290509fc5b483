use mathlib.Core.Path.{refl}
use mathlib.Core.List.{◌++◌}
use lib.ListN.{take}
use Rattle.proxy_decisions.specs.decision.Due.{asks_at}
use Rattle.proxy_delivery.specs.turns.Turns.{last_in}
use Rattle.proxy_delivery.proofs.piece.Keeping.{held_long, unread_few, rests_few, ready_asked, keeps_waits, keeps_asks, keeps_over}
use Rattle.proxy_delivery.proofs.piece.came_to.Goals as goal

pub waits-requires : goal.waits-requires
waits-requires c =
    let a = c.args in
    let p = c.requires in
    (p.0, p.1, p.3, unread_few a.n a.hold.now a.piece.now p.0 p.1 a.turn.place (rests_few _ c.in-Awaiting.is p.4))

pub asks-requires : goal.asks-requires
asks-requires c = let p = c.requires in (p.0, p.1, p.2, p.3, ready_asked _ _ c.in-Asked.is p.5)

pub returns-in-Awaiting : goal.returns-in-Awaiting
returns-in-Awaiting c =
    let a = c.args in
    let p = c.requires in
    let h = take a.n a.hold.now in
    keeps_waits a.turn.place h a.piece.now a.hold.now (held_long a.n a.hold.now a.piece.now p.0 p.1) p.3 (asks_at a.turn.last (last_in a.turn (h ++ a.piece.now))) c.in-Awaiting.is c.waits.ensures.0 c.waits.ensures.1

pub returns-in-Asked : goal.returns-in-Asked
returns-in-Asked c =
    let a = c.args in
    let p = c.requires in
    let h = take a.n a.hold.now in
    keeps_asks a.turn.place h a.piece.now a.hold.now (held_long a.n a.hold.now a.piece.now p.0 p.1) p.3 (asks_at a.turn.last (last_in a.turn (h ++ a.piece.now))) c.in-Asked.is c.asks.ensures

pub returns-in-Open : goal.returns-in-Open
returns-in-Open c =
    let a = c.args in
    let p = c.requires in
    let h = take a.n a.hold.now in
    keeps_over a.turn.place h a.piece.now a.hold.now (held_long a.n a.hold.now a.piece.now p.0 p.1) p.3 (asks_at a.turn.last (last_in a.turn (h ++ a.piece.now))) c.in-Open.is _ _ p.5 c.failed.ensures refl
