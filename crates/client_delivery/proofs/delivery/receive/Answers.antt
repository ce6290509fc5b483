use native.Mathlib.Omega.{arith}
use mathlib.Core.Path.{◌≡◌, refl}
use lib.ListN.{take}
use Rattle.std.proofs.Common.{rules}
use Rattle.client_delivery.specs.delivery.Received.{unstarted, short, none}
use Rattle.client_delivery.proofs.delivery.Laws.{take_least, receives_taken, empty_bounds}
use Rattle.client_delivery.proofs.delivery.receive.Goals as goal

pub returns-then-not-started : goal.returns-then-not-started
returns-then-not-started c = record { way = unstarted c.in-Awaiting.reply c.in-Awaiting.is c.if-not-started.true refl refl; bounds = tt }

pub returns-then-room-room_of : goal.returns-then-room-room_of
returns-then-room-room_of c = record { way = short c.in-Awaiting.reply c.in-Awaiting.is c.if-not-started.false (omega (arith, c.room_of.ensures, c.if-room-room_of.true)) refl refl; bounds = tt }

pub returns-then-is_empty : goal.returns-then-is_empty
returns-then-is_empty c =
    let a = c.args in
    rw (c.unchanged.ensures, c.in-Awaiting.is)
    (record { way = none c.in-Awaiting.reply refl c.if-not-started.false (omega (arith, c.room_of.ensures, c.if-room-room_of.false)) (search rules) refl refl; bounds = empty_bounds a.piece.now a.room _ a.held a.bound })

pub returns : goal.returns
returns c =
    let a = c.args in
    let held : take c.min.result a.hold.now ≡ take a.held a.hold.now = rw c.min.ensures (take_least a.held a.hold.now c.requires) in
    rw c.in-Awaiting.is (receives_taken a.started a.held a.lengths a.hold.now a.piece.now a.room a.bound c.in-Awaiting.reply held c.take.ensures c.if-not-started.false
    (omega (arith, c.room_of.ensures, c.if-room-room_of.false)) (search rules))
