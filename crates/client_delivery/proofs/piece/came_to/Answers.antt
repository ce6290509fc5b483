use Rattle.std.proofs.Common.{arith, refl, ◌++◌, take, rules}
use Rattle.client_delivery.specs.turns.Turns.{named_at}
use Rattle.client_delivery.proofs.piece.Keeping.{held_long, unread_few, rests_few, ready_open, begin_inside, opens_as, used_is, keeps_waits, keeps_failed, keeps_open}
use Rattle.client_delivery.proofs.piece.came_to.Goals as goal

pub keep_rest-requires : goal.keep_rest-requires
keep_rest-requires c =
    let a = c.args in
    let p = c.requires in
    let f = unread_few a.turn.place a.n a.hold.now a.piece.now p.0 p.1 (rests_few _ c.in-Awaiting.is p.3) in
    (omega (arith, p.0, p.1), p.2, omega (arith, f, p.0))

pub keep-kept-requires : goal.keep-kept-requires
keep-kept-requires c =
    let a = c.args in
    let p = c.requires in
    let r = ready_open _ _ _ c.in-Open.is p.4 in
    (p.0, p.1, begin_inside a.n a.hold.now a.piece.now p.0 p.1 r.0, r.1)

pub returns-in-Awaiting : goal.returns-in-Awaiting
returns-in-Awaiting c =
    let a = c.args in
    let p = c.requires in
    let h = take a.n a.hold.now in
    keeps_waits a.turn.place h a.piece.now a.hold.now (held_long a.n a.hold.now p.0 p.1) p.2 (named_at a.reply a.turn.begin (h ++ a.piece.now)) c.in-Awaiting.is refl c.keep_rest.ensures

pub returns-in-Open : goal.returns-in-Open
returns-in-Open c =
    let a = c.args in
    let p = c.requires in
    let h = take a.n a.hold.now in
    keeps_open a.turn.place h a.piece.now a.hold.now (held_long a.n a.hold.now p.0 p.1) p.2 (named_at a.reply a.turn.begin (h ++ a.piece.now)) c.in-Open.is
    (opens_as a.turn.stage a.from a.turn.sent a.turn.decided c.keep-kept.ensures (search rules))

pub returns-in-Failed : goal.returns-in-Failed
returns-in-Failed c =
    let a = c.args in
    let p = c.requires in
    let h = take a.n a.hold.now in
    keeps_failed a.turn.place h a.piece.now a.hold.now (held_long a.n a.hold.now p.0 p.1) p.2 (named_at a.reply a.turn.begin (h ++ a.piece.now)) c.in-Failed.is (used_is a.turn.stage a.from a.turn.sent a.turn.decided a.bound (search rules)) refl
