use native.Mathlib.Omega.{arith}
use mathlib.Core.Path.{refl, sym}
use lib.ListN.{take, length-append}
use Rattle.client_delivery.proofs.piece.Keeping.{held_long, fewest_small, takes_few, takes_worked}
use Rattle.client_delivery.proofs.piece.take.Goals as goal

pub copy-requires : goal.copy-requires
copy-requires c =
    omega (arith, c.fewest.ensures, fewest_small c.args.reply, c.if-n-piece.true, c.requires.0)

pub returns-then-n-piece : goal.returns-then-n-piece
returns-then-n-piece c =
    let a = c.args in
    let p = c.requires in
    takes_few a.lengths a.reply a.piece.now a.hold.now a.bound (omega arith) p.0 (omega (arith, c.fewest.ensures, c.if-n-piece.true)) refl c.copy.ensures.bytes

pub slice_bounds-work-end-2 : goal.slice_bounds-work-end-2
slice_bounds-work-end-2 c =
    sym (held_long c.args.n c.args.hold.now c.requires.0 c.requires.1)

pub came_to-requires : goal.came_to-requires
came_to-requires c =
    let a = c.args in
    let p = c.requires in
    let w = c.work-turn.ensures in
    let i = w.inside in
    (p.0, p.1, omega (arith, i, length-append (take a.n a.hold.now) a.piece.now, held_long a.n a.hold.now p.0 p.1), w.rests, w.ready, w.most)

pub returns : goal.returns
returns c =
    let a = c.args in
    let w = c.work-turn in
    takes_worked a.lengths a.reply (take a.n a.hold.now) a.piece.now a.hold.now a.bound w.result.stage w.result.begin w.result.place w.result.sent w.result.decided w.ensures c.due_from.ensures c.came_to.ensures
