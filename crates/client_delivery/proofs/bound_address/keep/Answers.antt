use Rattle.std.proofs.Common.{arith}
use Rattle.buffers.proofs.hold.Laws.{found_inside}
use Rattle.client_delivery.proofs.bound_address.Laws.{unread_at, found_at}
use Rattle.client_delivery.proofs.bound_address.keep.Goals as goal

pub find-found-requires : goal.find-found-requires
find-found-requires c =
    let a = c.args in
    let p = c.requires in
    rw (unread_at a.hold.now a.piece.now a.n a.at c.min-a.result (omega arith) c.min-a.ensures) p.3

pub keep_found-requires : goal.keep_found-requires
keep_found-requires c =
    let a = c.args in
    let p = c.requires in
    let f = found_at a.reply a.hold.now a.piece.now a.n a.at c.min-a.result (omega arith) c.min-a.ensures c.find-found.ensures in
    let s = f.small in
    (omega arith, omega arith, found_inside a.hold.now a.piece.now a.n a.at (omega arith) f p.2)

pub returns : goal.returns
returns c =
    let a = c.args in
    let p = c.requires in
    c.keep_found.ensures _ _ (found_at a.reply a.hold.now a.piece.now a.n a.at c.min-a.result (omega arith) c.min-a.ensures c.find-found.ensures)
