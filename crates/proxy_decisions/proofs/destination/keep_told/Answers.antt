use native.Mathlib.Omega.{arith}
use lib.ListN.{take, length-append}
use lib.Seq.{length-take-le}
use Rattle.buffers.proofs.hold.Laws.{found_inside}
use Rattle.proxy_decisions.proofs.destination.Laws.{found_in}
use Rattle.proxy_decisions.proofs.destination.keep_told.Goals as goal

pub part-requires : goal.part-requires
part-requires c =
    let a = c.args in
    let p = c.requires in
    (p.2, rw c.new-unread.ensures (omega (arith, length-append (take a.n a.hold.now) a.piece.now, length-take-le a.n a.hold.now (omega arith))))

pub find-found-requires : goal.find-found-requires
find-found-requires c = rw (c.part.ensures, c.new-unread.ensures) c.requires.4

pub keep_found-requires : goal.keep_found-requires
keep_found-requires c =
    let a = c.args in
    let p = c.requires in
    let f = found_in a.field a.hold.now a.piece.now a.n a.begin a.end (omega arith) p.2 p.3 (rw (c.part.ensures, c.new-unread.ensures) at c.find-found.ensures) in
    let s = f.small in
    (omega arith, omega arith, found_inside a.hold.now a.piece.now a.n a.begin (omega arith) f (omega arith))

pub returns : goal.returns
returns c =
    let a = c.args in
    let p = c.requires in
    c.keep_found.ensures _ _ (found_in a.field a.hold.now a.piece.now a.n a.begin a.end (omega arith) p.2 p.3 (rw (c.part.ensures, c.new-unread.ensures) at c.find-found.ensures))
