use native.Mathlib.Omega.{arith}
use mathlib.Core.Path.{◌≡◌}
use lib.ListN.{length}
use Rattle.protocol.specs.Bytes.{Bytes}
use Rattle.lent_session.specs.State.{session_at}
use Rattle.lent_session.proofs.Codes.{awaited_some}
use Rattle.lent_route.proofs.delivery.Relaying.{hold_copied, decide_asks, decide_leaves}
use borrow.Author.Rules.{rules}
use Rattle.lent_route.proofs.delivery.decide.Goals as goal

pub relay-reached-requires : goal.relay-reached-requires
relay-reached-requires c =
    let a = c.args in
    let s = a.s.now in
    let (l, (room, (aw, (some, (b, h))))) = c.requires in
    let bytes : Bytes s = λ i. let z = c.slice_known-1.given i in omega arith in
    let e = awaited_some (session_at s).stage aw some in
    decide_asks s a.piece.now a.out.now bytes l room e.stage b h c.two_at.ensures.0 c.last_of-last.ensures c.hops_at-hops.ensures (c.spot_at-spot.ensures.value e.reply e.number) (hold_copied s l c.copy.ensures)

pub settle-requires : goal.settle-requires
settle-requires c = let k : length c.relay-reached.new.hold ≡ 261 = search rules in (c.requires.0, k)

pub returns : goal.returns
returns c =
    let a = c.args in
    let s = a.s.now in
    let (l, (room, (aw, (some, (b, h))))) = c.requires in
    let bytes : Bytes s = λ i. let z = c.slice_known-1.given i in omega arith in
    let e = awaited_some (session_at s).stage aw some in
    let k : length c.relay-reached.new.hold ≡ 261 = search rules in
    decide_leaves s a.piece.now a.out.now bytes l room e.stage b h c.two_at.ensures.0 c.last_of-last.ensures c.hops_at-hops.ensures (c.spot_at-spot.ensures.value e.reply e.number) (hold_copied s l c.copy.ensures) c.relay-reached.ensures k c.settle.ensures
