use Prim.Native.Nat.{zero-le}
use native.Mathlib.Omega.{arith}
use Rattle.proxy_delivery.proofs.piece.Keeping.{room_said}
use Rattle.lent_proxy.proofs.delivery.Laws.{worked_at}
use Rattle.lent_proxy.proofs.delivery.work_at.Goals as goal

pub work-requires : goal.work-requires
work-requires c = (zero-le, room_said c.args.field c.args.out.now (omega (arith, c.requires.2)))

pub returns : goal.returns
returns c =
    let a = c.args in
    worked_at a.s.now a.piece.now a.out.now a.field a.held c.requires.0 (λ i. omega (arith, c.shared_slice_known-1.given i)) c.requires.1 c.authenticates_at-authenticates.ensures c.text_at-user.ensures c.text_at-password.ensures (rw c.new-unread.ensures at c.work.ensures)
