use Rattle.std.proofs.Common.{sym, ◌∙◌, arith}
use Rattle.protocol.specs.Bytes.{Bytes}
use Rattle.protocol.specs.declared.SocksError.TheVariants.{Settled, OutOfOrder}
use Rattle.lent_session.specs.State.{session_at}
use Rattle.lent_session.proofs.Codes.{awaited_some}
use Rattle.lent_session.proofs.delivery.Leaving.{refuses, end_settled, end_unstarted, end_leaves}
use Rattle.lent_session.proofs.delivery.end.Goals as goal

pub returns-then-n-eq0 : goal.returns-then-n-eq0
returns-then-n-eq0 c = let s = c.args.s.now in refuses Settled (end_settled (session_at s) c.awaited-n.ensures c.if-n-eq0.true) c.refused.ensures

pub returns-then-is_started : goal.returns-then-is_started
returns-then-is_started c =
    let a = c.args in
    let s = a.s.now in
    let bytes : Bytes s = λ i. let h = c.slice_known-1.given i in omega arith in
    let e = awaited_some (session_at s).stage c.awaited-n.ensures c.if-n-eq0.false in
    end_leaves s bytes c.requires e.stage (sym c.is_started.ensures ∙ c.if-is_started.true) c.put_two.ensures.bytes c.put_failed.ensures.s_after c.put_failed.ensures.value

pub returns : goal.returns
returns c =
    let s = c.args.s.now in
    let e = awaited_some (session_at s).stage c.awaited-n.ensures c.if-n-eq0.false in
    refuses OutOfOrder (end_unstarted (session_at s) e.stage (sym c.is_started.ensures ∙ c.if-is_started.false)) c.refused-2.ensures
