use Rattle.std.proofs.Common.{sym, ◌∙◌, arith}
use Rattle.protocol.specs.Bytes.{Bytes}
use Rattle.protocol.specs.declared.SocksError.TheVariants.{Settled, OutOfOrder}
use Rattle.client_stages.proofs.start.Laws.{first_within}
use Rattle.lent_session.specs.State.{session_at}
use Rattle.lent_session.proofs.Codes.{awaited_some}
use Rattle.lent_session.proofs.delivery.Leaving.{refuses, start_settled, start_again, code_room, start_leaves}
use Rattle.lent_session.proofs.delivery.start.Goals as goal

pub returns-then-n-eq0 : goal.returns-then-n-eq0
returns-then-n-eq0 c = let a = c.args in refuses Settled (start_settled (session_at a.s.now) a.out.now c.awaited-n.ensures c.if-n-eq0.true) c.refused.ensures

pub returns-then-is_started : goal.returns-then-is_started
returns-then-is_started c =
    let a = c.args in
    let e = awaited_some (session_at a.s.now).stage c.awaited-n.ensures c.if-n-eq0.false in
    refuses OutOfOrder (start_again (session_at a.s.now) a.out.now e.stage (sym c.is_started.ensures ∙ c.if-is_started.true)) c.refused-then-is_started.ensures

pub send-requires : goal.send-requires
send-requires c =
    let p = c.requires in
    let h = first_within c.lengths_at.result c.reply_of.result in
    let m = c.first_size-m.ensures in
    (p.0, omega (arith, h, m), omega (arith, h, m, p.1))

pub overflow_add-s : goal.overflow_add-s
overflow_add-s c =
    let s = c.args.s.now in
    let e = awaited_some (session_at s).stage c.awaited-n.ensures c.if-n-eq0.false in
    omega (arith, code_room s e.stage)

pub returns : goal.returns
returns c =
    let a = c.args in
    let s = a.s.now in
    let bytes : Bytes s = λ i. let h = c.slice_known-1.given i in omega arith in
    let e = awaited_some (session_at s).stage c.awaited-n.ensures c.if-n-eq0.false in
    start_leaves s a.out.now bytes c.requires.0 c.requires.1 e.stage (sym c.is_started.ensures ∙ c.if-is_started.false) e.number c.reply_of.ensures c.lengths_at.ensures c.first_size-m.ensures c.send.ensures c.waiting.ensures
