use Rattle.std.proofs.Common.{sym, ◌∙◌, arith}
use Rattle.protocol.specs.Bytes.{Bytes}
use Rattle.protocol.specs.declared.SocksError.TheVariants.{Settled, OutOfOrder}
use Rattle.lent_session.specs.State.{session_at}
use Rattle.lent_session.proofs.Codes.{awaited_some}
use Rattle.lent_session.proofs.Writing.{state_written}
use Rattle.lent_session.proofs.delivery.Leaving.{fits_at, refuses, deliver_settled, deliver_unstarted, empty_leaves, appended_leaves}
use Rattle.lent_session.proofs.delivery.deliver.Goals as goal

pub returns-then-n-eq0 : goal.returns-then-n-eq0
returns-then-n-eq0 c =
    let a = c.args in
    refuses Settled (deliver_settled (session_at a.s.now) a.piece.now a.out.now c.awaited-n.ensures c.if-n-eq0.true) c.refused.ensures

pub returns-then-piece-eq0 : goal.returns-then-piece-eq0
returns-then-piece-eq0 c =
    let a = c.args in
    let s = a.s.now in
    let bytes : Bytes s = λ i. let h = c.slice_known-1.given i in omega arith in
    let e = awaited_some (session_at s).stage c.awaited-n.ensures c.if-n-eq0.false in
    empty_leaves s a.piece.now a.out.now bytes c.requires.0 c.requires.1 e.stage (sym c.is_started.ensures ∙ c.if-is_started.true) c.if-piece-eq0.true c.waiting.ensures

pub append-requires : goal.append-requires
append-requires c =
    let e = awaited_some (session_at c.args.s.now).stage c.awaited-n.ensures c.if-n-eq0.false in
    (c.requires.0, (c.is_held.ensures c.if-is_held.true e.reply e.number).room)

pub returns-then-is_held : goal.returns-then-is_held
returns-then-is_held c =
    let a = c.args in
    let s = a.s.now in
    let bytes : Bytes s = λ i. let h = c.slice_known-1.given i in omega arith in
    let e = awaited_some (session_at s).stage c.awaited-n.ensures c.if-n-eq0.false in
    let n = c.two_at-held.ensures.0 in
    let w = c.append.ensures in
    appended_leaves s a.piece.now a.out.now bytes c.requires.0 c.requires.1 e.stage (sym c.is_started.ensures ∙ c.if-is_started.true) n c.if-piece-eq0.false (c.is_held.ensures c.if-is_held.true e.reply e.number)
    (w.s_after (session_at s) (fits_at s bytes c.requires.0) (sym n) (sym (state_written s bytes c.requires.0 e.reply e.stage))) w.value

pub decide-requires : goal.decide-requires
decide-requires c =
    (c.requires.0, c.requires.1, c.awaited-n.ensures, c.if-n-eq0.false, sym c.is_started.ensures ∙ c.if-is_started.true, c.two_at-held.ensures.0)

pub returns : goal.returns
returns c =
    let a = c.args in
    let e = awaited_some (session_at a.s.now).stage c.awaited-n.ensures c.if-n-eq0.false in
    refuses OutOfOrder (deliver_unstarted (session_at a.s.now) a.piece.now a.out.now e.stage (sym c.is_started.ensures ∙ c.if-is_started.false)) c.refused-2.ensures
