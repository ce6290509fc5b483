use Rattle.std.proofs.Common.{take, sym, ◌∙◌}
use Rattle.protocol.specs.Bytes.{byte}
use Rattle.lent_session.specs.State.{session_at}
use Rattle.lent_session.proofs.telling.Laws.{failed_is, told_failed}
use Rattle.lent_session.proofs.telling.told.Goals as goal

pub returns-in-0 : goal.returns-in-0
returns-in-0 c =
    let s = c.args.s.now in
    let x = session_at s in
    told_failed x.bound (take x.held x.hold) (failed_is (byte s 18) (byte s 19) (byte s 20) (sym c.stage_at.ensures ∙ c.in-0.is)) c.error_of-error.ensures c.number.ensures c.status.ensures
