use Rattle.std.proofs.Common.{refl}
use Rattle.client_session.specs.Session.{held_bytes}
use Rattle.lent_session.specs.State.{session_at}
use Rattle.lent_session.proofs.Codes.{awaited_some}
use Rattle.lent_session.proofs.telling.Laws.{wants_none, wants_as}
use Rattle.lent_session.proofs.telling.wants.Goals as goal

pub returns-then-n-eq0 : goal.returns-then-n-eq0
returns-then-n-eq0 c = let x = session_at c.args.s.now in wants_none x.stage x.started (held_bytes x) c.awaited-n.ensures c.if-n-eq0.true

pub returns : goal.returns
returns c =
    let s = c.args.s.now in
    let e = awaited_some (session_at s).stage c.awaited-n.ensures c.if-n-eq0.false in
    wants_as s e.stage (c.reply_of.ensures e.reply e.number) c.is_started.ensures c.two_at.ensures.0 refl c.wants.ensures.0
