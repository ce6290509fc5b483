use Rattle.proxy_session.proofs.Laws.{wants_is}
use Rattle.proxy_session.proofs.Server.wants.Goals as goal

pub wants-requires : goal.wants-requires
wants-requires c = c.credentials.ensures.counted

pub returns : goal.returns
returns c = wants_is c.args.self (rw (c.credentials.ensures.setup, c.held_bytes.ensures) at c.wants.ensures)
