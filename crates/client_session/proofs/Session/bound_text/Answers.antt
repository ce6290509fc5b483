use Rattle.client_session.proofs.Named.{not_written, written}
use Rattle.client_session.proofs.Session.bound_text.Goals as goal

pub returns-then-not-is_open-clause-text_result : goal.returns-then-not-is_open-clause-text_result
returns-then-not-is_open-clause-text_result c = not_written c.args.self c.is_open.ensures c.if-not-is_open.true c.args.text.now

pub returns-clause-text_result : goal.returns-clause-text_result
returns-clause-text_result c = written c.args.self c.is_open.ensures c.if-not-is_open.false c.args.text.now c.bound.ensures c.put_bound.ensures.text_result
