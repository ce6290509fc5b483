use Rattle.std.proofs.Common.{refl}
use Rattle.client_session.proofs.Named.{not_written, written}
use Rattle.lent_session.specs.State.{session_at}
use Rattle.lent_session.proofs.telling.Laws.{open_by, shut_by, text_told, text_refused}
use Rattle.lent_session.proofs.telling.bound_text.Goals as goal

pub returns-then-stage_at-ne7-clause-tells : goal.returns-then-stage_at-ne7-clause-tells
returns-then-stage_at-ne7-clause-tells c =
    let a = c.args in
    let x = session_at a.s.now in
    let told = not_written x (shut_by x.stage c.stage_at.ensures c.if-stage_at-ne7.true) refl a.text.now in
    text_refused x a.text.now a.text.now _ told refl c.number.ensures

pub returns-in-Ok-clause-tells : goal.returns-in-Ok-clause-tells
returns-in-Ok-clause-tells c =
    let x = session_at c.args.s.now in
    let told = written x (open_by x.stage c.stage_at.ensures c.if-stage_at-ne7.false) refl c.args.text.now c.address_at.ensures c.put_bound.ensures.text_result in
    text_told x c.args.text.now c.put_bound.new.text _ told c.in-Ok.is

pub returns-in-Err-clause-tells : goal.returns-in-Err-clause-tells
returns-in-Err-clause-tells c =
    let x = session_at c.args.s.now in
    let told = written x (open_by x.stage c.stage_at.ensures c.if-stage_at-ne7.false) refl c.args.text.now c.address_at.ensures c.put_bound.ensures.text_result in
    text_refused x c.args.text.now c.put_bound.new.text _ told c.in-Err.is c.number-in-Err.ensures
