use native.Mathlib.Omega.{arith}
use mathlib.Core.Path.{sym}
use Rattle.protocol.specs.Answers.{Good, Bad}
use Rattle.proxy_delivery.proofs.turns.Laws.{told_decided, within_at, waits_worked, fails_worked, stopped}
use Rattle.talk.specs.Decision.{good, bad}
use Rattle.proxy_delivery.proofs.turns.take_turn.Goals as goal

pub overflow_add-place : goal.overflow_add-place
overflow_add-place c =
    let a = c.args in
    let w = c.in-Some-default-Ok in
    let i = within_at a.credentials.now a.field a.unread.now a.place w.n good c.requires.0 (rw (← c.behind.ensures.rest) (told_decided w.n _ Good c.read_field.ensures w.is w.field-0-1-is)) in
    record { fits = omega (arith, c.behind.ensures.fits) }

pub step_good-requires-clause-begin_le_place : goal.step_good-requires-clause-begin_le_place
step_good-requires-clause-begin_le_place c =
    let a = c.args in
    let w = c.in-Some-default-Ok in
    let i = within_at a.credentials.now a.field a.unread.now a.place w.n good c.requires.0 (rw (← c.behind.ensures.rest) (told_decided w.n _ Good c.read_field.ensures w.is w.field-0-1-is)) in
    (omega arith, (i, c.requires.1))

pub overflow_add-failed : goal.overflow_add-failed
overflow_add-failed c =
    let a = c.args in
    let w = c.in-Some-default-Err in
    let i = within_at a.credentials.now a.field a.unread.now a.place w.n (bad w.error) c.requires.0 (rw (← c.behind.ensures.rest) (told_decided w.n _ (Bad w.error) c.read_field.ensures w.is w.field-0-1-is)) in
    record { fits = omega (arith, c.behind.ensures.fits) }

pub returns-in-None : goal.returns-in-None
returns-in-None c =
    let a = c.args in
    stopped _ (waits_worked a.credentials.now a.field a.unread.now a.place a.out.now a.sent c.requires.0 c.behind.ensures.bytes (omega (arith, c.requires)) (rw (← c.behind.ensures.rest) (sym c.in-None.ensures)))

pub returns-in-Some-default-Err : goal.returns-in-Some-default-Err
returns-in-Some-default-Err c =
    let a = c.args in
    let w = c.in-Some-default-Err in
    stopped _ (fails_worked a.credentials.now a.field a.unread.now a.place a.out.now a.sent c.requires.0 w.n w.error (omega (arith, c.requires)) (rw (← c.behind.ensures.rest) (told_decided w.n _ (Bad w.error) c.read_field.ensures w.is w.field-0-1-is)))
