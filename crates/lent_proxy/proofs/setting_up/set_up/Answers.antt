use mathlib.Core.Path.{refl, sym, ◌∙◌}
use Rattle.proxy_session.proofs.Laws.{short_enough}
use Rattle.lent_proxy.proofs.Setting.{as_told, sets_refused, sets_with, sets_without}
use borrow.Author.Rules.{rules}
use Rattle.lent_proxy.proofs.setting_up.set_up.Goals as goal

pub returns-then-credentials_too_long : goal.returns-then-credentials_too_long
returns-then-credentials_too_long c =
    let a = c.args in
    let t = c.truth-with in
    as_told a.user.now a.password.now t.ensures (sets_refused t.result a.user.now a.password.now (sym c.credentials_too_long.ensures ∙ c.if-credentials_too_long.true) c.begin.ensures c.put_stage.ensures.0 c.put_stage.ensures.1 c.number.ensures)

pub keep-requires : goal.keep-requires
keep-requires c =
    let a = c.args in
    let (h, i) = short_enough c.truth-with.result a.user.now a.password.now (sym c.credentials_too_long.ensures ∙ c.if-credentials_too_long.false) c.if-with.true in
    (search rules, c.begin.ensures, h, i)

pub returns-then-with : goal.returns-then-with
returns-then-with c =
    let a = c.args in
    let t = c.truth-with in
    let q = sym c.credentials_too_long.ensures ∙ c.if-credentials_too_long.false in
    let e = c.if-with.true in
    as_told a.user.now a.password.now t.ensures (sets_with t.result a.user.now a.password.now q e (short_enough t.result a.user.now a.password.now q e).0 c.keep.ensures refl)

pub returns : goal.returns
returns c =
    let a = c.args in
    let t = c.truth-with in
    as_told a.user.now a.password.now t.ensures (sets_without t.result a.user.now a.password.now (sym c.credentials_too_long.ensures ∙ c.if-credentials_too_long.false) c.if-with.false c.begin.ensures refl)
