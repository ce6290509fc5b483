use mathlib.Core.Path.{sym, ◌∙◌}
use Rattle.proxy_session.proofs.Laws.{set_refused, set_without, set_with, short_enough}
use Rattle.proxy_session.proofs.set_up.Goals as goal

pub returns-then-credentials_too_long : goal.returns-then-credentials_too_long
returns-then-credentials_too_long c = set_refused c.args.authenticates c.args.user.now c.args.password.now c.new-none.ensures (sym c.credentials_too_long.ensures ∙ c.if-credentials_too_long.true) c.fresh.ensures

pub returns-then-not-authenticates : goal.returns-then-not-authenticates
returns-then-not-authenticates c = set_without c.args.authenticates c.args.user.now c.args.password.now c.new-none.ensures (sym c.credentials_too_long.ensures ∙ c.if-credentials_too_long.false) (c.if-not-authenticates.true) c.fresh-then-not-authenticates.ensures

pub new-user-requires : goal.new-user-requires
new-user-requires c = (short_enough c.args.authenticates c.args.user.now c.args.password.now (sym c.credentials_too_long.ensures ∙ c.if-credentials_too_long.false) (c.if-not-authenticates.false)).0

pub new-password-requires : goal.new-password-requires
new-password-requires c = (short_enough c.args.authenticates c.args.user.now c.args.password.now (sym c.credentials_too_long.ensures ∙ c.if-credentials_too_long.false) (c.if-not-authenticates.false)).1

pub returns : goal.returns
returns c = set_with c.args.authenticates c.args.user.now c.args.password.now (sym c.credentials_too_long.ensures ∙ c.if-credentials_too_long.false) (c.if-not-authenticates.false) c.new-user.ensures c.new-password.ensures c.fresh-2.ensures
