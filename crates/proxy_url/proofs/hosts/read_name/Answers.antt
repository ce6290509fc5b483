use mathlib.Core.Path.{sym, ◌∙◌}
use Rattle.proxy_url.proofs.hosts.Laws.{name_none, name_whole, name_alone}
use Rattle.proxy_url.proofs.hosts.read_name.Goals as goal

pub returns-then-n-eq0 : goal.returns-then-n-eq0
returns-then-n-eq0 c = name_none c.args.text.now c.name_end-n.ensures c.if-n-eq0.true

pub returns-then-byte_at-ne58 : goal.returns-then-byte_at-ne58
returns-then-byte_at-ne58 c = name_alone c.args.text.now c.name_end-n.ensures c.if-n-eq0.false (λ e. c.if-byte_at-ne58.true (c.byte_at.ensures ∙ e))

pub returns : goal.returns
returns c = name_whole c.args.text.now c.name_end-n.ensures c.if-n-eq0.false (sym c.byte_at.ensures ∙ c.if-byte_at-ne58.false)
