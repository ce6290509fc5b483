use mathlib.Core.Path.{sym, ◌∙◌}
use native.Mathlib.Omega.{arith}
use Rattle.proxy_url.proofs.Readers.{byte_inside}
use Rattle.proxy_url.proofs.hosts.Laws.{host_brackets, host_name}
use borrow.Author.Rules.{rules}
use Rattle.proxy_url.proofs.hosts.read_host.Goals as goal

pub slice_bounds-read_brackets-count : goal.slice_bounds-read_brackets-count
slice_bounds-read_brackets-count c = let h = byte_inside c.args.text.now 0 (λ e. omega arith) (sym c.byte_at.ensures ∙ c.if-byte_at-eq91.true) in search rules

pub slice_bounds-read_brackets-start : goal.slice_bounds-read_brackets-start
slice_bounds-read_brackets-start c = let h = byte_inside c.args.text.now 0 (λ e. omega arith) (sym c.byte_at.ensures ∙ c.if-byte_at-eq91.true) in search rules

pub returns-then-byte_at-eq91 : goal.returns-then-byte_at-eq91
returns-then-byte_at-eq91 c = host_brackets c.args.text.now (sym c.byte_at.ensures ∙ c.if-byte_at-eq91.true) c.read_brackets.ensures

pub returns-else-byte_at-eq91 : goal.returns-else-byte_at-eq91
returns-else-byte_at-eq91 c = host_name c.args.text.now (λ e. c.if-byte_at-eq91.false (c.byte_at.ensures ∙ e)) c.read_name.ensures
