use mathlib.Core.Path.{sym, ◌∙◌}
use native.Mathlib.Omega.{arith}
use lib.Seq.{length-take-le}
use Rattle.proxy_url.proofs.hosts.Laws.{ipv6_inside, brackets_open, brackets_other, brackets_alone, brackets_whole}
use borrow.Author.Rules.{rules}
use Rattle.proxy_url.proofs.hosts.read_brackets.Goals as goal

pub is_ipv6-requires : goal.is_ipv6-requires
is_ipv6-requires c = let h = ipv6_inside c.args.text.now c.ipv6_end-n.ensures in rw (length-take-le c.ipv6_end-n.result c.args.text.now h.0) (omega arith)

pub overflow_add-result : goal.overflow_add-result
overflow_add-result c = let h = ipv6_inside c.args.text.now c.ipv6_end-n.ensures in search rules

pub returns-then-byte_at-ne93 : goal.returns-then-byte_at-ne93
returns-then-byte_at-ne93 c = brackets_open c.args.text.now c.ipv6_end-n.ensures (λ e. c.if-byte_at-ne93.true (c.byte_at.ensures ∙ e))

pub returns-then-not-is_ipv6 : goal.returns-then-not-is_ipv6
returns-then-not-is_ipv6 c = brackets_other c.args.text.now c.ipv6_end-n.ensures (sym c.is_ipv6.ensures ∙ c.if-not-is_ipv6.true)

pub returns-then-byte_at-ne58 : goal.returns-then-byte_at-ne58
returns-then-byte_at-ne58 c = brackets_alone c.args.text.now c.ipv6_end-n.ensures (sym c.byte_at.ensures ∙ c.if-byte_at-ne93.false) (sym c.is_ipv6.ensures ∙ c.if-not-is_ipv6.false) (λ e. c.if-byte_at-ne58.true (c.byte_at-2.ensures ∙ e))

pub returns : goal.returns
returns c = brackets_whole c.args.text.now c.ipv6_end-n.ensures (sym c.byte_at.ensures ∙ c.if-byte_at-ne93.false) (sym c.is_ipv6.ensures ∙ c.if-not-is_ipv6.false) (sym c.byte_at-2.ensures ∙ c.if-byte_at-ne58.false)
