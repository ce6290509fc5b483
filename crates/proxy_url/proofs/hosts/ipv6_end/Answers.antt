use mathlib.Core.Path.{◌≡◌, sym, ◌∙◌}
use native.Mathlib.Nat.{zero-add}
use native.Mathlib.Omega.{arith}
use borrow.Author.Rules.{rules}
use Rattle.proxy_url_spec.specs.Reading.{ipv6_goes_on, ipv6_end}
use Rattle.proxy_url.proofs.hosts.Laws.{along_more, along_stop, along_end}
use Rattle.proxy_url.proofs.hosts.ipv6_end.Goals as goal

pub loop-n-init : goal.loop-n-init
unfolding ipv6_end
loop-n-init c = (c.min-end.ensures, zero-add _)

pub loop-n-preserved : goal.loop-n-preserved
loop-n-preserved c =
    let s = c.args.text.now in
    let l = c.loop-n in
    (l.invariant.0, along_more ipv6_goes_on 45 s l.n (search rules) (search rules) (sym c.ipv6_goes_on.ensures ∙ c.if-not-ipv6_goes_on.false) ∙ l.invariant.1)

pub returns-then-not-ipv6_goes_on : goal.returns-then-not-ipv6_goes_on
returns-then-not-ipv6_goes_on c =
    let s = c.args.text.now in
    let l = c.loop-n in
    along_stop ipv6_goes_on 45 s l.n (search rules) (search rules) (sym c.ipv6_goes_on.ensures ∙ c.if-not-ipv6_goes_on.true) ∙ l.invariant.1

pub returns : goal.returns
returns c =
    let l = c.loop-n in
    let e : c.min-end.result ≡ l.n = search rules in
    e ∙ along_end ipv6_goes_on 45 c.args.text.now l.n l.invariant.0 (omega arith) ∙ l.invariant.1
