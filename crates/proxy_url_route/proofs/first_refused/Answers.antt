use borrow.Author.Rules.{rules}
use native.Mathlib.Omega.{arith}
use Prim.Native.Nat.{◌-◌}
use mathlib.Core.Path.{refl, ap, sym, ◌∙◌}
use Rattle.proxy_url.specs.Calls.{read_of}
use Rattle.proxy_url_route.specs.Lines.{split}
use Rattle.proxy_url_route.proofs.Laws.{goes_on, ends, none_refused_lem}
use Rattle.proxy_url_route.proofs.first_refused.Goals as goal

pub loop-i-init : goal.loop-i-init
loop-i-init c = (search rules, refl)

pub line_at-requires : goal.line_at-requires
line_at-requires c = omega (arith, c.loop-i-test.true, c.requires)

pub loop-i-preserved : goal.loop-i-preserved
loop-i-preserved c =
    let start = c.before.before in
    let t = c.loop-i-test.true in
    (omega (arith, t), goes_on (split start.args.text.now) c.loop-i.i _ c.loop-i.invariant.1 (omega (arith, t, start.requires)) c.read-read.result (c.read-read.ensures ∙ ap read_of c.line_at.ensures) (sym c.is_accepted.ensures ∙ c.if-is_accepted.true))

pub returns-else-is_accepted : goal.returns-else-is_accepted
returns-else-is_accepted c =
    let start = c.before.before in
    let t = c.loop-i-test.true in
    ends (split start.args.text.now) c.loop-i.i _ c.loop-i.invariant.1 (omega (arith, t, start.requires)) c.read-read.result (c.read-read.ensures ∙ ap read_of c.line_at.ensures) (sym c.is_accepted.ensures ∙ c.if-is_accepted.false)

pub returns : goal.returns
returns c =
    let start = c.before.before in
    none_refused_lem (split start.args.text.now) c.loop-i.i _ c.loop-i.invariant.1 (omega (arith, c.loop-i.invariant.0, c.loop-i-test.false, start.requires))
