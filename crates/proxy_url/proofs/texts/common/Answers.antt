use mathlib.Core.Path.{◌≡◌, ◌∙◌}
use native.Mathlib.Nat.{zero-add}
use native.Mathlib.Omega.{arith}
use borrow.Author.Rules.{rules}
use Rattle.proxy_url.proofs.texts.Laws.{common_more, common_other, common_end}
use Rattle.proxy_url.proofs.texts.common.Goals as goal

pub loop-n-init : goal.loop-n-init
loop-n-init c = (c.min-end.ensures, zero-add _)

pub returns-then-word-n : goal.returns-then-word-n
returns-then-word-n c =
    let a = c.args in
    let l = c.loop-n in
    common_other a.word.now a.text.now l.n (search rules) (search rules) c.if-word-n.true ∙ l.invariant.1

pub loop-n-preserved : goal.loop-n-preserved
loop-n-preserved c =
    let a = c.args in
    let l = c.loop-n in
    (l.invariant.0, common_more a.word.now a.text.now l.n (search rules) (search rules) c.if-word-n.false ∙ l.invariant.1)

pub returns : goal.returns
returns c =
    let a = c.args in
    let l = c.loop-n in
    let e : c.min-end.result ≡ l.n = search rules in
    e ∙ common_end a.word.now a.text.now l.n l.invariant.0 (omega arith) ∙ l.invariant.1
