use mathlib.Core.Path.{sym, ◌∙◌}
use Rattle.proxy_requests.proofs.Texts.{text_late, text_long, text_few, text_whole}
use Rattle.proxy_requests.proofs.read_text.Goals as goal
use Rattle.proxy_requests.proofs.read_text.Goals.{else-branch-eq0-via-then-branch-eq0+else-fewest-n, else-branch-eq0-via-else-branch-eq0}

pub returns-in_err-get : goal.returns-in_err-get
returns-in_err-get c =
    let a = c.args in
    rw c.from_residual.ensures (text_late a.fewest a.most a.bytes.now _ c.run_of-n.ensures.run (sym c.get.ensures ∙ c.in_err-get.was))

pub returns-then-fewest-n : goal.returns-then-fewest-n
returns-then-fewest-n c =
    let a = c.args in
    c.good.ensures ∙ text_whole a.fewest a.most a.bytes.now _ c.run_of-n.ensures.run _ (sym c.get.ensures ∙ c.in_ok-get.was) c.if-branch-eq0.true c.if-fewest-n.true

pub returns-else-branch-eq0 : goal.returns-else-branch-eq0
returns-else-branch-eq0 c =
    let a = c.args in
    let g = sym c.get.ensures ∙ c.in_ok-get.was in
    c.malformed.ensures
    ∙ (elim c.else-branch-eq0.branch [ else-branch-eq0-via-then-branch-eq0+else-fewest-n w ↦ text_few a.fewest a.most a.bytes.now _ c.run_of-n.ensures.run _ g w.if-branch-eq0.true w.if-fewest-n.false | else-branch-eq0-via-else-branch-eq0 w ↦ text_long a.fewest a.most a.bytes.now _ c.run_of-n.ensures.run _ g w.if-branch-eq0.false ])
