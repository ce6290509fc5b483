use mathlib.Core.Path.{sym, ◌∙◌}
use mathlib.Core.List.{◌++◌}
use Rattle.protocol.specs.Replies.{proxy_at, decide}
use Rattle.reader.proofs.Came.{three_came, three_short}
use Rattle.replies.proofs.v5.Returns.{head_passed, head_refused}
use Rattle.reader.proofs.Returns.{undecided}
use Rattle.replies.proofs.v5.read_proxy_res.Goals as goal

pub type_at-requires : goal.type_at-requires
type_at-requires c =
    let args = c.args in
    let bs = args.held.now ++ args.piece.now in
    let p = c.three_at-h in
    let k = three_came bs 0 p.result p.ensures c.if-h.true in
    (k.place, k.second)

pub returns-then-head_allowed : goal.returns-then-head_allowed
unfolding decide
returns-then-head_allowed c =
    let args = c.args in
    let bs = args.held.now ++ args.piece.now in
    let p = c.three_at-h in
    let k = three_came bs 0 p.result p.ensures c.if-h.true in
    c.type_at.ensures ∙ head_passed bs p.result k (sym c.head_allowed.ensures ∙ c.if-head_allowed.true)

pub returns-then-h : goal.returns-then-h
unfolding decide
returns-then-h c =
    let args = c.args in
    let bs = args.held.now ++ args.piece.now in
    let p = c.three_at-h in
    let k = three_came bs 0 p.result p.ensures c.if-h.true in
    cc (k.place, head_refused bs p.result k (sym c.head_allowed.ensures ∙ c.if-head_allowed.false))

pub returns : goal.returns
unfolding decide proxy_at
returns c =
    let args = c.args in
    let bs = args.held.now ++ args.piece.now in
    let p = c.three_at-h in
    undecided 3 bs _ (three_short bs 0 p.result p.ensures c.if-h.false)
