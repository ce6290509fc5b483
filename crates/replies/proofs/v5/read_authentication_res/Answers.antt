use mathlib.Core.List.{◌++◌}
use Rattle.protocol.specs.Replies.{authentication_verdict, decide}
use Rattle.reader.proofs.Came.{two_came, two_short}
use Rattle.reader.proofs.Returns.{decided, undecided}
use Rattle.replies.proofs.v5.read_authentication_res.Goals as goal

pub returns-then-p : goal.returns-then-p
unfolding decide
returns-then-p c =
    let args = c.args in
    let bs = args.held.now ++ args.piece.now in
    let p = c.two_at-p in
    let k = two_came bs 0 p.result p.ensures c.if-p.true in
    cc (k.place, decided bs 2 p.result authentication_verdict _ k c.authentication_verdict.ensures)

pub returns : goal.returns
unfolding decide
returns c =
    let args = c.args in
    let bs = args.held.now ++ args.piece.now in
    let p = c.two_at-p in
    undecided 2 bs _ (two_short bs 0 p.result p.ensures c.if-p.false)
