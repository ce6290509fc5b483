use mathlib.Core.List.{◌++◌}
use native.Mathlib.Omega.{arith}
use Rattle.protocol.specs.Replies.{response_verdict, decide}
use Rattle.reader.proofs.Returns.{decided, undecided}
use Rattle.replies.proofs.v4.Response.{joined, near, response_came, response_short}
use Rattle.replies.proofs.v4.read_response.Goals as goal

pub bytes_at-q-requires : goal.bytes_at-q-requires
bytes_at-q-requires c =
    let args = c.args in
    let n = near (args.held.now ++ args.piece.now) 0 c.two_at-p.result c.two_at-p.ensures in
    omega arith

pub returns-then-q : goal.returns-then-q
unfolding decide
returns-then-q c =
    let args = c.args in
    let bs = args.held.now ++ args.piece.now in
    let p = c.two_at-p in
    let q = c.bytes_at-q in
    let k = response_came bs 0 p.result p.ensures q.result q.ensures c.if-q.true in
    cc (k.place, decided bs 8 (joined p.result q.result) response_verdict _ k c.response_verdict.ensures)

pub returns : goal.returns
unfolding decide
returns c =
    let args = c.args in
    let bs = args.held.now ++ args.piece.now in
    let p = c.two_at-p in
    let q = c.bytes_at-q in
    undecided 8 bs _ (response_short bs 0 p.result p.ensures q.result q.ensures c.if-q.false)
