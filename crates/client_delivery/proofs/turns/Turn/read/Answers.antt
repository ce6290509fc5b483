use Rattle.std.proofs.Common.{◌++◌, sym, ◌∙◌, arith, length-append}
use Rattle.protocol.proofs.Replies.{undecided_by}
use Rattle.client_delivery.proofs.turns.Turning.{decided_inside}
use Rattle.client_delivery.proofs.turns.Turn.read.Goals as goal

pub returns-in_err-n-clause-few : goal.returns-in_err-n-clause-few
returns-in_err-n-clause-few c =
    let r = c.read_at.ensures in
    rw c.from_residual.ensures (undecided_by c.args.reply _ r.1 (sym r.0 ∙ c.in_err-n.was))

pub overflow_add-result : goal.overflow_add-result
overflow_add-result c =
    let a = c.args in
    let p = c.requires in
    let l = length-append a.held.now a.piece.now in
    let i = decided_inside a.reply (a.held.now ++ a.piece.now) a.self.place c.read_at.ensures.0 c.in_ok-n.was (omega arith) in
    record { fits = omega arith }
