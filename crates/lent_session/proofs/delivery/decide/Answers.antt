use Rattle.std.proofs.Common.{◌≡◌, ℕ, List, length, arith, rules}
use Rattle.lent_session.specs.State.{session_at}
use Rattle.lent_session.proofs.Codes.{awaited_some}
use Rattle.lent_session.proofs.delivery.Leaving.{received_leaves, received_some}
use Rattle.lent_session.proofs.delivery.decide.Goals as goal

pub returns : goal.returns
returns c =
    let a = c.args in
    let p = c.requires in
    let r = c.receive in
    let hold : List ℕ = r.new.hold in
    let long : length hold ≡ 261 = search rules in
    let e = awaited_some (session_at a.s.now).stage p.2 p.3 in
    received_leaves a.s.now a.piece.now a.out.now (λ i. let h = c.slice_known-1.given i in omega arith) p.0 p.1 e.stage p.4 hold long c.in-Ok.taken c.in-Ok.is e.number c.reply_of.ensures p.5
    c.lengths_at-lengths.ensures c.bound_at-bound.ensures r.ensures c.settle.ensures.port_bound c.send.ensures c.settle.ensures.value c.settle.ensures.s_after
