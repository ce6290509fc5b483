use native.Mathlib.Omega.{arith}
use Rattle.std.proofs.Common.{◌≡◌, rules, refl, sym, ap, ◌∙◌}
use Rattle.protocol.specs.Answers as code
use Rattle.buffers.specs.write.Written.{overwrite}
use Rattle.client_stages.specs.due.Parts.{part}
use Rattle.client_delivery.proofs.delivery.Laws.{nothing_sent}
use Rattle.client_session.proofs.Deliveries.{taken_by, delivers_by}
use Rattle.client_session.proofs.Session.deliver.Goals as goal
use Rattle.client_session.proofs.Session.deliver.Goals.{in-Ok, in-Err, then-taken-gt0, else-taken-gt0}

pub returns : goal.returns
returns c =
    let s = c.args.self in
    let t = c.match-receive.answer.1 in
    let o : c.if-taken-gt0.out ≡ overwrite c.args.out.now 0 (part s.requests.bytes t.from t.sent) =
    elim c.if-taken-gt0.branch [ then-taken-gt0 w ↦ w.out-is ∙ w.send.ensures | else-taken-gt0 w ↦ w.out-is ∙ nothing_sent s.requests.bytes t.from c.args.out.now (omega arith) ] in
    delivers_by s c.args.piece.now c.args.out.now c.receive.ensures (search rules) (elim c.match-receive.branch [
      | in-Ok w ↦ w.answer-is ∙ sym (ap (taken_by s) w.in-Ok.is)
      | in-Err w ↦ w.answer-is ∙ (λ i. (code.Refused w.in-Err.error, w.unchanged.ensures i)) ∙ sym (ap (taken_by s) w.in-Err.is)
    ]) refl (search rules) o
