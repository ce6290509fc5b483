use Rattle.std.proofs.Common.{refl, sym, ap, ◌∙◌}
use Rattle.client_session.proofs.Deliveries.{taken_by}
use Rattle.captures.proofs.walk.Laws.{fits, in_place}
use Rattle.captures.proofs.walk.deliver.Goals as goal
use Rattle.captures.proofs.walk.deliver.Goals.{in-Ok, in-Err}

pub send-requires : goal.send-requires
send-requires c =
    let s = c.args.session.now in
    fits s c.args.piece.now c.args.out.now c.receive.ensures c.requires.0 (elim c.match-receive.branch [
      | in-Ok w ↦ w.taken-is ∙ sym (ap (λ x. (taken_by s x).1) w.in-Ok.is)
      | in-Err w ↦ w.taken-is ∙ w.unchanged-taken.ensures ∙ sym (ap (λ x. (taken_by s x).1) w.in-Err.is)
    ]) c.receive.ensures.bounds

pub returns-clause-delivers : goal.returns-clause-delivers
returns-clause-delivers c =
    let s = c.args.session.now in
    in_place s c.args.piece.now c.args.out.now c.receive.ensures c.requires.0 (elim c.match-receive.branch [
      | in-Ok w ↦ w.taken-is ∙ sym (ap (λ x. (taken_by s x).1) w.in-Ok.is)
      | in-Err w ↦ w.taken-is ∙ w.unchanged-taken.ensures ∙ sym (ap (λ x. (taken_by s x).1) w.in-Err.is)
    ]) refl c.requires.1 c.send.ensures
