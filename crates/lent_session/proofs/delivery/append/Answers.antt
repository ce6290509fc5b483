use Rattle.lent_session.proofs.Writing.{appended_as}
use Rattle.lent_session.proofs.delivery.append.Goals as goal

pub returns : goal.returns
returns c = record { value = c.waiting.ensures; s_after = λ x f z q. appended_as x q f c.args.piece.now z c.requires.1 c.copy.ensures.bytes c.eight_at.ensures c.wrapping_add_u64.ensures.value c.put_eight.ensures.bytes c.put_two.ensures.bytes }
