use Rattle.lent_session.proofs.preparing.Laws.{kept_as}
use Rattle.lent_session.proofs.preparing.keep.Goals as goal

pub returns : goal.returns
returns c = record { value = c.answer_number.ensures; s_after = λ bytes q. kept_as c.args.begun bytes q c.put_two.ensures.bytes c.put_two-2.ensures.bytes c.put_two-3.ensures.bytes c.put_stage.ensures }
