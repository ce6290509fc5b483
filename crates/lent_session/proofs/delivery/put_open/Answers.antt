use Rattle.std.proofs.Common.{refl, ◌∙◌, arith, length-set}
use Rattle.buffers.proofs.write.Laws.{wrote_length}
use Rattle.lent_session.proofs.Codes.{kind_small}
use Rattle.lent_session.proofs.Writing.{opened_as}
use Rattle.lent_session.proofs.delivery.put_open.Goals as goal

pub overflow_mul-s-2 : goal.overflow_mul-s-2
overflow_mul-s-2 c = omega (arith, c.kind_number.ensures, kind_small c.args.taken.bound.kind)

pub overflow_add-s-2 : goal.overflow_add-s-2
overflow_add-s-2 c = omega (arith, c.kind_number.ensures, kind_small c.args.taken.bound.kind)

pub put_two-requires : goal.put_two-requires
put_two-requires c = simp length-set (omega arith)

pub shape_of-s : goal.shape_of-s
shape_of-s c = wrote_length c.put_two.ensures ∙ simp length-set

pub returns : goal.returns
returns c = record { value = refl; s_after = λ x e w q. c.put_two.ensures.bytes ∙ opened_as x q w c.args.taken.bound c.kind_number.ensures }
