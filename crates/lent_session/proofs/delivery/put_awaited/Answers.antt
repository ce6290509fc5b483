use Rattle.std.proofs.Common.{arith}
use Rattle.lent_session.proofs.Codes.{reply_small}
use Rattle.lent_session.proofs.Writing.{awaited_as}
use Rattle.lent_session.proofs.delivery.put_awaited.Goals as goal

pub overflow_mul-s : goal.overflow_mul-s
overflow_mul-s c = omega (arith, c.slice_known-2-1.given 18)

pub overflow_add-s : goal.overflow_add-s
overflow_add-s c = omega (arith, c.slice_known-2-1.given 18, c.reply_number.ensures, reply_small c.args.reply)

pub returns : goal.returns
returns c = λ x e w q. awaited_as x q w c.args.reply c.reply_number.ensures
