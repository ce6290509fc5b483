use Rattle.std.proofs.Common.{arith}
use Rattle.lent_session.proofs.Writing.{failed_as}
use Rattle.lent_session.proofs.delivery.Leaving.{failed_step}
use Rattle.lent_session.proofs.delivery.put_failed.Goals as goal

pub overflow_mul-s : goal.overflow_mul-s
overflow_mul-s c = omega (arith, c.slice_known-2-1.given 18)

pub returns : goal.returns
returns c = record { value = failed_step c.args.error c.number-2.ensures c.status-2.ensures; s_after = λ x e w q. failed_as x q w c.args.error c.number.ensures c.status.ensures }
