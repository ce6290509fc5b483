use Rattle.std.proofs.Common.{arith}
use Rattle.lent_session.proofs.Codes.{reply_small, bit_small}
use Rattle.lent_session.proofs.preparing.Laws.{staged_awaiting, staged_open, staged_failed}
use Rattle.lent_session.proofs.preparing.put_stage.Goals as goal

pub overflow_mul-s : goal.overflow_mul-s
overflow_mul-s c = omega (arith, bit_small c.args.optimistic, c.bit.ensures)

pub overflow_add-s : goal.overflow_add-s
overflow_add-s c = omega (arith, bit_small c.args.optimistic, c.bit.ensures, c.reply_number.ensures, reply_small c.in-Awaiting.reply)

pub overflow_mul-s-in-Open : goal.overflow_mul-s-in-Open
overflow_mul-s-in-Open c = omega (arith, bit_small c.args.optimistic, c.bit-in-Open.ensures)

pub overflow_add-s-in-Open : goal.overflow_add-s-in-Open
overflow_add-s-in-Open c = omega (arith, bit_small c.args.optimistic, c.bit-in-Open.ensures)

pub overflow_mul-s-in-Failed : goal.overflow_mul-s-in-Failed
overflow_mul-s-in-Failed c = omega (arith, bit_small c.args.optimistic, c.bit-in-Failed.ensures)

pub returns-in-Awaiting : goal.returns-in-Awaiting
returns-in-Awaiting c = λ q p u. staged_awaiting c.args.stage q p u c.bit.ensures c.in-Awaiting.is c.reply_number.ensures

pub returns-in-Open : goal.returns-in-Open
returns-in-Open c = λ q p u. staged_open c.args.stage q p u c.bit-in-Open.ensures c.in-Open.is

pub returns-in-Failed : goal.returns-in-Failed
returns-in-Failed c = λ q p u. staged_failed c.args.stage q p u c.bit-in-Failed.ensures c.in-Failed.is c.number.ensures c.status.ensures
