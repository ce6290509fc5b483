use native.Mathlib.Omega.{arith}
use Rattle.lent_session.proofs.Codes.{stage_small, kind_small, bit_small}
use Prim.Native.Nat.{◌+◌, ◌*◌}
use Rattle.lent_route.proofs.state.code_of.Goals as goal

pub overflow_mul-result : goal.overflow_mul-result
overflow_mul-result c = omega (arith, c.bit.ensures, bit_small c.args.optimistic)

pub overflow_mul-result-2 : goal.overflow_mul-result-2
overflow_mul-result-2 c = omega (arith, c.kind_number.ensures, kind_small c.args.kind)

pub overflow_add-result : goal.overflow_add-result
overflow_add-result c = omega (arith, c.bit.ensures, c.kind_number.ensures, bit_small c.args.optimistic, kind_small c.args.kind)

pub overflow_add-result-2 : goal.overflow_add-result-2
overflow_add-result-2 c = omega (arith, c.bit.ensures, c.kind_number.ensures, bit_small c.args.optimistic, kind_small c.args.kind)

pub overflow_add-result-3 : goal.overflow_add-result-3
overflow_add-result-3 c = omega (arith, c.stage_number.ensures, c.bit.ensures, c.kind_number.ensures, stage_small c.args.stage, bit_small c.args.optimistic, kind_small c.args.kind)

pub returns : goal.returns
returns c = λ i. c.stage_number.ensures i + (8 + (16 * c.bit.ensures i + 32 * c.kind_number.ensures i))
