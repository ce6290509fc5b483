use native.Mathlib.Omega.{arith}
use Rattle.lent_proxy.proofs.Codes.{bit_small, kind_small, stage_small}
use Rattle.lent_proxy.proofs.state.code_of.Goals as goal

pub overflow_mul-result : goal.overflow_mul-result
overflow_mul-result c = omega (arith, c.bit.ensures, bit_small c.args.authenticates)

pub overflow_mul-result-2 : goal.overflow_mul-result-2
overflow_mul-result-2 c = omega (arith, c.kind_number.ensures, kind_small c.args.kind)

pub overflow_add-result : goal.overflow_add-result
overflow_add-result c = omega (arith, c.kind_number.ensures, kind_small c.args.kind, c.bit.ensures, bit_small c.args.authenticates)

pub overflow_add-result-2 : goal.overflow_add-result-2
overflow_add-result-2 c = omega (arith, c.kind_number.ensures, kind_small c.args.kind, c.bit.ensures, bit_small c.args.authenticates, c.stage_number.ensures, stage_small c.args.stage)
