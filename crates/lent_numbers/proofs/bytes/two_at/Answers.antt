use Prim.Native.Nat.{◌+◌}
use native.Mathlib.Omega.{arith}
use Rattle.lent_numbers.proofs.bytes.Laws.{number_two}
use Rattle.lent_numbers.proofs.bytes.two_at.Goals as goal

pub overflow_mul-result : goal.overflow_mul-result
overflow_mul-result c = omega (arith, c.shared_slice_known-3-1.given (c.args.at + 1))

pub overflow_add-result : goal.overflow_add-result
overflow_add-result c =
    let at = c.args.at in
    omega (arith, c.shared_slice_known-3-1.given at, c.shared_slice_known-3-1.given (at + 1))

pub returns : goal.returns
returns c =
    let a = c.args in
    let e = number_two a.s.now a.at c.requires in (
      omega arith,
      omega (arith, c.shared_slice_known-3-1.given a.at, c.shared_slice_known-3-1.given (a.at + 1)),
    )
