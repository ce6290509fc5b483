use native.Mathlib.Omega.{arith}
use Rattle.lent_numbers.proofs.bytes.Laws.{number_split}
use Rattle.lent_numbers.proofs.bytes.eight_at.Goals as goal

pub returns : goal.returns
returns c =
    let e = number_split c.args.s.now c.args.at 4 4 (omega arith) in
    omega arith
