use native.Mathlib.Omega.{arith}
use Rattle.lent_numbers.proofs.bytes.Laws.{number_split}
use Rattle.lent_numbers.proofs.bytes.four_at.Goals as goal

pub returns : goal.returns
returns c =
    let e = number_split c.args.s.now c.args.at 2 2 (omega arith) in
    (omega arith, omega arith)
