use native.Mathlib.Omega.{arith}
use borrow.Author.Rules.{rules}
use Rattle.requests.proofs.v4.Laws.{announcing, silent}
use Rattle.requests.proofs.v4.announces_name.Goals as goal

pub returns-in-0 : goal.returns-in-0
returns-in-0 c = announcing c.args.ip (search rules) (omega arith) (omega arith) (omega arith) (omega arith)

pub returns-in_default : goal.returns-in_default
returns-in_default c = silent c.args.ip (search rules) (λ p q r s. omega arith)

pub returns-in_default-2 : goal.returns-in_default-2
returns-in_default-2 c = silent c.args.ip (search rules) (λ p q r s. omega arith)

pub returns-in_default-3 : goal.returns-in_default-3
returns-in_default-3 c = silent c.args.ip (search rules) (λ p q r s. omega arith)

pub returns-in_default-4 : goal.returns-in_default-4
returns-in_default-4 c = silent c.args.ip (search rules) (λ p q r s. omega arith)
