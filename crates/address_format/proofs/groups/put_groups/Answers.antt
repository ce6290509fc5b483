use Rattle.address_format.proofs.groups.Puts.{not_shortened, shortened}
use native.Mathlib.Omega.{arith}
use borrow.Author.Rules.{rules}
use Rattle.address_format.proofs.groups.put_groups.Goals as goal

pub returns-then-run-le1 : goal.returns-then-run-le1
returns-then-run-le1 c =
    let l = c.longest_run-run in
    record { upper_bound = search rules; adds = rw (not_shortened c.args.groups.now l.result.count l.ensures.1.0 (omega arith)) c.put_row.ensures.adds }

pub returns : goal.returns
returns c =
    let l = c.longest_run-run in
    record { upper_bound = search rules; adds = rw (shortened c.args.groups.now l.result.count l.ensures.1.0 l.result.start l.ensures.0 (omega arith)) c.put_shortened.ensures.adds }
