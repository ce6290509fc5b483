use Rattle.std.proofs.Common.{arith, rules}
use Rattle.address_format.proofs.groups.Puts.{five, part_length, row_none, row_first}
use Rattle.address_format.proofs.numerals.Laws.{nothing, then}
use Rattle.address_format.proofs.groups.put_row.Goals as goal

pub returns-in_default-clause-adds : goal.returns-in_default-clause-adds
returns-in_default-clause-adds c = rw (row_none c.args.base c.args.mark c.args.values.now (omega arith)) (nothing _ _)

pub put_digits-end-requires : goal.put_digits-end-requires
put_digits-end-requires c =
    let f = five c.args.base c.from.result (omega arith) (omega (arith, c.type_inv.values 0)) in
    (search rules, (search rules, omega arith))

pub put_behind-requires : goal.put_behind-requires
put_behind-requires c =
    let f = five c.args.base c.from.result (omega arith) (omega (arith, c.type_inv.values 0)) in
    (search rules, (search rules, omega (arith, part_length c.args.values.now 1)))

pub returns-clause-upper_bound : goal.returns-clause-upper_bound
returns-clause-upper_bound c =
    let f = five c.args.base c.from.result (omega arith) (omega (arith, c.type_inv.values 0)) in
    omega (arith, part_length c.args.values.now 1)

pub returns-clause-adds : goal.returns-clause-adds
returns-clause-adds c =
    let a = c.args in
    rw (row_first a.base a.mark a.values.now c.from.result (omega arith) c.from.ensures) (then c.put_digits-end.ensures c.put_behind.ensures.adds)
