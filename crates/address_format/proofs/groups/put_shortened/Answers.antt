use Rattle.address_format.proofs.groups.Puts.{part_length}
use Rattle.address_format.proofs.groups.Puts.{rows}
use Rattle.address_format.proofs.numerals.Laws.{two}
use borrow.Author.Rules.{rules}
use lib.ListN.{length, take, drop, length-set}
use lib.Seq.{length-take-le}
use mathlib.Core.Path.{◌≡◌, sym}
use native.Mathlib.Omega.{arith}
use Prim.Native.Nat.{◌-◌}
use Rattle.address_format.proofs.groups.put_shortened.Goals.{Start}
use Rattle.address_format.proofs.groups.put_shortened.Goals as goal

-- how many groups stand before the run, and behind it
front : (c : Start) → length (take c.args.start c.args.groups.now) ≡ c.args.start
front c = length-take-le c.args.start c.args.groups.now (omega arith)

back : (c : Start) → length (take (length c.args.groups.now - c.args.behind) (drop c.args.behind c.args.groups.now)) ≡ length c.args.groups.now - c.args.behind
back c = part_length c.args.groups.now c.args.behind

pub slice_bounds-put_row-end : goal.slice_bounds-put_row-end
slice_bounds-put_row-end c = sym (front c.before.before.before)

pub put_row-end-requires : goal.put_row-end-requires
put_row-end-requires c = (search rules, (search rules, omega (arith, front c.before.before.before.before)))

pub bounds-out-end : goal.bounds-out-end
bounds-out-end c = omega (arith, front c.before.before.before.before.before.before.before, c.put_row-end.ensures.adds.same)

pub overflow_add-out : goal.overflow_add-out
overflow_add-out c = omega (arith, front c.before.before.before.before.before.before.before, c.put_row-end.ensures.adds.same)

pub bounds-out-end-2 : goal.bounds-out-end-2
bounds-out-end-2 c = simp length-set (omega (arith, front c.before.before.before.before.before.before.before, c.put_row-end.ensures.adds.same))

pub overflow_add-end : goal.overflow_add-end
overflow_add-end c = omega (arith, front c.before.before.before.before.before.before.before.before.before, c.put_row-end.ensures.adds.same)

pub put_row-requires : goal.put_row-requires
put_row-requires c =
    let b = c.before.before.before.before.before.before.before.before.before in
    (search rules, (search rules, simp length-set (omega (arith, front b, back b, c.put_row-end.ensures.adds.same))))

pub shape_of-out : goal.shape_of-out
shape_of-out c = omega (arith, simp length-set at c.put_row.ensures.adds.same, c.put_row-end.ensures.adds.same)

pub returns : goal.returns
returns c =
    let b = c.before.before.before.before.before.before.before.before.before.before.before.before in
    let p = c.put_row-end in
    let q = c.put_row in
    let g = b.args in
    record { upper_bound = omega (arith, front b, back b, p.ensures.upper_bound, q.ensures.upper_bound); adds = rows g.groups.now g.start g.behind p.ensures.adds (two _ _ _ _ (omega (arith, front b, p.ensures.adds.same))) q.ensures.adds }
