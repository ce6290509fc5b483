use native.Mathlib.Omega.{arith}
use Rattle.lent_proxy.proofs.delivery.Laws.{text_part}
use borrow.Author.Rules.{rules}
use Rattle.lent_proxy.proofs.delivery.text_at.Goals as goal

pub overflow_add-end : goal.overflow_add-end
overflow_add-end c =
    let b = c.shared_slice_known-2-1.given c.args.size in
    let e = c.from.ensures in
    let p = c.requires.1 in
    search rules

pub slice_bounds-result-end : goal.slice_bounds-result-end
slice_bounds-result-end c = omega (arith, c.shared_slice_known-2-1.given c.args.size, c.from.ensures, c.requires.1)

pub returns : goal.returns
returns c = let a = c.args in text_part a.s.now a.at c.from.ensures
