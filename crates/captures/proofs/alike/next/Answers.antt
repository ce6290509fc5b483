use Prim.Native.Nat.{ℕ, ◌-◌}
use native.Mathlib.Omega.{arith}
use mathlib.Core.Path.{sym, ap, subst}
use mathlib.Core.List.{List}
use lib.ListN.{length, drop, length-take, length-drop}
use Rattle.captures.proofs.alike.Laws.{Gone, next_at, nothing_left, entered, part_few}
use Rattle.captures.proofs.alike.next.Goals as goal

pub returns-in-len1-up-clause-byte : goal.returns-in-len1-up-clause-byte
returns-in-len1-up-clause-byte c = next_at c.args.direction c.loop-left.left.now c.loop-left.later.now c.in-len1-up.len_at_least c.loop-left.invariant.gone

pub returns-in-len1-up-clause-shorter : goal.returns-in-len1-up-clause-shorter
returns-in-len1-up-clause-shorter c =
    let l = c.loop-left.left.now in
    omega (arith, length-take (length l - 1) (drop 1 l), length-drop 1 l, c.in-len1-up.len_at_least, c.loop-left.invariant.few)

pub returns-in_err-entry-clause-none : goal.returns-in_err-entry-clause-none
returns-in_err-entry-clause-none c =
    rw c.from_residual.ensures (nothing_left c.args.direction c.loop-left.left.now c.loop-left.later.now c.in_default.len_below c.loop-left.invariant.gone c.in_err-entry.ensures.none)

pub loop-left-smaller : goal.loop-left-smaller
loop-left-smaller c = omega (arith, c.in_ok-entry.ensures.shorter)

pub loop-left-preserved : goal.loop-left-preserved
loop-left-preserved c =
    let d = c.args.direction in
    let e = c.in_ok-entry.entry in
    record {
      gone = subst (λ (l : List ℕ). Gone d c.args.bytes.now c.args.behind.now l e.behind.now) (sym c.part-left.ensures) (entered d c.loop-left.left.now c.loop-left.later.now c.in_default.len_below c.loop-left.invariant.gone e.direction e.bytes.now e.behind.now c.in_ok-entry.ensures.entry);
      few = omega (arith, ap length c.part-left.ensures, part_few d e.direction e.bytes.now, c.in_ok-entry.ensures.shorter, c.loop-left.invariant.few);
    }
