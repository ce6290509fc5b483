use Prim.Native.Nat.{ℕ, min}
use native.Mathlib.Omega.{arith}
use mathlib.Core.Path.{refl, ap, ◌∙◌}
use lib.ListN.{take, drop}
use borrow.Rule.Slice.PartMut.{same_len_mid}
use Rattle.proxy_delivery.proofs.piece.Keeping.{place_inside}
use Rattle.lent_proxy.proofs.delivery.Laws.{awaits_some, hold_long, least_small, leaves_decided}
use Rattle.lent_proxy.proofs.delivery.decide.Goals as goal

pub came_to-taken-requires : goal.came_to-taken-requires
came_to-taken-requires c =
    let a = c.args in
    let w = c.work_at-turn.ensures in
    let n = c.min-n in
    let l = hold_long a.s.now c.requires.0 in
    let m = least_small a.held n.ensures in
    (l, m, w.spans, place_inside n.result (take 1014 (drop 15 a.s.now)) a.piece.now l m _ w.inside, w.rests, w.ready)

pub settle-requires : goal.settle-requires
settle-requires c = same_len_mid 15 1014 c.args.s.now c.came_to-taken.new.hold c.s-1.given.0 ∙ c.requires.0

pub returns : goal.returns
returns c =
    let a = c.args in
    let p = c.requires in
    leaves_decided a.s.now a.piece.now a.out.now (λ i. omega (arith, c.slice_known-1.given i)) p.0 refl (awaits_some _ _ a.field p.2) a.field p.2 p.1 (λ e. omega (arith, p.4)) (c.min-n.ensures ∙ ap (λ (k : ℕ). min k 1014) p.3) c.work_at-turn.ensures (rw c.bound_at-bound.ensures at c.came_to-taken.ensures) (c.s-1.given.0 ∙ hold_long a.s.now p.0) refl c.settle.ensures
