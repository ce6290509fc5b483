use borrow.Author.Rules.{rules}
use native.Mathlib.Omega.{arith}
use mathlib.Core.Path.{◌≡◌, refl, sym, ap, ◌∙◌}
use Prim.Native.Nat.{ℕ, ◌+◌}
use lib.ListN.{length, set, get_or}
use mathlib.Core.List.{List}
use native.Mathlib.Numerals.{add-one}
use lib.Seq.{paste, paste-zero, paste-suc, length-paste}
use Rattle.buffers.proofs.write.Laws.{paste_overwrite}
use Rattle.buffers.proofs.write.copy.Goals as goal

pub loop-i-init : goal.loop-i-init
loop-i-init c = (refl, (omega arith, paste-zero c.args.out.now c.args.at c.args.src.now))

pub bounds-out-at : goal.bounds-out-at
bounds-out-at c =
    let h = ap length c.loop-i.invariant.1.1 ∙ length-paste c.args.out.now c.args.at c.args.src.now c.loop-i.i (omega arith) (omega arith) in
    omega arith

pub loop-i-preserved : goal.loop-i-preserved
loop-i-preserved c =
    let l = c.loop-i in (
      refl,
      (
        omega arith,
        ap (λ (x : List ℕ). set x (c.args.at + l.i) (get_or c.args.src.now l.i 0)) l.invariant.1.1
            ∙ paste-suc c.args.out.now c.args.at c.args.src.now l.i 0 (omega arith) (omega arith)
            ∙ ap (paste c.args.out.now c.args.at c.args.src.now) (sym (add-one l.i)),
      ),
    )

pub shape_of-out : goal.shape_of-out
shape_of-out c =
    let l = c.loop-i in
    ap length l.invariant.1.1 ∙ length-paste c.args.out.now c.args.at c.args.src.now l.i (omega arith) (omega arith)

pub returns : goal.returns
returns c =
    let l = c.loop-i in
    let e : l.i ≡ length c.args.src.now = omega arith in
    record {
      inside = search rules;
      place = refl;
      bytes = l.invariant.1.1 ∙ ap (paste c.args.out.now c.args.at c.args.src.now) e ∙ paste_overwrite _ _ _;
    }
