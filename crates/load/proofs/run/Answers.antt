use Rattle.std.proofs.Common.{◌≡◌, ℕ, ◌+◌, ◌-◌, refl, subst, arith, rules}
use Rattle.load.specs.Runs.{RanOn}
use Rattle.load.proofs.Runs.{on_end, on_next, loaded}
use Rattle.load.proofs.run.Goals as goal

pub loop-preserved : goal.loop-preserved
loop-preserved c =
    let e : c.args.count - (c.loop.counter + 1) ≡ c.args.count - c.loop.counter - 1 = omega arith in
    record {
      lent = search rules;
      ran =
          λ r f.
          c.loop.invariant.ran r
          (on_next _ c.loop.tally (c.args.count - c.loop.counter) c.loop.out c.run_one-tally.result _ r (omega (arith, c.loop-test.true)) c.run_one-tally.ensures
          (subst (λ (n : ℕ). RanOn c.args.single c.run_one-tally.result n c.run_one-tally.new.out r) e f));
    }

pub returns : goal.returns
returns c = loaded _ _ _ _ _ refl (c.loop.invariant.ran _ (on_end _ c.loop.tally _ _ (omega (arith, c.loop-test.false))))
