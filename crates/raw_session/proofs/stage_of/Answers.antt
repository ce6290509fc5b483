use Rattle.std.proofs.Common.{ap, sym, arith}
use Rattle.std.proofs.lemmas.Bool.Decides.{nat_tests}
use Rattle.raw_session.specs.Raw.{stage_of}
use Rattle.raw_session.proofs.stage_of.Goals as goal

pub returns-in-1 : goal.returns-in-1
unfolding stage_of
returns-in-1 c = ap (λ n. stage_of n c.args.error c.args.status) (sym c.in-1.is)

pub returns-in-2 : goal.returns-in-2
unfolding stage_of
returns-in-2 c = ap (λ n. stage_of n c.args.error c.args.status) (sym c.in-2.is)

pub returns-in-3 : goal.returns-in-3
unfolding stage_of
returns-in-3 c = ap (λ n. stage_of n c.args.error c.args.status) (sym c.in-3.is)

pub returns-in-4 : goal.returns-in-4
unfolding stage_of
returns-in-4 c = ap (λ n. stage_of n c.args.error c.args.status) (sym c.in-4.is)

pub returns-in-5 : goal.returns-in-5
unfolding stage_of
returns-in-5 c = ap (λ n. stage_of n c.args.error c.args.status) (sym c.in-5.is)

pub returns-in-6 : goal.returns-in-6
unfolding stage_of
returns-in-6 c = ap (λ n. stage_of n c.args.error c.args.status) (sym c.in-6.is)

pub returns-in-7 : goal.returns-in-7
unfolding stage_of
returns-in-7 c = ap (λ n. stage_of n c.args.error c.args.status) (sym c.in-7.is)

pub returns-in_default : goal.returns-in_default
unfolding stage_of
returns-in_default c = grind (arith, nat_tests, c.error_of.ensures)
