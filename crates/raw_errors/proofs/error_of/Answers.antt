use Rattle.std.proofs.Common.{ap, sym, arith}
use Rattle.std.proofs.lemmas.Bool.Decides.{nat_tests}
use Rattle.raw_errors.specs.Errors.{error_of, error_among}
use Rattle.raw_errors.proofs.error_of.Goals as goal

pub returns-in-1 : goal.returns-in-1
unfolding error_of error_among
returns-in-1 c = ap (λ n. error_of n c.args.status) (sym c.in-1.is)

pub returns-in-2 : goal.returns-in-2
unfolding error_of error_among
returns-in-2 c = ap (λ n. error_of n c.args.status) (sym c.in-2.is)

pub returns-in-3 : goal.returns-in-3
unfolding error_of error_among
returns-in-3 c = ap (λ n. error_of n c.args.status) (sym c.in-3.is)

pub returns-in-4 : goal.returns-in-4
unfolding error_of error_among
returns-in-4 c = ap (λ n. error_of n c.args.status) (sym c.in-4.is)

pub returns-in-5 : goal.returns-in-5
unfolding error_of error_among
returns-in-5 c = ap (λ n. error_of n c.args.status) (sym c.in-5.is)

pub returns-in-6 : goal.returns-in-6
unfolding error_of error_among
returns-in-6 c = ap (λ n. error_of n c.args.status) (sym c.in-6.is)

pub returns-in-7 : goal.returns-in-7
unfolding error_of error_among
returns-in-7 c = ap (λ n. error_of n c.args.status) (sym c.in-7.is)

pub returns-in-8 : goal.returns-in-8
unfolding error_of error_among
returns-in-8 c = ap (λ n. error_of n c.args.status) (sym c.in-8.is)

pub returns-in-9 : goal.returns-in-9
unfolding error_of error_among
returns-in-9 c = ap (λ n. error_of n c.args.status) (sym c.in-9.is)

pub returns-in-10 : goal.returns-in-10
unfolding error_of error_among
returns-in-10 c = ap (λ n. error_of n c.args.status) (sym c.in-10.is)

pub returns-in-12 : goal.returns-in-12
unfolding error_of error_among
returns-in-12 c = ap (λ n. error_of n c.args.status) (sym c.in-12.is)

pub returns-in-13 : goal.returns-in-13
unfolding error_of error_among
returns-in-13 c = ap (λ n. error_of n c.args.status) (sym c.in-13.is)

pub returns-in-14 : goal.returns-in-14
unfolding error_of error_among
returns-in-14 c = ap (λ n. error_of n c.args.status) (sym c.in-14.is)

pub returns-in-15 : goal.returns-in-15
unfolding error_of error_among
returns-in-15 c = ap (λ n. error_of n c.args.status) (sym c.in-15.is)

pub returns-in-17 : goal.returns-in-17
unfolding error_of error_among
returns-in-17 c = ap (λ n. error_of n c.args.status) (sym c.in-17.is)

pub returns-in-18 : goal.returns-in-18
unfolding error_of error_among
returns-in-18 c = ap (λ n. error_of n c.args.status) (sym c.in-18.is)

pub returns-in-19 : goal.returns-in-19
unfolding error_of error_among
returns-in-19 c = ap (λ n. error_of n c.args.status) (sym c.in-19.is)

pub returns-in-20 : goal.returns-in-20
unfolding error_of error_among
returns-in-20 c = ap (λ n. error_of n c.args.status) (sym c.in-20.is)

pub returns-in-21 : goal.returns-in-21
unfolding error_of error_among
returns-in-21 c = ap (λ n. error_of n c.args.status) (sym c.in-21.is)

pub returns-in-22 : goal.returns-in-22
unfolding error_of error_among
returns-in-22 c = ap (λ n. error_of n c.args.status) (sym c.in-22.is)

pub returns-in-23 : goal.returns-in-23
unfolding error_of error_among
returns-in-23 c = ap (λ n. error_of n c.args.status) (sym c.in-23.is)

pub returns-in-24 : goal.returns-in-24
unfolding error_of error_among
returns-in-24 c = ap (λ n. error_of n c.args.status) (sym c.in-24.is)

pub returns-in-25 : goal.returns-in-25
unfolding error_of error_among
returns-in-25 c = ap (λ n. error_of n c.args.status) (sym c.in-25.is)

pub returns-in-26 : goal.returns-in-26
unfolding error_of error_among
returns-in-26 c = ap (λ n. error_of n c.args.status) (sym c.in-26.is)

pub returns-in-27 : goal.returns-in-27
unfolding error_of error_among
returns-in-27 c = ap (λ n. error_of n c.args.status) (sym c.in-27.is)

pub returns-in_default : goal.returns-in_default
unfolding error_of error_among
returns-in_default c = grind (arith, nat_tests)
