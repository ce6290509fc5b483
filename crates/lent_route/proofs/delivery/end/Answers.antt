use native.Mathlib.Omega.{arith}
use Rattle.lent_route.proofs.Prefix.{first_long}
use mathlib.Core.Path.{sym}
use Rattle.protocol.specs.Bytes.{Bytes}
use Rattle.lent_route.proofs.delivery.Ending.{ends_so}
use Rattle.lent_route.proofs.delivery.end.Goals as goal

pub slice_bounds-end-end-2 : goal.slice_bounds-end-end-2
slice_bounds-end-end-2 c = sym (first_long c.args.s.now c.requires)

pub end-requires : goal.end-requires
end-requires c = first_long c.args.s.now c.requires

pub returns : goal.returns
returns c =
    let s = c.args.s.now in
    let bytes : Bytes s = λ i. let h = c.slice_known-1.given i in omega arith in
    ends_so s bytes c.requires c.end.ensures
