use lib.ListN.{take, drop}
use Rattle.lent_route.proofs.telling.Laws.{text_same}
use native.Mathlib.Omega.{arith}
use Rattle.lent_route.proofs.Prefix.{prefix, first_long}
use mathlib.Core.Path.{sym, ap, ◌∙◌}
use Rattle.client_session.specs.declared.Session.{Session}
use mathlib.Core.Path.{subst}
use Rattle.client_session.specs.Session.{write_bound}
use Rattle.address_format.specs.endpoint.Written.{TextCall}
use Rattle.lent_session.specs.Calls.{Tells}
use Rattle.lent_route.proofs.telling.bound_text.Goals as goal

pub slice_bounds-bound_text-end : goal.slice_bounds-bound_text-end
slice_bounds-bound_text-end c = sym (first_long c.args.s.now c.requires)

pub bound_text-requires : goal.bound_text-requires
bound_text-requires c = first_long c.args.s.now c.requires

pub returns : goal.returns
returns c =
    let a = c.args in
    let s = a.s.now in
    let v = c.bound_text in
    let q = ap (λ (x : Session). write_bound x a.text.now) (prefix s (omega (arith, c.requires))) ∙ text_same s (take 1024 (drop 282 s)) a.text.now in
    record { tells = subst (λ (t : TextCall). Tells t v.result v.new.text) q v.ensures.tells; enough = v.ensures.enough }
