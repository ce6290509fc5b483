use Rattle.std.proofs.Common.{rules, sym, ◌∙◌, ◌≡◌}
use mathlib.Core.List.{◌++◌}
use Rattle.client_delivery.proofs.bound_address.Laws.{finds_four, finds_six, finds_name}
use Rattle.client_delivery.proofs.bound_address.in_proxy_res.Goals as goal

pub returns-in-1 : goal.returns-in-1
returns-in-1 c = finds_four (c.args.held.now ++ c.args.piece.now) c.requires (sym c.byte.ensures ∙ c.in-1.is) c.port_at.ensures c.stands.ensures

pub returns-in-4 : goal.returns-in-4
returns-in-4 c = finds_six (c.args.held.now ++ c.args.piece.now) c.requires (sym c.byte.ensures ∙ c.in-4.is) c.port_at-in-4.ensures c.stands-in-4.ensures

pub returns-in_default : goal.returns-in_default
returns-in_default c =
    let t = c.byte.ensures in
    let d : c.byte.result ≡ 1 → ⊥ = search rules in
    let e : c.byte.result ≡ 4 → ⊥ = search rules in
    finds_name (c.args.held.now ++ c.args.piece.now) c.requires (λ q. d (t ∙ q)) (λ q. e (t ∙ q)) (search rules) (search rules) c.port_at-in_default.ensures c.stands-in_default.ensures
