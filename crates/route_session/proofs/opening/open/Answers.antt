use Rattle.std.proofs.Common.{◌≡◌, ℕ, ◌≤◌, List, ◌∙◌, sym, refl, ap, arith, length, take, rules}
use Rattle.std.proofs.Math.ListN.{length-map}
use lib.Seq.{length-take-le}
use Rattle.route_delivery.specs.declared.Spot.{Spot}
use Rattle.route_delivery.specs.Relay.{begun_spot}
use Rattle.route_session.specs.declared.plan.Proxy.{Proxy}
use Rattle.route_session.specs.plan.Plan.{proxy_of, proxies_of}
use Rattle.route_session.proofs.opening.Laws.{size_has, opens_refused, opens_sized, begins_as}
use Rattle.route_session.proofs.opening.Planned.{opens_accepted, opens_not}
use Rattle.route_session.proofs.opening.open.Goals as goal

row_long : (text : List ℕ) (proxies : List Proxy) (count : ℕ) → length proxies ≡ 8 → count ≤ 8 → length (proxies_of text (take count proxies)) ≡ count
row_long text proxies count eight few = length-map (take count proxies) (proxy_of text) ∙ length-take-le count proxies (omega (arith, eight, few))

pub returns-in-Err : goal.returns-in-Err
returns-in-Err c =
    let a = c.args in
    let eight : length a.proxies ≡ 8 = search rules in
    opens_refused a.text.now a.proxies eight a.count a.host.now a.port a.out.now c.check_size.ensures c.in-Err.is c.refuse.ensures

pub slice_bounds-plan-end : goal.slice_bounds-plan-end
slice_bounds-plan-end c = let h = size_has c.args.count (length c.args.out.now) (sym c.check_size.ensures ∙ c.in_default.is) in search rules

pub begin-first-requires : goal.begin-first-requires
begin-first-requires c = let h = size_has c.args.count (length c.args.out.now) (sym c.check_size.ensures ∙ c.in_default.is) in search rules

pub returns-in-Err-plan : goal.returns-in-Err-plan
returns-in-Err-plan c =
    let a = c.args in
    let eight : length a.proxies ≡ 8 = search rules in
    let (some, (few, room)) = size_has a.count (length a.out.now) (sym c.check_size.ensures ∙ c.in_default.is) in
    opens_sized a.text.now a.proxies eight a.count a.host.now a.port a.out.now c.check_size.ensures c.in_default.is
    (opens_not (proxies_of a.text.now (take a.count a.proxies)) a.host.now a.port (row_long a.text.now a.proxies a.count eight few) some a.out.now c.plan.ensures c.in-Err-plan.is c.refuse-in-Err-plan.ensures)

pub returns : goal.returns
returns c =
    let a = c.args in
    let eight : length a.proxies ≡ 8 = search rules in
    let (some, (few, room)) = size_has a.count (length a.out.now) (sym c.check_size.ensures ∙ c.in_default.is) in
    let p = c.plan.new in
    let b = c.begin-first in
    let value = b.ensures.value ∙ ap (λ (s : Spot). begun_spot p.hops s b.result.sent) c.ahead_of.ensures in
    opens_sized a.text.now a.proxies eight a.count a.host.now a.port a.out.now c.check_size.ensures c.in_default.is
    (opens_accepted (proxies_of a.text.now (take a.count a.proxies)) a.host.now a.port (row_long a.text.now a.proxies a.count eight few) some a.out.now c.plan.ensures c.in_default-plan.is
    (begins_as p.hops a.count p.bytes a.out.now b.result value (rw c.ahead_of.ensures at b.ensures.wrote) refl))
