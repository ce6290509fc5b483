use Rattle.std.proofs.Common.{◌≡◌, Err, rules}
use Rattle.route_session.proofs.plan.Laws.{plans_empty, plans_refused, plans_on}
use Rattle.route_session.proofs.plan.+plan.Goals as goal

pub returns-in_default : goal.returns-in_default
returns-in_default t c =
    let a = c.args in
    plans_empty a.text.now a.host.now a.port a.proxies.now a.hops.now a.bytes.now c.in_default.ensures.cases

pub returns-in_err-prepared : goal.returns-in_err-prepared
returns-in_err-prepared t c =
    let a = c.args in
    let z : c.from_residual.result ≡ Err c.in_err-prepared.field-0.0 = search rules in
    plans_refused a.text.now a.host.now a.port a.proxies.now a.hops.now a.bytes.now c.in-Some.ensures.cases.0 c.prepare-prepared.ensures c.in_err-prepared.was z

pub returns : goal.returns
returns t c =
    let a = c.args in
    let k = c.keep.ensures in
    plans_on a.text.now a.host.now a.port a.proxies.now a.hops.now a.bytes.now c.in-Some.ensures.cases.0 c.told-hops c.told-bytes c.requires c.prepare-prepared.ensures c.in_ok-prepared.was k.requests.1 k.hop k.requests.0 c.plan.ensures
