use Rattle.std.proofs.Common.{◌<◌, ◌≤◌, length, arith, rules}
use Rattle.client_delivery.proofs.wants.Laws.{least_whole, least_typed, least_may, least_three, least_five}
use Rattle.client_delivery.proofs.wants.proxy_least.Goals as goal

pub returns-then-may_connect : goal.returns-then-may_connect
returns-then-may_connect c =
    let few : length c.args.held.now < 4 = search rules in
    (least_may _ _ (omega arith) (λ z. omega arith) c.may_connect-in-0-to-3.ensures c.if-may_connect.true, omega arith)

pub returns-then-held-lt3 : goal.returns-then-held-lt3
returns-then-held-lt3 c = (least_three _ _ c.if-held-lt3.true c.may_connect-in-0-to-3.ensures c.if-may_connect.false, omega arith)

pub returns-else-held-lt3 : goal.returns-else-held-lt3
returns-else-held-lt3 c =
    let few : length c.args.held.now < 4 = search rules in
    (least_five _ _ (omega arith) (λ z. omega arith) c.if-held-lt3.false c.may_connect-in-0-to-3.ensures c.if-may_connect.false, omega arith)

pub returns-in-4 : goal.returns-in-4
returns-in-4 c = least_typed _ _ _ c.in-4.is c.may_connect.ensures c.size_from.ensures

pub returns-in_default : goal.returns-in_default
returns-in_default c =
    let most : 5 ≤ length c.args.held.now = search rules in
    least_whole _ _ most c.rest_size.ensures
