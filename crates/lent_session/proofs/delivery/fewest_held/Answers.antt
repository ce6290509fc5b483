use Rattle.std.proofs.Common.{take, drop}
use Rattle.lent_session.proofs.delivery.Quick.{hold_long, fewest_two, fewest_eight, fewest_three, fewest_proxies, is_proxy}
use Rattle.lent_session.proofs.delivery.fewest_held.Goals as goal

pub returns-then-n-lt5 : goal.returns-then-n-lt5
returns-then-n-lt5 c = λ e q h. fewest_two e q c.if-n-lt5.true c.args.held (take 261 (drop 21 c.args.s.now)) (hold_long c.args.s.now c.requires) h

pub returns-then-n-eq6 : goal.returns-then-n-eq6
returns-then-n-eq6 c = λ e q h. fewest_eight e q c.if-n-eq6.true c.args.held (take 261 (drop 21 c.args.s.now)) (hold_long c.args.s.now c.requires) h

pub returns-then-held-lt5 : goal.returns-then-held-lt5
returns-then-held-lt5 c = λ e q h. fewest_proxies e (is_proxy e q c.if-n-lt5.false c.if-n-eq6.false) c.args.held 3 (take 261 (drop 21 c.args.s.now)) (fewest_three c.args.held (take 261 (drop 21 c.args.s.now)) (hold_long c.args.s.now c.requires) h)

pub returns : goal.returns
returns c = λ e q h. fewest_proxies e (is_proxy e q c.if-n-lt5.false c.if-n-eq6.false) c.args.held c.fewest_proxy.result (take 261 (drop 21 c.args.s.now)) (c.fewest_proxy.ensures c.args.held c.if-held-lt5.false h)
