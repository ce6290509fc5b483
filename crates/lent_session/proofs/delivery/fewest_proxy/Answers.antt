use Rattle.std.proofs.Common.{arith}
use Rattle.lent_session.proofs.delivery.Quick.{fewest_ipv4, fewest_ipv6, fewest_name, fewest_other}
use Rattle.lent_session.proofs.delivery.fewest_proxy.Goals as goal

pub returns-then-s-ne5 : goal.returns-then-s-ne5
returns-then-s-ne5 c = λ held m h p w. fewest_other c.args.s.now c.requires held m h p w

pub returns-then-s-gt8 : goal.returns-then-s-gt8
returns-then-s-gt8 c = λ held m h p w. fewest_other c.args.s.now c.requires held m h p w

pub returns-then-s-ne0 : goal.returns-then-s-ne0
returns-then-s-ne0 c = λ held m h p w. fewest_other c.args.s.now c.requires held m h p w

pub returns-then-s-eq0 : goal.returns-then-s-eq0
returns-then-s-eq0 c = λ held m h p w. fewest_other c.args.s.now c.requires held m h p w

pub overflow_add-result : goal.overflow_add-result
overflow_add-result c = omega (arith, c.from.ensures, c.shared_slice_known-then-s-eq3-2-1.given 25)

pub returns-then-s-eq3 : goal.returns-then-s-eq3
returns-then-s-eq3 c = λ held m h p w. fewest_name c.args.s.now c.requires held m h p (record { version = c.if-s-ne5.false; reply = c.if-s-gt8.false; reserved = c.if-s-ne0.false }) c.if-s-eq3.true c.if-s-eq0.false c.from.ensures w

pub returns-then-s-eq1 : goal.returns-then-s-eq1
returns-then-s-eq1 c = λ held m h p w. fewest_ipv4 c.args.s.now c.requires held m h p (record { version = c.if-s-ne5.false; reply = c.if-s-gt8.false; reserved = c.if-s-ne0.false }) c.if-s-eq1.true w

pub returns-then-s-eq4 : goal.returns-then-s-eq4
returns-then-s-eq4 c = λ held m h p w. fewest_ipv6 c.args.s.now c.requires held m h p (record { version = c.if-s-ne5.false; reply = c.if-s-gt8.false; reserved = c.if-s-ne0.false }) c.if-s-eq4.true w

pub returns : goal.returns
returns c = λ held m h p w. fewest_other c.args.s.now c.requires held m h p w
