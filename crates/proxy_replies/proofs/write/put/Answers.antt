use Rattle.proxy_replies.proofs.write.Laws.{wrote_none, own_connect, own_request}
use Rattle.proxy_replies.proofs.write.put.Goals as goal

pub returns-in-Nothing : goal.returns-in-Nothing
returns-in-Nothing c = rw c.in-Nothing.is (wrote_none c.args.out.now c.args.at c.requires)

pub returns-in-Method : goal.returns-in-Method
returns-in-Method c = rw c.in-Method.is c.put_two.ensures

pub returns-in-Login : goal.returns-in-Login
returns-in-Login c = rw c.in-Login.is c.put_two-in-Login.ensures

pub returns-in-Reply5 : goal.returns-in-Reply5
returns-in-Reply5 c = rw c.in-Reply5.is (own_connect _ c.no_address.ensures c.put_connect_reply.ensures)

pub returns-in-Reply4 : goal.returns-in-Reply4
returns-in-Reply4 c = rw c.in-Reply4.is (own_request _ c.no_address-in-Reply4.ensures c.put_request_reply.ensures)
