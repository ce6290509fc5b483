use Rattle.proxy_replies.proofs.write.type_of.Goals as goal

pub returns-in-Four : goal.returns-in-Four
returns-in-Four c = rw c.in-Four.is

pub returns-in-Six : goal.returns-in-Six
returns-in-Six c = rw c.in-Six.is
