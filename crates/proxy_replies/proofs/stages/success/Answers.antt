use Rattle.proxy_replies.proofs.stages.success.Goals as goal

pub returns-in-V4 : goal.returns-in-V4
returns-in-V4 c = rw c.in-V4.is

pub returns-in-V5 : goal.returns-in-V5
returns-in-V5 c = rw c.in-V5.is
