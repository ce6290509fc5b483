use Rattle.lent_proxy.proofs.answering.record_of.Goals as goal

pub returns : goal.returns
returns c = rw c.family_of.ensures
