use Rattle.lent_session.proofs.delivery.refused.Goals as goal

pub returns : goal.returns
returns c = λ i. record { used = 0; sent = 0; answer = c.number.ensures i; outcome = c.told.ensures i }
