use Rattle.lent_session.proofs.state.bound_at.Goals as goal

pub returns : goal.returns
returns c = λ i. record { kind = c.kind_at.ensures i; port = c.two_at.ensures.0 i }
