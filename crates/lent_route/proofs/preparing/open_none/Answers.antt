use Rattle.lent_route.proofs.preparing.open_none.Goals as goal

pub returns : goal.returns
returns c = let (x, y) = c.fail-answer.ensures in (λ i. record { used = 0; sent = 0; answer = x i; outcome = record { state = 2; number = x i; status = 0 } }, y)
