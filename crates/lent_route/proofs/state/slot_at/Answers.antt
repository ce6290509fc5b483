use Rattle.lent_route.proofs.state.slot_at.Goals as goal

pub returns : goal.returns
returns c =
    λ i. record {
      first = c.reply_at.ensures i;
      lengths = record {
        optimistic = c.truth.ensures i;
        first = c.two_at.ensures.0 i;
        authentication = c.two_at-2.ensures.0 i;
        proxy = c.two_at-3.ensures.0 i;
      };
    }
