use Rattle.lent_proxy.proofs.delivery.Laws.{settles_left}
use borrow.Author.Rules.{rules}
use Rattle.lent_proxy.proofs.delivery.settle.Goals as goal

pub returns : goal.returns
returns c =
    record {
      returned = rw c.standing_of.ensures;
      left = settles_left c.args.taken.held c.args.taken.bound.port c.args.taken.stage c.args.taken.bound.kind c.put_two.ensures.bytes c.put_two-2.ensures.bytes c.put_stage.ensures.0;
      stage = c.put_stage.ensures.1;
      port = search rules;
    }
