use Rattle.std.proofs.Common.{rules}
use Rattle.load.proofs.Runs.{fed_more, fed_end, fed_from}
use Rattle.load.proofs.feed.Goals as goal

pub loop-rest-preserved : goal.loop-rest-preserved
loop-rest-preserved c = record {
  lent = search rules;
  fed =
      λ r out' f.
      c.loop-rest.invariant.fed r out'
      (fed_more _ c.loop-rest.session c.loop-rest.out c.loop-rest.tally c.loop-rest.rest.now c.next_piece-piece.result c.deliver-delivered.result _ c.add-tally-in-loop-rest.result r out'
      c.split_at.ensures.front c.split_at.ensures.back (search rules) c.next_piece-piece.ensures.value c.deliver-delivered.ensures c.add-tally-in-loop-rest.ensures f);
}

pub returns : goal.returns
returns c =
    fed_from _ _ _ _ c.args.from c.add-tally.result _ _ _ c.add-tally.ensures
    (c.loop-rest.invariant.fed _ _ (fed_end _ c.loop-rest.session _ c.loop-rest.tally _ c.loop-rest.rest.now (search rules) c.settle.ensures))
