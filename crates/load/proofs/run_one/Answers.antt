use Rattle.load.proofs.Runs.{named, ran_one}
use Rattle.load.proofs.run_one.Goals as goal

pub returns : goal.returns
returns c =
    ran_one _ c.args.tally c.choose-choice.result c.choose-choice.ensures.value c.replies_for-replies.result.now _ c.begin-started.result _ _ _
    (c.begin-started.ensures.by_index c.choose-choice.result.name (named _ _ c.requires.0 c.choose-choice.ensures.name_bound))
    c.replies_for-replies.ensures.opens c.feed.ensures
