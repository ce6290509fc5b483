use mathlib.Core.Path.{◌∙◌}
use mathlib.Core.List.{[], ◌∷◌}
use Rattle.lent_route.proofs.Laws.{all_slots}
use Rattle.lent_route.proofs.state.hops_at.Goals as goal

pub returns : goal.returns
returns c =
    (λ i. c.hop_at.ensures i
    ∷ c.hop_at-2.ensures i
    ∷ c.hop_at-3.ensures i
    ∷ c.hop_at-4.ensures i
    ∷ c.hop_at-5.ensures i
    ∷ c.hop_at-6.ensures i
    ∷ c.hop_at-7.ensures i
    ∷ c.hop_at-8.ensures i
    ∷ [])
    ∙ all_slots c.args.s.now c.args.last c.requires.1
