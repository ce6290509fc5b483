use mathlib.Core.Path.{◌∙◌}
use Rattle.std.proofs.lemmas.Bool.{MatchBool-at_true}
use Rattle.utf8.proofs.text.Laws.{in_two_lem, in_two_ascii}
use Rattle.utf8.proofs.text.is_utf8_in_two.Goals as goal

pub returns-then-is_ascii-2 : goal.returns-then-is_ascii-2
returns-then-is_ascii-2 c =
    in_two_ascii _ _ (MatchBool-at_true _ _ c.if-is_ascii.true c.is_ascii.ensures.cases)
    (MatchBool-at_true _ _ c.if-is_ascii-2.true c.is_ascii-then-is_ascii.ensures.cases)

pub returns : goal.returns
returns c = c.is_boundary.ensures ∙ in_two_lem _ _ _ _ c.scanned.ensures c.scanned-2.ensures
