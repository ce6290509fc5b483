use borrow.Author.Tests.{lt-ltb, le-ltb}
use Rattle.lent_texts.proofs.Laws.{picks_error, picked_copied}
use Rattle.lent_texts.proofs.error_text.Goals as goal

pub returns-then-number-lt28 : goal.returns-then-number-lt28
returns-then-number-lt28 c =
    picked_copied (picks_error c.ranges.number.fits (simp (lt-ltb _ _ c.if-number-lt28.true))) c.text.ensures

pub returns : goal.returns
returns c =
    picked_copied (picks_error c.ranges.number.fits (simp (le-ltb _ _ c.if-number-lt28.false))) c.text-2.ensures
