use mathlib.Core.Path.{sym}
use mathlib.Core.Bool.{true≢false}
use Rattle.lent_proxy.proofs.delivery.Texts.{text_goes}
use Rattle.lent_proxy.proofs.delivery.goes_on.Goals as goal

pub returns-then-most-held : goal.returns-then-most-held
returns-then-most-held c e = absurd (true≢false (sym e))

pub returns-then-is_within : goal.returns-then-is_within
returns-then-is_within c e = let a = c.args in text_goes a.most a.held.now a.piece.now c.if-most-held.false (c.has_no_null.ensures e) (c.is_within.ensures c.if-is_within.true)

pub returns : goal.returns
returns c e = absurd (true≢false (sym e))
