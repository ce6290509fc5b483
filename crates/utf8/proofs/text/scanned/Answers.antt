use borrow.Author.Rules.{rules}
use mathlib.Core.Path.{◌∙◌}
use Prim.Native.Nat.{ℕ}
use Rattle.std.proofs.lemmas.Iterator.{YieldsList-from_slice}
use Rattle.std.proofs.lemmas.Iterator.Consumers.{fold_from_yields_List}
use Rattle.protocol.specs.declared.Utf8State.{Utf8State}
use Rattle.protocol.specs.Utf8.{class_of, next}
use Rattle.utf8.proofs.text.Laws.{scan_fold}
use Rattle.utf8.proofs.text.scanned.Goals as goal

pub returns : goal.returns
returns c =
    fold_from_yields_List _ (λ (x : Utf8State) (b : ℕ). next x (class_of b)) _ _ c.fold.ensures.ran
    (YieldsList-from_slice c.args.s.now cc) (λ a x b q k. search rules)
    ∙ scan_fold _ _
