use borrow.Author.Tests.{eqb-true}
use lib.ListN.{length}
use Prim.Native.Nat.{ℕ}
use mathlib.Core.Path.{sym, ap, ◌∙◌}
use mathlib.Core.List.{List, []}
use Rattle.captures_spec.specs.Reading.{row_of}
use Rattle.captures_spec.proofs.Rows.{row_first}
use Rattle.captures.specs.Calls.{whole}
use Rattle.captures.proofs.entries.Laws.{no_bytes}
use Rattle.captures.proofs.entries.check_whole.Goals as goal

pub returns-then-is_empty : goal.returns-then-is_empty
returns-then-is_empty c =
    let e = no_bytes c.loop-entry.rest.now (eqb-true (length c.loop-entry.rest.now) 0 (sym c.is_empty.ensures ∙ c.if-is_empty.true)) in
    ap whole (sym (row_first [])) ∙ ap (λ (l : List ℕ). whole (row_of l)) (sym e) ∙ c.loop-entry.invariant
