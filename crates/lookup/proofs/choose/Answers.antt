use Rattle.std.proofs.Common.{rules, tests, ◌∙◌}
use Rattle.std.proofs.lemmas.Iterator.{YieldsList-from_slice}
use Rattle.std.proofs.lemmas.Iterator.Search.{find_from_yields_List}
use Prim.Native.Nat.{ℕ}
use mathlib.Core.Path.{ap}
use lib.ListN.{take}
use Rattle.buffers.proofs.write.Parts.{take_min}
use Rattle.lookup.specs.Chosen.{serves, chosen_of}
use Rattle.lookup.proofs.choose.Goals as goal

pub returns : goal.returns
returns c =
    let found = find_from_yields_List (λ r. serves c.args.four r.family) _ _ c.find.result c.find.ensures.ran (YieldsList-from_slice (take c.min-end.result c.args.records.now) (cc)) (λ x b q k. search (rules, tests)) in
    c.copied.ensures ∙ found ∙ ap (λ (n : ℕ). chosen_of c.args.four (take n c.args.records.now)) c.min-end.ensures ∙ ap (chosen_of c.args.four) (take_min c.args.most c.args.records.now)
