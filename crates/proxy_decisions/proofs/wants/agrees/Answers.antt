use mathlib.Core.Path.{◌≡◌, refl, sym, ap, ◌∙◌}
use mathlib.Core.Bool.{Bool, ◌&&◌}
use mathlib.Core.List.{List, [], ◌∷◌}
use Prim.Native.Nat.{ℕ, ◌+◌, ◌-◌, ◌<◌}
use lib.ListN.{length, take, drop, length-drop}
use lib.Dec.{eqb}
use lib.Pointwise.{pointwise}
use borrow.Author.Tests.{lt-ltb, eq-eqb}
use Rattle.std.specs.List.{starts_with}
use Rattle.buffers.proofs.write.Parts.{part_from}
use Rattle.protocol.specs.Bytes.{byte, same}
use Rattle.proxy_spec.specs.Shortest.{agrees}
use Rattle.proxy_decisions.proofs.wants.agrees.Goals as goal

pointwise_same : (xs ys : List ℕ) → pointwise eqb xs ys ≡ same xs ys
unfolding same
pointwise_same [] [] = refl
pointwise_same [] (y ∷ ys) = refl
pointwise_same (x ∷ xs) [] = refl
pointwise_same (x ∷ xs) (y ∷ ys) = ap (λ (b : Bool). eqb x y && b) (pointwise_same xs ys)

-- as much of a text as is held behind its length
agrees_some : (at : ℕ) (h t : List ℕ) (b : ℕ) → at < length h → b ≡ byte h at → b ≡ length t → starts_with eqb t (take (length h - (at + 1)) (drop (at + 1) h)) ≡ agrees at h t
unfolding agrees
agrees_some at h t b l w e =
    let s : starts_with eqb t (drop (at + 1) h) ≡ same (drop (at + 1) h) (take (length h - (at + 1)) t) =
    rw (← length-drop (at + 1) h) (pointwise_same (drop (at + 1) h) (take (length (drop (at + 1) h)) t))
    in
    ap (starts_with eqb t) (part_from h (at + 1)) ∙ s ∙ rw (lt-ltb at (length h) l, eq-eqb (byte h at) (length t) (sym w ∙ e)) refl

pub returns-then-from-text : goal.returns-then-from-text
returns-then-from-text c =
    let a = c.args in
    let g = c.in-Some.ensures.lookup in
    c.starts_with.ensures.value ∙ agrees_some a.at a.held.now a.text.now _ g.3.0 (g.3.1 0) (sym c.from.ensures ∙ c.if-from-text.true)
