use mathlib.Core.Path.{◌≡◌, sym, ap, ◌∙◌}
use mathlib.Core.Bool.{true}
use mathlib.Core.List.{List, ◌++◌}
use Prim.Native.Nat.{ℕ}
use Rattle.reader.specs.declared.Two.{Two}
use Rattle.reader.specs.Reader.{two_at}
use Rattle.reader.proofs.Came.{CameTwo, two_came, two_short}
use Rattle.replies.proofs.v5.Returns.{type_passed, type_refused}
use Rattle.reader.proofs.Returns.{undecided}
use Rattle.replies.proofs.v5.type_at.Goals as goal

-- the two bytes behind the first three
came : (bs : List ℕ) (at : ℕ) (p : Two) → at ≡ 3 → p ≡ two_at bs at → p.came ≡ true → CameTwo bs 3 2 p
came bs at p three e t = two_came bs 3 p (e ∙ ap (two_at bs) three) t

pub whole_at-requires : goal.whole_at-requires
whole_at-requires c =
    let bs = c.args.held.now ++ c.args.piece.now in
    let p = c.two_at-t in
    let k = came bs c.args.at p.result c.requires.0 p.ensures c.if-t.true in
    (k.place, c.requires.1, k.first, k.second)

pub returns-then-type_allowed : goal.returns-then-type_allowed
returns-then-type_allowed c =
    let bs = c.args.held.now ++ c.args.piece.now in
    let p = c.two_at-t in
    let k = came bs c.args.at p.result c.requires.0 p.ensures c.if-t.true in
    type_passed bs p.result k c.whole_at.result c.whole_at.ensures (sym c.type_allowed.ensures ∙ c.if-type_allowed.true)

pub returns-then-t : goal.returns-then-t
returns-then-t c =
    let bs = c.args.held.now ++ c.args.piece.now in
    let p = c.two_at-t in
    let k = came bs c.args.at p.result c.requires.0 p.ensures c.if-t.true in
    cc (k.place, type_refused bs p.result k (sym c.type_allowed.ensures ∙ c.if-type_allowed.false))

pub returns : goal.returns
returns c =
    let bs = c.args.held.now ++ c.args.piece.now in
    let p = c.two_at-t in
    undecided 5 bs _ (two_short bs 3 p.result (p.ensures ∙ ap (two_at bs) c.requires.0) c.if-t.false)
