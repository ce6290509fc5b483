use mathlib.Core.Path.{◌≡◌, ap, ◌∙◌}
use mathlib.Core.List.{List, ◌++◌}
use Prim.Native.Nat.{ℕ}
use Rattle.reader.specs.declared.Took.{Took}
use Rattle.reader.specs.declared.Two.{Two}
use Rattle.reader.specs.declared.Three.{Three}
use Rattle.reader.specs.Reader.{byte_at, two_at, three_at}
use Rattle.reader.proofs.three_at.Goals as goal

abbrev made : Two → Took → Three
made p c = record { first = p.first; second = p.second; third = c.byte; came = c.came; at = c.at }

made_said : (s : List ℕ) (n : ℕ) (p : Two) (c : Took) → p ≡ two_at s n → c ≡ byte_at s p.at → made p c ≡ three_at s n
unfolding two_at three_at
made_said s n p c e f = let g = f ∙ ap (λ (x : Two). byte_at s x.at) e in λ i. made (e i) (g i)

pub returns : goal.returns
returns c =
    let a = c.args in
    made_said (a.held.now ++ a.piece.now) a.at c.two_at-p.result c.byte_at-c.result c.two_at-p.ensures c.byte_at-c.ensures
