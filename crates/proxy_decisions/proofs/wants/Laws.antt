-- F-3: how many bytes are wanted of a name that has begun.
use Prim.Native.Nat.{ℕ, ◌≤◌}
use mathlib.Core.Path.{◌≡◌, refl}
use mathlib.Core.Bool.{Bool, true, false, cond, ◌&&◌}
use mathlib.Core.List.{List}
use lib.ListN.{length}
use borrow.Author.Tests.{le-ltb}
use Rattle.proxy_spec.specs.declared.Ports.{Ports}
use Rattle.proxy_spec.specs.Shortest.{takes4, wants_name}

-- its NULL may be the next byte, whether the end authenticates or not
pub name_begun : (a : Bool) (p : Ports) (h : List ℕ) → 1 ≤ length h → 1 ≡ wants_name a p h
name_begun a p h l = rw (le-ltb (length h) 1 l) (go (takes4 a p))
  where
    go : (b : Bool) → ◌≡◌ {A = ℕ} 1 (cond (b && false) 2 1)
    go true = refl
    go false = refl
