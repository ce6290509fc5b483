-- Bytes written over others: those ahead of them and behind them stay.
use Prim.Native.Nat.{ℕ, ◌+◌, ◌≤◌, ◌<◌}
use native.Mathlib.Omega.{arith}
use mathlib.Core.Path.{◌≡◌, ap, sym, ◌∙◌}
use mathlib.Core.List.{List, ◌++◌, append_assoc}
use lib.ListN.{length, take, drop, get_or, length-append, length-drop, get_or-append}
use lib.Seq.{length-take-le, take-append-le, take-take, take_at, drop_at, get_or-append-add, get_or-take, get_or-drop}
use Rattle.protocol.specs.Bytes.{byte}
use Rattle.buffers.specs.write.Written.{overwrite}

module _ (s bs : List ℕ) (at : ℕ) (h : at ≤ length s) where
  -- it is no shorter
  pub long_enough : length s ≤ length (overwrite s at bs)
  unfolding overwrite
  long_enough =
      omega (arith, h, length-append (take at s) (bs ++ drop (at + length bs) s), length-append bs (drop (at + length bs) s), length-take-le at s h, length-drop (at + length bs) s)

  pub take_ahead : (k : ℕ) → k ≤ at → take k (overwrite s at bs) ≡ take k s
  unfolding overwrite
  take_ahead k l = take-append-le k (take at s) _ (omega (arith, l, length-take-le at s h)) ∙ take-take k at s l

  pub byte_ahead : (k : ℕ) → k < at → byte (overwrite s at bs) k ≡ byte s k
  unfolding overwrite
  byte_ahead k l = get_or-append (take at s) _ 0 k (omega (arith, l, length-take-le at s h)) ∙ get_or-take at s k 0 l

  pub bytes_there : (m : ℕ) → length bs ≡ m → take m (drop at (overwrite s at bs)) ≡ bs
  unfolding overwrite
  bytes_there m l = ap (take m) (drop_at (take at s) _ at (length-take-le at s h)) ∙ take_at bs _ m l

  pub byte_behind : (m : ℕ) → length bs ≡ m → (k : ℕ) → byte (overwrite s at bs) (at + m + k) ≡ byte s (at + m + k)
  unfolding overwrite
  byte_behind m l k =
      let z : at + m ≡ length (take at s ++ bs) = omega (arith, l, length-append (take at s) bs, length-take-le at s h) in
      ap (λ (t : List ℕ). get_or t (at + m + k) 0) (sym (append_assoc (take at s) bs (drop (at + length bs) s)))
      ∙ ap (λ (n : ℕ). get_or ((take at s ++ bs) ++ drop (at + length bs) s) (n + k) 0) z
      ∙ get_or-append-add (take at s ++ bs) (drop (at + length bs) s) k 0
      ∙ get_or-drop (at + length bs) s k 0
      ∙ ap (λ (n : ℕ). get_or s (at + n + k) 0) l
