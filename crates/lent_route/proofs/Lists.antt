-- Lists in a row: a part of them from a place on, and bytes written over one of them.
use Prim.Native.Nat.{ℕ, ◌+◌}
use native.Mathlib.Omega.{arith}
use mathlib.Core.Path.{◌≡◌, sym, ap, ◌∙◌}
use mathlib.Core.List.{List, ◌++◌, append_assoc}
use lib.ListN.{length, drop, replicate, get_or, length-append, replicate-append-replicate}
use lib.Seq.{take_at, drop_at, drop-append-add, get_or-append-add}
use Rattle.protocol.specs.Bytes.{byte}
use Rattle.buffers.specs.write.Written.{overwrite}

module _ (p q : List ℕ) {s : List ℕ} {at : ℕ} (e : s ≡ p ++ q) (l : at ≡ length p) where
  pub drop_from : (n : ℕ) → drop (at + n) s ≡ drop n q
  drop_from n = (λ i. drop (l i + n) (e i)) ∙ drop-append-add p q n

  pub byte_from : (n : ℕ) → byte s (at + n) ≡ byte q n
  byte_from n = (λ i. get_or (e i) (l i + n) 0) ∙ get_or-append-add p q n 0

pub zeros_row : (n m k : ℕ) → k ≡ n + m → replicate {A = ℕ} k 0 ≡ replicate n 0 ++ replicate m 0
zeros_row n m k e = ap (λ (j : ℕ). replicate {A = ℕ} j 0) e ∙ sym (replicate-append-replicate {A = ℕ} n m 0)

-- bytes written over one of three
pub overwrite_at : (p m q bs : List ℕ) (at : ℕ) → length p ≡ at → length bs ≡ length m → overwrite (p ++ (m ++ q)) at bs ≡ p ++ (bs ++ q)
unfolding overwrite
overwrite_at p m q bs at l k =
    let d : drop (at + length bs) (p ++ (m ++ q)) ≡ q =
    ap (drop (at + length bs)) (sym (append_assoc p m q)) ∙ drop_at (p ++ m) q (at + length bs) (length-append p m ∙ omega (arith, l, k)) in
    rw (take_at p (m ++ q) at l, d)
