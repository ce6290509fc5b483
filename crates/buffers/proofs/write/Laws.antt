-- A writer composes with the next.
use mathlib.Core.Path.{◌≡◌, sym, ap, ◌∙◌}
use mathlib.Core.List.{List, [], ◌∷◌, ◌++◌, append_assoc}
use Prim.Native.Nat.{ℕ, ◌+◌, ◌-◌, ◌≤◌, ◌<◌}
use native.Mathlib.Nat.{add_assoc, zero-add}
use native.Mathlib.Numerals.{add-one}
use native.Mathlib.Omega.{arith}
use lib.ListN.{length, take, drop, set, replicate, length-append, length-take, length-drop, length-replicate, replicate-append-replicate}
use lib.Seq.{take_at, drop_at, set_split, paste, drop-append-add, drop-drop, take-length}
use Rattle.protocol.specs.Bytes.{padded}
use Rattle.buffers.specs.write.Written.{overwrite, Wrote}

module _ (out : List ℕ) (at : ℕ) (bs : List ℕ) (inside : at + length bs ≤ length out) where
  pub length_overwrite : length (overwrite out at bs) ≡ length out
  unfolding overwrite
  length_overwrite = simp (length-append, length-take, length-drop) (omega arith)

  head_length : length (take at out ++ bs) ≡ at + length bs
  head_length = simp (length-append, length-take) (omega arith)

  -- two writes in a row are one write
  pub overwrite_more : (cs : List ℕ) → overwrite (overwrite out at bs) (at + length bs) cs ≡ overwrite out at (bs ++ cs)
  unfolding overwrite
  overwrite_more cs =
      let n : ℕ = at + length bs in
      let p : List ℕ = take at out ++ bs in
      let q : List ℕ = drop (at + length bs) out in
      let s : take at out ++ (bs ++ q) ≡ p ++ q = sym (append_assoc (take at out) bs q) in
      let t : take n (p ++ q) ≡ p = take_at p q n head_length in
      let d : drop (n + length cs) (p ++ q) ≡ drop (n + length cs) out =
      ap (λ (k : ℕ). drop (k + length cs) (p ++ q)) (sym head_length) ∙ (drop-append-add p q (length cs) ∙ drop-drop (length cs) n out) in
      rw (s, t, d) (simp (append_assoc, length-append, add_assoc))

-- one store is a write of one byte
pub overwrite_one : (out : List ℕ) (at b : ℕ) → at < length out → set out at b ≡ overwrite out at (b ∷ [])
unfolding overwrite
overwrite_one out at b h = set_split out at b h ∙ rw add-one

-- a copy of all of a list is a write of it
pub paste_overwrite : (out : List ℕ) (at : ℕ) (bs : List ℕ) → paste out at bs (length bs) ≡ overwrite out at bs
unfolding overwrite
paste_overwrite out at bs = rw take-length (append_assoc (take at out) bs (drop (at + length bs) out))

pub wrote_length : {o o₁ : List ℕ} {at a₁ : ℕ} {bs : List ℕ} → Wrote o at bs a₁ o₁ → length o₁ ≡ length o
wrote_length {o} {o₁} {at} {a₁} {bs} v = ap length v.bytes ∙ length_overwrite o at bs v.inside

-- a write and a second one from the place behind it
pub then : {o o₁ o₂ : List ℕ} {at a₁ a₂ : ℕ} {bs cs : List ℕ} → Wrote o at bs a₁ o₁ → Wrote o₁ a₁ cs a₂ o₂ → Wrote o at (bs ++ cs) a₂ o₂
then {o} {o₁} {o₂} {at} {a₁} {a₂} {bs} {cs} v w =
    let l = wrote_length v in
    let i = v.inside in
    let j = w.inside in
    let p = v.place in
    let q = w.place in
    record {
      inside = simp length-append (omega arith);
      place = simp length-append (omega arith);
      bytes = w.bytes ∙ rw (v.bytes, v.place) (overwrite_more o at bs v.inside cs);
    }

drop_zeros : (n m : ℕ) → n ≤ m → drop {A = ℕ} n (replicate m 0) ≡ replicate (m - n) 0
drop_zeros n m h =
    let z : m ≡ n + (m - n) = omega arith in
    ap (λ (k : ℕ). drop {A = ℕ} n (replicate k 0)) z ∙ ap (drop n) (sym (replicate-append-replicate {A = ℕ} n (m - n) 0)) ∙ drop_at (replicate n 0) (replicate (m - n) 0) n (length-replicate {A = ℕ} n 0)

-- bytes written at the start of zeros
pub zeros_under : (m : ℕ) {bs out' : List ℕ} {next : ℕ} → Wrote (replicate m 0) 0 bs next out' → out' ≡ padded m bs
unfolding overwrite
zeros_under m {bs} w =
    let h : length bs ≤ m = omega (arith, w.inside, length-replicate {A = ℕ} m 0) in
    w.bytes ∙ ap (λ (k : ℕ). bs ++ drop k (replicate m 0)) (zero-add (length bs)) ∙ ap (λ (t : List ℕ). bs ++ t) (drop_zeros (length bs) m h)
