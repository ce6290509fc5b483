-- Bytes moved to the start of a hold, and what is unread kept there.
use Prim.Native.Nat.{ℕ, ◌+◌, ◌-◌, ◌≤◌, ◌<◌}
use native.Mathlib.Nat.{zero-add}
use native.Mathlib.Numerals.{add-one}
use native.Mathlib.Omega.{arith}
use mathlib.Core.Path.{◌≡◌, ap, sym, ◌∙◌}
use mathlib.Core.List.{List, ◌++◌, append_assoc}
use lib.ListN.{length, take, drop, get_or, set, length-drop, take-append-drop}
use lib.Seq.{take-add, drop_at, drop-append-add, get_or-drop, length-take-le, paste, paste-suc, length-paste, drop-paste}
use Rattle.buffers.specs.write.Written.{overwrite, Wrote}
use Rattle.buffers.proofs.write.Laws.{length_overwrite, overwrite_more}
use Rattle.buffers.proofs.write.Parts.{part_from}

-- ---- bytes moved to the start

module _ (h : List ℕ) (from : ℕ) where
  -- a byte behind those moved so far stands where it stood
  unmoved : (i : ℕ) → from + i < length h → get_or (paste h 0 (drop from h) i) (from + i) 0 ≡ get_or (drop from h) i 0
  unmoved i k =
      let l : i ≤ length (drop from h) = rw length-drop (omega arith) in
      let z : from + i ≡ 0 + i + from = omega arith in
      rw (get_or-drop from h i 0, z)
      (sym (get_or-drop (0 + i) (paste h 0 (drop from h) i) from 0) ∙ ap (λ (t : List ℕ). get_or t from 0) (drop-paste h 0 (drop from h) i (omega arith) l) ∙ get_or-drop (0 + i) h from 0)

  pub moved : {l : List ℕ} (i : ℕ) → from + i < length h → l ≡ paste h 0 (drop from h) i → set l i (get_or l (from + i) 0) ≡ paste h 0 (drop from h) (i + 1)
  moved i k e =
      let l : i < length (drop from h) = rw length-drop (omega arith) in
      rw (e, unmoved i k, add-one i)
      (ap (λ (j : ℕ). set (paste h 0 (drop from h) i) j (get_or (drop from h) i 0)) (sym (zero-add i)) ∙ paste-suc h 0 (drop from h) i 0 (omega arith) l)

  pub moved_length : {l : List ℕ} (i : ℕ) → from + i ≤ length h → l ≡ paste h 0 (drop from h) i → length l ≡ length h
  moved_length i k e = ap length e ∙ length-paste h 0 (drop from h) i (omega arith) (rw length-drop (omega arith))

  pub all_moved : (n : ℕ) → from + n ≤ length h → paste h 0 (drop from h) n ≡ overwrite h 0 (take n (drop from h))
  unfolding overwrite
  all_moved n k = let l : n ≤ length (drop from h) = rw length-drop (omega arith) in rw (length-take-le n (drop from h) l)

-- ---- what is unread, kept at the start of a hold

module _ (hold : List ℕ) (n place : ℕ) (long : n ≤ length hold) where
  pub kept_piece : (p : List ℕ) {next : ℕ} {hold₁ : List ℕ} → n ≤ place → Wrote hold 0 (take (length p - (place - n)) (drop (place - n) p)) next hold₁ → hold₁ ≡ overwrite hold 0 (drop place (take n hold ++ p))
  kept_piece p k w =
      let l = length-take-le n hold long in
      let z : length (take n hold) + (place - n) ≡ place = omega arith in
      w.bytes
      ∙ ap (overwrite hold 0) (part_from p (place - n) ∙ sym (drop-append-add (take n hold) p (place - n)) ∙ ap (λ (j : ℕ). drop j (take n hold ++ p)) z)

  -- nothing is moved from the start
  pub unshifted : place ≤ 0 → hold ≡ overwrite hold 0 (take (n - place) (drop place hold))
  unfolding overwrite
  unshifted k =
      let e : place ≡ 0 = omega arith in
      let z : n - 0 ≡ n = omega arith in
      rw (e, z, length-take-le n hold long, zero-add n) (sym (take-append-drop n hold))

  -- what is left of the held bytes, at the start, and the piece behind it
  module _ {hold₁ : List ℕ} (k : place < n) (e : hold₁ ≡ overwrite hold 0 (take (n - place) (drop place hold))) where
    left_length : length (take (n - place) (drop place hold)) ≡ n - place
    left_length = length-take-le (n - place) (drop place hold) (rw length-drop (omega arith))

    pub shifted_length : length hold₁ ≡ length hold
    shifted_length = let l = left_length in ap length e ∙ length_overwrite hold 0 (take (n - place) (drop place hold)) (omega arith)

    pub rest_fits : (p : List ℕ) → n + length p ≤ place + length hold → n - place + length p ≤ length hold₁
    rest_fits p f = let l = shifted_length in omega arith

    pub kept_both : (p : List ℕ) {next : ℕ} {hold₂ : List ℕ} → Wrote hold₁ (n - place) p next hold₂ → hold₂ ≡ overwrite hold 0 (drop place (take n hold ++ p))
    kept_both p w =
        let part : List ℕ = take (n - place) (drop place hold) in
        let l = left_length in
        let z : n - place ≡ 0 + length part = omega arith in
        let y : n ≡ place + (n - place) = omega arith in
        let s : take n hold ≡ take place hold ++ part = ap (λ (j : ℕ). take j hold) y ∙ take-add place (n - place) hold in
        let u : part ++ p ≡ drop place (take n hold ++ p) = rw (s, append_assoc) (sym (drop_at (take place hold) (part ++ p) place (length-take-le place hold (omega arith)))) in
        w.bytes
        ∙ ap (λ (t : List ℕ). overwrite t (n - place) p) e
        ∙ ap (λ (j : ℕ). overwrite (overwrite hold 0 part) j p) z
        ∙ overwrite_more hold 0 part (omega arith) p
        ∙ ap (overwrite hold 0) u
