-- F-1: an IPv6 address's text is IPv6 text of its bytes.
use Prim.Native.Nat.{ℕ, zero, suc, ◌+◌, ◌-◌, ◌*◌, ◌/◌, ◌%◌, ◌≤◌, ◌<◌}
use native.Mathlib.Omega.{arith}
use mathlib.Core.Path.{◌≡◌, refl, sym, ap, ◌∙◌}
use mathlib.Core.Bool.{Bool, true, false, cond}
use mathlib.Core.List.{List, [], ◌∷◌, ◌++◌}
use lib.Dec.{ltb}
use lib.ListN.{length, take, drop, replicate, length-drop, length-replicate, get_or-replicate, take-append-drop}
use lib.Seq.{length-take-le, get_or-take, get_or-drop, drop-drop, ext_get_or}
use borrow.Author.Tests.{ltb-true}
use Rattle.protocol.specs.Bytes.{Bytes}
use Rattle.protocol.specs.AddressText as G
use Rattle.protocol.specs.AddressText.{Ipv6}
use Rattle.address_format.specs.groups.Groups.{split_by, groups_of, run, longest, shortened_by, groups_text}
use Rattle.address_format.specs.groups.Shortened.{Zeros}
use Rattle.address_format.proofs.groups.Runs.{longest_zeros}
use Rattle.address_format.proofs.endpoint.Rows.{Each, bytes_of, tail_row, left_row, right_row, bytes_append, bytes_length, bytes_zeros}

-- ---- the groups of an address

groups_bytes : (n : ℕ) (bs : List ℕ) → length bs ≡ n + n → Bytes bs → bytes_of (groups_of bs) ≡ bs
unfolding groups_of bytes_of
groups_bytes n [] l y = refl
groups_bytes n (a ∷ []) l y = absurd (omega arith)
groups_bytes zero (a ∷ b ∷ bs) l y = absurd (omega arith)
groups_bytes (suc n) (a ∷ b ∷ bs) l y =
    let k = y 1 in
    let e : (a * 256 + b) / 256 ≡ a = omega arith in
    let f : (a * 256 + b) % 256 ≡ b = omega arith in
    rw (e, f, groups_bytes n bs (omega arith) (λ i. y (suc (suc i))))

groups_each : (bs : List ℕ) → Bytes bs → Each 65535 (groups_of bs)
unfolding groups_of
groups_each [] y i = omega arith
groups_each (a ∷ []) y i = omega arith
groups_each (a ∷ b ∷ bs) y zero = let h = y 0 in let k = y 1 in omega arith
groups_each (a ∷ b ∷ bs) y (suc i) = groups_each bs (λ j. y (suc (suc j))) i

-- ---- a part of them

each_take : {top : ℕ} (n : ℕ) (gs : List ℕ) → Each top gs → Each top (take n gs)
each_take zero gs h i = omega arith
each_take (suc n) [] h i = omega arith
each_take (suc n) (g ∷ gs) h zero = h 0
each_take (suc n) (g ∷ gs) h (suc i) = each_take n gs (λ j. h (suc j)) i

each_drop : {top : ℕ} (n : ℕ) (gs : List ℕ) → Each top gs → Each top (drop n gs)
each_drop n gs h i = rw (get_or-drop n gs i 0) (h (n + i))

zeros_split : (gs : List ℕ) (s n : ℕ) → Zeros gs s n → gs ≡ take s gs ++ (replicate n 0 ++ drop (s + n) gs)
zeros_split gs s n z =
    sym (take-append-drop s gs) ∙ ap (λ (l : List ℕ). take s gs ++ l) (sym (take-append-drop n (drop s gs)) ∙ rw (middle, drop-drop n s gs))
  where
    inside : n ≤ length (drop s gs)
    inside = let h = z.inside in rw (length-drop s gs) (omega arith)

    long : length (take n (drop s gs)) ≡ n
    long = length-take-le n (drop s gs) inside

    middle : take n (drop s gs) ≡ replicate n 0
    middle =
        ext_get_or 0 (take n (drop s gs)) (replicate n 0) (long ∙ sym (length-replicate n 0))
        (λ i h. let k : i < n = rw long at h in rw (get_or-take n (drop s gs) i 0 k, get_or-drop s gs i 0, get_or-replicate {A = ℕ} n i 0 0 k) (z.zero i k))

gap_bytes : (gs : List ℕ) (s n : ℕ) → Zeros gs s n → bytes_of gs ≡ bytes_of (take s gs) ++ (replicate (n + n) 0 ++ bytes_of (drop (s + n) gs))
gap_bytes gs s n z =
    ap bytes_of (zeros_split gs s n z) ∙ bytes_append (take s gs) (replicate n 0 ++ drop (s + n) gs)
    ∙ rw (bytes_append (replicate n 0) (drop (s + n) gs), bytes_zeros n)

-- ---- the text

whole_text : (gs : List ℕ) → length gs ≡ 8 → Each 65535 gs → Ipv6 (split_by 16 0x3A gs) (bytes_of gs)
whole_text [] l h = absurd (omega arith)
whole_text (g ∷ gs) l h = G.whole (tail_row g gs h) (bytes_length (g ∷ gs) ∙ rw l)

gap_text : (gs : List ℕ) (s n : ℕ) → length gs ≡ 8 → Each 65535 gs → Zeros gs s n → 1 ≤ n
    → Ipv6 (split_by 16 0x3A (take s gs) ++ (0x3A ∷ 0x3A ∷ split_by 16 0x3A (drop (s + n) gs))) (bytes_of gs)
gap_text gs s n l h z o =
    let f = z.inside in
    let b : length (bytes_of (take s gs)) ≡ s + s = bytes_length (take s gs) ∙ rw (length-take-le s gs (omega arith)) in
    let d : length (bytes_of (drop (s + n) gs)) ≡ (8 - (s + n)) + (8 - (s + n)) = bytes_length (drop (s + n) gs) ∙ rw (length-drop (s + n) gs, l) in
    let k : 16 - (length (bytes_of (take s gs)) + length (bytes_of (drop (s + n) gs))) ≡ n + n = omega arith in
    rw (gap_bytes gs s n z, ← k)
    (G.gap (left_row (take s gs) (each_take s gs h)) (right_row (drop (s + n) gs) (each_drop (s + n) gs h)) (omega arith))

run_text : (gs : List ℕ) (s n : ℕ) → length gs ≡ 8 → Each 65535 gs → Zeros gs s n → Ipv6 (shortened_by (run s n) gs) (bytes_of gs)
run_text gs s n l h z = go (ltb 1 n) refl
  where
    go : (x : Bool) → ltb 1 n ≡ x
        → Ipv6 (cond x (split_by 16 0x3A (take s gs) ++ (0x3A ∷ 0x3A ∷ split_by 16 0x3A (drop (s + n) gs))) (split_by 16 0x3A gs)) (bytes_of gs)
    go true e = let o = ltb-true 1 n e in gap_text gs s n l h z (omega arith)
    go false e = whole_text gs l h

groups_text_lem : (gs : List ℕ) → length gs ≡ 8 → Each 65535 gs → Ipv6 (groups_text gs) (bytes_of gs)
unfolding groups_text
groups_text_lem gs l h = run_text gs (longest gs).start (longest gs).count l h (longest_zeros gs)

pub ipv6_text : (bs : List ℕ) → length bs ≡ 16 → Bytes bs → Ipv6 (groups_text (groups_of bs)) bs
ipv6_text bs l y =
    let e = groups_bytes 8 bs l y in
    let k : length (groups_of bs) + length (groups_of bs) ≡ 16 = sym (bytes_length (groups_of bs)) ∙ ap length e ∙ l in
    rw e at (groups_text_lem (groups_of bs) (omega arith) (groups_each bs y))
