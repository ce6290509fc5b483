-- IPv4 text: what is read the grammar makes, and the other way round.
use mathlib.Core.Path.{◌≡◌, refl}
use mathlib.Core.Option.{Option, none, some}
use mathlib.Core.List.{List, [], ◌∷◌, ◌++◌, append-nil}
use mathlib.Core.Bool.{Bool, true, false, cond}
use Prim.Native.Nat.{ℕ, zero, suc, ◌+◌}
use native.Mathlib.Omega.{arith}
use lib.Dec.{eqb}
use lib.ListN.{length, drop}
use borrow.Author.Tests.{eq-eqb, ne_eqb, eqb-true, eqb-false}
use Rattle.protocol.specs.AddressText as G
use Rattle.protocol.specs.AddressText.{Number, Dotted, Ipv4}
use Rattle.protocol.specs.AddressReading.{hex_value, number_of, mark_at, ahead, dotted, ipv4_of}
use Rattle.protocol.proofs.AddressDigits.{end, mark, number_taken, number_reads, number_long, mark_is, marks, behind, marked, ended}

-- ---- the grammar is read

dotted_complete : {n : ℕ} {s vs : List ℕ} → Dotted n s vs → dotted n s ≡ some vs
unfolding dotted hex_value
dotted_complete (G.last {p} {v} x) =
    let e : number_of p ≡ record { count = length p; value = v } = rw append-nil at (number_reads x end) in
    let l = number_long x in
    rw (e, ne_eqb (length p) 0 (λ z. absurd (omega arith)), eq-eqb (length p) (length p) refl)
dotted_complete (G.next {n} {p} {s} {vs} {v} x y) =
    let e : number_of (p ++ (0x2E ∷ s)) ≡ record { count = length p; value = v } = number_reads x (mark refl) in
    rw (e, marks 0x2E p s (number_long x), behind 0x2E p s, dotted_complete y)

-- ---- what is read is of the grammar

record Ahead (us vs : List ℕ) (r : Option (List ℕ)) : Type 0 where
  ws : List ℕ
  read : r ≡ some ws
  is : vs ≡ us ++ ws

ahead_some : (us vs : List ℕ) (r : Option (List ℕ)) → ahead us r ≡ some vs → Ahead us vs r
ahead_some us vs none e = let z : ◌≡◌ {A = ℕ} 0 1 = cc in absurd (omega arith)
ahead_some us vs (some ws) e = record { ws = ws; read = refl; is = cc }

dotted_sound : (n : ℕ) (s vs : List ℕ) → dotted n s ≡ some vs → Dotted n s vs
unfolding dotted
dotted_sound zero s vs e = go (eqb (number_of s).count 0) (eqb (number_of s).count (length s)) refl refl e
  where
    go : (t u : Bool) → eqb (number_of s).count 0 ≡ t → eqb (number_of s).count (length s) ≡ u
        → cond t none (cond u (some ((number_of s).value ∷ [])) none) ≡ some vs → Dotted 0 s vs
    go true u f g h = let z : ◌≡◌ {A = ℕ} 0 1 = cc in absurd (omega arith)
    go false true f g h =
        let k : vs ≡ (number_of s).value ∷ [] = cc in
        rw k (G.last (ended Number s (number_of s) (number_taken s (eqb-false (number_of s).count 0 f)) (eqb-true (number_of s).count (length s) g)))
    go false false f g h = let z : ◌≡◌ {A = ℕ} 0 1 = cc in absurd (omega arith)
dotted_sound (suc n) s vs e = go (mark_at 0x2E s (number_of s).count) refl e (λ ws h. dotted_sound n (drop ((number_of s).count + 1) s) ws h)
  where
    go : (t : Bool) → mark_at 0x2E s (number_of s).count ≡ t
        → cond t (ahead ((number_of s).value ∷ []) (dotted n (drop ((number_of s).count + 1) s))) none ≡ some vs
        → ((ws : List ℕ) → dotted n (drop ((number_of s).count + 1) s) ≡ some ws → Dotted n (drop ((number_of s).count + 1) s) ws)
        → Dotted (suc n) s vs
    go false f h rec = let z : ◌≡◌ {A = ℕ} 0 1 = cc in absurd (omega arith)
    go true f h rec =
        let k = mark_is 0x2E s (number_of s).count f in
        let m = marked Number 0x2E s (number_of s) (number_taken s k.some_digits) k in
        let a = ahead_some ((number_of s).value ∷ []) vs (dotted n (drop ((number_of s).count + 1) s)) h in
        rw (m.split, a.is) (G.next m.made (rec a.ws a.read))

pub ipv4_sound : (s bs : List ℕ) → ipv4_of s ≡ some bs → Ipv4 s bs
unfolding ipv4_of
ipv4_sound s bs e = dotted_sound 3 s bs e

pub ipv4_complete : {s bs : List ℕ} → Ipv4 s bs → ipv4_of s ≡ some bs
unfolding ipv4_of
ipv4_complete d = dotted_complete d
