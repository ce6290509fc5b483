-- A part kept at the start of a hold, and what that comes to where an address was found there.
use Prim.Native.Nat.{ℕ, ◌+◌, ◌-◌, ◌≤◌, min}
use native.Mathlib.Nat.{zero-add}
use native.Mathlib.Omega.{arith}
use mathlib.Core.Path.{◌≡◌, refl, ap, sym, subst, ◌∙◌}
use mathlib.Core.List.{List, ◌++◌}
use lib.ListN.{length, take, drop, replicate, length-append, length-drop}
use lib.Seq.{take-take, drop-drop, length-take-le}
use Rattle.protocol.specs.declared.AddressKind.{AddressKind}
use Rattle.protocol.specs.declared.AddressKind.TheVariants.{Ipv4, Ipv6, Domain}
use Rattle.protocol.specs.Bytes.{padded}
use Rattle.protocol.specs.Requests.{kind_of}
use Rattle.protocol.specs.Bound.{Endpoint, endpoint, kind_in, bytes_in}
use Rattle.protocol.proofs.Named.{drop_first}
use Rattle.buffers.specs.write.Written.{overwrite, Wrote}
use Rattle.buffers.proofs.write.Laws.{zeros_under}
use Rattle.buffers.proofs.write.Parts.{take_min, take_two}
use Rattle.buffers.specs.declared.hold.Found.{Found}
use Rattle.buffers.specs.hold.Held.{Finds, Binds}

-- what stands at a place
abbrev pub standing : AddressKind → ℕ → ℕ → ℕ → Found
standing k at n port = record { at = at; len = n; bound = record { kind = k; port = port } }

-- ---- a part kept at the start

pub part_kept : (hold p : List ℕ) (n from to m : ℕ) {hold' : List ℕ} → n ≤ length hold → from ≤ to → to ≤ n + length p → m ≡ min to n
    → hold' ≡ overwrite hold 0 (drop from (take m hold ++ take (to - m) p)) → hold' ≡ take (to - from) (drop from (take n hold ++ p)) ++ drop (to - from) hold
unfolding overwrite
part_kept hold p n from to m {hold'} l h i e w =
    let k : length (take n hold) ≡ n = length-take-le n hold l in
    let s : take to (take n hold ++ p) ≡ take m hold ++ take (to - m) p =
    take_two to (take n hold) p m (rw k e) ∙ ap (λ (x : List ℕ). x ++ take (to - m) p) (take-take m n hold (omega arith)) in
    let j : to ≤ length (take n hold ++ p) = omega (arith, length-append (take n hold) p) in
    let d : drop from (take m hold ++ take (to - m) p) ≡ take (to - from) (drop from (take n hold ++ p)) = ap (drop from) (sym s) ∙ drop_first to (take n hold ++ p) j from h in
    let q : length (take (to - from) (drop from (take n hold ++ p))) ≡ to - from = length-take-le (to - from) (drop from (take n hold ++ p)) (omega (arith, length-drop from (take n hold ++ p))) in
    w ∙ rw (d, q, zero-add (to - from))

pub kind_back : (k : AddressKind) (bs : List ℕ) → (kind_in (kind_of k bs) ≡ k) × (bytes_in (kind_of k bs) ≡ bs)
kind_back Ipv4 bs = (refl, refl)
kind_back Ipv6 bs = (refl, refl)
kind_back Domain bs = (refl, refl)

pub binds : {most : ℕ} {x : Endpoint} (bytes hold : List ℕ) (at : ℕ) {r : Found} {hold' : List ℕ} → Finds most x (drop at bytes) r
    → hold' ≡ take (at + r.at + r.len - (at + r.at)) (drop (at + r.at) bytes) ++ drop (at + r.at + r.len - (at + r.at)) hold
    → Binds x hold (record { len = r.len; bound = r.bound }) hold'
binds {most} {x} bytes hold at {r} {hold'} f w =
    let bs = take r.len (drop (at + r.at) bytes) in
    let z : at + r.at + r.len - (at + r.at) ≡ r.len = omega arith in
    let n : x ≡ endpoint (kind_of r.bound.kind bs) r.bound.port = f.names ∙ rw (drop-drop r.at at bytes) in
    let (k, b) = kind_back r.bound.kind bs in
    let i = f.inside in
    let l : length bs ≡ r.len = length-take-le r.len (drop (at + r.at) bytes) (omega (arith, length-drop (at + r.at) bytes, length-drop at bytes)) in
    rw n (record { bound = rw k; long = rw (b, l); holds = rw (b, l) (w ∙ rw z) })

-- what was found behind a place stands within the bytes
pub found_inside : {most : ℕ} {x : Endpoint} (hold p : List ℕ) (n at : ℕ) {r : Found} → n ≤ length hold → Finds most x (drop at (take n hold ++ p)) r → at ≤ n + length p → at + r.at + r.len ≤ n + length p
found_inside hold p n at l f h = omega (arith, f.inside, length-drop at (take n hold ++ p), length-append (take n hold) p, length-take-le n hold l)

-- the first bytes of an array of zeros
pub first_bytes : (most : ℕ) (held : List ℕ) {n : ℕ} {zeros bytes : List ℕ} {next : ℕ} → n ≡ min (length held) most → zeros ≡ replicate most 0 → Wrote zeros 0 (take n held) next bytes
    → bytes ≡ padded most (take most held)
first_bytes most held {n} {zeros} {bytes} {next} e z w =
    let m : n ≡ min most (length held) = omega arith in
    let t : take n held ≡ take most held = ap (λ (j : ℕ). take j held) m ∙ take_min most held in
    let p : bytes ≡ padded most (take n held) = zeros_under most (subst (λ (l : List ℕ). Wrote l 0 (take n held) next bytes) z w) in
    p ∙ ap (padded most) t
