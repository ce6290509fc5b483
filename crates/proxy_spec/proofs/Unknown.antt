-- F-3: an address type is told unknown just where the bytes begin as a connect request does and the type is none of the three; and at its byte.
use Prim.Native.Nat.{ℕ, ◌+◌, ◌≤◌}
use native.Mathlib.Omega.{arith}
use mathlib.Core.Path.{◌≡◌, refl, ◌∙◌}
use mathlib.Core.Logic.{◌↔◌}
use mathlib.Core.Bool.{Bool, true, false, cond}
use mathlib.Core.List.{List}
use lib.ListN.{length}
use lib.Dec.{leb, eqb}
use borrow.Author.Tests.{leb-true, eqb-true, eqb-false, ne_eqb}
use Rattle.protocol.specs.Bytes.{byte}
use Rattle.protocol.specs.Bound.{Endpoint}
use Rattle.proxy_spec.specs.Reads.{Seen, short, unknown, whole, from, held, target_in, connect_in}
use Rattle.proxy_spec.proofs.Words.{connect_head}

module _ {A : Type 0} where
  from_unknown : (n : ℕ) (bs : List ℕ) (d : Seen A) (k : ℕ) → from n bs d ≡ unknown k → (n ≤ length bs) × (d ≡ unknown k)
  from_unknown n bs d k q = go (leb n (length bs)) refl q
    where
      go : (b : Bool) → leb n (length bs) ≡ b → cond b d short ≡ unknown k → (n ≤ length bs) × (d ≡ unknown k)
      go true e r = (leb-true n (length bs) e, r)
      go false e r = let z : ◌≡◌ {A = ℕ} 0 1 = cc in absurd (omega arith)

  held_unknown : (b : Bool) (n : ℕ) (d : Seen A) (k : ℕ) → held b n d ≡ unknown k → (b ≡ true) × (d ≡ unknown k)
  held_unknown true n d k q = (refl, q)
  held_unknown false n d k q = let z : ◌≡◌ {A = ℕ} 0 1 = cc in absurd (omega arith)

  whole_known : (n : ℕ) (bs : List ℕ) (j : ℕ) (a : A) (k : ℕ) → from n bs (whole j a) ≡ unknown k → ⊥
  whole_known n bs j a k q = let r = (from_unknown n bs (whole j a) k q).1 in let z : ◌≡◌ {A = ℕ} 0 1 = cc in absurd (omega arith)

  place : (n k : ℕ) → ◌≡◌ {A = Seen A} (unknown n) (unknown k) → k ≡ n
  place n k q = cc

-- a type that is none of the three
pub record Strange (bs : List ℕ) : Type 0 where
  pub there : 4 ≤ length bs
  pub version : byte bs 0 ≡ 0x05
  pub reserved : byte bs 2 ≡ 0x00
  pub not_four : byte bs 3 ≡ 0x01 → ⊥
  pub not_six : byte bs 3 ≡ 0x04 → ⊥
  pub not_name : byte bs 3 ≡ 0x03 → ⊥

target_unknown : (command : ℕ) (bs : List ℕ) (k : ℕ) → 4 ≤ length bs → byte bs 0 ≡ 0x05 → byte bs 2 ≡ 0x00 → target_in command bs ≡ unknown k → (k ≡ 4) × Strange bs
unfolding target_in
target_unknown command bs k h e f q = go (eqb (byte bs 3) 0x01) refl _ (eqb (byte bs 3) 0x04) refl _ (eqb (byte bs 3) 0x03) refl _ q
  where
    go : (x : Bool) → eqb (byte bs 3) 0x01 ≡ x → (u : ℕ × Endpoint) → (y : Bool) → eqb (byte bs 3) 0x04 ≡ y → (v : ℕ × Endpoint) → (z : Bool) → eqb (byte bs 3) 0x03 ≡ z → (w : ℕ × Endpoint)
        → cond x (from 10 bs (whole 10 u)) (cond y (from 22 bs (whole 22 v)) (cond z (from 5 bs (held (leb 1 (byte bs 4)) 5 (from (7 + byte bs 4) bs (whole (7 + byte bs 4) w)))) (unknown 4))) ≡ unknown k
        → (k ≡ 4) × Strange bs
    go true a u y b v z c w r = absurd (whole_known 10 bs 10 u k r)
    go false a u true b v z c w r = absurd (whole_known 22 bs 22 v k r)
    go false a u false b v true c w r =
        let s = from_unknown 5 bs _ k r in
        let t = held_unknown (leb 1 (byte bs 4)) 5 _ k s.1 in
        absurd (whole_known (7 + byte bs 4) bs (7 + byte bs 4) w k t.1)
    go false a u false b v false c w r = (
      place {A = ℕ × Endpoint} 4 k r,
      record { there = h; version = e; reserved = f; not_four = eqb-false (byte bs 3) 1 a; not_six = eqb-false (byte bs 3) 4 b; not_name = eqb-false (byte bs 3) 3 c },
    )

connect_strange : (bs : List ℕ) (n : ℕ) → connect_in bs ≡ unknown n → (n ≡ 4) × Strange bs
unfolding connect_in
connect_strange bs n q =
    let a = from_unknown 1 bs _ n q in
    let b = held_unknown (eqb (byte bs 0) 0x05) 1 _ n a.1 in
    let c = from_unknown 3 bs _ n b.1 in
    let d = held_unknown (eqb (byte bs 2) 0x00) 3 _ n c.1 in
    let e = from_unknown 4 bs (target_in (byte bs 1) bs) n d.1 in
    target_unknown (byte bs 1) bs n e.0 (eqb-true (byte bs 0) 5 b.0) (eqb-true (byte bs 2) 0 d.0) e.1

strange_target : (command : ℕ) (bs : List ℕ) → Strange bs → target_in command bs ≡ unknown 4
unfolding target_in
strange_target command bs s = rw (ne_eqb (byte bs 3) 0x01 s.not_four, ne_eqb (byte bs 3) 0x04 s.not_six, ne_eqb (byte bs 3) 0x03 s.not_name)

strange_connect : (bs : List ℕ) (n : ℕ) → (n ≡ 4) × Strange bs → connect_in bs ≡ unknown n
strange_connect bs n (e, s) = connect_head bs s.version s.reserved s.there ∙ strange_target (byte bs 1) bs s ∙ rw e

pub connect_unknown : (bs : List ℕ) (n : ℕ) → connect_in bs ≡ unknown n ↔ ((n ≡ 4) × Strange bs)
connect_unknown bs n = (connect_strange bs n, strange_connect bs n)
