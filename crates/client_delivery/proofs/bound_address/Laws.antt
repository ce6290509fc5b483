-- Where a reply names its address and port, and an address as a value.
use Prim.Native.Nat.{ℕ, ◌+◌, ◌-◌, ◌≤◌, min}
use native.Mathlib.Omega.{arith}
use mathlib.Core.Path.{◌≡◌, refl, sym, subst}
use mathlib.Core.List.{List, ◌++◌}
use lib.ListN.{length, take, drop, replicate, length-take, length-replicate}
use lib.Seq.{drop-drop, length-take-le}
use lib.Dec.{lit≤}
use borrow.Author.Tests.{ne_eqb}
use Rattle.protocol.specs.declared.AddressKind.TheVariants.{Ipv4, Ipv6, Domain}
use Rattle.protocol.specs.declared.Bound.{Bound}
use Rattle.protocol.specs.declared.Reply.{Reply}
use Rattle.protocol.specs.declared.Reply.TheVariants.{ProxyRes}
use Rattle.protocol.specs.Bytes.{byte, two_of}
use Rattle.protocol.specs.Requests.{kind_of}
use Rattle.protocol.specs.Bound.{endpoint, proxy_bound, response_bound, bound_by, address_of}
use Rattle.protocol.specs.Replies.{proxy_size}
use Rattle.protocol.proofs.Named.{drop_first}
use Rattle.buffers.specs.write.Written.{overwrite, Wrote}
use Rattle.buffers.proofs.write.Parts.{part_from, drop_two}
use Rattle.buffers.specs.declared.hold.Found.{Found}
use Rattle.buffers.specs.hold.Held.{Finds}
use Rattle.buffers.proofs.hold.Laws.{standing, kind_back, first_bytes}
use Rattle.client_delivery.specs.bound_address.Named.{last_of, Whole}

-- ---- where it stands

module _ (bs : List ℕ) {r : Found} {port : ℕ} where
  pub finds_response : 8 ≤ length bs → port ≡ two_of (drop 2 bs) → r ≡ standing Ipv4 4 4 port → Finds 255 (response_bound bs) bs r
  unfolding response_bound
  finds_response h p q = rw (q, p) (record { names = refl; inside = h; small = lit≤ tt })

  module _ (h : Whole ProxyRes bs) where
    pub finds_four : byte bs 3 ≡ 0x01 → port ≡ two_of (drop 8 bs) → r ≡ standing Ipv4 4 4 port → Finds 255 (proxy_bound bs) bs r
    unfolding proxy_bound proxy_size
    finds_four t p q = let w : 10 ≤ length bs = rw t at h in rw (q, p) (record { names = rw t; inside = omega arith; small = lit≤ tt })

    pub finds_six : byte bs 3 ≡ 0x04 → port ≡ two_of (drop 20 bs) → r ≡ standing Ipv6 4 16 port → Finds 255 (proxy_bound bs) bs r
    unfolding proxy_bound proxy_size
    finds_six t p q = let w : 22 ≤ length bs = rw t at h in rw (q, p) (record { names = rw t; inside = omega arith; small = lit≤ tt })

    pub finds_name : {n : ℕ} → (byte bs 3 ≡ 0x01 → ⊥) → (byte bs 3 ≡ 0x04 → ⊥) → n ≡ byte bs 4 → n ≤ 255 → port ≡ two_of (drop (5 + n) bs) → r ≡ standing Domain 5 n port → Finds 255 (proxy_bound bs) bs r
    unfolding proxy_bound proxy_size
    finds_name {n} s t e l p q =
        let w : 7 + byte bs 4 ≤ length bs = rw (ne_eqb (byte bs 3) 0x01 s, ne_eqb (byte bs 3) 0x04 t) at h in
        rw (q, p)
        (record { names = rw (ne_eqb (byte bs 3) 0x01 s, ne_eqb (byte bs 3) 0x04 t, ← e, drop-drop n 5 bs); inside = omega arith; small = l })

-- what is unread of the first n bytes and a piece
pub unread_at : (hold p : List ℕ) (n at a : ℕ) → n ≤ length hold → a ≡ min at n → take (n - a) (drop a hold) ++ take (length p - (at - a)) (drop (at - a) p) ≡ drop at (take n hold ++ p)
unread_at hold p n at a l e =
    let k : length (take n hold) ≡ n = length-take-le n hold l in
    rw (part_from p (at - a), ← drop_first n hold l a (omega arith)) (sym (drop_two at (take n hold) p a (rw k e)))

pub found_at : (e : Reply) (hold p : List ℕ) (n at a : ℕ) {r : Found} → n ≤ length hold → a ≡ min at n
    → (let bs = take (n - a) (drop a hold) ++ take (length p - (at - a)) (drop (at - a) p) in Finds 255 (bound_by (last_of e) bs) bs r)
    → Finds 255 (bound_by (last_of e) (drop at (take n hold ++ p))) (drop at (take n hold ++ p)) r
found_at e hold p n at a {r} l q f = subst (λ (bs : List ℕ). Finds 255 (bound_by (last_of e) bs) bs r) (unread_at hold p n at a l q) f

-- ---- an address as a value

pub address_is : (b : Bound) (held : List ℕ) {n : ℕ} {p : List ℕ} → n ≡ min (length held) 255 → p ≡ take n held
    → record { kind = b.kind; len = n; bytes = p ++ drop n (replicate 255 0); port = b.port } ≡ address_of (endpoint (kind_of b.kind held) b.port)
unfolding overwrite
address_is b held {n} {p} e q =
    let (k, v) = kind_back b.kind held in
    let m : n ≡ 0 + length (take n held) = omega (arith, length-take n held) in
    let w : Wrote (replicate 255 0) 0 (take n held) (0 + length (take n held)) (p ++ drop n (replicate 255 0)) =
    record { inside = omega (arith, length-replicate {A = ℕ} 255 0); place = refl; bytes = λ i. q i ++ drop (m i) (replicate 255 0) } in
    let f = first_bytes 255 held e refl w in
    rw (k, v) (λ i. record { kind = b.kind; len = e i; bytes = f i; port = b.port })
