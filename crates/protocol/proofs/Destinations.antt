-- Address text: the reading agrees with the grammar; a text has one reading at most, and none is of both families.
use mathlib.Core.Path.{◌≡◌, refl, ◌∙◌}
use mathlib.Core.Option.{Option, none, some}
use mathlib.Core.List.{List, [], ◌∷◌, ◌++◌}
use mathlib.Core.Bool.{Bool, true, false, cond, true≢false}
use mathlib.Core.Logic.{◌↔◌}
use Prim.Native.Nat.{ℕ}
use native.Mathlib.Omega.{arith}
use lib.ListN.{length, length-append, length-replicate}
use lib.Dec.{eqb}
use borrow.Author.Tests.{ne_eqb}
use Rattle.protocol.specs.AddressText as G
use Rattle.protocol.specs.AddressText.{Decimal, Number, Dotted, Ipv4, Ipv6, Name}
use Rattle.protocol.specs.AddressReading.{ipv4_of, ipv6_of, Destination, ipv4, ipv6, domain, chosen, destination_of}
use Rattle.protocol.proofs.AddressIpv4.{ipv4_sound, ipv4_complete}
use Rattle.protocol.proofs.AddressIpv6.{dotted_length, ipv6_sound, ipv6_complete}

pub ipv4_one : {s bs cs : List ℕ} → Ipv4 s bs → Ipv4 s cs → bs ≡ cs
ipv4_one {s} d e = let f = ipv4_complete d in let g = ipv4_complete e in cc

pub ipv6_one : {s bs cs : List ℕ} → Ipv6 s bs → Ipv6 s cs → bs ≡ cs
ipv6_one {s} d e = let f = ipv6_complete d in let g = ipv6_complete e in cc

-- ---- IPv6 text has a colon and IPv4 text has none

has_colon : List ℕ → Bool
has_colon [] = false
has_colon (b ∷ s) = cond (eqb b 0x3A) true (has_colon s)

colon_there : (p s : List ℕ) → has_colon (p ++ (0x3A ∷ s)) ≡ true
unfolding has_colon
colon_there [] s = refl
colon_there (b ∷ p) s = go (eqb b 0x3A) (colon_there p s)
  where
    go : (x : Bool) → has_colon (p ++ (0x3A ∷ s)) ≡ true → cond x true (has_colon (p ++ (0x3A ∷ s))) ≡ true
    go true e = refl
    go false e = e

colon_free : (p s : List ℕ) → has_colon p ≡ false → has_colon s ≡ false → has_colon (p ++ s) ≡ false
unfolding has_colon
colon_free [] s e f = f
colon_free (b ∷ p) s e f = go (eqb b 0x3A) e (λ g. colon_free p s g f)
  where
    go : (x : Bool) → cond x true (has_colon p) ≡ false → (has_colon p ≡ false → has_colon (p ++ s) ≡ false) → cond x true (has_colon (p ++ s)) ≡ false
    go true g h = absurd (true≢false g)
    go false g h = h g

decimal_free : {a d : ℕ} → Decimal a d → has_colon (a ∷ []) ≡ false
unfolding has_colon
decimal_free {a} {d} x = let e = x.is in let h = x.small in rw (ne_eqb a 0x3A (λ z. absurd (omega arith)))

number_free : {p : List ℕ} {v : ℕ} → Number p v → has_colon p ≡ false
number_free (G.one x) = decimal_free x
number_free (G.more {p} {v} {a} n l x m) = colon_free p (a ∷ []) (number_free n) (decimal_free x)

dotted_free : {n : ℕ} {s vs : List ℕ} → Dotted n s vs → has_colon s ≡ false
unfolding has_colon
dotted_free (G.last x) = number_free x
dotted_free (G.next {p} {s} x y) = colon_free p (0x2E ∷ s) (number_free x) (dotted_free y)

six_colon : {s bs : List ℕ} → Ipv6 s bs → has_colon s ≡ true
six_colon (G.whole (G.last g) l) = absurd (omega arith)
six_colon (G.whole (G.quad q) l) = let k = dotted_length q in absurd (omega arith)
six_colon (G.whole (G.next {p} {s} g y) l) = colon_there p s
six_colon (G.gap {a} {b} x y h) = colon_there a (0x3A ∷ b)

pub not_both : {s bs cs : List ℕ} → Ipv4 s bs → Ipv6 s cs → ⊥
not_both d e = let f = dotted_free d in let g = six_colon e in let z : ◌≡◌ {A = ℕ} 0 1 = cc in absurd (omega arith)

-- ---- the destination

no_four : {s bs : List ℕ} → Ipv6 s bs → ipv4_of s ≡ none
no_four {s} x = go (ipv4_of s) refl
  where
    go : (r : Option (List ℕ)) → ipv4_of s ≡ r → r ≡ none
    go none e = refl
    go (some cs) e = absurd (not_both (ipv4_sound s cs e) x)

pub ipv4_just : (s bs : List ℕ) → destination_of s ≡ ipv4 bs ↔ Ipv4 s bs
unfolding destination_of
ipv4_just s bs = (go (ipv4_of s) (ipv6_of s) refl, λ d. rw (ipv4_complete d))
  where
    go : (r q : Option (List ℕ)) → ipv4_of s ≡ r → chosen s r q ≡ ipv4 bs → Ipv4 s bs
    go (some cs) q f g = ipv4_sound s bs (f ∙ cc)
    go none (some cs) f g = let z : ◌≡◌ {A = ℕ} 0 1 = cc in absurd (omega arith)
    go none none f g = let z : ◌≡◌ {A = ℕ} 0 1 = cc in absurd (omega arith)

pub ipv6_just : (s bs : List ℕ) → destination_of s ≡ ipv6 bs ↔ Ipv6 s bs
unfolding destination_of
ipv6_just s bs = (go (ipv4_of s) (ipv6_of s) refl, λ d. rw (no_four d, ipv6_complete d))
  where
    go : (r q : Option (List ℕ)) → ipv6_of s ≡ q → chosen s r q ≡ ipv6 bs → Ipv6 s bs
    go (some cs) q f g = let z : ◌≡◌ {A = ℕ} 0 1 = cc in absurd (omega arith)
    go none (some cs) f g = ipv6_sound s bs (f ∙ cc)
    go none none f g = let z : ◌≡◌ {A = ℕ} 0 1 = cc in absurd (omega arith)

-- a name is the whole text
pub domain_is : (s n : List ℕ) → destination_of s ≡ domain n → n ≡ s
unfolding destination_of
domain_is s n = go (ipv4_of s) (ipv6_of s)
  where
    go : (r q : Option (List ℕ)) → chosen s r q ≡ domain n → n ≡ s
    go (some cs) q g = let z : ◌≡◌ {A = ℕ} 0 1 = cc in absurd (omega arith)
    go none (some cs) g = let z : ◌≡◌ {A = ℕ} 0 1 = cc in absurd (omega arith)
    go none none g = cc

pub name_just : (s : List ℕ) → destination_of s ≡ domain s ↔ Name s
name_just s = (there, back (destination_of s) refl)
  where
    there : destination_of s ≡ domain s → Name s
    there e bs = (
      λ d. let f = (ipv4_just s bs).1 d in let z : ◌≡◌ {A = ℕ} 0 1 = cc in absurd (omega arith),
      λ d. let f = (ipv6_just s bs).1 d in let z : ◌≡◌ {A = ℕ} 0 1 = cc in absurd (omega arith),
    )

    back : (d : Destination) → destination_of s ≡ d → Name s → d ≡ domain s
    back (ipv4 bs) e f = absurd ((f bs).0 ((ipv4_just s bs).0 e))
    back (ipv6 bs) e f = absurd ((f bs).1 ((ipv6_just s bs).0 e))
    back (domain n) e f = let k = domain_is s n e in cc

-- an IPv4 address has four bytes, an IPv6 address sixteen
pub ipv4_length : (s bs : List ℕ) → destination_of s ≡ ipv4 bs → length bs ≡ 4
ipv4_length s bs e = dotted_length ((ipv4_just s bs).0 e)

sixteen : {s bs : List ℕ} → Ipv6 s bs → length bs ≡ 16
sixteen (G.whole t l) = l
sixteen (G.gap {us} {ws} x y h) = simp (length-append, length-replicate) (omega arith)

pub ipv6_length : (s bs : List ℕ) → destination_of s ≡ ipv6 bs → length bs ≡ 16
ipv6_length s bs e = sixteen ((ipv6_just s bs).0 e)
