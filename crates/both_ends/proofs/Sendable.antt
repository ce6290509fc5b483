-- F-3: what an accepted opening asks for has the sizes that an end reads by.
use Prim.Native.Nat.{ℕ, suc, ◌≤◌}
use native.Mathlib.Omega.{arith}
use mathlib.Core.Path.{◌≡◌, refl, ap}
use mathlib.Core.Logic.{◌⊎◌, inl, inr}
use mathlib.Core.Option.{Option, none, some}
use mathlib.Core.Bool.{Bool, true, false, cond}
use mathlib.Core.List.Memᴰ
use mathlib.Core.List.{List, [], ◌∷◌, Memᴰ}
use lib.ListN.{length, length-take}
use Rattle.protocol.specs.Answers.{Accepted}
use Rattle.protocol.specs.declared.Family.{Family}
use Rattle.protocol.specs.declared.Family.TheVariants.{Four, Six}
use Rattle.protocol.specs.declared.Record.{Record}
use Rattle.protocol.specs.Numbers.{answer_number}
use Rattle.protocol.specs.Host.{strip, Forbidden}
use Rattle.protocol.specs.AddressReading.{Destination, ipv4, ipv6, domain, destination_of}
use Rattle.protocol.specs.Requests.{Destination4, address, name, Announces}
use Rattle.protocol.specs.Opening.{V5, V4, record_family, first_record, unless_four, first_four, or_else, found_four, asked5, asked4, check5, check4, opening5, opening4, Sixteen}
use Rattle.protocol.proofs.Openings.{check5_just, check4_just}
use Rattle.protocol.proofs.Destinations.{ipv4_length, ipv6_length, ipv6_just, domain_is}
use Rattle.protocol.proofs.Limits.{Short4, asked4_short}
use Rattle.proxy_spec.specs.Words.{Unbroken}
use Rattle.both_ends.specs.Ends.{Sized, Sized4, Sendable}

some_bytes : (s : List ℕ) → (s ≡ [] → ⊥) → 1 ≤ length s
some_bytes [] h = absurd (h refl)
some_bytes (b ∷ s) h = omega arith

-- ---- over v5

family_sized : (f : Family) (bs : List ℕ) → length bs ≡ 16 → Sized (record_family f bs)
family_sized Four bs l = omega (arith, length-take 4 bs)
family_sized Six bs l = l

found_sized : (lookup : Bool) (rs : List Record) (n : List ℕ) → Sixteen rs → 1 ≤ length n → Sized (cond lookup (or_else (first_record rs) (domain n)) (domain n))
found_sized false rs n x h = h
found_sized true [] n x h = h
found_sized true (r ∷ rs) n x h = family_sized r.family r.address (x r (Memᴰ.head refl))

asked_sized : (lookup : Bool) (rs : List Record) (s : List ℕ) → Sixteen rs → 1 ≤ length s → Sized (asked5 lookup rs (destination_of s))
asked_sized lookup rs s x h = go (destination_of s) refl
  where
    go : (d : Destination) → destination_of s ≡ d → Sized (asked5 lookup rs d)
    go (ipv4 bs) e = ipv4_length s bs e
    go (ipv6 bs) e = ipv6_length s bs e
    go (domain n) e = found_sized lookup rs n x (rw (domain_is s n e) h)

pub sendable5 : (a : V5) → Sixteen a.records → check5 a ≡ Accepted → Sendable (opening5 a)
unfolding opening5
sendable5 a x e =
    let n = (check5_just a).accepts.0 (ap answer_number e) in
    asked_sized a.config.local_dns a.records (strip a.host) x (some_bytes (strip a.host) (λ q. n.0 (inr q)))

-- ---- over v4: the length of a name is limits4's, and that no address announces one is check 23

-- a 00 is no byte of a host
zero_forbidden : (s : List ℕ) → Memᴰ 0 s → Forbidden s
zero_forbidden [] m = absurd (Memᴰ.not-nil m)
zero_forbidden (b ∷ s) m = go (zero_forbidden s) (Memᴰ.cases_cons m)
  where
    go : (Memᴰ 0 s → Forbidden s) → (0 ≡ b) ⊎ Memᴰ 0 s → Forbidden (b ∷ s)
    go later (inl e) = (0, omega arith, inl (omega arith))
    go later (inr h) = let (i, l, f) = later h in (suc i, omega arith, f)

abbrev Named : List ℕ → Type 0
Named s = (1 ≤ length s) × Unbroken s

abbrev Whole : Destination4 → Type 0
Whole (address bs) = length bs ≡ 4
Whole (name s) = Named s

abbrev Four4 : Option (List ℕ) → Type 0
Four4 none = Unit {0}
Four4 (some bs) = length bs ≡ 4

four_whole : (rs : List Record) → Sixteen rs → Four4 (first_four rs)
unfolding first_four
four_whole [] x = tt
four_whole (r ∷ rs) x = go r.family (four_whole rs (λ q m. x q (Memᴰ.tail m)))
  where
    go : (f : Family) → Four4 (first_four rs) → Four4 (unless_four f r.address (first_four rs))
    go Four ih = let l = x r (Memᴰ.head refl) in omega (arith, length-take 4 r.address)
    go Six ih = ih

found_whole : (found : Option (List ℕ)) (s : List ℕ) → Four4 found → Named s → Whole (found_four found s)
found_whole none s f h = h
found_whole (some bs) s f h = f

named_whole : (lookup : Bool) (rs : List Record) (s : List ℕ) → Sixteen rs → Named s → Whole (cond lookup (found_four (first_four rs) s) (name s))
named_whole true rs s x h = found_whole (first_four rs) s (four_whole rs x) h
named_whole false rs s x h = h

asked_whole : (a : V4) → Sixteen a.records → check4 a ≡ Accepted → Whole (asked4 a.local_dns a.records (destination_of (strip a.host)))
asked_whole a x e = go (destination_of (strip a.host)) refl
  where
    go : (d : Destination) → destination_of (strip a.host) ≡ d → Whole (asked4 a.local_dns a.records d)
    go (ipv4 bs) q = ipv4_length (strip a.host) bs q
    go (ipv6 bs) q = let n = (check4_just a).accepts.0 (ap answer_number e) in absurd (n.1.1.1.0 (bs, (ipv6_just (strip a.host) bs).0 q))
    go (domain m) q =
        let n = (check4_just a).accepts.0 (ap answer_number e) in
        let s = strip a.host in
        let h : Named s = (some_bytes s (λ z. n.0 (inr z)), λ z. n.1.0 (zero_forbidden s z)) in
        named_whole a.local_dns a.records m x (rw (domain_is s m q) h)

sized4 : (d : Destination4) → Whole d → Short4 d → ((bs : List ℕ) → d ≡ address bs → Announces bs → ⊥) → Sized4 d
sized4 (address bs) w h f = (w, f bs refl)
sized4 (name s) (w, u) h f = (w, h, u)

pub sendable4 : (a : V4) → Sixteen a.records → check4 a ≡ Accepted → Sendable (opening4 a)
unfolding opening4
sendable4 a x e =
    let n = (check4_just a).accepts.0 (ap answer_number e) in
    sized4 _ (asked_whole a x e) (asked4_short a e) (λ bs q w. n.1.1.1.1.1.1.0 (bs, q, w))
