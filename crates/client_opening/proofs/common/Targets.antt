-- What is asked for, as it was read or looked up, is what the definitions ask for; and of what kind it is.
use Prim.Native.Nat.{ℕ, ◌≤◌}
use native.Mathlib.Omega.{arith}
use mathlib.Core.Path.{◌≡◌, refl, ap, sym}
use mathlib.Core.Bool.{Bool, true, false, cond}
use mathlib.Core.List.{List, [], ◌∷◌}
use lib.ListN.{length, take, replicate, length-take}
use lib.Seq.{take_at}
use Rattle.std.specs.Prelude.{Option, None, Some}
use Rattle.protocol.specs.declared.AddressKind.{AddressKind}
use Rattle.protocol.specs.declared.AddressKind.TheVariants.{Ipv4, Ipv6, Domain}
use Rattle.protocol.specs.declared.Family.{Family}
use Rattle.protocol.specs.declared.Family.TheVariants.{Four, Six}
use Rattle.protocol.specs.declared.Record.{Record}
use Rattle.protocol.specs.AddressReading.{Destination, ipv4, ipv6, domain, destination_of}
use Rattle.protocol.specs.Requests.{kind_of, address, name}
use Rattle.protocol.specs.Opening.{is_name, is_ipv6, first_four, record_family, asked5, asked4}
use Rattle.protocol.proofs.Destinations.{domain_is, ipv4_length}
use Rattle.address_text.specs.declared.ipv4.AddressText.{AddressText}
use Rattle.address_text.specs.ipv4.Answers.{address_text}
use Rattle.lookup.specs.Chosen.{chosen_of, records_of}
use Rattle.client_opening.specs.common.Asked.{record_kind, asked_text, target_by, target5, target4}

-- ---- the destination

by_family : (f : Family) (bs text : List ℕ) → target_by (record_kind f) bs text ≡ record_family f bs
by_family Four bs text = refl
by_family Six bs text = refl

module _ (s : List ℕ) (l : Bool) (chosen : Option Record) where
  pub asks5 : {read : AddressText} → read ≡ address_text (destination_of s) → target5 (asked_text read (cond l chosen None)) s ≡ asked5 l (records_of chosen) (destination_of s)
  asks5 e = rw e (go (destination_of s) refl l chosen)
    where
      go : (d : Destination) → destination_of s ≡ d → (b : Bool) (c : Option Record) → target5 (asked_text (address_text d) (cond b c None)) s ≡ asked5 b (records_of c) d
      go (ipv4 bs) q false c = ap ipv4 (take_at bs (replicate 12 0) 4 (ipv4_length s bs q))
      go (ipv4 bs) q true None = ap ipv4 (take_at bs (replicate 12 0) 4 (ipv4_length s bs q))
      go (ipv4 bs) q true (Some r) = ap ipv4 (take_at bs (replicate 12 0) 4 (ipv4_length s bs q))
      go (ipv6 bs) q false c = refl
      go (ipv6 bs) q true None = refl
      go (ipv6 bs) q true (Some r) = refl
      go (domain n) q false c = ap domain (sym (domain_is s n q))
      go (domain n) q true None = ap domain (sym (domain_is s n q))
      go (domain n) q true (Some r) = by_family r.family r.address s

  pub asks4 : {read : AddressText} → read ≡ address_text (destination_of s)
      → target4 (asked_text read (cond l (chosen_of true (records_of chosen)) None)) s ≡ asked4 l (records_of chosen) (destination_of s)
  unfolding first_four
  asks4 e = rw e (by_record l chosen)
    where
      go : (d : Destination) → destination_of s ≡ d → (b : Bool) (f : Family) (bs : List ℕ) → let r : Record = record { family = f; address = bs } in
          target4 (asked_text (address_text d) (cond b (chosen_of true (r ∷ [])) None)) s ≡ asked4 b (r ∷ []) d
      go (ipv4 ip) q false f bs = ap address (take_at ip (replicate 12 0) 4 (ipv4_length s ip q))
      go (ipv4 ip) q true Four bs = ap address (take_at ip (replicate 12 0) 4 (ipv4_length s ip q))
      go (ipv4 ip) q true Six bs = ap address (take_at ip (replicate 12 0) 4 (ipv4_length s ip q))
      go (ipv6 ip) q false f bs = refl
      go (ipv6 ip) q true Four bs = refl
      go (ipv6 ip) q true Six bs = refl
      go (domain n) q false f bs = ap name (sym (domain_is s n q))
      go (domain n) q true Four bs = refl
      go (domain n) q true Six bs = ap name (sym (domain_is s n q))

      none : (d : Destination) → destination_of s ≡ d → (b : Bool) → target4 (asked_text (address_text d) (cond b None None)) s ≡ asked4 b [] d
      none (ipv4 ip) q false = ap address (take_at ip (replicate 12 0) 4 (ipv4_length s ip q))
      none (ipv4 ip) q true = ap address (take_at ip (replicate 12 0) 4 (ipv4_length s ip q))
      none (ipv6 ip) q false = refl
      none (ipv6 ip) q true = refl
      none (domain n) q false = ap name (sym (domain_is s n q))
      none (domain n) q true = ap name (sym (domain_is s n q))

      by_record : (b : Bool) (c : Option Record) → target4 (asked_text (address_text (destination_of s)) (cond b (chosen_of true (records_of c)) None)) s ≡ asked4 b (records_of c) (destination_of s)
      by_record b None = none (destination_of s) refl b
      by_record b (Some r) = go (destination_of s) refl b r.family r.address

-- ---- its kind

-- a name is asked for only if a name was read
pub asked_name : (read : AddressText) (found : Option Record) → (asked_text read found).kind ≡ Domain → is_name (kind_of read.kind []) ≡ true
asked_name read found = go read.kind found
  where
    go : (k : AddressKind) (c : Option Record) → (asked_text (record { kind = k; bytes = read.bytes }) c).kind ≡ Domain → is_name (kind_of k []) ≡ true
    go Ipv4 None e = let z : ◌≡◌ {A = ℕ} 0 1 = cc in absurd (omega arith)
    go Ipv4 (Some r) e = let z : ◌≡◌ {A = ℕ} 0 1 = cc in absurd (omega arith)
    go Ipv6 None e = let z : ◌≡◌ {A = ℕ} 0 1 = cc in absurd (omega arith)
    go Ipv6 (Some r) e = let z : ◌≡◌ {A = ℕ} 0 1 = cc in absurd (omega arith)
    go Domain c e = refl

-- over v4 an IPv6 address is asked for only if one was read
pub asked_ipv6 : (read : AddressText) (l : Bool) (chosen : Option Record) → (asked_text read (cond l (chosen_of true (records_of chosen)) None)).kind ≡ Ipv6 → is_ipv6 (kind_of read.kind []) ≡ true
asked_ipv6 read l chosen = by_record chosen
  where
    go : (k : AddressKind) (b : Bool) (f : Family) (bs : List ℕ) → let r : Record = record { family = f; address = bs } in
        (asked_text (record { kind = k; bytes = read.bytes }) (cond b (chosen_of true (r ∷ [])) None)).kind ≡ Ipv6 → is_ipv6 (kind_of k []) ≡ true
    go Ipv4 false f bs e = let z : ◌≡◌ {A = ℕ} 0 1 = cc in absurd (omega arith)
    go Ipv4 true Four bs e = let z : ◌≡◌ {A = ℕ} 0 1 = cc in absurd (omega arith)
    go Ipv4 true Six bs e = let z : ◌≡◌ {A = ℕ} 0 1 = cc in absurd (omega arith)
    go Ipv6 b f bs e = refl
    go Domain false f bs e = let z : ◌≡◌ {A = ℕ} 0 1 = cc in absurd (omega arith)
    go Domain true Four bs e = let z : ◌≡◌ {A = ℕ} 0 1 = cc in absurd (omega arith)
    go Domain true Six bs e = let z : ◌≡◌ {A = ℕ} 0 1 = cc in absurd (omega arith)

    none : (k : AddressKind) (b : Bool) → (asked_text (record { kind = k; bytes = read.bytes }) (cond b (chosen_of true []) None)).kind ≡ Ipv6 → is_ipv6 (kind_of k []) ≡ true
    none Ipv4 false e = let z : ◌≡◌ {A = ℕ} 0 1 = cc in absurd (omega arith)
    none Ipv4 true e = let z : ◌≡◌ {A = ℕ} 0 1 = cc in absurd (omega arith)
    none Ipv6 b e = refl
    none Domain false e = let z : ◌≡◌ {A = ℕ} 0 1 = cc in absurd (omega arith)
    none Domain true e = let z : ◌≡◌ {A = ℕ} 0 1 = cc in absurd (omega arith)

    by_record : (c : Option Record) → (asked_text read (cond l (chosen_of true (records_of c)) None)).kind ≡ Ipv6 → is_ipv6 (kind_of read.kind []) ≡ true
    by_record None = none read.kind l
    by_record (Some r) = go read.kind l r.family r.address

-- ---- the four bytes of an IPv4 address, of sixteen

pub four_long : {n : ℕ} → n ≡ 16 → 4 ≤ n
four_long l = omega arith

pub four_size : (bs : List ℕ) → length bs ≡ 16 → 4 ≡ length (take 4 bs)
four_size bs l = omega (arith, length-take 4 bs)
