-- F-9: a host read, way out by way out.
use Prim.Native.Nat.{ℕ, zero, suc, ◌+◌, ◌-◌, ◌≤◌, ◌<◌, min}
use native.Mathlib.Nat.{zero-add, add-zero}
use native.Mathlib.Numerals.{add-one, one-add}
use native.Mathlib.Omega.{arith}
use mathlib.Core.Path.{◌≡◌, refl, sym, ap, ◌∙◌}
use mathlib.Core.Bool.{Bool, true, false, cond, ◌&&◌, and-false, true≢false}
use mathlib.Core.Option.{Option, none, some}
use mathlib.Core.List.{List, [], ◌∷◌, ◌++◌}
use lib.ListN.{length, take, drop, length-take, drop_of_length-le}
use lib.Seq.{take_at, take-suc, drop-cons, length-take-le}
use lib.Dec.{leb, eqb, eqb-suc-zero}
use borrow.Author.Tests.{leb-true, leb-false, eq-eqb, ne_eqb, eqb-true, eqb-false}
use Rattle.protocol.specs.declared.AddressKind.{AddressKind}
use Rattle.protocol.specs.declared.AddressKind.TheVariants.{Ipv4, Ipv6, Domain}
use Rattle.protocol.specs.Bytes.{byte}
use Rattle.protocol.specs.AddressReading.{ipv6_of}
use Rattle.address_text.specs.declared.ipv4.AddressText.{AddressText}
use Rattle.address_text.specs.ipv6.Answers.{ipv6_text}
use Rattle.buffers.specs.write.Written.{overwrite, Wrote}
use Rattle.buffers.proofs.write.Laws.{then}
use Rattle.buffers.proofs.write.Parts.{part_from}
use Rattle.proxy_url_spec.specs.Reading.{Read, reads, dies, mapped, map, behind, onward, seq, always, common, word, one, consed, many, itself, mark_of, ipv6_by, is_some, ipv6_goes_on, along, ipv6_end, ipv6_text_of, Hosted, bracketed, brackets_of, host_byte, named, name_of, host_of}
use Rattle.proxy_url.specs.Coded.{host_coded}
use Rattle.proxy_url.specs.declared.hosts.HostPart.{HostPart}
use Rattle.std.specs.List.{prefix_len}
use Rattle.std.proofs.lemmas.List.Sums.{prefix_len-le-length}
use Rattle.proxy_url.proofs.Readers.{byte_behind, byte_inside, mark_first, or_left, or_right, ahead, many_marked, many_full, many_more, many_dies}
use Rattle.proxy_url.proofs.Inside.{Inside, bounded_cond, inside_or, inside_word, inside_one, inside_map, inside_seq, inside_both, inside_many}

-- ---- an IPv6 text by an ending

-- what was written from the start stands there
pub written_first : {out out' : List ℕ} {n : ℕ} {bs : List ℕ} → Wrote out 0 bs n out' → take n out' ≡ bs
unfolding overwrite
written_first {out} {out'} {n} {bs} w =
    rw w.bytes (take_at bs (drop (0 + length bs) out) n (sym (zero-add (length bs)) ∙ sym w.place))

pub written_size : {out out₁ out₂ : List ℕ} {n m : ℕ} {s e : List ℕ} → Wrote out 0 s n out₁ → Wrote out₁ n e m out₂ → m ≡ length (take m out₂)
written_size v w = let b = then v w in rw (written_first b) (b.place ∙ zero-add _)

abbrev pub is_ipv6 : AddressKind → Bool
is_ipv6 Ipv4 = false
is_ipv6 Ipv6 = true
is_ipv6 Domain = false

by_kind : (o : Option (List ℕ)) → is_ipv6 (ipv6_text o).kind ≡ is_some o
by_kind none = refl
by_kind (some bs) = refl

module _ {out out₁ out₂ : List ℕ} {n m : ℕ} {s e : List ℕ} (v : Wrote out 0 s n out₁) (w : Wrote out₁ n e m out₂) {r : AddressText} (q : r ≡ ipv6_text (ipv6_of (take m out₂))) where
  by_address : is_ipv6 r.kind ≡ ipv6_by s e
  unfolding ipv6_by
  by_address = rw (q, written_first (then v w)) (by_kind (ipv6_of (s ++ e)))

  pub ended : r.kind ≡ Ipv6 → true ≡ ipv6_by s e
  ended k = sym (ap is_ipv6 k) ∙ by_address

  pub ended_not : (r.kind ≡ Ipv6 → ⊥) → false ≡ ipv6_by s e
  ended_not f = go r.kind refl ∙ by_address
    where
      go : (k : AddressKind) → r.kind ≡ k → false ≡ is_ipv6 r.kind
      go Ipv4 z = rw z
      go Ipv6 z = absurd (f z)
      go Domain z = rw z

-- ---- how far a text begins an IPv6 text, from a place on

module _ (test : List ℕ → Bool) (k : ℕ) (s : List ℕ) (n : ℕ) where
  abbrev pub along_from : ℕ
  along_from = n + along test (k - n) (take n s) (drop n s)

  module _ (few : n < k) (inside : n < length s) where
    along_step : along_from ≡ n + cond (test (take (n + 1) s)) (suc (along test (k - (n + 1)) (take (n + 1) s) (drop (n + 1) s))) 0
    unfolding along
    along_step =
        let z : k - n ≡ suc (k - (n + 1)) = omega arith in
        rw (z, drop-cons s n 0 inside, ← take-suc s n 0 inside, add-one n)

    pub along_more : test (take (n + 1) s) ≡ true → n + 1 + along test (k - (n + 1)) (take (n + 1) s) (drop (n + 1) s) ≡ along_from
    along_more q = sym (along_step ∙ rw q (omega arith))

    pub along_stop : test (take (n + 1) s) ≡ false → n ≡ along_from
    along_stop q = sym (along_step ∙ rw q (add-zero n))

  pub along_end : {end : ℕ} → end ≡ min (length s) k → end ≤ n → n ≡ along_from
  unfolding along
  along_end e h = go (k - n) refl (leb (length s) n) refl
    where
      go : (j : ℕ) → k - n ≡ j → (b : Bool) → leb (length s) n ≡ b → n ≡ n + along test j (take n s) (drop n s)
      go zero q b t = sym (add-zero n)
      go (suc j) q true t = rw (drop_of_length-le s (leb-true (length s) n t)) (sym (add-zero n))
      go (suc j) q false t = let l = leb-false (length s) n t in absurd (omega arith)

along_inside : (test : List ℕ → Bool) (k : ℕ) (p s : List ℕ) → (along test k p s ≤ length s) × (along test k p s ≤ k)
unfolding along
along_inside test zero p s = (omega arith, omega arith)
along_inside test (suc k) p [] = (omega arith, omega arith)
along_inside test (suc k) p (b ∷ s) = go (test (p ++ (b ∷ []))) (along test k (p ++ (b ∷ [])) s) (along_inside test k (p ++ (b ∷ [])) s)
  where
    go : (t : Bool) (n : ℕ) → (n ≤ length s) × (n ≤ k) → (cond t (suc n) 0 ≤ suc (length s)) × (cond t (suc n) 0 ≤ suc k)
    go true n h = (omega arith, omega arith)
    go false n h = (omega arith, omega arith)

-- ---- an IPv6 text in brackets, and the colon

module _ (s : List ℕ) {n : ℕ} (e : n ≡ ipv6_end s) where
  pub ipv6_inside : (n ≤ length s) × (n ≤ 45)
  unfolding ipv6_end
  ipv6_inside = rw e (along_inside ipv6_goes_on 45 [] s)

  brackets_is : brackets_of (0x5B ∷ s)
      ≡ cond (eqb (byte s n) 0x5D && ipv6_by (take n s) []) (cond (eqb (byte s (n + 1)) 0x3A) (reads (record { at = 1; host = take n s }) (n + 3)) (dies (n + 2))) (dies (n + 1))
  unfolding brackets_of map seq word common ipv6_text_of
  brackets_is = rw (← e) (go (eqb (byte s n) 0x5D && ipv6_by (take n s) []) (mark_first 0x3A (tt {0}) (drop (n + 1) s) (λ z. omega arith) ∙ rw (byte_behind s (n + 1))))
    where
      last : (b : Bool) → mapped bracketed (behind (tt {0}) 1 (behind (take n s) (n + 1) (cond b (reads (tt {0}) 1) (dies 0))))
          ≡ cond b (reads (record { at = 1; host = take n s }) (n + 3)) (dies (n + 2))
      last true = let z : 1 + (n + 1 + 1) ≡ n + 3 = omega arith in rw z
      last false = let z : 1 + (n + 1 + 0) ≡ n + 2 = omega arith in rw z

      go : (b : Bool) → mark_of 0x3A (drop (n + 1) s) ≡ cond (eqb (byte s (n + 1)) 0x3A) (reads (tt {0}) 1) (dies 0)
          → mapped bracketed (behind (tt {0}) 1 (onward (cond b (reads (take n s) (n + 1)) (dies n)) (always (mark_of 0x3A)) s))
          ≡ cond b (cond (eqb (byte s (n + 1)) 0x3A) (reads (record { at = 1; host = take n s }) (n + 3)) (dies (n + 2))) (dies (n + 1))
      go true q = rw q (last (eqb (byte s (n + 1)) 0x3A))
      go false q = let z : 1 + n ≡ n + 1 = omega arith in rw z

  pub brackets_open : (byte s n ≡ 0x5D → ⊥) → ◌≡◌ {A = Read HostPart} (dies (n + 1)) (mapped host_coded (brackets_of (0x5B ∷ s)))
  brackets_open f = rw (brackets_is, ne_eqb (byte s n) 0x5D f)

  pub brackets_other : ipv6_by (take n s) [] ≡ false → ◌≡◌ {A = Read HostPart} (dies (n + 1)) (mapped host_coded (brackets_of (0x5B ∷ s)))
  brackets_other q = rw (brackets_is, q, and-false (eqb (byte s n) 0x5D))

  module _ (closed : byte s n ≡ 0x5D) (q : ipv6_by (take n s) [] ≡ true) where
    pub brackets_alone : (byte s (n + 1) ≡ 0x3A → ⊥) → ◌≡◌ {A = Read HostPart} (dies (n + 2)) (mapped host_coded (brackets_of (0x5B ∷ s)))
    brackets_alone f = rw (brackets_is, eq-eqb (byte s n) 0x5D closed, q, ne_eqb (byte s (n + 1)) 0x3A f)

    pub brackets_whole : byte s (n + 1) ≡ 0x3A → ◌≡◌ {A = Read HostPart} (reads (record { at = 1; len = n }) (n + 3)) (mapped host_coded (brackets_of (0x5B ∷ s)))
    brackets_whole c = rw (brackets_is, eq-eqb (byte s n) 0x5D closed, q, eq-eqb (byte s (n + 1)) 0x3A c, length-take-le n s ipv6_inside.0)

-- ---- host bytes, and the colon

-- so many bytes, and the mark or not
abbrev names_by : ℕ → ℕ → List ℕ → Read (List ℕ)
names_by mark n s = cond (eqb (byte s n) mark) (reads (take n s) (n + 1)) (dies n)

-- how many of the first bytes pass a test
abbrev run : (ℕ → Bool) → ℕ → List ℕ → ℕ
run test k s = prefix_len test (take k s)

module _ (test : ℕ → Bool) (mark : ℕ) (some : mark ≡ 0 → ⊥) (past : test 0 ≡ false) (unlike : test mark ≡ false) where
  many_along : (k : ℕ) (s : List ℕ) → many (one test itself) mark k s ≡ names_by mark (run test k s) s
  unfolding one
  many_along zero s = go (eqb (byte s 0) mark) refl
    where
      go : (b : Bool) → eqb (byte s 0) mark ≡ b → many (one test itself) mark zero s ≡ cond b (reads [] 1) (dies 0)
      go true q = many_marked (one test itself) mark some s zero (eqb-true (byte s 0) mark q)
      go false q = many_full (one test itself) mark some s (eqb-false (byte s 0) mark q)
  many_along (suc k) [] =
      let o : 0 ≡ mark → ⊥ = λ e. some (sym e) in
      rw (ne_eqb 0 mark o) (many_dies (one test itself) mark some [] o k refl)
  many_along (suc k) (b ∷ s) = go (eqb b mark) refl (test b) refl (run test k s) (many_along k s)
    where
      more : (m : ℕ) (t : Bool) → ahead (b ∷ []) 1 (cond t (reads (take m s) (m + 1)) (dies m)) ≡ cond t (reads (b ∷ take m s) (suc m + 1)) (dies (suc m))
      more m true = let z : 1 + (m + 1) ≡ suc m + 1 = omega arith in rw z
      more m false = rw one-add

      go : (e : Bool) → eqb b mark ≡ e → (t : Bool) → test b ≡ t → (m : ℕ) → many (one test itself) mark k s ≡ names_by mark m s → many (one test itself) mark (suc k) (b ∷ s) ≡ names_by mark (cond t (1 + m) 0) (b ∷ s)
      go true e true q m ih = absurd (true≢false (sym q ∙ ap test (eqb-true b mark e) ∙ unlike))
      go true e false q m ih = rw e (many_marked (one test itself) mark some (b ∷ s) (suc k) (eqb-true b mark e))
      go false e true q m ih = rw one-add (many_more (one test itself) mark some (b ∷ s) (eqb-false b mark e) k {v = b} {n = 1} (rw q) ∙ rw ih (more m (eqb (byte s m) mark)))
      go false e false q m ih = rw e (many_dies (one test itself) mark some (b ∷ s) (eqb-false b mark e) k {n = 0} (rw q))

abbrev named_by : ℕ → List ℕ → Read Hosted
named_by n s = cond (eqb n 0) (dies 0) (cond (eqb (byte s n) 0x3A) (reads (named (take n s)) (n + 1)) (dies n))

-- one host byte and so many more
names_along : (k : ℕ) (s : List ℕ) → mapped named (mapped consed (onward (one host_byte itself s) (always (many (one host_byte itself) 0x3A k)) s)) ≡ named_by (run host_byte (suc k) s) s
unfolding one host_byte
names_along k [] = refl
names_along k (b ∷ s) = go (host_byte b) (run host_byte k s) (many_along host_byte 0x3A (λ e. omega arith) refl refl k s)
  where
    more : (m : ℕ) (t : Bool) → mapped named (mapped consed (behind b 1 (cond t (reads (take m s) (m + 1)) (dies m)))) ≡ cond t (reads (named (b ∷ take m s)) (suc m + 1)) (dies (suc m))
    more m true = let z : 1 + (m + 1) ≡ suc m + 1 = omega arith in rw z
    more m false = rw one-add

    go : (t : Bool) (m : ℕ) → many (one host_byte itself) 0x3A k s ≡ names_by 0x3A m s
        → mapped named (mapped consed (onward (cond t (reads b 1) (dies 0)) (always (many (one host_byte itself) 0x3A k)) (b ∷ s))) ≡ named_by (cond t (1 + m) 0) (b ∷ s)
    go true m q = rw (one-add, eqb-suc-zero m, q) (more m (eqb (byte s m) 0x3A))
    go false m q = refl

name_is : (s : List ℕ) → name_of s ≡ named_by (run host_byte 255 s) s
unfolding name_of map seq
name_is s = names_along 254 s

module _ (s : List ℕ) {n : ℕ} (e : n ≡ prefix_len host_byte (take 255 s)) where
  pub name_inside : (n ≤ length s) × (n ≤ 255)
  name_inside = let p = prefix_len-le-length host_byte (take 255 s) in rw e (omega (arith, p, length-take 255 s), omega (arith, p, length-take 255 s))

  pub name_none : n ≡ 0 → ◌≡◌ {A = Read HostPart} (dies 0) (mapped host_coded (name_of s))
  name_none z = rw (name_is s, ← e, z)

  module _ (some : n ≡ 0 → ⊥) where
    pub name_whole : byte s n ≡ 0x3A → ◌≡◌ {A = Read HostPart} (reads (record { at = 0; len = n }) (n + 1)) (mapped host_coded (name_of s))
    name_whole c = rw (name_is s, ← e, ne_eqb n 0 some, eq-eqb (byte s n) 0x3A c, length-take-le n s name_inside.0)

    pub name_alone : (byte s n ≡ 0x3A → ⊥) → ◌≡◌ {A = Read HostPart} (dies n) (mapped host_coded (name_of s))
    name_alone f = rw (name_is s, ← e, ne_eqb n 0 some, ne_eqb (byte s n) 0x3A f)

-- ---- either

pub host_brackets : (s : List ℕ) {r : Read HostPart} → byte s 0 ≡ 0x5B → r ≡ mapped host_coded (brackets_of (0x5B ∷ take (length s - 1) (drop 1 s))) → r ≡ mapped host_coded (host_of s)
unfolding host_of name_of map seq one host_byte
host_brackets [] e q = absurd (omega arith)
host_brackets (b ∷ s) e q = rw (e, or_left brackets_of name_of (0x5B ∷ s) refl) (rw (part_from (b ∷ s) 1) at q)

no_bracket : (s : List ℕ) → (byte s 0 ≡ 0x5B → ⊥) → brackets_of s ≡ dies 0
unfolding brackets_of map seq
no_bracket s f = rw (mark_first 0x5B (tt {0}) s (λ e. omega arith), ne_eqb (byte s 0) 0x5B f)

pub host_name : (s : List ℕ) {r : Read HostPart} → (byte s 0 ≡ 0x5B → ⊥) → r ≡ mapped host_coded (name_of s) → r ≡ mapped host_coded (host_of s)
unfolding host_of
host_name s f q = rw (or_right brackets_of name_of s (no_bracket s f)) q

-- ---- no host goes past the text's end, and each begins within what was read

inside_ipv6 : Inside (λ u. 0) ipv6_text_of
unfolding ipv6_text_of
inside_ipv6 s =
    bounded_cond (λ u. 0) (eqb (byte s (ipv6_end s)) 0x5D && ipv6_by (take (ipv6_end s) s) []) _ _ (length s)
    (λ q. (omega arith, closed (eqb (byte s (ipv6_end s)) 0x5D) refl q)) (ipv6_inside s refl).0
  where
    closed : (b : Bool) → eqb (byte s (ipv6_end s)) 0x5D ≡ b → (b && ipv6_by (take (ipv6_end s) s) []) ≡ true → ipv6_end s + 1 ≤ length s
    closed true e q = let h = byte_inside s (ipv6_end s) (λ z. omega arith) (eqb-true (byte s (ipv6_end s)) 0x5D e) in omega arith
    closed false e q = absurd (true≢false (sym q))

inside_brackets : Inside (λ h. h.at) brackets_of
unfolding brackets_of
inside_brackets =
    inside_map (λ h. h.at) bracketed _
    (inside_seq (λ u. 0) (λ u. 0) (λ t. t.1) (λ v n u m h k. omega arith) (mark_of 0x5B) _ (inside_word (0x5B ∷ []) tt)
    (λ v. inside_both ipv6_text_of (always (mark_of 0x3A)) inside_ipv6 (λ u. inside_word (0x3A ∷ []) tt)))

inside_name : Inside (λ h. h.at) name_of
unfolding name_of
inside_name =
    inside_map (λ h. h.at) named _
    (inside_map (λ u. 0) consed _
    (inside_both (one host_byte itself) _ (inside_one host_byte itself) (λ v. inside_many (one host_byte itself) 0x3A (inside_one host_byte itself) 254)))

pub inside_host : Inside (λ h. h.at) host_of
unfolding host_of
inside_host = inside_or (λ h. h.at) brackets_of name_of inside_brackets inside_name
