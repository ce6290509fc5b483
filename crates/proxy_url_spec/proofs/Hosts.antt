-- F-9: a host and the colon behind it are read as the grammar has them.
use Prim.Native.Nat.{ℕ, ◌≤◌}
use native.Mathlib.Omega.{arith}
use mathlib.Core.Path.{◌≡◌, refl, sym, ap, subst, ◌∙◌}
use mathlib.Core.Bool.{true, not, false≢true}
use mathlib.Core.List.{List, [], ◌∷◌, ◌++◌}
use lib.Dec.{eqb}
use lib.ListN.{length, get_or}
use borrow.Author.Tests.{leb-true, le-leb, eqb-false, ne_eqb, not-true}
use Rattle.proxy_url_spec.specs.Grammar as G
use Rattle.proxy_url_spec.specs.Grammar.{HostByte, HostBytes, Host, ipv6, bytes}
use Rattle.proxy_url_spec.specs.Reading.{Reader, one, map, seq, many, always, mark_of, itself, consed, Hosted, bracketed, named, ipv6_text_of, brackets_of, host_byte, name_of, host_of}
use Rattle.proxy_url_spec.proofs.Readers as R
use Rattle.proxy_url_spec.proofs.Readers.{Any, Inhabited, Law, law_as, Image, law_map, Joined, some_joined, law_seq, Or, Apart, law_or}
use Rattle.proxy_url_spec.proofs.Fields as F
use Rattle.proxy_url_spec.proofs.Fields.{Is, law_word, Passes, law_one, Then, Row, Marked, law_marked}
use Rattle.proxy_url_spec.proofs.Texts.{both_true, TextWord, law_text, text_some}

-- ---- host bytes

other_than : (b m : ℕ) → not (eqb b m) ≡ true → b ≡ m → ⊥
other_than b m e = eqb-false b m (not-true (eqb b m) e)

pub host_byte_is : (b : ℕ) → host_byte b ≡ true → HostByte b
unfolding host_byte
host_byte_is b e =
    let (r, e1) = both_true _ _ e in
    let (l, h) = both_true _ _ r in
    let (slash, e2) = both_true _ _ e1 in
    let (at, e3) = both_true _ _ e2 in
    let (percent, e4) = both_true _ _ e3 in
    let (colon, e5) = both_true _ _ e4 in
    let (open', close) = both_true _ _ e5 in
    record {
      low = leb-true 0x21 b l;
      high = leb-true b 0x7E h;
      no_slash = other_than b 0x2F slash;
      no_at = other_than b 0x40 at;
      no_percent = other_than b 0x25 percent;
      no_colon = other_than b 0x3A colon;
      no_open = other_than b 0x5B open';
      no_close = other_than b 0x5D close;
    }

pub is_host_byte : {b : ℕ} → HostByte b → host_byte b ≡ true
unfolding host_byte
is_host_byte {b} h =
    rw (
      le-leb 0x21 b h.low,
      le-leb b 0x7E h.high,
      ne_eqb b 0x2F h.no_slash,
      ne_eqb b 0x40 h.no_at,
      ne_eqb b 0x25 h.no_percent,
      ne_eqb b 0x3A h.no_colon,
      ne_eqb b 0x5B h.no_open,
      ne_eqb b 0x5D h.no_close,
    )

-- ---- the two kinds of host, and a colon

-- a host and the colon behind it
pub record HostWord (w : List ℕ) (h : Hosted) : Type 0 where
  pub s : List ℕ
  pub spelt : w ≡ s ++ (0x3A ∷ [])
  pub is : Host s h.at h.host

abbrev Mark : ℕ → List ℕ → Unit {0} → Type 0
Mark m = Is (m ∷ []) tt

abbrev Closed : List ℕ → List ℕ × ℕ × Unit {0} → Type 0
Closed = Joined TextWord (Then (Mark 0x3A))

abbrev Brackets : List ℕ → Hosted → Type 0
Brackets = Image bracketed (Joined (Mark 0x5B) (Then Closed))

mark_some : (m : ℕ) → Inhabited (Mark m)
mark_some m = record { w = m ∷ []; v = tt; word = record { spelt = refl; value = refl } }

law_brackets : Law Any Brackets brackets_of
unfolding brackets_of
law_brackets =
    law_map bracketed Any (Joined (Mark 0x5B) (Then Closed)) (seq (mark_of 0x5B) (always (seq ipv6_text_of (always (mark_of 0x3A)))))
    (law_seq Any (Mark 0x5B) (mark_of 0x5B) (Then Closed) (always (seq ipv6_text_of (always (mark_of 0x3A)))) (law_word (0x5B ∷ []) tt)
    (λ v. law_seq Any TextWord ipv6_text_of (Then (Mark 0x3A)) (always (mark_of 0x3A)) law_text (λ u. law_word (0x3A ∷ []) tt) (λ u. mark_some 0x3A))
    (λ v. some_joined text_some (λ u. mark_some 0x3A)))

abbrev HB : List ℕ → ℕ → Type 0
HB = Passes host_byte itself

abbrev host_reader : Reader ℕ
host_reader = one host_byte itself

abbrev More : List ℕ → List ℕ → Type 0
More = Marked HB 0x3A 254

abbrev Name : List ℕ → Hosted → Type 0
Name = Image named (Image consed (Joined HB (Then More)))

law_host_byte : Law Any HB host_reader
unfolding host_byte
law_host_byte = law_one host_byte itself 0x61 refl

colon_clear : (w t : List ℕ) (v : ℕ) → HB w v → (r : List ℕ) → 0x3A ∷ r ≡ w ++ t → ⊥
unfolding host_byte
colon_clear w t v x r e =
    let h : 0x3A ∷ r ≡ x.b ∷ t = e ∙ rw x.spelt in
    let g : x.b ≡ 0x3A = sym (ap (λ (l : List ℕ). get_or l 0 0) h) in
    false≢true (rw g at x.passes)

more_some : Inhabited More
more_some = record { w = 0x3A ∷ []; v = []; word = record { s = []; spelt = refl; row = F.end; few = omega arith } }

law_name : Law Any Name name_of
unfolding name_of
law_name =
    law_map named Any (Image consed (Joined HB (Then More))) (map consed (seq host_reader (always (many host_reader 0x3A 254))))
    (law_map consed Any (Joined HB (Then More)) (seq host_reader (always (many host_reader 0x3A 254)))
    (law_seq Any HB host_reader (Then More) (always (many host_reader 0x3A 254)) law_host_byte (λ v. law_marked HB 0x3A host_reader law_host_byte colon_clear 254) (λ v. more_some)))

bracket_or_name : Apart Any Brackets Name
unfolding host_byte
bracket_or_name w t v x o y r u z q e =
    let j = x.word in
    let k = z.word.word in
    let a : w ++ t ≡ 0x5B ∷ (j.b ++ t) = rw (j.split, j.first.spelt) in
    let b : y ++ r ≡ k.first.b ∷ (k.b ++ r) = rw (k.split, k.first.spelt) in
    let g : k.first.b ≡ 0x5B = sym (ap (λ (l : List ℕ). get_or l 0 0) (sym a ∙ e ∙ b)) in
    false≢true (rw g at k.first.passes)

law_host_by : Law Any (Or Brackets Name) host_of
unfolding host_of
law_host_by = law_or Any Brackets Name brackets_of name_of law_brackets law_name bracket_or_name

-- ---- as the grammar has them

host_at_lem : {w : List ℕ} {h : Hosted} {s : List ℕ} {at : ℕ} → w ≡ s ++ (0x3A ∷ []) → (host : List ℕ) → h ≡ record { at = at; host = host } → Host s at host → HostWord w h
host_at_lem {w} {h} {s} {at} e host f x = record { s = s; spelt = e; is = rw f x }

brackets_host : (w : List ℕ) (h : Hosted) → Brackets w h → HostWord w h
brackets_host w h x =
    let j = x.word in
    let k = j.second in
    let s = x.value.2.0 in
    let n : x.value.1 ≡ 1 = j.long ∙ rw j.first.spelt in
    let e : w ≡ (0x5B ∷ (s ++ (0x5D ∷ []))) ++ (0x3A ∷ []) = j.split ∙ rw (j.first.spelt, k.split, k.first.spelt, k.second.spelt) in
    host_at_lem e s (x.is ∙ ap (λ (i : ℕ). record { at = i; host = s }) n) (ipv6 k.first.is)

row_is : {s vs : List ℕ} → Row HB s vs → vs ≡ s
row_is F.end = refl
row_is (F.next {a} {s} {vs} {v} x r) = rw (x.spelt, x.is, row_is r)

row_bytes : (b : ℕ) → HostByte b → {s vs : List ℕ} → Row HB s vs → HostBytes (b ∷ s)
row_bytes b h F.end = G.last h
row_bytes b h (F.next {a} {s} {vs} {v} x r) = rw x.spelt (G.next h (row_bytes x.b (host_byte_is x.b x.passes) r))

name_host : (w : List ℕ) (h : Hosted) → Name w h → HostWord w h
name_host w h x =
    let y = x.word in
    let k = y.word in
    let m = k.second in
    let b = k.first.b in
    let e : w ≡ (b ∷ m.s) ++ (0x3A ∷ []) = k.split ∙ rw (k.first.spelt, m.spelt) in
    let v : x.value ≡ b ∷ m.s = y.is ∙ rw (k.first.is, row_is m.row) in
    let l : length (b ∷ m.s) ≤ 255 = let f = m.few in let g = ap length (row_is m.row) in omega arith in
    host_at_lem e (b ∷ m.s) (x.is ∙ ap named v) (bytes (row_bytes b (host_byte_is b k.first.passes) m.row) l)

host_of_lem : (w : List ℕ) (h : Hosted) → Or Brackets Name w h → HostWord w h
host_of_lem w h (R.one x) = brackets_host w h x
host_of_lem w h (R.other x) = name_host w h x

passes_of : {b : ℕ} → HostByte b → HB (b ∷ []) b
passes_of {b} h = record { b = b; spelt = refl; passes = is_host_byte h; is = refl }

row_of : {s : List ℕ} → HostBytes s → Row HB s s
row_of (G.last h) = F.next (passes_of h) F.end
row_of (G.next h r) = F.next (passes_of h) (row_of r)

name_of_lem : {b : ℕ} {s : List ℕ} → HostByte b → Row HB s s → length s ≤ 254 → Name ((b ∷ s) ++ (0x3A ∷ [])) (named (b ∷ s))
name_of_lem {b} {s} h r l =
    record {
      value = b ∷ s;
      word =
          record {
            value = (b, 1, s);
            word =
                record {
                  a = b ∷ [];
                  b = s ++ (0x3A ∷ []);
                  split = refl;
                  long = refl;
                  first = passes_of h;
                  second = record { s = s; spelt = refl; row = r; few = l };
                };
            is = refl;
          };
      is = refl;
    }

of_host : {s host : List ℕ} {at : ℕ} → Host s at host → Or Brackets Name (s ++ (0x3A ∷ [])) (record { at = at; host = host })
of_host (ipv6 {s} {bs} x) =
    R.one (record {
      value = (tt, 1, (s, length (s ++ (0x5D ∷ [])), tt));
      word =
          record {
            a = 0x5B ∷ [];
            b = (s ++ (0x5D ∷ [])) ++ (0x3A ∷ []);
            split = refl;
            long = refl;
            first = record { spelt = refl; value = refl };
            second =
                record {
                  a = s ++ (0x5D ∷ []);
                  b = 0x3A ∷ [];
                  split = refl;
                  long = refl;
                  first = record { spelt = refl; bytes = bs; is = x };
                  second = record { spelt = refl; value = refl };
                };
          };
      is = refl;
    })
of_host (bytes (G.last h) l) = R.other (name_of_lem h F.end (omega arith))
of_host (bytes (G.next h r) l) = R.other (name_of_lem h (row_of r) (omega arith))

pub law_host : Law Any HostWord host_of
law_host = law_as host_of_lem (λ w h x. subst (λ (z : List ℕ). Or Brackets Name z h) (sym x.spelt) (of_host x.is)) law_host_by
