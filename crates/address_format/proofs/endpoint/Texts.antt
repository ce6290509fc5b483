-- The parts of a text put one behind the other, and the text in the caller's buffer.
use Prim.Native.Nat.{ℕ, ◌+◌, ◌≤◌, ◌<◌}
use native.Mathlib.Omega.{arith}
use native.Mathlib.Nat.{zero-add}
use mathlib.Core.Path.{◌≡◌, refl, sym, ap, ◌∙◌}
use mathlib.Core.List.{List, [], ◌∷◌, ◌++◌, append_assoc}
use lib.ListN.{length, get_or, take, drop, length-append, length-take}
use lib.Seq.{take_at, drop_at, length-take-le}
use borrow.Author.Tests.{le-leb, lt-leb}
use Rattle.address_format.specs.numerals.Digits.{digits_of}
use Rattle.address_format.specs.numerals.Added.{Adds}
use Rattle.address_format.proofs.numerals.Laws.{then}
use Rattle.protocol.specs.declared.Address.{Address}
use Rattle.protocol.specs.declared.AddressKind.{AddressKind}
use Rattle.protocol.specs.declared.AddressKind.TheVariants.{Ipv4, Ipv6, Domain}
use Rattle.std.specs.Prelude.{Ok, Err}
use Rattle.protocol.specs.declared.SocksError.TheVariants.{ShortText}
use Rattle.protocol.specs.AddressReading.{Destination}
use Rattle.protocol.specs.Bound.{size_of}
use Rattle.protocol.specs.Host.{bracketed}
use Rattle.protocol.specs.Requests.{kind_of}
use Rattle.buffers.specs.write.Written.{Wrote, overwrite}
use Rattle.buffers.proofs.write.Laws.{wrote_length}
use Rattle.address_format.specs.groups.Groups.{split_by, groups_of, groups_text}
use Rattle.address_format.specs.endpoint.Text.{host_text, text_of, bound_text}
use Rattle.address_format.specs.endpoint.Written.{write_text, TextResult}

-- ---- an address

pub four : (s : List ℕ) {a b c d : ℕ} → length s ≡ 4 → a ≡ get_or s 0 0 → b ≡ get_or s 1 0 → c ≡ get_or s 2 0 → d ≡ get_or s 3 0 → a ∷ b ∷ c ∷ d ∷ [] ≡ s
four [] h e f g i = absurd (omega arith)
four (v ∷ []) h e f g i = absurd (omega arith)
four (v ∷ w ∷ []) h e f g i = absurd (omega arith)
four (v ∷ w ∷ x ∷ []) h e f g i = absurd (omega arith)
four (v ∷ w ∷ x ∷ y ∷ []) h e f g i = rw (e, f, g, i)
four (v ∷ w ∷ x ∷ y ∷ z ∷ s) h e f g i = absurd (omega arith)

pub brackets : {o o₁ o₂ o₃ : List ℕ} {at a b c : ℕ} (s gs : List ℕ) → gs ≡ groups_of s → Adds o at (0x5B ∷ []) a o₁ → Adds o₁ a (groups_text gs) b o₂
    → Adds o₂ b (0x5D ∷ []) c o₃ → Adds o at (bracketed (groups_text (groups_of s))) c o₃
brackets s gs e u v w = then (then u (rw e at v)) w

module _ (k : AddressKind) (s : List ℕ) where
  pub host_four : k ≡ Ipv4 → host_text (kind_of k s) ≡ split_by 10 0x2E s
  unfolding host_text
  host_four e = rw e

  pub host_six : k ≡ Ipv6 → host_text (kind_of k s) ≡ bracketed (groups_text (groups_of s))
  unfolding host_text
  host_six e = rw e

  pub host_name : k ≡ Domain → host_text (kind_of k s) ≡ s
  unfolding host_text
  host_name e = rw e

-- ---- the whole text

-- how many bytes an address has
size_most : (k : AddressKind) (n : ℕ) → n ≤ 255 → size_of k n ≤ 255
size_most Ipv4 n h = omega arith
size_most Ipv6 n h = omega arith
size_most Domain n h = h

size_again : (k : AddressKind) (n : ℕ) → size_of k n ≡ size_of k (size_of k n)
size_again Ipv4 n = refl
size_again Ipv6 n = refl
size_again Domain n = refl

pub record Sized (k : AddressKind) (r : ℕ) (bytes : List ℕ) : Type 0 where
  pub inside : r ≤ length bytes
  pub count : length (take r bytes) ≡ r
  pub size : length (take r bytes) ≡ size_of k (length (take r bytes))
  pub most : length (take r bytes) ≤ 255

pub sized : (k : AddressKind) (n r : ℕ) (bytes : List ℕ) → n ≤ 255 → length bytes ≡ 255 → r ≡ size_of k n → Sized k r bytes
sized k n r bytes h l e =
    let m = size_most k n h in
    let t : length (take r bytes) ≡ r = length-take-le r bytes (omega arith) in
    record { inside = omega arith; count = t; size = rw (t, e) (size_again k n); most = omega arith }

-- what is written is added
pub adds : {o o' bs : List ℕ} {at n : ℕ} → Wrote o at bs n o' → Adds o at bs n o'
unfolding overwrite
adds {o} {o'} {bs} {at} {n} v =
    let h = v.inside in
    let p : List ℕ = take at o ++ bs in
    let q : List ℕ = drop (at + length bs) o in
    let l : length p ≡ at + length bs = simp (length-append, length-take) (omega arith) in
    let e : o' ≡ p ++ q = v.bytes ∙ sym (append_assoc (take at o) bs q) in
    record {
      place = v.place;
      added = rw (v.place, e) (take_at p q (at + length bs) l);
      behind = rw (v.place, e) (drop_at p q (at + length bs) l);
      same = wrote_length v;
    }

pub text_of_lem : {o o₁ o₂ o₃ : List ℕ} {at a b c : ℕ} (d : Destination) (port n : ℕ) → n ≡ port → Adds o at (host_text d) a o₁ → Adds o₁ a (0x3A ∷ []) b o₂
    → Adds o₂ b (digits_of 10 n) c o₃ → Adds o at (text_of d port) c o₃
unfolding text_of
text_of_lem d port n e u v w = then u (then v (rw e at w))

pub bound_text_lem : (a : Address) (r : ℕ) → r ≡ size_of a.kind a.len → text_of (kind_of a.kind (take r a.bytes)) a.port ≡ bound_text a
unfolding bound_text
bound_text_lem a r e = rw e

-- ---- the caller's buffer, once the text stands at the start of another

module _ {o whole s t : List ℕ} {n : ℕ} (v : Adds o 0 s n whole) (e : s ≡ t) where
  counted : n ≡ length t
  counted = v.place ∙ zero-add (length s) ∙ ap length e

  pub refused : {text : List ℕ} → length text < n → TextResult (write_text t text) (Err ShortText) text
  refused {text} h =
      let f = lt-leb (length t) (length text) (omega (arith, counted)) in
      record { returned = rw f; buffer = rw f; inside = tt }

  pub written : {text text' : List ℕ} {m : ℕ} → Wrote text 0 (take n whole) m text' → TextResult (write_text t text) (Ok m) text'
  unfolding overwrite
  written {text} {text'} {m} u =
      let w : Wrote text 0 t m text' = rw (v.added ∙ e) at u in
      let f = le-leb (length t) (length text) (omega (arith, w.inside)) in
      let z = zero-add (length t) in
      let b : text' ≡ t ++ drop (length t) text = rw z at w.bytes in
      let l : m ≡ length t = rw z at w.place in
      record { returned = rw (f, l); buffer = rw f b; inside = omega (arith, w.inside, wrote_length w, l) }
