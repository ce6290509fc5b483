-- F-9: a line is accepted exactly if the grammar has it, one reading exists, and a line that is not dies at its place, of which there is one.
use Prim.Native.Nat.{ℕ, suc, ◌+◌, ◌≤◌, ◌<◌}
use native.Mathlib.Omega.{arith}
use mathlib.Core.Path.{◌≡◌, refl, sym, ap, ◌∙◌}
use mathlib.Core.Bool.{Bool, true, false}
use mathlib.Core.Logic.{◌↔◌}
use mathlib.Core.List.{List, [], ◌∷◌, ◌++◌, append_assoc, append-nil}
use lib.Dec.{leb}
use lib.ListN.{length, take, drop, length-append, take-append-drop}
use lib.Seq.{take_at, drop_at, take-append_seam, length-take-le, take-length}
use borrow.Author.Tests.{leb-true, leb-false}
use Rattle.proxy_url_spec.specs.Grammar.{Host, ipv6, bytes, Value, Line, without_credentials, with_credentials}
use Rattle.proxy_url_spec.specs.Place.{GoesOn, Place}
use Rattle.proxy_url_spec.specs.Reading.{reads, dies, line_of}
use Rattle.proxy_url_spec.proofs.Readers.{reads_not_dies, reads_value}
use Rattle.proxy_url_spec.proofs.Lines.{law_line}

-- ---- accepted exactly if the grammar has it

pub line_sound : (s : List ℕ) (v : Value) (n : ℕ) → line_of s ≡ reads v n → Line s v
line_sound s v n e = let x = law_line.sound s v n e in rw (x.split, x.ok, append-nil x.w) x.word

pub line_complete : {s : List ℕ} {v : Value} → Line s v → line_of s ≡ reads v (length s)
line_complete {s} {v} x = rw append-nil at (law_line.complete s [] v x refl)

pub line_once : {s : List ℕ} {u v : Value} → Line s u → Line s v → u ≡ v
line_once x y = reads_value (sym (line_complete x) ∙ line_complete y)

-- ---- the place

pub line_dies : (s : List ℕ) (n : ℕ) → line_of s ≡ dies n → (v : Value) → Line s v → ⊥
line_dies s n e v x = reads_not_dies (sym (line_complete x) ∙ e)

dead_behind : (s : List ℕ) (n m : ℕ) → line_of s ≡ dies n → m ≤ length s → n < m → GoesOn (take m s) → ⊥
dead_behind s n m e h l g =
    let k = length-take-le m s h in
    let f : line_of (take m s ++ drop m s) ≡ dies n = rw (take-append-drop m s) e in
    line_dies (take m s ++ g.0) n (law_line.causal (take m s) (drop m s) g.0 n f (omega arith)) g.1 g.2

pub line_place : (s : List ℕ) (n : ℕ) → line_of s ≡ dies n → Place s n
line_place s n e =
    let x = law_line.alive s n e in
    let t : take n s ≡ x.p = ap (λ (l : List ℕ). take n l) x.split ∙ take_at x.p x.r n x.long in
    record {
      within = let h = x.long in let k = ap length x.split ∙ length-append x.p x.r in omega arith;
      goes_on = rw t (x.t, x.v, x.word);
      longest = λ m h g. no_longer m h g (leb m n) refl;
    }
  where
    no_longer : (m : ℕ) → m ≤ length s → GoesOn (take m s) → (b : Bool) → leb m n ≡ b → m ≤ n
    no_longer m h g true q = leb-true m n q
    no_longer m h g false q = absurd (dead_behind s n m e h (leb-false m n q) g)

pub place_once : {s : List ℕ} {m n : ℕ} → Place s m → Place s n → m ≡ n
place_once {s} {m} {n} x y = let a = x.longest n y.within y.goes_on in let b = y.longest m x.within x.goes_on in omega arith

-- it is the line's length just when the line stops short
pub place_end : (s : List ℕ) → Place s (length s) ↔ GoesOn s
place_end s = ((λ x. rw (take-length s) at x.goes_on), (λ g. record { within = omega arith; goes_on = rw (take-length s) g; longest = λ m h k. h }))

-- ---- the host is a part of the line

-- a part of a text, at a place
pub record PartAt (s : List ℕ) (at : ℕ) (h : List ℕ) : Type 0 where
  pub a : List ℕ
  pub b : List ℕ
  pub split : s ≡ a ++ (h ++ b)
  pub place : at ≡ length a

pub part_taken : {s h : List ℕ} {at : ℕ} → PartAt s at h → take (length h) (drop at s) ≡ h
part_taken {s} {h} {at} x = rw (x.split, drop_at x.a (h ++ x.b) at (sym x.place), take-append_seam h x.b)

pub part_within : {s h : List ℕ} {at : ℕ} → PartAt s at h → at + length h ≤ length s
part_within {s} {h} {at} x =
    let e = x.place in
    let f = ap length x.split ∙ length-append x.a (h ++ x.b) in
    let g = length-append h x.b in
    omega arith

-- a part of a part
part_in : {s h : List ℕ} {at : ℕ} → PartAt s at h → (c d : List ℕ) → PartAt (c ++ (s ++ d)) (length c + at) h
part_in {s} {h} {at} x c d =
    record {
      a = c ++ x.a;
      b = x.b ++ d;
      split = rw x.split (simp append_assoc);
      place = rw (length-append c x.a) (let e = x.place in omega arith);
    }

pub host_part : {s h : List ℕ} {at : ℕ} → Host s at h → PartAt s at h
host_part (ipv6 {s} x) = record { a = 0x5B ∷ []; b = 0x5D ∷ []; split = refl; place = refl }
host_part (bytes {s} x l) = record { a = []; b = []; split = sym (append-nil s); place = refl }

pub line_host : {s : List ℕ} {v : Value} → Line s v → PartAt s v.host_at v.host
line_host (without_credentials {a} {h} {p} s x y) = part_in (host_part x) a (0x3A ∷ p)
line_host (with_credentials {a} {u} {w} {h} {p} {user} {password} {host} {dns} {at} {port} s x y z q) =
    let c = a ++ (u ++ (0x3A ∷ (w ++ (0x40 ∷ [])))) in
    let e : c ++ (h ++ (0x3A ∷ p)) ≡ a ++ (u ++ (0x3A ∷ (w ++ (0x40 ∷ (h ++ (0x3A ∷ p)))))) = simp append_assoc in
    let n : length c ≡ length a + (length u + suc (length w + 1)) = simp length-append in
    let m : length c + at ≡ length a + (length u + 1 + (length w + 1 + at)) = omega arith in
    rw (m, e) at (part_in (host_part z) c (0x3A ∷ p))
