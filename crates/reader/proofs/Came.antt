-- What takes in a row say: where the last came, all came, and the place stands behind them; else the bytes end before.
use mathlib.Core.Path.{◌≡◌, refl, sym, ap, ◌∙◌}
use mathlib.Core.Bool.{Bool, true, false, cond}
use mathlib.Core.List.{List}
use Prim.Native.Nat.{ℕ, ◌+◌, ◌≤◌, ◌<◌}
use native.Mathlib.Omega.{arith}
use lib.ListN.{length}
use lib.Dec.{ltb, leb}
use borrow.Author.Tests.{lt-ltb, ltb-true, ltb-false, leb-true, leb-false}
use Rattle.protocol.specs.Bytes.{byte}
use Rattle.reader.specs.declared.Passed.{Passed}
use Rattle.reader.specs.declared.Two.{Two}
use Rattle.reader.specs.declared.Three.{Three}
use Rattle.reader.specs.Reader.{byte_at, bytes_at, two_at, three_at}

-- ---- one take

module _ (s : List ℕ) (at : ℕ) where
  byte_came : (byte_at s at).came ≡ true → at < length s
  unfolding byte_at
  byte_came e = ltb-true at (length s) e

  byte_short : (byte_at s at).came ≡ false → length s ≤ at
  unfolding byte_at
  byte_short e = ltb-false at (length s) e

  pub byte_stands : (byte_at s at).byte ≡ byte s at
  unfolding byte_at
  byte_stands = refl

  pub byte_passed : at < length s → (byte_at s at).at ≡ at + 1
  unfolding byte_at
  byte_passed h = rw (lt-ltb at (length s) h)

  pub byte_near : (byte_at s at).at ≤ at + 1
  unfolding byte_at
  byte_near = go (ltb at (length s))
    where
      go : (b : Bool) → cond b (at + 1) at ≤ at + 1
      go true = omega arith
      go false = omega arith

  -- a place before the end was reached by a byte that came
  pub byte_before : (byte_at s at).at < length s → at < length s
  unfolding byte_at
  byte_before = go (ltb at (length s))
    where
      go : (b : Bool) → cond b (at + 1) at < length s → at < length s
      go true h = omega arith
      go false h = h

pub bytes_came : (s : List ℕ) (at n : ℕ) (p : Passed) → p ≡ bytes_at s at n → p.came ≡ true → (at + n ≤ length s) × (p.at ≡ at + n)
unfolding bytes_at
bytes_came s at n p e t =
    let c : leb (at + n) (length s) ≡ true = sym (ap (λ (x : Passed). x.came) e) ∙ t in
    (leb-true (at + n) (length s) c, ap (λ (x : Passed). x.at) e ∙ rw c)

pub bytes_short : (s : List ℕ) (at n : ℕ) (p : Passed) → p ≡ bytes_at s at n → p.came ≡ false → length s < at + n
unfolding bytes_at
bytes_short s at n p e t = leb-false (at + n) (length s) (sym (ap (λ (x : Passed). x.came) e) ∙ t)

-- ---- in a row

-- n bytes came, of which the first two are told
pub record CameTwo (s : List ℕ) (at n : ℕ) (p : Two) : Type 0 where
  pub inside : at + n ≤ length s
  pub first : p.first ≡ byte s at
  pub second : p.second ≡ byte s (at + 1)
  pub place : p.at ≡ at + n

pub record CameThree (s : List ℕ) (at : ℕ) (p : Three) : Type 0 where
  pub inside : at + 3 ≤ length s
  pub first : p.first ≡ byte s at
  pub second : p.second ≡ byte s (at + 1)
  pub third : p.third ≡ byte s (at + 1 + 1)
  pub place : p.at ≡ at + 3

module _ (s : List ℕ) (at : ℕ) where
  abbrev pub a : ℕ
  a = (byte_at s at).at

  abbrev pub b : ℕ
  b = (byte_at s a).at

  abbrev c : ℕ
  c = (byte_at s b).at

  pub second_place : a < length s → (at < length s) × (a ≡ at + 1)
  second_place h = let i = byte_before s at h in (i, byte_passed s at i)

  pub third_place : b < length s → (a < length s) × (b ≡ a + 1)
  third_place h = let i = byte_before s a h in (i, byte_passed s a i)

  pub two_came : (p : Two) → p ≡ two_at s at → p.came ≡ true → CameTwo s at 2 p
  unfolding two_at
  two_came p e t =
      let h : a < length s = byte_came s a (sym (ap (λ (x : Two). x.came) e) ∙ t) in
      let i = second_place h in
      let j = byte_passed s a h in
      let m : b ≡ at + 2 = omega arith in
      record {
        inside = omega arith;
        first = ap (λ (x : Two). x.first) e ∙ byte_stands s at;
        second = ap (λ (x : Two). x.second) e ∙ (byte_stands s a ∙ ap (byte s) i.1);
        place = ap (λ (x : Two). x.at) e ∙ m;
      }

  pub two_short : (p : Two) → p ≡ two_at s at → p.came ≡ false → length s < at + 2
  unfolding two_at
  two_short p e t =
      let h : length s ≤ a = byte_short s a (sym (ap (λ (x : Two). x.came) e) ∙ t) in
      let i = byte_near s at in
      omega arith

  pub three_came : (p : Three) → p ≡ three_at s at → p.came ≡ true → CameThree s at p
  unfolding three_at
  three_came p e t =
      let h : b < length s = byte_came s b (sym (ap (λ (x : Three). x.came) e) ∙ t) in
      let i = third_place h in
      let j = second_place i.0 in
      let k = byte_passed s b h in
      let m : c ≡ at + 3 = omega arith in
      record {
        inside = omega arith;
        first = ap (λ (x : Three). x.first) e ∙ byte_stands s at;
        second = ap (λ (x : Three). x.second) e ∙ (byte_stands s a ∙ ap (byte s) j.1);
        third = ap (λ (x : Three). x.third) e ∙ (byte_stands s b ∙ ap (byte s) (i.1 ∙ ap (λ (n : ℕ). n + 1) j.1));
        place = ap (λ (x : Three). x.at) e ∙ m;
      }

  pub three_short : (p : Three) → p ≡ three_at s at → p.came ≡ false → length s < at + 3
  unfolding three_at
  three_short p e t =
      let h : length s ≤ b = byte_short s b (sym (ap (λ (x : Three). x.came) e) ∙ t) in
      let i = byte_near s at in
      let j = byte_near s a in
      omega arith
