-- F-9: a user or a password is read as the grammar has it, up to the mark behind it.
use Prim.Native.Nat.{ℕ, ◌+◌, ◌*◌, ◌≤◌}
use native.Mathlib.Omega.{arith}
use mathlib.Core.Path.{◌≡◌, refl, sym, ap, ◌∙◌}
use mathlib.Core.Logic.{◌⊎◌, inl, inr}
use mathlib.Core.Bool.{Bool, true, false, ◌&&◌, ◌||◌, or-true, false≢true}
use mathlib.Core.List.{List, [], ◌∷◌, ◌++◌}
use lib.Dec.{leb, eqb}
use lib.ListN.{get_or}
use borrow.Author.Tests.{ltb-true, eqb-true, lt-ltb, leb-true, le-leb}
use Rattle.std.specs.Int.{is_in_range}
use Rattle.std.specs.Char.{is_ascii_alphanumeric}
use Rattle.protocol.specs.AddressText.{Hex}
use Rattle.protocol.specs.AddressReading.{hex_value}
use Rattle.protocol.proofs.AddressDigits.{hex_value_lem, value_hex, hex_small}
use Rattle.proxy_url_spec.specs.Grammar.{Unreserved, upper, lower, digit, hyphen, dot, underscore, tilde, Escaped, end, as_is, escape, Credential}
use Rattle.proxy_url_spec.specs.Reading.{one, map, seq, always, mark_of, unreserved, itself, is_hex, hex_of, pair_of, second_of, escaped_of, credential_of}
use Rattle.proxy_url_spec.proofs.Readers as R
use Rattle.proxy_url_spec.proofs.Readers.{Any, Inhabited, Law, law_as, Image, some_image, law_map, Joined, some_joined, law_seq, Or, Apart, law_or}
use Rattle.proxy_url_spec.proofs.Fields as F
use Rattle.proxy_url_spec.proofs.Fields.{Is, law_word, Passes, law_one, Then, Row, law_marked}
use Rattle.proxy_url_spec.proofs.Texts.{both_true}

-- ---- unreserved bytes

either_true : (a b : Bool) → (a || b) ≡ true → (a ≡ true) ⊎ (b ≡ true)
either_true true b e = inl refl
either_true false b e = inr e

in_range : (low high b : ℕ) → (leb low b && leb b high) ≡ true → (low ≤ b) × (b ≤ high)
in_range low high b e = let (l, h) = both_true _ _ e in (leb-true low b l, leb-true b high h)

pub unreserved_is : (b : ℕ) → unreserved b ≡ true → Unreserved b
unfolding unreserved
unreserved_is b e = go (either_true _ _ e)
  where
    mark : ((eqb b 0x2D || (eqb b 0x2E || (eqb b 0x5F || eqb b 0x7E))) ≡ true) → Unreserved b
    mark e = go₁ (either_true _ _ e)
      where
        go₁ : (eqb b 0x2D ≡ true) ⊎ ((eqb b 0x2E || (eqb b 0x5F || eqb b 0x7E)) ≡ true) → Unreserved b
        go₁ (inl e) = hyphen (eqb-true b 0x2D e)
        go₁ (inr e) = go₂ (either_true _ _ e)
          where
            go₂ : (eqb b 0x2E ≡ true) ⊎ ((eqb b 0x5F || eqb b 0x7E) ≡ true) → Unreserved b
            go₂ (inl e) = dot (eqb-true b 0x2E e)
            go₂ (inr e) = go₃ (either_true _ _ e)
              where
                go₃ : (eqb b 0x5F ≡ true) ⊎ (eqb b 0x7E ≡ true) → Unreserved b
                go₃ (inl e) = underscore (eqb-true b 0x5F e)
                go₃ (inr e) = tilde (eqb-true b 0x7E e)

    letter : ((is_in_range 48 57 b || is_in_range 65 90 b) ≡ true) ⊎ (is_in_range 97 122 b ≡ true) → Unreserved b
    letter (inr e) = let (l, h) = in_range 97 122 b e in lower l h
    letter (inl e) = go₄ (either_true _ _ e)
      where
        go₄ : (is_in_range 48 57 b ≡ true) ⊎ (is_in_range 65 90 b ≡ true) → Unreserved b
        go₄ (inl e) = let (l, h) = in_range 48 57 b e in digit l h
        go₄ (inr e) = let (l, h) = in_range 65 90 b e in upper l h

    go : (is_ascii_alphanumeric b ≡ true) ⊎ ((eqb b 0x2D || (eqb b 0x2E || (eqb b 0x5F || eqb b 0x7E))) ≡ true) → Unreserved b
    go (inl e) = letter (either_true _ _ e)
    go (inr e) = mark e

in_letters : (b : ℕ) → is_ascii_alphanumeric b ≡ true → unreserved b ≡ true
unfolding unreserved
in_letters b e = rw e

pub is_unreserved : {b : ℕ} → Unreserved b → unreserved b ≡ true
unfolding unreserved
is_unreserved {b} (upper l h) = in_letters b (rw (le-leb 65 b l, le-leb b 90 h, or-true (is_in_range 48 57 b)))
is_unreserved {b} (lower l h) = in_letters b (rw (le-leb 97 b l, le-leb b 122 h, or-true (is_in_range 48 57 b || is_in_range 65 90 b)))
is_unreserved {b} (digit l h) = in_letters b (rw (le-leb 48 b l, le-leb b 57 h))
is_unreserved (hyphen e) = rw e
is_unreserved (dot e) = rw e
is_unreserved (underscore e) = rw e
is_unreserved (tilde e) = rw e

-- ---- a byte, as it is or escaped

pub data EscapedByte : List ℕ → ℕ → Type 0 where
  plain : {b : ℕ} → Unreserved b → EscapedByte (b ∷ []) b
  coded : {a c high low : ℕ} → Hex a high → Hex c low → EscapedByte (0x25 ∷ a ∷ c ∷ []) (high * 16 + low)

abbrev HexByte : List ℕ → ℕ → Type 0
HexByte = Passes is_hex hex_value

abbrev Pair : List ℕ → ℕ → Type 0
Pair = Image pair_of (Joined HexByte (Then HexByte))

abbrev Coded : List ℕ → ℕ → Type 0
Coded = Image second_of (Joined (Is {A = Unit {0}} (0x25 ∷ []) tt) (Then Pair))

abbrev Plain : List ℕ → ℕ → Type 0
Plain = Passes unreserved itself

law_hex : Law Any HexByte hex_of
unfolding hex_value
law_hex = law_one is_hex hex_value 0x30 refl

hex_some : Inhabited HexByte
unfolding hex_value
hex_some = record { w = 0x30 ∷ []; v = 0; word = record { b = 0x30; spelt = refl; passes = refl; is = refl } }

law_pair : Law Any Pair (map pair_of (seq hex_of (always hex_of)))
law_pair = law_map pair_of Any (Joined HexByte (Then HexByte)) (seq hex_of (always hex_of)) (law_seq Any HexByte hex_of (Then HexByte) (always hex_of) law_hex (λ v. law_hex) (λ v. hex_some))

pair_some : Inhabited Pair
pair_some = some_image pair_of (some_joined hex_some (λ v. hex_some))

plain_coded : Apart Any Plain Coded
unfolding unreserved
plain_coded w t v x o y r u z q e =
    let p = z.word.first.spelt in
    let h : x.b ∷ t ≡ 0x25 ∷ (z.word.b ++ r) = sym (rw x.spelt) ∙ e ∙ rw (z.word.split, p) in
    let g : x.b ≡ 0x25 = ap (λ (l : List ℕ). get_or l 0 0) h in
    false≢true (rw g at x.passes)

law_escaped_by : Law Any (Or Plain Coded) escaped_of
unfolding escaped_of unreserved
law_escaped_by =
    law_or Any Plain Coded (one unreserved itself) (map second_of (seq (mark_of 0x25) (always (map pair_of (seq hex_of (always hex_of))))))
    (law_one unreserved itself 0x61 refl)
    (law_map second_of Any (Joined (Is (0x25 ∷ []) tt) (Then Pair)) (seq (mark_of 0x25) (always (map pair_of (seq hex_of (always hex_of)))))
    (law_seq Any (Is (0x25 ∷ []) tt) (mark_of 0x25) (Then Pair) (always (map pair_of (seq hex_of (always hex_of)))) (law_word (0x25 ∷ []) tt) (λ v. law_pair) (λ v. pair_some)))
    plain_coded

hex_is : (b : ℕ) → is_hex b ≡ true → Hex b (hex_value b)
hex_is b e = value_hex b (let h = ltb-true (hex_value b) 16 e in omega arith)

coded_of : (w : List ℕ) (v : ℕ) → Coded w v → EscapedByte w v
coded_of w v x =
    let j = x.word in
    let i = j.second in
    let k = i.word in
    let f = k.first in
    let g = k.second in
    let ew : w ≡ 0x25 ∷ f.b ∷ g.b ∷ [] = j.split ∙ rw (j.first.spelt, k.split, f.spelt, g.spelt) in
    let ev : v ≡ hex_value f.b * 16 + hex_value g.b = x.is ∙ i.is ∙ rw (f.is, g.is) in
    rw (ew, ev) (coded (hex_is f.b f.passes) (hex_is g.b g.passes))

escaped_byte : (w : List ℕ) (v : ℕ) → Or Plain Coded w v → EscapedByte w v
escaped_byte w v (R.one x) = rw (x.spelt, x.is) (plain (unreserved_is x.b x.passes))
escaped_byte w v (R.other x) = coded_of w v x

hex_passes : {b d : ℕ} → Hex b d → HexByte (b ∷ []) d
hex_passes {b} {d} h =
    let e = hex_value_lem h in
    let l = hex_small h in
    record { b = b; spelt = refl; passes = rw e (lt-ltb d 16 (omega arith)); is = sym e }

of_escaped_byte : {w : List ℕ} {v : ℕ} → EscapedByte w v → Or Plain Coded w v
of_escaped_byte (plain {b} u) = R.one (record { b = b; spelt = refl; passes = is_unreserved u; is = refl })
of_escaped_byte (coded {a} {c} {high} {low} h l) =
    R.other (record {
      value = (tt, 1, high * 16 + low);
      word =
          record {
            a = 0x25 ∷ [];
            b = a ∷ c ∷ [];
            split = refl;
            long = refl;
            first = record { spelt = refl; value = refl };
            second =
                record {
                  value = (high, 1, low);
                  word = record { a = a ∷ []; b = c ∷ []; split = refl; long = refl; first = hex_passes h; second = hex_passes l };
                  is = refl;
                };
          };
      is = refl;
    })

pub law_escaped : Law Any EscapedByte escaped_of
law_escaped = law_as escaped_byte (λ w v x. of_escaped_byte x) law_escaped_by

-- ---- a user or a password, and the mark

escaped_row : {s bs : List ℕ} → Row EscapedByte s bs → Escaped s bs
escaped_row F.end = end
escaped_row (F.next (plain u) r) = as_is u (escaped_row r)
escaped_row (F.next (coded h l) r) = escape h l (escaped_row r)

row_escaped : {s bs : List ℕ} → Escaped s bs → Row EscapedByte s bs
row_escaped end = F.end
row_escaped (as_is u r) = F.next (plain u) (row_escaped r)
row_escaped (escape h l r) = F.next (coded h l) (row_escaped r)

-- a credential and the mark behind it
pub record CredentialWord (mark : ℕ) (w bs : List ℕ) : Type 0 where
  pub s : List ℕ
  pub spelt : w ≡ s ++ (mark ∷ [])
  pub is : Credential s bs

module _ (mark : ℕ) (no : unreserved mark ≡ false) (coded-not : mark ≡ 0x25 → ⊥) where
  escaped_clear_by : {w : List ℕ} {v : ℕ} → EscapedByte w v → (t r : List ℕ) → mark ∷ r ≡ w ++ t → ⊥
  escaped_clear_by (plain {b} u) t r e =
      let h : mark ≡ b = ap (λ (l : List ℕ). get_or l 0 0) e in
      false≢true (sym no ∙ rw h (is_unreserved u))
  escaped_clear_by (coded h l) t r e = coded-not (ap (λ (l : List ℕ). get_or l 0 0) e)

  pub law_credential : Law Any (CredentialWord mark) (credential_of mark)
  unfolding credential_of
  law_credential =
      law_as (λ w bs x. record { s = x.s; spelt = x.spelt; is = record { escaped = escaped_row x.row; few = x.few } })
      (λ w bs x. record { s = x.s; spelt = x.spelt; row = row_escaped x.is.escaped; few = x.is.few })
      (law_marked EscapedByte mark escaped_of law_escaped (λ w t v x r e. escaped_clear_by x t r e) 255)
