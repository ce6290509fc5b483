-- F-9: a byte of a credential by its first bytes, and a credential from a place on, way out by way out.
use Prim.Native.Nat.{ℕ, suc, ◌+◌, ◌-◌, ◌*◌, ◌≤◌, ◌<◌}
use native.Mathlib.Nat.{add-zero}
use native.Mathlib.Numerals.{add-one}
use native.Mathlib.Omega.{arith}
use mathlib.Core.Path.{◌≡◌, refl, sym, ap, ◌∙◌}
use mathlib.Core.Bool.{Bool, true, false, cond}
use mathlib.Core.List.{List, [], ◌∷◌, ◌++◌, append-nil}
use lib.ListN.{length, take, drop, set, replicate, take-append-drop, length-drop, length-set, length-replicate}
use lib.Seq.{get_or-drop, drop-drop, drop-set-lt, take-suc-set, length-take-le}
use lib.Dec.{eqb}
use Rattle.protocol.specs.Bytes.{byte}
use Rattle.protocol.specs.AddressReading.{hex_value}
use Rattle.buffers.proofs.write.Parts.{part_from}
use Rattle.proxy_url_spec.specs.Reading.{Read, reads, dies, mapped, map, behind, onward, either, seq, always, or, one, many, unreserved, itself, is_hex, hex_of, pair_of, second_of, mark_of, escaped_of, credential_of}
use Rattle.proxy_url.specs.declared.credentials.Credential.{Credential}
use Rattle.proxy_url.specs.Coded.{zeros, credential_coded}
use Rattle.proxy_url.proofs.Readers.{byte_behind, mark_first, one_first, ahead, ahead_none, ahead_more, many_marked, many_full, many_more, many_dies}
use Rattle.proxy_url.proofs.Inside.{Inside, inside_word, inside_one, inside_or, inside_map, inside_both, inside_many}

-- ---- a byte, as it is or escaped

-- two hexadecimal digits
hexes_first : (s : List ℕ) → map pair_of (seq hex_of (always hex_of)) s
    ≡ cond (is_hex (byte s 0)) (cond (is_hex (byte s 1)) (reads (hex_value (byte s 0) * 16 + hex_value (byte s 1)) 2) (dies 1)) (dies 0)
unfolding map seq hex_value
hexes_first s =
    rw (one_first is_hex hex_value s refl)
    (first (is_hex (byte s 0)) (hex_value (byte s 0)) (one_first is_hex hex_value (drop 1 s) refl ∙ rw (get_or-drop 1 s 0 0)))
  where
    second : (b : Bool) (v w : ℕ) → mapped pair_of (onward (reads v 1) (λ u t. cond b (reads w 1) (dies 0)) s) ≡ cond b (reads (v * 16 + w) 2) (dies 1)
    second true v w = refl
    second false v w = refl

    first : (b : Bool) (v : ℕ) → hex_of (drop 1 s) ≡ cond (is_hex (byte s 1)) (reads (hex_value (byte s 1)) 1) (dies 0)
        → mapped pair_of (onward (cond b (reads v 1) (dies 0)) (always hex_of) s) ≡ cond b (cond (is_hex (byte s 1)) (reads (v * 16 + hex_value (byte s 1)) 2) (dies 1)) (dies 0)
    first true v q = rw q (second (is_hex (byte s 1)) v (hex_value (byte s 1)))
    first false v q = refl

pub escaped_first : (s : List ℕ) → escaped_of s
    ≡ cond (unreserved (byte s 0)) (reads (byte s 0) 1)
    (cond (eqb (byte s 0) 0x25) (cond (is_hex (byte s 1)) (cond (is_hex (byte s 2)) (reads (hex_value (byte s 1) * 16 + hex_value (byte s 2)) 3) (dies 2)) (dies 1)) (dies 0))
unfolding escaped_of or map seq unreserved
escaped_first s =
    rw (one_first unreserved itself s refl, mark_first 0x25 (tt {0}) s (λ e. omega arith))
    (go (unreserved (byte s 0)) (eqb (byte s 0) 0x25) (byte s 0) (hexes_first (drop 1 s) ∙ rw (get_or-drop 1 s 0 0, get_or-drop 1 s 1 0)))
  where
    hexes : Read ℕ
    hexes = cond (is_hex (byte s 1)) (cond (is_hex (byte s 2)) (reads (hex_value (byte s 1) * 16 + hex_value (byte s 2)) 2) (dies 1)) (dies 0)

    behind_mark : (a c : Bool) (v : ℕ) → either (dies 0) (mapped second_of (behind (tt {0}) 1 (cond a (cond c (reads v 2) (dies 1)) (dies 0)))) ≡ cond a (cond c (reads v 3) (dies 2)) (dies 1)
    behind_mark true true v = refl
    behind_mark true false v = refl
    behind_mark false c v = refl

    go : (a c : Bool) (b : ℕ) → map pair_of (seq hex_of (always hex_of)) (drop 1 s) ≡ hexes
        → either (cond a (reads b 1) (dies 0)) (mapped second_of (onward (cond c (reads (tt {0}) 1) (dies 0)) (always (map pair_of (seq hex_of (always hex_of)))) s))
        ≡ cond a (reads b 1) (cond c (cond (is_hex (byte s 1)) (cond (is_hex (byte s 2)) (reads (hex_value (byte s 1) * 16 + hex_value (byte s 2)) 3) (dies 2)) (dies 1)) (dies 0))
    go true c b q = refl
    go false false b q = refl
    go false true b q = rw q (behind_mark (is_hex (byte s 1)) (is_hex (byte s 2)) (hex_value (byte s 1) * 16 + hex_value (byte s 2)))

pub percent_reserved : unreserved 0x25 ≡ false
unfolding unreserved
percent_reserved = refl

pub inside_escaped : Inside (λ u. 0) escaped_of
unfolding escaped_of
inside_escaped =
    let hexes = inside_map (λ u. 0) pair_of (seq hex_of (always hex_of)) (inside_both hex_of (always hex_of) (inside_one is_hex hex_value) (λ v. inside_one is_hex hex_value)) in
    inside_or (λ u. 0) (one unreserved itself) _ (inside_one unreserved itself)
    (inside_map (λ u. 0) second_of _ (inside_both (mark_of 0x25) _ (inside_word (0x25 ∷ []) tt) (λ v. hexes)))

-- ---- a credential, from a place on

-- so many bytes are read, up to a place, and are the first of zeros; what stands behind that place is the rest of the credential
pub record Going (mark : ℕ) (text bytes : List ℕ) (len at : ℕ) : Type 0 where
  pub few : len ≤ 255
  pub long : length bytes ≡ 255
  pub unwritten : drop len bytes ≡ replicate (255 - len) 0
  pub inside : at ≤ length text
  pub rest : ahead (take len bytes) at (many escaped_of mark (255 - len) (drop at text)) ≡ credential_of mark text

pub goes_first : (mark : ℕ) (text : List ℕ) → Going mark text zeros 0 0
unfolding credential_of
goes_first mark text =
    record {
      few = omega arith;
      long = length-replicate {A = ℕ} 255 0;
      unwritten = refl;
      inside = omega arith;
      rest = ahead_none (many escaped_of mark 255 text);
    }

module _ {mark : ℕ} (some : mark ≡ 0 → ⊥) {text bytes : List ℕ} {len at : ℕ} (g : Going mark text bytes len at) where
  pub marked : byte text at ≡ mark → ◌≡◌ {A = Read Credential} (reads (record { len = len; bytes = bytes }) (at + 1)) (mapped credential_coded (credential_of mark text))
  marked e =
      let l = g.long in
      let f = g.few in
      let n : length (take len bytes) ≡ len = length-take-le len bytes (omega arith) in
      rw (← g.rest, many_marked escaped_of mark some (drop at text) (255 - len) (byte_behind text at ∙ e), append-nil (take len bytes), n, ← g.unwritten, take-append-drop len bytes)

  pub marked_last : byte text at ≡ mark → 255 ≤ len → ◌≡◌ {A = Read Credential} (reads (record { len = 255; bytes = bytes }) (at + 1)) (mapped credential_coded (credential_of mark text))
  marked_last e h = let f = g.few in let z : 255 ≡ len = omega arith in rw z (marked e)

  module _ (other : byte text at ≡ mark → ⊥) where
    pub full : 255 ≤ len → ◌≡◌ {A = Read Credential} (dies at) (mapped credential_coded (credential_of mark text))
    full h =
        let z : 255 - len ≡ 0 = omega arith in
        rw (← g.rest, z, many_full escaped_of mark some (drop at text) (λ e. other (sym (byte_behind text at) ∙ e)), add-zero at)

    module _ (more : len < 255) where
      left : 255 - len ≡ suc (255 - (len + 1))
      left = omega arith

      pub stuck : {n : ℕ} → escaped_of (take (length text - at) (drop at text)) ≡ dies n → ◌≡◌ {A = Read Credential} (dies (at + n)) (mapped credential_coded (credential_of mark text))
      stuck {n} read =
          let e : escaped_of (drop at text) ≡ dies n = rw (part_from text at) at read in
          rw (← g.rest, left, many_dies escaped_of mark some (drop at text) (λ z. other (sym (byte_behind text at) ∙ z)) (255 - (len + 1)) e)

      pub goes_on : {v n : ℕ} → escaped_of (take (length text - at) (drop at text)) ≡ reads v n → Going mark text (set bytes len v) (len + 1) (at + n)
      goes_on {v} {n} read =
          let e : escaped_of (drop at text) ≡ reads v n = rw (part_from text at) at read in
          let l = g.long in
          let i = g.inside in
          let k : len < length bytes = omega arith in
          let d = length-drop at text in
          let w : take (len + 1) (set bytes len v) ≡ take len bytes ++ (v ∷ []) = rw add-one (take-suc-set bytes len v k) in
          let o = rw e at (inside_escaped (drop at text)) in
          record {
            few = omega arith;
            long = rw length-set l;
            unwritten = rw (drop-set-lt (len + 1) bytes len v (omega arith)) (sym (drop-drop 1 len bytes) ∙ ap (drop 1) (g.unwritten ∙ ap (λ (j : ℕ). replicate {A = ℕ} j 0) left));
            inside = omega arith;
            rest = rw (w, ← drop-drop n at text, ahead_more, ← many_more escaped_of mark some (drop at text) (λ z. other (sym (byte_behind text at) ∙ z)) (255 - (len + 1)) e, ← left) g.rest;
          }

pub dies_inside : (text : List ℕ) (at : ℕ) {n : ℕ} → escaped_of (take (length text - at) (drop at text)) ≡ dies n → at ≤ length text → at + n ≤ length text
dies_inside text at {n} e h =
    let d = length-drop at text in
    let b : n ≤ length (drop at text) = rw (rw (part_from text at) at e) at (inside_escaped (drop at text)) in
    omega arith

pub reads_inside : (text : List ℕ) (at : ℕ) {v n : ℕ} → escaped_of (take (length text - at) (drop at text)) ≡ reads v n → at ≤ length text → at + n ≤ length text
reads_inside text at {v} {n} e h =
    let d = length-drop at text in
    let (a, b) = rw (rw (part_from text at) at e) at (inside_escaped (drop at text)) in
    omega arith

pub inside_credential : (mark : ℕ) → Inside (λ u. 0) (credential_of mark)
unfolding credential_of
inside_credential mark = inside_many escaped_of mark inside_escaped 255
