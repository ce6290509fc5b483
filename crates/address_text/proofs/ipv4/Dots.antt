-- IPv4 text: what a turn of the loop over its numbers reads, and what is read at its end.
use Rattle.std.proofs.Common.{◌≡◌, ℕ, suc, ◌+◌, ◌-◌, ◌<◌, ◌≤◌, Bool, true, false, cond, eqb, List, [], ◌∷◌, ◌++◌, length, take, drop, set, replicate, sym, refl, ap, ◌∙◌, append_assoc, add-one, arith, length-set, take-suc-set, drop-set-lt}
use mathlib.Core.Option.{Option, none, some}
use Rattle.protocol.specs.declared.Digits.{Digits}
use Rattle.protocol.specs.declared.AddressKind.{AddressKind}
use Rattle.protocol.specs.declared.AddressKind.TheVariants.{Ipv4, Ipv6, Domain}
use Rattle.protocol.specs.AddressReading.{number_of, mark_at, ahead, dotted, ipv4_of}
use Rattle.protocol.proofs.AddressDigits.{mark_is}
use Rattle.address_text.specs.ipv4.Answers.{ipv4_text}
use Rattle.address_text.proofs.ipv4.Texts.{from, from_drop, length_from, drop_from}

ahead_none : (r : Option (List ℕ)) → ahead [] r ≡ r
ahead_none none = refl
ahead_none (some vs) = refl

ahead_more : (us vs : List ℕ) (r : Option (List ℕ)) → ahead us (ahead vs r) ≡ ahead (us ++ vs) r
ahead_more us vs none = refl
ahead_more us vs (some ws) = ap some (sym (append_assoc us vs ws))

-- k numbers are read, up to the place at; what is left to read gives the whole
pub record Numbers (s bytes : List ℕ) (at k : ℕ) : Type 0 where
  pub few : k ≤ 3
  pub inside : at ≤ length s
  pub sixteen : length bytes ≡ 16
  pub zeros : drop 4 bytes ≡ replicate 12 0
  pub rest : ahead (take k bytes) (dotted (3 - k) (drop at s)) ≡ ipv4_of s

pub no_numbers : (s : List ℕ) → Numbers s (replicate 16 0) 0 0
unfolding ipv4_of
no_numbers s = record { few = omega arith; inside = omega arith; sixteen = refl; zeros = refl; rest = ahead_none (dotted 3 s) }

-- after a number, by whether a dot follows
abbrev pub DotTurn : List ℕ → List ℕ → ℕ → ℕ → Digits → Bool → Type 0
DotTurn s bytes at k a true = Numbers s (set bytes k a.value) (at + a.count + 1) (k + 1)
DotTurn s bytes at k a false = ipv4_of s ≡ none

module _ {s bytes : List ℕ} {at k : ℕ} (i : Numbers s bytes at k) (a : Digits) (e : a ≡ number_of (from s at)) where
  module _ (h : k < 3) where
    more_left : ahead (take k bytes) (dotted (suc (2 - k)) (from s at)) ≡ ipv4_of s
    more_left = let z : suc (2 - k) ≡ 3 - k = omega arith in rw (z, from_drop s at) i.rest

    turned : ahead (take k bytes) (cond (mark_at 0x2E (from s at) a.count) (ahead (a.value ∷ []) (dotted (2 - k) (drop (a.count + 1) (from s at)))) none) ≡ ipv4_of s
    unfolding dotted
    turned = rw e more_left

    pub dot_turn : (r : Bool) → r ≡ mark_at 0x2E (from s at) a.count → DotTurn s bytes at k a r
    dot_turn false m = sym (rw (← m) at turned)
    dot_turn true m =
        let l = length_from s at in
        let j = (mark_is 0x2E (from s at) a.count (sym m)).inside in
        let x = i.sixteen in
        let y : 3 - (k + 1) ≡ 2 - k = omega arith in
        record {
          few = omega arith;
          inside = omega arith;
          sixteen = length-set bytes k a.value ∙ x;
          zeros = drop-set-lt 4 bytes k a.value (omega arith) ∙ i.zeros;
          rest =
              rw (y, add-one k, take-suc-set bytes k a.value (omega arith), ← drop_from s at a.count 1)
              (sym (ahead_more (take k bytes) (a.value ∷ []) (dotted (2 - k) (drop (a.count + 1) (from s at)))) ∙ (rw (← m) at turned));
        }

  -- the fourth number
  module _ (h : 3 ≤ k) where
    last_left : ahead (take 3 bytes) (dotted 0 (from s at)) ≡ ipv4_of s
    last_left = let f = i.few in let z : k ≡ 3 = omega arith in rw (from_drop s at) (rw z at i.rest)

    pub dots_end : ahead (take 3 bytes) (cond (eqb a.count 0) none (cond (eqb a.count (length (from s at))) (some (a.value ∷ [])) none)) ≡ ipv4_of s
    unfolding dotted
    dots_end = rw e last_left

-- what an answer's kind says of the reading of IPv4 text
abbrev pub Read4 : Option (List ℕ) → List ℕ → AddressKind → Type 0
Read4 r bytes Ipv4 = (bs : List ℕ) × (r ≡ some bs) × (bytes ≡ bs ++ replicate 12 0)
Read4 r bytes Ipv6 = ⊥
Read4 r bytes Domain = r ≡ none

pub read4 : (r : Option (List ℕ)) → Read4 r (ipv4_text r).bytes (ipv4_text r).kind
read4 none = refl
read4 (some bs) = (bs, refl, refl)
