-- F-10: what is left of a direction, byte by byte, and two captures side by side.
use Prim.Native.Nat.{ℕ, ◌-◌, ◌≤◌, ◌<◌, zero-le}
use native.Mathlib.Nat.{le_refl}
use native.Mathlib.Omega.{arith}
use mathlib.Core.Path.{◌≡◌, refl, ap, sym, ◌∙◌}
use mathlib.Core.Bool.{Bool, true, false}
use mathlib.Core.List.{List, [], ◌∷◌, ◌++◌}
use lib.ListN.{length, get_or, take, drop}
use Rattle.std.proofs.lemmas.List.{take_all}
use borrow.Author.Tests.{eq-eqb, ne_eqb}
use Rattle.std.specs.Prelude.{None, Some}
use Rattle.protocol.specs.Bytes.{same}
use Rattle.captures_spec.specs.declared.Direction.{Direction}
use Rattle.captures_spec.specs.Captures.{sent, received, Entry, entry, joined}
use Rattle.captures_spec.specs.Reading.{ahead, row_of, alike}
use Rattle.captures.specs.Coded.{Remain, part}
use Rattle.captures.proofs.entries.Laws.{behind_ahead, row_end, row_some}

-- ---- one direction

-- nothing is left, or a byte and what is left behind it
abbrev pub Nothing : Direction → List ℕ → List ℕ → Type 0
Nothing d bytes behind = (bs : List ℕ) → Remain d bytes behind bs → bs ≡ []

abbrev pub Next : Direction → List ℕ → List ℕ → ℕ → List ℕ → List ℕ → Type 0
Next d bytes behind b bytes' behind' = (bs : List ℕ) → Remain d bytes behind bs → (more : List ℕ) × (bs ≡ b ∷ more) × Remain d bytes' behind' more

-- a later place from which the same is left
abbrev pub Gone : Direction → List ℕ → List ℕ → List ℕ → List ℕ → Type 0
Gone d bytes behind bytes' behind' = (bs : List ℕ) → Remain d bytes behind bs → Remain d bytes' behind' bs

module _ (d : Direction) {bytes behind : List ℕ} where
  next_here : (b : ℕ) (left later : List ℕ) → Gone d bytes behind (b ∷ left) later → Next d bytes behind b left later
  next_here b left later g bs m =
      let n = g bs m in
      (left ++ joined d n.entries, n.are, record { entries = n.entries; is_row = n.is_row; are = refl })

  pub next_at : (left later : List ℕ) → 1 ≤ length left → Gone d bytes behind left later → Next d bytes behind (get_or left 0 0) (take (length left - 1) (drop 1 left)) later
  next_at [] later h g = absurd (omega arith)
  next_at (b ∷ left) later h g =
      let z : take (length (b ∷ left) - 1) left ≡ left = take_all (length (b ∷ left) - 1) left (omega arith) in
      rw z (next_here b left later g)

  module _ (left later : List ℕ) (h : length left < 1) (g : Gone d bytes behind left later) where
    emptied : Gone d bytes behind [] later
    emptied = go left h g
      where
        go : (l : List ℕ) → length l < 1 → Gone d bytes behind l later → Gone d bytes behind [] later
        go [] h g = g
        go (b ∷ l) h g = absurd (omega arith)

    pub nothing_left : ((later ≡ [] → ⊥) → row_of later ≡ None) → Nothing d bytes behind
    unfolding joined
    nothing_left f bs m = let n = emptied bs m in n.are ∙ ap (joined d) (row_end later f n.entries n.is_row)

    pub entered : (d' : Direction) (bs beyond : List ℕ) → row_of later ≡ ahead (entry d' bs) (row_of beyond) → Gone d bytes behind (part d d' bs) beyond
    unfolding joined
    entered d' bs beyond q all m =
        let n = emptied all m in
        let (rest, r, z) = behind_ahead (entry d' bs) (row_of beyond) n.entries (sym q ∙ n.is_row) in
        record { entries = rest; is_row = r; are = n.are ∙ ap (joined d) z }

-- where there is an entry, its two first bytes are there
pub two_more : (d : Direction) (behind : List ℕ) → (behind ≡ [] → ⊥) → ((bs : List ℕ) × Remain d [] behind bs) → 2 ≤ length behind
two_more d behind f (bs, m) = (row_some behind f m.entries m.is_row).two

pub part_few : (d d' : Direction) (bs : List ℕ) → length (part d d' bs) ≤ length bs
part_few sent sent bs = le_refl (length bs)
part_few sent received bs = zero-le
part_few received sent bs = zero-le
part_few received received bs = le_refl (length bs)

-- ---- two captures side by side: what is left of both is the same exactly if all is

-- what is answered of a direction
abbrev pub Told : Direction → List ℕ → List ℕ → Bool → Type 0
Told d c c' t = (es fs : List Entry) → row_of c ≡ Some es → row_of c' ≡ Some fs → t ≡ same (joined d es) (joined d fs)

abbrev pub Beside : Direction → List ℕ → List ℕ → List ℕ → List ℕ → List ℕ → List ℕ → Type 0
Beside d c c' bytes behind bytes' behind' =
    (es fs : List Entry) → row_of c ≡ Some es → row_of c' ≡ Some fs
    → (ones : List ℕ) × (others : List ℕ) × Remain d bytes behind ones × Remain d bytes' behind' others × (same ones others ≡ same (joined d es) (joined d fs))

pub beside_start : (d : Direction) (c c' : List ℕ) → Beside d c c' [] c [] c'
beside_start d c c' es fs k l = (joined d es, joined d fs, record { entries = es; is_row = k; are = refl }, record { entries = fs; is_row = l; are = refl }, refl)

module _ (d : Direction) (c c' : List ℕ) {bytes behind bytes' behind' : List ℕ} (x : Beside d c c' bytes behind bytes' behind') where
  pub both_over : Nothing d bytes behind → Nothing d bytes' behind' → Told d c c' true
  unfolding same
  both_over p q es fs k l =
      let (ones, others, m, n, e) = x es fs k l in
      (λ i. same (sym (p ones m) i) (sym (q others n) i)) ∙ e

  pub first_over : Nothing d bytes behind → {b : ℕ} {left later : List ℕ} → Next d bytes' behind' b left later → Told d c c' false
  unfolding same
  first_over p q es fs k l =
      let (ones, others, m, n, e) = x es fs k l in
      let (more, z, _) = q others n in
      (λ i. same (sym (p ones m) i) (sym z i)) ∙ e

  module _ {b : ℕ} {left later : List ℕ} (p : Next d bytes behind b left later) where
    pub second_over : Nothing d bytes' behind' → Told d c c' false
    unfolding same
    second_over q es fs k l =
        let (ones, others, m, n, e) = x es fs k l in
        let (more, y, _) = p ones m in
        (λ i. same (sym y i) (sym (q others n) i)) ∙ e

    module _ {b' : ℕ} {left' later' : List ℕ} (q : Next d bytes' behind' b' left' later') where
      pub differ : (b ≡ b' → ⊥) → Told d c c' false
      unfolding same
      differ f es fs k l =
          let (ones, others, m, n, e) = x es fs k l in
          let (more, y, _) = p ones m in
          let (more', z, _) = q others n in
          rw (y, z, ne_eqb b b' f) at e

      pub beside_on : b ≡ b' → Beside d c c' left later left' later'
      unfolding same
      beside_on s es fs k l =
          let (ones, others, m, n, e) = x es fs k l in
          let (more, y, m') = p ones m in
          let (more', z, n') = q others n in
          (more, more', m', n', rw (y, z, eq-eqb b b' s) at e)

-- ---- both directions

module _ (c c' : List ℕ) {t : Bool} (p : Told sent c c' t) where
  pub alike_both : {u : Bool} → t ≡ true → Told received c c' u → (es fs : List Entry) → row_of c ≡ Some es → row_of c' ≡ Some fs → u ≡ alike es fs
  unfolding alike
  alike_both q r es fs k l = rw (sym (p es fs k l) ∙ q) (r es fs k l)

  pub alike_not : t ≡ false → (es fs : List Entry) → row_of c ≡ Some es → row_of c' ≡ Some fs → t ≡ alike es fs
  unfolding alike
  alike_not q es fs k l = q ∙ rw (sym (p es fs k l) ∙ q)
