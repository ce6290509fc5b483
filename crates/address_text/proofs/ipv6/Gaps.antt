-- IPv6 text: bytes before and behind `::`, and the whole text.
use Rattle.std.specs.List.{starts_with}
use Rattle.std.specs.Prelude.{nat_eq}
use Rattle.std.proofs.lemmas.Bool.Decides.{nat_tests}
use Rattle.std.proofs.Common.{◌≡◌, ℕ, ◌+◌, ◌-◌, ◌<◌, ◌≤◌, Bool, true, false, cond, eqb, ltb, leb, List, [], ◌∷◌, ◌++◌, length, take, drop, replicate, sym, refl, ◌∙◌, arith, length-take-le, ltb-false, ltb-true}
use mathlib.Core.Option.{Option, none, some}
use mathlib.Core.Bool.{false≢true}
use Rattle.protocol.specs.AddressReading.{Row, row, right_of, join_of, whole_of, starts_gap, ipv6_of}
use Rattle.address_text.specs.declared.groups.GroupRow.{GroupRow}
use Rattle.address_text.specs.declared.groups.Stop.{Stop}
use Rattle.address_text.specs.declared.groups.Stop.TheVariants.{NoRow, Ends, Gap}
use Rattle.address_text.specs.groups.Rows.{row_of, Shows}

shown_length : {s : List ℕ} {w : Row} {r : GroupRow} → Shows s w r → length (take r.len r.bytes) ≡ r.len
shown_length {r = r} h = let f = h.few in let l = h.sixteen in length-take-le r.len r.bytes (omega arith)

-- ---- behind `::`, by how the row there stops

abbrev pub JoinTurn : List ℕ → ℕ → GroupRow → Option (List ℕ) → Stop → Type 0
JoinTurn us n r j NoRow = j ≡ none
JoinTurn us n r j Gap = j ≡ none
JoinTurn us n r j Ends = j ≡ cond (leb (n + r.len) 14) (some (take n us ++ (replicate (16 - (n + r.len)) 0 ++ take r.len r.bytes))) none

pub join_turn : (us : List ℕ) (n : ℕ) → length us ≡ 16 → n ≤ 16 → {w : Row} {t : List ℕ} {r : GroupRow} → Shows t w r → JoinTurn us n r (join_of (take n us) w) r.stop
unfolding join_of
join_turn us n l h {w} {t} {r} v = rw (← v.shown) (go r.stop)
  where
    go : (x : Stop) → JoinTurn us n r (join_of (take n us) (row_of x (take r.len r.bytes) (drop r.next t))) x
    go NoRow = refl
    go Gap = refl
    go Ends = rw (length-take-le n us (omega arith), shown_length v)

-- ---- the whole text, by how its row stops

abbrev pub WholeTurn : List ℕ → GroupRow → Option (List ℕ) → Stop → Type 0
WholeTurn s r j NoRow = j ≡ none
WholeTurn s r j Gap = j ≡ join_of (take r.len r.bytes) (right_of (drop r.next s))
WholeTurn s r j Ends = j ≡ cond (eqb r.len 16) (some (take r.len r.bytes)) none

pub whole_turn : {s : List ℕ} {r : GroupRow} → Shows s (row 8 s) r → starts_gap s ≡ false → WholeTurn s r (ipv6_of s) r.stop
unfolding ipv6_of whole_of
whole_turn {s} {r} v e = rw (e, ← v.shown) (go r.stop)
  where
    go : (x : Stop) → WholeTurn s r (whole_of (row_of x (take r.len r.bytes) (drop r.next s))) x
    go NoRow = refl
    go Gap = refl
    go Ends = rw (shown_length v)

pub starting : (s : List ℕ) → starts_gap s ≡ true → ipv6_of s ≡ join_of [] (right_of (drop 2 s))
unfolding ipv6_of
starting s e = rw e

pub short_start : (s : List ℕ) → length s < 2 → starts_gap s ≡ false
unfolding starts_gap
short_start [] h = refl
short_start (a ∷ []) h = go (eqb a 0x3A)
  where
    go : (x : Bool) → cond x false false ≡ false
    go true = refl
    go false = refl
short_start (a ∷ b ∷ s) h = absurd (omega arith)

pub start_long : (s : List ℕ) → starts_gap s ≡ true → 2 ≤ length s
start_long s e = go (ltb (length s) 2) refl
  where
    go : (x : Bool) → ltb (length s) 2 ≡ x → 2 ≤ length s
    go true f = absurd (false≢true (sym (short_start s (ltb-true (length s) 2 f)) ∙ e))
    go false f = ltb-false (length s) 2 f

pub gap_lem : (s : List ℕ) → starts_with nat_eq s (0x3A ∷ 0x3A ∷ []) ≡ starts_gap s
unfolding starts_gap
gap_lem [] = refl
gap_lem (a ∷ []) = grind (arith, nat_tests)
gap_lem (a ∷ b ∷ s) = grind (arith, nat_tests)
