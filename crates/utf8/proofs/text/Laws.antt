-- A text's states as a fold, and texts in two parts.
use Prim.Native.Nat.{ℕ, ◌<◌, suc}
use mathlib.Core.Path.{◌≡◌, refl, sym, ap, ◌∙◌}
use mathlib.Core.Bool.{true}
use mathlib.Core.List.{List, [], ◌∷◌, ◌++◌}
use borrow.Author.Tests.{lt-ltb}
use Rattle.std.specs.List.{fold}
use Rattle.std.specs.Str.{IsAscii}
use Rattle.protocol.specs.declared.Utf8State.{Utf8State}
use Rattle.protocol.specs.declared.Utf8State.TheVariants.{Boundary}
use Rattle.protocol.specs.Utf8.{class_of, first, next, scan, is_boundary, is_utf8}

pub scan_fold : (st : Utf8State) (s : List ℕ) → fold (λ (x : Utf8State) (b : ℕ). next x (class_of b)) st s ≡ scan st s
unfolding scan
scan_fold st [] = refl
scan_fold st (b ∷ s) = scan_fold (next st (class_of b)) s

-- a byte below 80 is a character
ascii : (b : ℕ) → b < 0x80 → next Boundary (class_of b) ≡ Boundary
unfolding class_of next first
ascii b h = rw (lt-ltb b 0x80 h)

scan_ascii : (s : List ℕ) → IsAscii s → scan Boundary s ≡ Boundary
unfolding scan
scan_ascii [] h = refl
scan_ascii (b ∷ s) h = ap (λ (st : Utf8State). scan st s) (ascii b (h 0)) ∙ scan_ascii s (λ i. h (suc i))

pub scan_append : (st : Utf8State) (s t : List ℕ) → scan st (s ++ t) ≡ scan (scan st s) t
unfolding scan
scan_append st [] t = refl
scan_append st (b ∷ s) t = scan_append (next st (class_of b)) s t

-- bytes in two lists: by the states behind each, and where both are whole, as ascii is
module _ (s t : List ℕ) where
  pub in_two_lem : (mid end : Utf8State) → mid ≡ scan Boundary s → end ≡ scan mid t → is_boundary end ≡ is_utf8 (s ++ t)
  unfolding is_utf8
  in_two_lem mid end e f = rw (f, e, scan_append Boundary s t)

  pub in_two_whole : scan Boundary s ≡ Boundary → scan Boundary t ≡ Boundary → true ≡ is_utf8 (s ++ t)
  unfolding is_boundary
  in_two_whole e f = in_two_lem Boundary Boundary (sym e) (sym f)

  pub in_two_ascii : IsAscii s → IsAscii t → true ≡ is_utf8 (s ++ t)
  in_two_ascii h k = in_two_whole (scan_ascii s h) (scan_ascii t k)
