-- Digits one by one.
use Prim.Native.Nat.{ℕ, ◌+◌, ◌*◌, ◌-◌, ◌<◌}
use native.Mathlib.Numerals.{add-one}
use mathlib.Core.Path.{◌≡◌}
use mathlib.Core.Bool.{true, false}
use mathlib.Core.List.{List}
use lib.ListN.{length, get_or, drop}
use lib.Seq.{drop-cons}
use Rattle.std.specs.Prelude.{None}
use Rattle.std.specs.Char.{is_ascii_digit}
use Rattle.address_format.specs.numerals.Read.{digits_from}

pub digit_more : (s : List ℕ) (i n : ℕ) → i < length s → is_ascii_digit (get_or s i 0) ≡ true → digits_from (n * 10 + (get_or s i 0 - 48)) (drop (i + 1) s) ≡ digits_from n (drop i s)
unfolding digits_from
digit_more s i n l k = rw (add-one i, drop-cons s i 0 l, k)

pub no_digit : (s : List ℕ) (i n : ℕ) → i < length s → is_ascii_digit (get_or s i 0) ≡ false → None ≡ digits_from n (drop i s)
unfolding digits_from
no_digit s i n l k = rw (drop-cons s i 0 l, k)
