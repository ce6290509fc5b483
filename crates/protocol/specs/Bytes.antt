-- 01, bytes and fields: byte strings are lists of numbers.
use Rattle.std.specs.Prelude.{ℕ, ◌+◌, ◌*◌, ◌-◌, ◌≤◌, ◌/◌, ◌%◌, Bool, true, false, ◌&&◌, length, replicate, get_or, eqb}
use mathlib.Core.List.{List, [], ◌∷◌, ◌++◌, Memᴰ}
use Rattle.talk.specs.Tunnel.{Delivery}

-- each number is a byte's
abbrev pub Bytes : List ℕ → Type 0
Bytes bs = (i : ℕ) → get_or bs i 0 ≤ 255

-- each delivery's piece is a byte string, as a slice of bytes is
abbrev pub BytePieces : List Delivery → Type 0
BytePieces ds = (d : Delivery) → Memᴰ d ds → Bytes d.piece

-- byte i, counted from 0
abbrev pub byte : List ℕ → ℕ → ℕ
byte bs i = get_or bs i 0

-- a field of two bytes, most significant first
abbrev pub two : ℕ → List ℕ
two n = n / 256 ∷ n % 256 ∷ []

-- the number of such a field
abbrev pub two_of : List ℕ → ℕ
two_of bs = byte bs 0 * 256 + byte bs 1

-- bytes at the start of an array of zeros
abbrev pub padded : ℕ → List ℕ → List ℕ
padded n bs = bs ++ replicate (n - length bs) 0

-- two byte strings are the same
unfoldable pub same : List ℕ → List ℕ → Bool
same [] [] = true
same [] (y ∷ ys) = false
same (x ∷ xs) [] = false
same (x ∷ xs) (y ∷ ys) = eqb x y && same xs ys
