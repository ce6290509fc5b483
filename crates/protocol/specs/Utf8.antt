-- UTF-8 (RFC 3629, section 4): the grammar, and a test by the classes of bytes.
use Rattle.std.specs.Prelude.{ℕ, ◌≤◌, Bool, true, false, cond, List, [], ◌∷◌, ◌++◌, ltb, eqb}
use Rattle.protocol.specs.declared.Utf8State.{Utf8State}
use Rattle.protocol.specs.declared.Utf8State.TheVariants.{Boundary, Tail1, Tail2, Tail3, AfterE0, AfterEd, AfterF0, AfterF4, Invalid}

-- ---- the grammar, as it stands there

abbrev pub In : ℕ → ℕ → ℕ → Type 0
In lo hi b = (lo ≤ b) × (b ≤ hi)

-- UTF8-tail
abbrev pub Tail : ℕ → Type 0
Tail b = In 0x80 0xBF b

-- UTF8-char: UTF8-1, UTF8-2, UTF8-3, UTF8-4
pub data Char : List ℕ → Type 0 where
  one : {a : ℕ} → In 0x00 0x7F a → Char (a ∷ [])
  two : {a b : ℕ} → In 0xC2 0xDF a → Tail b → Char (a ∷ b ∷ [])
  three_e0 : {a b c : ℕ} → In 0xE0 0xE0 a → In 0xA0 0xBF b → Tail c → Char (a ∷ b ∷ c ∷ [])
  three_e1 : {a b c : ℕ} → In 0xE1 0xEC a → Tail b → Tail c → Char (a ∷ b ∷ c ∷ [])
  three_ed : {a b c : ℕ} → In 0xED 0xED a → In 0x80 0x9F b → Tail c → Char (a ∷ b ∷ c ∷ [])
  three_ee : {a b c : ℕ} → In 0xEE 0xEF a → Tail b → Tail c → Char (a ∷ b ∷ c ∷ [])
  four_f0 : {a b c d : ℕ} → In 0xF0 0xF0 a → In 0x90 0xBF b → Tail c → Tail d → Char (a ∷ b ∷ c ∷ d ∷ [])
  four_f1 : {a b c d : ℕ} → In 0xF1 0xF3 a → Tail b → Tail c → Tail d → Char (a ∷ b ∷ c ∷ d ∷ [])
  four_f4 : {a b c d : ℕ} → In 0xF4 0xF4 a → In 0x80 0x8F b → Tail c → Tail d → Char (a ∷ b ∷ c ∷ d ∷ [])

-- UTF8-octets
pub data Utf8 : List ℕ → Type 0 where
  none : Utf8 []
  more : {c s : List ℕ} → Char c → Utf8 s → Utf8 (c ++ s)

-- ---- the test

-- the twelve classes: 00-7F 0; 80-8F 1; 90-9F 2; A0-BF 3; C2-DF 4; E0 5; E1-EC, EE and EF 6; ED 7; F0 8; F1-F3 9; F4 10; all else 11
unfoldable pub class_of : ℕ → ℕ
class_of b =
    cond (ltb b 0x80) 0
    (cond (ltb b 0x90) 1
    (cond (ltb b 0xA0) 2
    (cond (ltb b 0xC0) 3
    (cond (ltb b 0xC2) 11
    (cond (ltb b 0xE0) 4
    (cond (ltb b 0xE1) 5
    (cond (ltb b 0xED) 6
    (cond (ltb b 0xEE) 7
    (cond (ltb b 0xF0) 6
    (cond (ltb b 0xF1) 8
    (cond (ltb b 0xF4) 9
    (cond (ltb b 0xF5) 10 11))))))))))))

-- the state, where a class is from lo to hi
unfoldable pub among : ℕ → ℕ → ℕ → Utf8State → Utf8State
among lo hi c st = cond (ltb c lo) Invalid (cond (ltb hi c) Invalid st)

-- the state behind the first byte of a character
unfoldable pub first : ℕ → Utf8State
first c =
    cond (eqb c 0) Boundary
    (cond (eqb c 4) Tail1
    (cond (eqb c 5) AfterE0
    (cond (eqb c 6) Tail2
    (cond (eqb c 7) AfterEd
    (cond (eqb c 8) AfterF0
    (cond (eqb c 9) Tail3
    (cond (eqb c 10) AfterF4 Invalid)))))))

unfoldable pub next : Utf8State → ℕ → Utf8State
next Boundary c = first c
next Tail1 c = among 1 3 c Boundary
next Tail2 c = among 1 3 c Tail1
next Tail3 c = among 1 3 c Tail2
next AfterE0 c = among 3 3 c Tail1
next AfterEd c = among 1 2 c Tail1
next AfterF0 c = among 2 3 c Tail2
next AfterF4 c = among 1 1 c Tail2
next Invalid c = Invalid

unfoldable pub scan : Utf8State → List ℕ → Utf8State
scan st [] = st
scan st (b ∷ bs) = scan (next st (class_of b)) bs

unfoldable pub is_boundary : Utf8State → Bool
is_boundary Boundary = true
is_boundary Tail1 = false
is_boundary Tail2 = false
is_boundary Tail3 = false
is_boundary AfterE0 = false
is_boundary AfterEd = false
is_boundary AfterF0 = false
is_boundary AfterF4 = false
is_boundary Invalid = false

unfoldable pub is_utf8 : List ℕ → Bool
is_utf8 bs = is_boundary (scan Boundary bs)
