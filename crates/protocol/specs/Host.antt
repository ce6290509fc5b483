-- Document 01, "The call: opening", Host.
use Rattle.std.specs.Prelude.{ℕ, ◌-◌, ◌<◌, ◌⊎◌, Bool, true, false, cond, ◌&&◌, List, [], ◌∷◌, ◌++◌, length, take, drop, ltb, leb, eqb}
use Rattle.protocol.specs.Bytes.{byte}

-- a host in brackets
abbrev pub bracketed : List ℕ → List ℕ
bracketed m = 0x5B ∷ (m ++ (0x5D ∷ []))

-- `strip_ipv6_brackets`: `[` and `]` go only if both stand at the ends
unfoldable pub strip : List ℕ → List ℕ
strip h =
    cond (ltb (length h) 2) h
    (cond (eqb (byte h 0) 0x5B) (cond (eqb (byte h (length h - 1)) 0x5D) (take (length h - 2) (drop 1 h)) h) h)

-- a byte that a host may have
abbrev pub allowed : ℕ → Bool
allowed b = leb 0x21 b && leb b 0x7E

-- each byte is allowed
unfoldable pub all_allowed : List ℕ → Bool
all_allowed [] = true
all_allowed (b ∷ h) = cond (allowed b) (all_allowed h) false

-- some byte is not
abbrev pub Forbidden : List ℕ → Type 0
Forbidden h = (i : ℕ) × (i < length h) × ((byte h i < 0x21) ⊎ (0x7E < byte h i))
