-- Document 01, "Address text": the grammar of IPv4 and IPv6 text, with the bytes that a text stands for.
use Rattle.std.specs.Prelude.{ℕ, suc, ◌+◌, ◌-◌, ◌*◌, ◌≤◌, ◌≡◌, List, [], ◌∷◌, ◌++◌, length, replicate}
use Rattle.protocol.specs.Bytes.{two}

-- `0` to `9`
pub record Decimal (b d : ℕ) : Type 0 where
  pub small : d ≤ 9
  pub is : b ≡ 0x30 + d

-- `0` to `9`, `A` to `F`, `a` to `f`
pub data Hex (b d : ℕ) : Type 0 where
  digit : Decimal b d → Hex b d
  upper : 10 ≤ d → d ≤ 15 → b + 10 ≡ 0x41 + d → Hex b d
  lower : 10 ≤ d → d ≤ 15 → b + 10 ≡ 0x61 + d → Hex b d

-- a number 0 to 255 with no leading zero but in `0`: a digit, or a number other than 0 and one more digit
pub data Number : List ℕ → ℕ → Type 0 where
  one : {a d : ℕ} → Decimal a d → Number (a ∷ []) d
  more : {p : List ℕ} {v a d : ℕ} → Number p v → 1 ≤ v → Decimal a d → v * 10 + d ≤ 255 → Number (p ++ (a ∷ [])) (v * 10 + d)

-- so many numbers and one more, split by dots
pub data Dotted : ℕ → List ℕ → List ℕ → Type 0 where
  last : {p : List ℕ} {v : ℕ} → Number p v → Dotted 0 p (v ∷ [])
  next : {n : ℕ} {p s vs : List ℕ} {v : ℕ} → Number p v → Dotted n s vs → Dotted (suc n) (p ++ (0x2E ∷ s)) (v ∷ vs)

-- IPv4 text and its four bytes
abbrev pub Ipv4 : List ℕ → List ℕ → Type 0
Ipv4 s bs = Dotted 3 s bs

-- one to four hexadecimal digits
pub data Group : List ℕ → ℕ → Type 0 where
  one : {a d : ℕ} → Hex a d → Group (a ∷ []) d
  more : {p : List ℕ} {v a d : ℕ} → Group p v → length p ≤ 3 → Hex a d → Group (p ++ (a ∷ [])) (v * 16 + d)

-- groups split by colons, and their bytes
pub data Groups : List ℕ → List ℕ → Type 0 where
  last : {p : List ℕ} {v : ℕ} → Group p v → Groups p (two v)
  next : {p s bs : List ℕ} {v : ℕ} → Group p v → Groups s bs → Groups (p ++ (0x3A ∷ s)) (two v ++ bs)

-- the same up to the text's end, where the last two groups may be written as IPv4 text
pub data Tail : List ℕ → List ℕ → Type 0 where
  last : {p : List ℕ} {v : ℕ} → Group p v → Tail p (two v)
  quad : {s bs : List ℕ} → Ipv4 s bs → Tail s bs
  next : {p s bs : List ℕ} {v : ℕ} → Group p v → Tail s bs → Tail (p ++ (0x3A ∷ s)) (two v ++ bs)

-- what may stand before `::`, and after it
pub data Left : List ℕ → List ℕ → Type 0 where
  none : Left [] []
  some : {s bs : List ℕ} → Groups s bs → Left s bs

pub data Right : List ℕ → List ℕ → Type 0 where
  none : Right [] []
  some : {s bs : List ℕ} → Tail s bs → Right s bs

-- IPv6 text and its sixteen bytes: eight groups, or fewer with one `::` that stands for at least one zero group
pub data Ipv6 : List ℕ → List ℕ → Type 0 where
  whole : {s bs : List ℕ} → Tail s bs → length bs ≡ 16 → Ipv6 s bs
  gap : {a b us ws : List ℕ} → Left a us → Right b ws → length us + length ws ≤ 14
      → Ipv6 (a ++ (0x3A ∷ 0x3A ∷ b)) (us ++ (replicate (16 - (length us + length ws)) 0 ++ ws))

-- all else is a name
abbrev pub Name : List ℕ → Type 0
Name s = (bs : List ℕ) → (Ipv4 s bs → ⊥) × (Ipv6 s bs → ⊥)
