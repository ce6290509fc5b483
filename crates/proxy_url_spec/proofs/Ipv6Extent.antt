-- F-9: how long IPv6 text is at most, and of which bytes it is.
use Prim.Native.Nat.{ℕ, zero, suc, ◌+◌, ◌*◌, ◌≤◌, ◌<◌}
use native.Mathlib.Omega.{arith}
use mathlib.Core.Path.{◌≡◌}
use mathlib.Core.List.{List, [], ◌∷◌, ◌++◌}
use lib.ListN.{length, get_or, length-append}
use Rattle.protocol.specs.AddressText as G
use Rattle.protocol.specs.AddressText.{Hex, digit, upper, lower, Dotted, Group, Groups, Tail, Left, Right, Ipv6}
use Rattle.protocol.proofs.AddressIpv6.{dotted_length, number_short, number_group}

-- ---- groups are a tail

pub groups_tail : {s bs : List ℕ} → Groups s bs → Tail s bs
groups_tail (G.last g) = G.last g
groups_tail (G.next g y) = G.next g (groups_tail y)

-- ---- lengths

group_short : {p : List ℕ} {v : ℕ} → Group p v → length p ≤ 4
group_short (G.one x) = omega arith
group_short (G.more {p} {v} {a} g l x) = omega (arith, length-append p (a ∷ []))

dotted_short : {n : ℕ} {s vs : List ℕ} → Dotted n s vs → length s ≤ 4 * n + 3
dotted_short (G.last x) = omega (arith, number_short x)
dotted_short (G.next {n} {p} {s} x y) = omega (arith, number_short x, dotted_short y, length-append p (0x2E ∷ s))

groups_short : {s bs : List ℕ} → Groups s bs → 2 * length s + 2 ≤ 5 * length bs
groups_short (G.last g) = omega (arith, group_short g)
groups_short (G.next {p} {s} g y) = omega (arith, group_short g, groups_short y, length-append p (0x3A ∷ s))

tail_short : {s bs : List ℕ} → Tail s bs → 2 * length s ≤ 5 * length bs + 10
tail_short (G.last g) = omega (arith, group_short g)
tail_short (G.quad d) = omega (arith, dotted_short d, dotted_length d)
tail_short (G.next {p} {s} g y) = omega (arith, group_short g, tail_short y, length-append p (0x3A ∷ s))

left_short : {s bs : List ℕ} → Left s bs → 2 * length s ≤ 5 * length bs
left_short G.none = omega arith
left_short (G.some g) = omega (arith, groups_short g)

right_short : {s bs : List ℕ} → Right s bs → 2 * length s ≤ 5 * length bs + 10
right_short G.none = omega arith
right_short (G.some t) = tail_short t

pub ipv6_long : (s bs : List ℕ) → Ipv6 s bs → length s ≤ 45
ipv6_long _ _ (G.whole t l) = omega (arith, tail_short t)
ipv6_long _ _ (G.gap {a} {b} x y h) = omega (arith, left_short x, right_short y, length-append a (0x3A ∷ 0x3A ∷ b))

-- ---- bytes

abbrev pub All : {A : Type 0} → (A → Type 0) → List A → Type 0
All P [] = Unit {0}
All P (b ∷ s) = P b × All P s

pub all_append : (P : ℕ → Type 0) (s t : List ℕ) → All P s → All P t → All P (s ++ t)
all_append P [] t x y = y
all_append P (b ∷ s) t x y = (x.0, all_append P s t x.1 y)

pub all_at : (P : ℕ → Type 0) (s : List ℕ) (i : ℕ) → All P s → i < length s → P (get_or s i 0)
all_at P [] i x h = absurd (omega arith)
all_at P (b ∷ s) zero x h = x.0
all_at P (b ∷ s) (suc i) x h = all_at P s i x.1 (omega arith)

-- a byte of IPv6 text
pub data Byte : ℕ → Type 0 where
  hex : {b d : ℕ} → Hex b d → Byte b
  colon : Byte 0x3A
  dot : Byte 0x2E

group_bytes : {p : List ℕ} {v : ℕ} → Group p v → All Byte p
group_bytes (G.one x) = (hex x, tt)
group_bytes (G.more {p} {v} {a} g l x) = all_append Byte p (a ∷ []) (group_bytes g) (hex x, tt)

dotted_bytes : {n : ℕ} {s vs : List ℕ} → Dotted n s vs → All Byte s
dotted_bytes (G.last x) = group_bytes (number_group x).1
dotted_bytes (G.next {n} {p} {s} x y) = all_append Byte p (0x2E ∷ s) (group_bytes (number_group x).1) (dot, dotted_bytes y)

tail_bytes : {s bs : List ℕ} → Tail s bs → All Byte s
tail_bytes (G.last g) = group_bytes g
tail_bytes (G.quad d) = dotted_bytes d
tail_bytes (G.next {p} {s} g y) = all_append Byte p (0x3A ∷ s) (group_bytes g) (colon, tail_bytes y)

left_bytes : {s bs : List ℕ} → Left s bs → All Byte s
left_bytes G.none = tt
left_bytes (G.some g) = tail_bytes (groups_tail g)

right_bytes : {s bs : List ℕ} → Right s bs → All Byte s
right_bytes G.none = tt
right_bytes (G.some t) = tail_bytes t

pub ipv6_bytes : (s bs : List ℕ) → Ipv6 s bs → All Byte s
ipv6_bytes _ _ (G.whole t l) = tail_bytes t
ipv6_bytes _ _ (G.gap {a} {b} x y h) = all_append Byte a (0x3A ∷ 0x3A ∷ b) (left_bytes x) (colon, (colon, right_bytes y))

-- `]` is none of them
no_bracket : {b : ℕ} → Byte b → b ≡ 0x5D → ⊥
no_bracket (hex (digit x)) e = let s = x.small in let f = x.is in absurd (omega arith)
no_bracket (hex (upper l h f)) e = absurd (omega arith)
no_bracket (hex (lower l h f)) e = absurd (omega arith)
no_bracket colon e = absurd (omega arith)
no_bracket dot e = absurd (omega arith)

pub ipv6_no_bracket : (s bs : List ℕ) → Ipv6 s bs → (i : ℕ) → i < length s → get_or s i 0 ≡ 0x5D → ⊥
ipv6_no_bracket s bs x i h = no_bracket (all_at Byte s i (ipv6_bytes s bs x) h)
