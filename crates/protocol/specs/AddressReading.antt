-- 01, "Address text": address text, read: the destination that a text stands for. proofs/Destinations.antt holds it to the grammar.
use Rattle.std.specs.Prelude.{ℕ, zero, suc, ◌+◌, ◌-◌, ◌*◌, List, [], ◌∷◌, ◌++◌, Bool, false, cond, ltb, leb, eqb, length, drop, replicate}
use Rattle.std.proofs.Math.Option.{Option, none, some}
use Rattle.protocol.specs.declared.Digits.{Digits}
use Rattle.protocol.specs.declared.Follows.{Follows}
use Rattle.protocol.specs.declared.Follows.TheVariants.{Bad, End, Dot, Colons, Colon}
use Rattle.protocol.specs.Bytes.{byte, two}

-- a host read as text: an IPv4 address, an IPv6 address, or a name
pub data Destination : Type 0 where
  ipv4 : List ℕ → Destination
  ipv6 : List ℕ → Destination
  domain : List ℕ → Destination

-- ---- digits

-- the value of a hexadecimal digit of either case; 16 for any other byte
unfoldable pub hex_value : ℕ → ℕ
hex_value b =
    cond (ltb b 0x30) 16
    (cond (ltb b 0x3A) (b - 0x30)
    (cond (ltb b 0x41) 16
    (cond (ltb b 0x47) (b - 0x37)
    (cond (ltb b 0x61) 16
    (cond (ltb b 0x67) (b - 0x57) 16)))))

-- digits at a text's start, as far as each may follow: from a value and a count so far
unfoldable pub digits_from : (ℕ → ℕ → ℕ → Bool) → ℕ → ℕ → ℕ → List ℕ → Digits
digits_from goes base v n [] = record { count = n; value = v }
digits_from goes base v n (b ∷ s) =
    cond (goes v n (hex_value b)) (digits_from goes base (v * base + hex_value b) (n + 1) s) (record { count = n; value = v })

-- whether a digit may follow in a number: a decimal one, not after a leading zero, within 255
unfoldable pub decimal_goes : ℕ → ℕ → ℕ → Bool
decimal_goes v n d = cond (ltb d 10) (cond (eqb v 0) (eqb n 0) (ltb (v * 10 + d) 256)) false

-- whether a digit may follow in a group: a hexadecimal one, up to four
unfoldable pub hex_goes : ℕ → ℕ → ℕ → Bool
hex_goes v n d = cond (ltb d 16) (ltb n 4) false

-- the longest number, and the longest group, that a text begins with; count 0: none
unfoldable pub number_of : List ℕ → Digits
number_of s = digits_from decimal_goes 10 0 0 s

unfoldable pub group_of : List ℕ → Digits
group_of s = digits_from hex_goes 16 0 0 s

-- a mark stands behind n digits
unfoldable pub mark_at : ℕ → List ℕ → ℕ → Bool
mark_at m s n = cond (eqb n 0) false (cond (ltb n (length s)) (eqb (byte s n) m) false)

-- ---- IPv4

abbrev pub ahead : List ℕ → Option (List ℕ) → Option (List ℕ)
ahead us none = none
ahead us (some vs) = some (us ++ vs)

-- so many numbers and one more, split by dots, up to the text's end
unfoldable pub dotted : ℕ → List ℕ → Option (List ℕ)
dotted zero s =
    cond (eqb (number_of s).count 0) none
    (cond (eqb (number_of s).count (length s)) (some ((number_of s).value ∷ [])) none)
dotted (suc n) s =
    cond (mark_at 0x2E s (number_of s).count) (ahead ((number_of s).value ∷ []) (dotted n (drop ((number_of s).count + 1) s))) none

unfoldable pub ipv4_of : List ℕ → Option (List ℕ)
ipv4_of s = dotted 3 s

-- ---- IPv6

-- what follows n digits
unfoldable pub follows_at : List ℕ → ℕ → Follows
follows_at s n =
    cond (eqb n 0) Bad
    (cond (eqb n (length s)) End
    (cond (mark_at 0x2E s n) Dot
    (cond (mark_at 0x3A s n) (cond (mark_at 0x3A s (n + 1)) Colons Colon) Bad)))

-- a row of groups: none, up to the text's end, or up to `::` and what follows that
pub data Row : Type 0 where
  no_row : Row
  ends : List ℕ → Row
  gap : List ℕ → List ℕ → Row

abbrev pub ahead_row : List ℕ → Row → Row
ahead_row us no_row = no_row
ahead_row us (ends vs) = ends (us ++ vs)
ahead_row us (gap vs t) = gap (us ++ vs) t

-- IPv4 text up to the end, in place of two groups, where another may still come behind this one
abbrev pub quad_row : ℕ → Option (List ℕ) → Row
quad_row zero r = no_row
quad_row (suc n) none = no_row
quad_row (suc n) (some bs) = ends bs

-- a group's bytes and what follows it; n more groups may come, and on is the row behind a colon
abbrev pub row_by : Follows → ℕ → List ℕ → Digits → Row → Row
row_by Bad n s g on = no_row
row_by End n s g on = ends (two g.value)
row_by Dot n s g on = quad_row n (ipv4_of s)
row_by Colons n s g on = gap (two g.value) (drop (g.count + 2) s)
row_by Colon n s g on = ahead_row (two g.value) on

-- at most so many groups
unfoldable pub row : ℕ → List ℕ → Row
row zero s = no_row
row (suc n) s = row_by (follows_at s (group_of s).count) n s (group_of s) (row n (drop ((group_of s).count + 1) s))

-- what follows `::`: nothing, or a row up to the end
unfoldable pub right_of : List ℕ → Row
right_of t = cond (eqb (length t) 0) (ends []) (row 8 t)

-- bytes before and behind, with zeros between for at least one group
unfoldable pub join_of : List ℕ → Row → Option (List ℕ)
join_of us no_row = none
join_of us (ends ws) = cond (leb (length us + length ws) 14) (some (us ++ (replicate (16 - (length us + length ws)) 0 ++ ws))) none
join_of us (gap ws t) = none

unfoldable pub whole_of : Row → Option (List ℕ)
whole_of no_row = none
whole_of (ends bs) = cond (eqb (length bs) 16) (some bs) none
whole_of (gap us t) = join_of us (right_of t)

unfoldable pub starts_gap : List ℕ → Bool
starts_gap s = cond (eqb (byte s 0) 0x3A) (eqb (byte s 1) 0x3A) false

unfoldable pub ipv6_of : List ℕ → Option (List ℕ)
ipv6_of s = cond (starts_gap s) (join_of [] (right_of (drop 2 s))) (whole_of (row 8 s))

-- ---- a host's text

abbrev pub chosen : List ℕ → Option (List ℕ) → Option (List ℕ) → Destination
chosen s (some bs) r = ipv4 bs
chosen s none (some bs) = ipv6 bs
chosen s none none = domain s

unfoldable pub destination_of : List ℕ → Destination
destination_of s = chosen s (ipv4_of s) (ipv6_of s)
