-- F-10 in handy forms, not to be believed: a capture read from its start.
use Rattle.std.specs.Prelude.{ℕ, zero, suc, ◌+◌, ◌*◌, ◌%◌, Bool, cond, ◌&&◌, List, [], ◌∷◌, length, take, drop, leb}
use Rattle.std.specs.Prelude.{Option, None, Some}
use Rattle.protocol.specs.Bytes.{same}
use Rattle.captures_spec.specs.Captures.{Direction, sent, received, Entry, entry, joined}

-- what an entry's two bytes say
abbrev pub direction_by : ℕ → Direction
direction_by b = cond (leb 128 b) received sent

abbrev pub length_by : ℕ → ℕ → ℕ
length_by b c = b % 128 * 256 + c

abbrev pub ahead : Entry → Option (List Entry) → Option (List Entry)
ahead e None = None
ahead e (Some es) = Some (e ∷ es)

-- the first entry, and what is behind it
abbrev pub first : List ℕ → (List ℕ → Option (List Entry)) → Option (List Entry)
first [] on = Some []
first (b ∷ []) on = None
first (b ∷ c ∷ bs) on = cond (leb (length_by b c) (length bs)) (ahead (entry (direction_by b) (take (length_by b c) bs)) (on (drop (length_by b c) bs))) None

-- by at most so many entries and one more
unfoldable pub row_within : ℕ → List ℕ → Option (List Entry)
row_within zero bs = first bs (λ more. None)
row_within (suc n) bs = first bs (row_within n)

-- the row of entries that bytes are, or none: an entry runs past the end
unfoldable pub row_of : List ℕ → Option (List Entry)
row_of c = row_within (length c) c

unfoldable pub alike : List Entry → List Entry → Bool
alike es fs = same (joined sent es) (joined sent fs) && same (joined received es) (joined received fs)
