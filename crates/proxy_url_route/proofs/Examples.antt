-- F-9: worked examples, computed: texts and their lines.
use mathlib.Core.Path.{◌≡◌, refl}
use mathlib.Core.List.{[], ◌∷◌}
use Rattle.proxy_url_route.specs.Lines.{split, lines_of}

pub worked :
    -- no byte: no line
    (lines_of [] ≡ [])
    ×
    -- a
    (lines_of (0x61 ∷ []) ≡ (0x61 ∷ []) ∷ [])
    ×
    -- a 0A: a last line that is empty
    (lines_of (0x61 ∷ 0x0A ∷ []) ≡ (0x61 ∷ []) ∷ [] ∷ [])
    ×
    -- 0A: two that are
    (lines_of (0x0A ∷ []) ≡ [] ∷ [] ∷ [])
    ×
    -- a 0D 0A b: no other byte ends a line
    (lines_of (0x61 ∷ 0x0D ∷ 0x0A ∷ 0x62 ∷ []) ≡ (0x61 ∷ 0x0D ∷ []) ∷ (0x62 ∷ []) ∷ [])
unfolding split
worked = (refl, refl, refl, refl, refl)
