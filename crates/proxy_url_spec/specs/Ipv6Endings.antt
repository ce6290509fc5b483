-- F-9 in a handy form, not to be believed: the endings that complete a beginning of IPv6 text.
use Rattle.std.specs.Prelude.{ℕ, List, [], ◌∷◌}

-- `::`, `:`, `.0.0`, `0.0.0`, `.0`, `0.0`, nothing, `0`
unfoldable pub endings : List (List ℕ)
endings =
    (0x3A ∷ 0x3A ∷ [])
    ∷ (0x3A ∷ [])
    ∷ (0x2E ∷ 0x30 ∷ 0x2E ∷ 0x30 ∷ [])
    ∷ (0x30 ∷ 0x2E ∷ 0x30 ∷ 0x2E ∷ 0x30 ∷ [])
    ∷ (0x2E ∷ 0x30 ∷ [])
    ∷ (0x30 ∷ 0x2E ∷ 0x30 ∷ [])
    ∷ []
    ∷ (0x30 ∷ [])
    ∷ []
