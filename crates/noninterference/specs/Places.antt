-- F-6: the positions of user and password among all that a session sends, and bytes that agree but there.
use Rattle.std.specs.Prelude.{ℕ, ◌+◌, ◌≤◌, ◌<◌, ◌≡◌, ◌⊎◌, Bool, true, false, List, length}
use Rattle.protocol.specs.Bytes.{byte}

-- behind a greeting of 3 bytes, VER and ULEN the user; behind it and PLEN the password; by their lengths, if credentials are asked for
abbrev pub Secret : Bool → ℕ → ℕ → ℕ → Type 0
Secret false n m i = ⊥
Secret true n m i = ((5 ≤ i) × (i < 5 + n)) ⊎ ((6 + n ≤ i) × (i < 6 + (n + m)))

-- as many bytes, from a position on, the same but at such positions
pub record Agree (S : ℕ → Type 0) (from : ℕ) (xs ys : List ℕ) : Type 0 where
  pub long : length xs ≡ length ys
  pub same : (i : ℕ) → (S (from + i) → ⊥) → byte xs i ≡ byte ys i
