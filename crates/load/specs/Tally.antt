-- F-13: what is counted of the handshakes.
use Rattle.std.specs.Prelude.{ℕ, ◌+◌, ◌%◌, ◌^◌, Bool, true, false, cond, List, length, sum}
use Rattle.protocol.specs.declared.Outcome.{Outcome}
use Rattle.protocol.specs.declared.Outcome.TheVariants.{Waiting, Open, Failed}
use Rattle.load.specs.declared.Tally.{Tally}

-- how many opened, how many bytes were sent, and their sum, each modulo 2 to the 64
pub record Counts : Type 0 where
  pub opened : ℕ
  pub sent : ℕ
  pub sum : ℕ

abbrev pub no_counts : Counts
no_counts = record { opened = 0; sent = 0; sum = 0 }

-- bytes more were sent
abbrev pub with_sent : Counts → List ℕ → Counts
with_sent t bs = record { opened = t.opened; sent = (t.sent + length bs) % 2 ^ 64; sum = (t.sum + sum bs) % 2 ^ 64 }

abbrev pub is_open : Outcome → Bool
is_open Waiting = false
is_open Open = true
is_open (Failed e) = false

-- a session has come to an outcome
abbrev pub with_outcome : Counts → Outcome → Counts
with_outcome t o = record { opened = cond (is_open o) ((t.opened + 1) % 2 ^ 64) t.opened; sent = t.sent; sum = t.sum }

-- a tally is counts and the load's state
abbrev pub counts_of : Tally → Counts
counts_of t = record { opened = t.opened; sent = t.sent; sum = t.sum }

abbrev pub tally_of : Counts → ℕ → Tally
tally_of t state = record { state = state; opened = t.opened; sent = t.sent; sum = t.sum }

abbrev pub added : Tally → List ℕ → ℕ → Tally
added t bs state = tally_of (with_sent (counts_of t) bs) state

abbrev pub settled : Tally → Outcome → Tally
settled t o = tally_of (with_outcome (counts_of t) o) t.state
