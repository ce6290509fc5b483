-- A piece that decides nothing is only held; and what is left of an end once a piece is held or settled.
use Rattle.std.specs.Prelude.{ℕ, ◌+◌, ◌≤◌, ◌<◌, ◌≡◌, List, [], ◌∷◌, ◌++◌, length, take}
use Rattle.proxy_spec.specs.declared.Field.{Field}
use Rattle.proxy_spec.specs.Side.{reads}
use Rattle.proxy_delivery.specs.declared.piece.Taken.{Taken}
use Rattle.talk.specs.Decision.{undecided}
use Rattle.lent_numbers.specs.declared.told.RawStep.{RawStep}
use Rattle.lent_proxy.specs.Fits.{StageFits, changed, Rewrites}
use Rattle.lent_proxy.specs.Calls.{standing_of}

-- no byte is 00
abbrev pub NoNull : List ℕ → Type 0
NoNull [] = Unit {0}
NoNull (b ∷ bs) = (b ≡ 0x00 → ⊥) × NoNull bs

-- a field is undecided by the first bytes of a hold and then a piece, which fit it
pub record Lacks (f : Field) (hold : List ℕ) (held : ℕ) (piece : List ℕ) : Type 0 where
  pub room : held + length piece ≤ 1014
  pub reads : reads f (take held hold ++ piece) ≡ undecided

abbrev pub waiting_step : ℕ → RawStep
waiting_step n = record { used = n; sent = 0; answer = 0; outcome = record { state = 0; number = 0; status = 0 } }

-- what a piece came to, written
pub record Settles (t : Taken) (s : List ℕ) (r : RawStep) (s' : List ℕ) : Type 0 where
  pub returned : r ≡ record { used = t.used; sent = t.sent; answer = 0; outcome = standing_of t.stage }
  pub left : Rewrites (λ x. changed x t.stage t.held x.hold t.bound) s s'
  pub stage : StageFits t.stage
  pub port : t.bound.port < 65536
