-- How many bytes may be read without reading past a client's requests, by the plain machine of F-3 alone.
use Rattle.std.specs.Prelude.{ℕ, ◌≡◌, List, ◌++◌, length}
use Rattle.protocol.specs.Bytes.{Bytes}
use Rattle.protocol.specs.Wants.{Least}
use Rattle.proxy_spec.specs.End as end
use Rattle.proxy_spec.specs.End.{Setup, Asked, machine}

abbrev pub Waits : Setup → List ℕ → Type 0
Waits c J = (machine c J).standing ≡ end.waits

-- bytes behind others bring the end to its question, and none of them is left
abbrev pub Asks : Setup → List ℕ → List ℕ → Type 0
Asks c J bs = (x : Asked) × ((machine c (J ++ bs)).standing ≡ end.asks x) × ((machine c (J ++ bs)).place ≡ length (J ++ bs))

-- behind them it waits no more
abbrev pub Settles : Setup → List ℕ → List ℕ → Type 0
Settles c J bs = Waits c (J ++ bs) → ⊥

-- what an end that was sent J wants: nothing once it is settled; the shortest stream that brings it to its question, if one does; else the shortest that settles it
pub record WantedBy (c : Setup) (J : List ℕ) (n : ℕ) : Type 0 where
  pub settled : (Waits c J → ⊥) → n ≡ 0
  pub asks : Waits c J → (bs : List ℕ) → Bytes bs → Asks c J bs → Least (Asks c J) n
  pub fails : Waits c J → ((bs : List ℕ) → Bytes bs → Asks c J bs → ⊥) → Least (Settles c J) n
