-- A session's writing before its stage is written.
use Rattle.std.specs.Prelude.{ℕ, List, ◌∷◌, ◌++◌, take, drop}
use Rattle.client_session.specs.declared.Session.{Session}
use Rattle.lent_session.specs.State.{state_of}

abbrev pub unstaged : Session → List ℕ
unstaged x = take 18 (state_of x) ++ (0 ∷ 0 ∷ 0 ∷ drop 21 (state_of x))
