-- A session with any bytes behind its hold is read back from its writing.
use Prim.Native.Nat.{ℕ}
use mathlib.Core.Path.{◌≡◌, sym, ap}
use mathlib.Core.List.{List, [], ◌++◌, append_assoc}
use lib.ListN.{length, length-append}
use lib.Seq.{take_at, drop_at}
use Rattle.client_session.specs.declared.Session.{Session}
use Rattle.lent_numbers.specs.bytes.Numbers.{digits}
use Rattle.lent_session.specs.State.{session_at, state_of}
use Rattle.lent_session.specs.Fits.{Fits}
use Rattle.lent_session.proofs.Writing.{state_back}

-- with other bytes
abbrev pub keeping : Session → List ℕ → Session
keeping x b =
    record {
      stage = x.stage;
      started = x.started;
      held = x.held;
      hold = x.hold;
      bound = x.bound;
      attempts = x.attempts;
      requests = record { lengths = x.requests.lengths; bytes = b };
    }

module _ (x : Session) (b : List ℕ) (f : Fits (keeping x b)) where
  pub read_back : session_at (state_of x) ≡ x
  unfolding digits
  read_back =
      let q = state_back (keeping x b) f in
      let hold = take_at x.hold x.requests.bytes 261 f.hold in
      let bytes = drop_at x.hold x.requests.bytes 261 f.hold in
      λ i. record {
        stage = (q i).stage;
        started = (q i).started;
        held = (q i).held;
        hold = hold i;
        bound = (q i).bound;
        attempts = (q i).attempts;
        requests = record { lengths = (q i).requests.lengths; bytes = bytes i };
      }

-- the numbers and the hold, and the bytes behind them
abbrev pub head_of : Session → List ℕ
head_of x = state_of (keeping x [])

-- with other bytes in the place of its hold and those behind it
abbrev ending : Session → List ℕ → Session
ending x t =
    record {
      stage = x.stage;
      started = x.started;
      held = x.held;
      hold = [];
      bound = x.bound;
      attempts = x.attempts;
      requests = record { lengths = x.requests.lengths; bytes = t };
    }

pub head_row : (x : Session) → state_of x ≡ head_of x ++ x.requests.bytes
unfolding digits
head_row x = ap (λ (t : List ℕ). state_of (ending x t)) (sym (append_assoc x.hold [] x.requests.bytes))

pub head_long : (x : Session) → length x.hold ≡ 261 → length (head_of x) ≡ 282
unfolding digits
head_long x h = rw (length-append x.hold [], h)
