-- F-13: what is drawn, by the load's definitions: a draw, what three of them choose, and the next piece.
use Rattle.std.specs.Prelude.{ℕ, ◌+◌, ◌%◌, min, Bool, cond, eqb}
use Rattle.load_spec.specs.Load.{next_state, drawn, after_choice, piece_length}
use Rattle.draws.specs.declared.Drawn.{Drawn}
use Rattle.draws.specs.declared.Choice.{Choice}
use Rattle.draws.specs.declared.Piece.{Piece}

abbrev pub draw_of : ℕ → Drawn
draw_of s = record { state = next_state s; value = drawn s }

abbrev pub choice_of : ℕ → Choice
choice_of s =
    record {
      v5 = eqb (drawn s % 2) 0;
      credentials = eqb (drawn (next_state s) % 2) 1;
      name = 1 + drawn (next_state (next_state s)) % 200;
      state = after_choice s;
    }

-- of so many bytes left: of none nothing, with no draw; a single byte, with no draw; or one draw, and the last takes what is left
abbrev pub piece_of : ℕ → ℕ → Bool → Piece
piece_of s left single =
    cond (eqb left 0) (record { len = 0; state = s })
    (cond single (record { len = 1; state = s }) (record { len = min (piece_length s) left; state = next_state s }))
