-- F-5: a hop by its parts, as the code has it: whether it is in turn, and what is kept.
use Rattle.std.specs.Prelude.{ℕ, ◌+◌, ◌-◌, ◌*◌, ◌<◌, ◌≡◌, List, replicate}
use Rattle.protocol.specs.Answers.{Answer, Accepted, Refused}
use Rattle.protocol.specs.declared.SocksError.TheVariants.{Settled, OutOfOrder}
use Rattle.buffers.specs.write.Written.{overwrite}
use Rattle.lent_numbers.specs.bytes.Numbers.{digits}
use Rattle.route_delivery.specs.declared.Hop.{Hop}
use Rattle.route_spec.specs.Route.{Asked}
use Rattle.route_session.specs.calls.Calls.{empty_route}
use Rattle.lent_route.specs.State.{Phase, preparing, opened, over, phase_at, count_at, slot_of, state_of}
use Rattle.lent_route.specs.Calls.{Hops}
use Rattle.lent_route.specs.declared.preparing.Ready.{Ready}

abbrev pub turn_of : Phase → Answer
turn_of preparing = Accepted
turn_of opened = Refused OutOfOrder
turn_of over = Refused Settled

-- with so many hops before it, and its requests in their place
abbrev pub kept_left : Answer → List ℕ → ℕ → Hop → List ℕ
kept_left Accepted s n h = overwrite (overwrite s (282 + 8 * (7 - n)) (slot_of h)) 10 (digits 2 (n + 1))
kept_left (Refused e) s n h = state_of (empty_route e)

-- taken, the slot of its requests is cleared; not, all is done that any hop does then
pub record ReadyResult (s : List ℕ) (r : Ready) (s' : List ℕ) : Type 0 where
  pub taken : r.answer ≡ 0 → (phase_at s ≡ preparing) × ((r.count ≡ count_at s) × ((r.count < 8) × (s' ≡ overwrite s (346 + 1024 * (7 - r.count)) (replicate 1024 0))))
  pub not : (r.answer ≡ 0 → ⊥) → (a : Asked) → Hops a s r.answer s'
