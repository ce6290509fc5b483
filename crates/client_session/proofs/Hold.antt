-- F-2: a delivery changes none of the hold's bytes but the first ones, as many as are held after it; whatever is held before it, and for every session value.
use Rattle.std.proofs.Common.{◌≡◌, ℕ, ◌+◌, ◌-◌, ◌≤◌, Bool, true, false, cond, not, leb, List, [], ◌∷◌, ◌++◌, length, drop, sym, refl, ap, ◌∙◌, arith, get_or-drop, get_or-append-add}
use Rattle.protocol.specs.Bytes.{byte}
use Rattle.protocol.specs.declared.SocksError.TheVariants.{ShortOutput, Settled, OutOfOrder}
use Rattle.client_session.specs.declared.Session.{Session}
use Rattle.client_session.specs.Session.{side_of, view, room_at}
use Rattle.client_session.specs.Calls.{refusal, takes, deliver}
use Rattle.client_session.specs.Hold.{HoldStays}
use Rattle.client_stages.specs.due.Stages.{holds_of}
use Rattle.talk.specs.Talk.{onward, is_over}

behind : (h hold : List ℕ) (i : ℕ) → length h ≤ i → byte (h ++ drop (length h) hold) i ≡ byte hold i
behind h hold i l =
    let z : i ≡ length h + (i - length h) = omega arith in
    ap (byte (h ++ drop (length h) hold)) z ∙ get_or-append-add h (drop (length h) hold) (i - length h) 0 ∙ get_or-drop (length h) hold (i - length h) 0 ∙ ap (byte hold) (sym z)

module _ (s : Session) (piece out : List ℕ) where
  taken : (p : List ℕ) → HoldStays s (takes s p out).session
  taken [] = λ i h. refl
  taken (b ∷ bs) = behind (holds_of (onward (side_of s) (view s) (b ∷ bs)).session) s.hold

  delivered_stays : HoldStays s (deliver s piece out).session
  unfolding deliver
  delivered_stays = go (is_over (view s)) s.started (leb (room_at s.stage) (length out))
    where
      go : (a g b : Bool) → HoldStays s (cond a (refusal Settled s out) (cond (not g) (refusal OutOfOrder s out) (cond b (takes s piece out) (refusal ShortOutput s out)))).session
      go true g b = λ i h. refl
      go false false b = λ i h. refl
      go false true true = taken piece
      go false true false = λ i h. refl

pub hold_stays : (s : Session) (piece out : List ℕ) → HoldStays s (deliver s piece out).session
hold_stays = delivered_stays
