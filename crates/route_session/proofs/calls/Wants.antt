-- What a route's wants come to, by what the functions below them say.
use Prim.Native.Nat.{ℕ, ◌+◌, ◌≤◌, ◌<◌}
use native.Mathlib.Omega.{arith}
use native.Mathlib.Nat.{add-zero}
use native.Mathlib.Numerals.{add-one}
use mathlib.Core.Path.{◌≡◌, ap, sym, ◌∙◌}
use mathlib.Core.Bool.{Bool, true, false, cond}
use mathlib.Core.List.{List, []}
use lib.ListN.{take}
use lib.Seq.{get_or-take}
use Rattle.client_delivery.specs.wants.Wants.{wants_for}
use Rattle.route_delivery.specs.declared.Hop.{Hop}
use Rattle.route_delivery.specs.Relay.{no_hop, hop_at}
use Rattle.route_session.specs.calls.Calls.{shortest_behind}

-- one proxy more
pub one_behind : (hops : List Hop) (n i : ℕ) → i < n → {sum k : ℕ} → sum ≡ shortest_behind hops i → (k ≡ wants_for (hop_at (take n hops) i).first []) × (k ≤ 12) → sum + k ≡ shortest_behind hops (i + 1)
unfolding shortest_behind
one_behind hops n i h {sum} {k} e (f, l) =
    let g : k ≡ wants_for (hop_at hops i).first [] = f ∙ ap (λ (x : Hop). wants_for x.first []) (get_or-take n hops i no_hop h) in
    rw (add-one i) (omega (arith, g, e))

none_behind : (b : Bool) (n : ℕ) → n ≡ n + cond b 0 0
none_behind true n = sym (add-zero n)
none_behind false n = sym (add-zero n)

module _ (hops : List Hop) (b : Bool) (m : ℕ) {own w : ℕ} (e : (own ≡ w) × (own ≤ 263)) where
  pub nobody : {n : ℕ} → n ≡ m → n ≡ 0 → own ≡ w + cond b (shortest_behind hops m) 0
  unfolding shortest_behind
  nobody q z = e.0 ∙ rw (sym q ∙ z) (none_behind b w)

  pub hopeless : {x : Bool} → x ≡ b → x ≡ false → own ≡ w + cond b (shortest_behind hops m) 0
  hopeless p q = e.0 ∙ rw (sym p ∙ q) (sym (add-zero w))
