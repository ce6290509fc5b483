-- F-8: over v4 the request of an accepted preparing announces a name just where a name is asked for.
use Prim.Native.Nat.{ℕ, ◌≤◌, ◌<◌}
use native.Mathlib.Omega.{arith}
use mathlib.Core.Path.{◌≡◌, refl, ap}
use mathlib.Core.Logic.{◌↔◌}
use mathlib.Core.List.{List, [], ◌∷◌, ◌++◌}
use lib.ListN.{length, take}
use lib.Dec.{lit<}
use Rattle.protocol.specs.Answers.{Accepted}
use Rattle.protocol.specs.Numbers.{answer_number}
use Rattle.protocol.specs.Host.{strip}
use Rattle.protocol.specs.AddressReading.{destination_of}
use Rattle.protocol.specs.Requests.{Destination4, address, name, request, Announces, dst_ip}
use Rattle.protocol.specs.Opening.{V4, check4, asked4, port_number}
use Rattle.protocol.proofs.Openings.{check4_just}
use Rattle.protocol.proofs.Limits.{Short4, asked4_short}

-- at most four bytes that announce a name with the byte behind them do so by themselves
alone : (bs : List ℕ) → length bs ≤ 4 → Announces (take 4 (bs ++ (0 ∷ []))) → Announces bs
alone (a ∷ b ∷ c ∷ d ∷ []) h n = n
alone (a ∷ b ∷ c ∷ []) h (x, l, e) = let z : 0 ≡ x = cc in absurd (omega arith)
alone (a ∷ b ∷ []) h (x, l, e) = let z = ap length e in absurd (omega arith)
alone (a ∷ []) h (x, l, e) = let z = ap length e in absurd (omega arith)
alone [] h (x, l, e) = let z = ap length e in absurd (omega arith)
alone (a ∷ b ∷ c ∷ d ∷ e ∷ r) h n = absurd (omega arith)

module _ (port : ℕ) where
  asks_name : (d : Destination4) → Short4 d → ((bs : List ℕ) → d ≡ address bs → Announces bs → ⊥) → Announces (dst_ip (request d port)) → (s : List ℕ) × (d ≡ name s)
  unfolding request
  asks_name (address bs) h f n = absurd (f bs refl (alone bs h n))
  asks_name (name s) h f n = (s, refl)

  name_announces : (s : List ℕ) → Announces (dst_ip (request (name s) port))
  unfolding request
  name_announces s = (0xFF, lit< tt, refl)

pub announced_just : (a : V4) → check4 a ≡ Accepted
    → let d = asked4 a.local_dns a.records (destination_of (strip a.host)) in Announces (dst_ip (request d (port_number a.port))) ↔ ((s : List ℕ) × (d ≡ name s))
announced_just a e =
    let n = (check4_just a).accepts.0 (ap answer_number e) in
    let port = port_number a.port in
    (asks_name port _ (asked4_short a e) (λ bs q w. n.1.1.1.1.1.1.0 (bs, q, w)), λ (s, q). rw q (name_announces port s))
