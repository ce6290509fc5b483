-- The bound address as text, and bytes that are wiped.
use Prim.Native.Nat.{ℕ, suc, ◌+◌, ◌-◌, ◌*◌, ◌≤◌}
use native.Mathlib.Nat.{le_refl}
use native.Mathlib.Omega.{arith}
use mathlib.Core.Path.{◌≡◌, refl, sym, ap, ◌∙◌}
use mathlib.Core.List.{List, ◌++◌, append-nil}
use lib.ListN.{length, take, drop, replicate, length-append, length-drop, drop_of_length-le}
use lib.Seq.{drop-append-le, length-take-le}
use Rattle.protocol.proofs.Named.{drop_first}
use Rattle.client_session.specs.Session.{write_bound}
use Rattle.lent_session.specs.State.{session_at}
use Rattle.route_session.specs.calls.Calls.{last_in, session_in}
use Rattle.lent_route.specs.State.{count_at, route_at}
use Rattle.lent_route.specs.Calls.{wiped}
use Rattle.lent_route.proofs.Writing.{keeping}

pub text_same : (s b text : List ℕ) → write_bound (keeping (session_at s) b) text ≡ write_bound (session_in (route_at s)) text
unfolding write_bound
text_same s b text = refl

left_size : (n : ℕ) → n ≤ 7 → (m : ℕ) → m ≡ 8538 → m - (346 + 1024 * (7 - n)) ≡ 1024 * suc n
left_size n h m q = omega arith

module _ (s : List ℕ) (l : length s ≡ 8538) {n m : ℕ} (c : m ≡ count_at s) (q : n ≡ last_in m) where
  last_is : n ≡ last_in (count_at s)
  last_is = q ∙ ap last_in c

  few : n ≤ 7
  few = omega (arith, last_is)

  abbrev from : ℕ
  from = 346 + 1024 * (7 - n)

  module _ {ys : List ℕ} (e : ys ≡ replicate (length (take (length s - from) (drop from s))) 0) where
    abbrev tailed : List ℕ
    tailed = take from s ++ (ys ++ drop (length s - from) (drop from s))

    ys_are : ys ≡ replicate (1024 * suc n) 0
    ys_are =
        e ∙ ap (λ (k : ℕ). replicate k 0) (length-take-le (length s - from) (drop from s) (rw (length-drop from s) (le_refl (length s - from))) ∙ left_size n few (length s) l)

    front_long : length (take from s) ≡ from
    front_long = length-take-le from s (omega (arith, l))

    none_left : ys ++ drop (length s - from) (drop from s) ≡ ys
    none_left = ap (λ (t : List ℕ). ys ++ t) (drop_of_length-le (drop from s) {i = length s - from} (rw (length-drop from s) (omega arith))) ∙ append-nil ys

    pub front_size : 346 ≡ length (take 346 tailed)
    front_size = sym (length-take-le 346 tailed (omega (arith, length-append (take from s) (ys ++ drop (length s - from) (drop from s)), front_long)))

    pub wiped_as : {zs : List ℕ} → zs ≡ replicate (length (take 346 tailed)) 0 → zs ++ drop 346 tailed ≡ wiped s
    wiped_as f =
        let z : from - 346 ≡ 1024 * (7 - n) = omega arith in
        let d : drop 346 tailed ≡ take (1024 * (7 - n)) (drop 346 s) ++ replicate (1024 * suc n) 0 =
        ap (λ (t : List ℕ). drop 346 (take from s ++ t)) (none_left ∙ ys_are) ∙ drop-append-le 346 (take from s) (replicate (1024 * suc n) 0) (omega (arith, front_long))
        ∙ ap (λ (t : List ℕ). t ++ replicate (1024 * suc n) 0) (drop_first from s (omega (arith, l)) 346 (omega arith) ∙ ap (λ (k : ℕ). take k (drop 346 s)) z) in
        (λ i. (f ∙ ap (λ (k : ℕ). replicate k 0) (sym front_size)) i ++ d i) ∙ (λ i. replicate 346 0 ++ (take (1024 * (7 - last_is i)) (drop 346 s) ++ replicate (1024 * suc (last_is i)) 0))
