-- What the proxies keep, behind the session of the one that is spoken to: read back, and with one more.
use Prim.Native.Nat.{ℕ, suc, ◌+◌, ◌-◌, ◌*◌, ◌≤◌, ◌<◌}
use native.Mathlib.Omega.{arith}
use mathlib.Core.Path.{◌≡◌, sym, ap, ◌∙◌}
use mathlib.Core.List.{List, ◌∷◌, ◌++◌, append_assoc}
use lib.ListN.{length, drop, replicate, length-append, length-replicate}
use lib.Seq.{drop_at}
use Rattle.buffers.specs.write.Written.{overwrite}
use Rattle.route_delivery.specs.declared.Hop.{Hop}
use Rattle.route_delivery.specs.Relay.{no_hop}
use Rattle.route_session.specs.calls.Calls.{last_in}
use Rattle.lent_route.specs.State.{slots_from, hops_in, bytes_in, slot_of, slots_of, kept_of}
use Rattle.lent_route.proofs.Lists.{zeros_row, overwrite_at}
use Rattle.lent_route.proofs.Slots.{EachSlotted, slot_long, slots_long, slots_back}

zeros_long : (n : ℕ) → length (replicate {A = ℕ} n 0) ≡ n
zeros_long n = length-replicate {A = ℕ} n 0

module _ (head : List ℕ) (hs : List Hop) (bs : List ℕ) (c : ℕ) (l : length head ≡ 282) (m : c ≤ 8) (n : length hs ≡ c) where
  abbrev free : List ℕ
  free = replicate (8 * (8 - c)) 0

  abbrev free_bytes : List ℕ
  free_bytes = replicate (1024 * (8 - c)) 0

  abbrev whole : List ℕ
  whole = head ++ kept_of c hs bs

  -- one list behind the other
  in_slots : whole ≡ (head ++ free) ++ (slots_of hs ++ (free_bytes ++ bs))
  in_slots = ap (λ (t : List ℕ). head ++ t) (append_assoc free (slots_of hs) (free_bytes ++ bs)) ∙ sym (append_assoc head free (slots_of hs ++ (free_bytes ++ bs)))

  abbrev ahead : List ℕ
  ahead = (head ++ (free ++ slots_of hs)) ++ free_bytes

  in_bytes : whole ≡ ahead ++ bs
  in_bytes = sym (append_assoc head (free ++ slots_of hs) (free_bytes ++ bs)) ∙ sym (append_assoc (head ++ (free ++ slots_of hs)) free_bytes bs)

  ahead_long : length ahead ≡ 346 + 1024 * (8 - c)
  ahead_long =
      omega (arith, length-append (head ++ (free ++ slots_of hs)) free_bytes, length-append head (free ++ slots_of hs), length-append free (slots_of hs), zeros_long (8 * (8 - c)), zeros_long (1024 * (8 - c)), slots_long hs, l, n, m)

  module _ (some : 1 ≤ c) (f : EachSlotted hs) where
    last_is : last_in c ≡ c - 1
    last_is = omega arith

    pub hops_read : hops_in whole (last_in c) ≡ hs ++ replicate (8 - c) no_hop
    hops_read =
        let a : 282 + 8 * (7 - last_in c) ≡ length (head ++ free) = omega (arith, last_is, length-append head free, zeros_long (8 * (8 - c)), l) in
        let k : suc (last_in c) ≡ length hs = omega (arith, last_is, n) in
        let j : 7 - last_in c ≡ 8 - c = omega (arith, last_is) in
        λ i. (ap (λ (x : ℕ). slots_from whole (282 + 8 * (7 - last_in c)) x) k ∙ slots_back hs f (head ++ free) (free_bytes ++ bs) in_slots a) i ++ replicate (j i) no_hop

    pub bytes_read : bytes_in whole (last_in c) ≡ bs ++ replicate (1024 * (8 - c)) 0
    bytes_read =
        let a : 346 + 1024 * (7 - last_in c) ≡ 346 + 1024 * (8 - c) = omega (arith, last_is) in
        let j : 7 - last_in c ≡ 8 - c = omega (arith, last_is) in
        λ i. (ap (λ (x : ℕ). drop x whole) a ∙ ap (drop (346 + 1024 * (8 - c))) in_bytes ∙ drop_at ahead bs (346 + 1024 * (8 - c)) ahead_long) i ++ replicate {A = ℕ} (1024 * j i) 0

-- one proxy more, in the slot before
module _ (head : List ℕ) (hs : List Hop) (bs : List ℕ) (c : ℕ) (l : length head ≡ 282) (m : c < 8) (n : length hs ≡ c) (h : Hop) (b : List ℕ) (k : length b ≡ 1024) where
  abbrev left : List ℕ
  left = replicate (8 * (7 - c)) 0

  abbrev left_bytes : List ℕ
  left_bytes = replicate (1024 * (7 - c)) 0

  slots_split : replicate (8 * (8 - c)) 0 ++ slots_of hs ≡ left ++ (replicate 8 0 ++ slots_of hs)
  slots_split = ap (λ (t : List ℕ). t ++ slots_of hs) (zeros_row (8 * (7 - c)) 8 (8 * (8 - c)) (omega arith)) ∙ append_assoc left (replicate 8 0) (slots_of hs)

  bytes_split : replicate (1024 * (8 - c)) 0 ++ bs ≡ left_bytes ++ (replicate 1024 0 ++ bs)
  bytes_split = ap (λ (t : List ℕ). t ++ bs) (zeros_row (1024 * (7 - c)) 1024 (1024 * (8 - c)) (omega arith)) ∙ append_assoc left_bytes (replicate 1024 0) bs

  -- the bytes of its requests
  abbrev slots_now : List ℕ
  slots_now = replicate (8 * (8 - c)) 0 ++ slots_of hs

  bytes_put : overwrite (head ++ (slots_now ++ (left_bytes ++ (replicate 1024 0 ++ bs)))) (346 + 1024 * (7 - c)) b ≡ head ++ (slots_now ++ (left_bytes ++ (b ++ bs)))
  bytes_put =
      let p = (head ++ slots_now) ++ left_bytes in
      let z : length p ≡ 346 + 1024 * (7 - c) =
      omega (arith, length-append (head ++ slots_now) left_bytes, length-append head slots_now, length-append (replicate (8 * (8 - c)) 0) (slots_of hs), zeros_long (8 * (8 - c)), zeros_long (1024 * (7 - c)), slots_long hs, l, n, m) in
      let row : (t : List ℕ) → head ++ (slots_now ++ (left_bytes ++ t)) ≡ p ++ t = λ t. sym (append_assoc head slots_now (left_bytes ++ t)) ∙ sym (append_assoc (head ++ slots_now) left_bytes t) in
      ap (λ (t : List ℕ). overwrite t (346 + 1024 * (7 - c)) b) (row (replicate 1024 0 ++ bs)) ∙ overwrite_at p (replicate 1024 0) bs b (346 + 1024 * (7 - c)) z (k ∙ sym (zeros_long 1024)) ∙ sym (row (b ++ bs))

  slot_put : (t : List ℕ) → overwrite (head ++ ((left ++ (replicate 8 0 ++ slots_of hs)) ++ t)) (282 + 8 * (7 - c)) (slot_of h) ≡ head ++ ((left ++ (slot_of h ++ slots_of hs)) ++ t)
  slot_put t =
      let p = head ++ left in
      let z : length p ≡ 282 + 8 * (7 - c) = omega (arith, length-append head left, zeros_long (8 * (7 - c)), l) in
      let row : (u : List ℕ) → head ++ ((left ++ (u ++ slots_of hs)) ++ t) ≡ p ++ (u ++ (slots_of hs ++ t)) =
      λ u. ap (λ (v : List ℕ). head ++ v) (append_assoc left (u ++ slots_of hs) t ∙ ap (λ (v : List ℕ). left ++ v) (append_assoc u (slots_of hs) t)) ∙ sym (append_assoc head left (u ++ (slots_of hs ++ t))) in
      ap (λ (v : List ℕ). overwrite v (282 + 8 * (7 - c)) (slot_of h)) (row (replicate 8 0)) ∙ overwrite_at p (replicate 8 0) (slots_of hs ++ t) (slot_of h) (282 + 8 * (7 - c)) z (slot_long h) ∙ sym (row (slot_of h))

  pub kept_more : overwrite (overwrite (head ++ kept_of c hs bs) (346 + 1024 * (7 - c)) b) (282 + 8 * (7 - c)) (slot_of h) ≡ head ++ kept_of (suc c) (h ∷ hs) (b ++ bs)
  unfolding slots_of
  kept_more =
      let e : 8 - suc c ≡ 7 - c = omega arith in
      ap (λ (t : List ℕ). overwrite (overwrite (head ++ (slots_now ++ t)) (346 + 1024 * (7 - c)) b) (282 + 8 * (7 - c)) (slot_of h)) bytes_split
      ∙ ap (λ (t : List ℕ). overwrite t (282 + 8 * (7 - c)) (slot_of h)) bytes_put
      ∙ ap (λ (t : List ℕ). overwrite (head ++ (t ++ (left_bytes ++ (b ++ bs)))) (282 + 8 * (7 - c)) (slot_of h)) slots_split
      ∙ slot_put (left_bytes ++ (b ++ bs))
      ∙ ap (λ (x : ℕ). head ++ ((replicate (8 * x) 0 ++ (slot_of h ++ slots_of hs)) ++ (replicate (1024 * x) 0 ++ (b ++ bs)))) (sym e)
