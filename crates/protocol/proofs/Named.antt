-- F-1: what a good reply names stands in the bytes that decide it, and is kept whole in the value that is handed out.
use Prim.Native.Nat.{ℕ, ◌+◌, ◌-◌, ◌≤◌, min}
use native.Mathlib.Omega.{arith}
use mathlib.Core.Path.{◌≡◌, refl, ap, ◌∙◌}
use mathlib.Core.Bool.{Bool, true, false, cond}
use mathlib.Core.List.{List}
use lib.ListN.{length, take, drop, replicate}
use lib.Seq.{take_all, take_at, drop_at, length-take-le, get_or-take, take-take, take-add, drop-drop}
use lib.Dec.{eqb}
use Rattle.protocol.specs.declared.Reply.{Reply}
use Rattle.protocol.specs.declared.Reply.TheVariants.{NegotiationRes, AuthenticationRes, ProxyRes, Response}
use Rattle.protocol.specs.Answers.{Good, Decided}
use Rattle.protocol.specs.Bytes.{byte, two_of, padded}
use Rattle.protocol.specs.AddressReading.{Destination, ipv4, ipv6, domain}
use Rattle.protocol.specs.Bound.{Endpoint, endpoint, proxy_bound, response_bound, bound_by, address_of, destination}
use Rattle.protocol.specs.Replies.{response_verdict, proxy_size, decide}
use Rattle.protocol.specs.Opening.{Opening}
use Rattle.protocol.specs.Grammar.{BoundField, four, six, named, Sequence, plain, credentials, version4}
use Rattle.protocol.proofs.Words.{tests, upon_inv, at_place}

module _ (n : ℕ) (bs : List ℕ) (l : n ≤ length bs) where
  pub drop_first : (k : ℕ) → k ≤ n → drop k (take n bs) ≡ take (n - k) (drop k bs)
  drop_first k h =
      let z : n ≡ k + (n - k) = omega arith in
      ap (drop k) (ap (λ (j : ℕ). take j bs) z ∙ take-add k (n - k) bs) ∙ drop_at (take k bs) (take (n - k) (drop k bs)) k (length-take-le k bs (omega arith))

  part_first : (k m : ℕ) → k + m ≤ n → take m (drop k (take n bs)) ≡ take m (drop k bs)
  part_first k m h = ap (take m) (drop_first k (omega arith)) ∙ take-take m (n - k) (drop k bs) (omega arith)

  two_first : (k : ℕ) → k + 2 ≤ n → two_of (drop k (take n bs)) ≡ two_of (drop k bs)
  two_first k h = rw (drop_first k (omega arith), get_or-take (n - k) (drop k bs) 0 0 (omega arith), get_or-take (n - k) (drop k bs) 1 0 (omega arith))

  two_behind : (k m : ℕ) → k + m + 2 ≤ n → two_of (drop m (drop k (take n bs))) ≡ two_of (drop m (drop k bs))
  two_behind k m h = rw (drop-drop m k (take n bs), drop-drop m k bs) (two_first (k + m) h)

-- a whole connect reply
proxy_first : (n : ℕ) (bs : List ℕ) → proxy_size (byte bs 3) (byte bs 4) ≡ n → 5 ≤ n → n ≤ length bs → proxy_bound (take n bs) ≡ proxy_bound bs
unfolding proxy_bound proxy_size
proxy_first n bs s f l = rw (get_or-take n bs 3 0 (omega arith), get_or-take n bs 4 0 (omega arith)) (go (eqb (byte bs 3) 0x01) (eqb (byte bs 3) 0x04) s)
  where
    go : (x y : Bool) → cond x 10 (cond y 22 (7 + byte bs 4)) ≡ n
        → cond x (endpoint (ipv4 (take 4 (drop 4 (take n bs)))) (two_of (drop 8 (take n bs))))
        (cond y (endpoint (ipv6 (take 16 (drop 4 (take n bs)))) (two_of (drop 20 (take n bs))))
        (endpoint (domain (take (byte bs 4) (drop 5 (take n bs)))) (two_of (drop (byte bs 4) (drop 5 (take n bs))))))
        ≡ cond x (endpoint (ipv4 (take 4 (drop 4 bs))) (two_of (drop 8 bs)))
        (cond y (endpoint (ipv6 (take 16 (drop 4 bs))) (two_of (drop 20 bs)))
        (endpoint (domain (take (byte bs 4) (drop 5 bs))) (two_of (drop (byte bs 4) (drop 5 bs)))))
    go true y e = rw (part_first n bs l 4 4 (omega arith), two_first n bs l 8 (omega arith))
    go false true e = rw (part_first n bs l 4 16 (omega arith), two_first n bs l 20 (omega arith))
    go false false e = rw (part_first n bs l 5 (byte bs 4) (omega arith), two_behind n bs l 5 (byte bs 4) (omega arith))

response_first : (bs : List ℕ) → 8 ≤ length bs → response_bound (take 8 bs) ≡ response_bound bs
unfolding response_bound
response_first bs l = rw (part_first 8 bs l 4 4 (omega arith), two_first 8 bs l 2 (omega arith))

-- a whole reply has so many bytes
pub proxy_whole : (bs : List ℕ) (n : ℕ) → decide ProxyRes bs ≡ Decided n Good → proxy_size (byte bs 3) (byte bs 4) ≤ length bs
unfolding decide
proxy_whole bs n q = (tests bs n q).all

pub response_whole : (bs : List ℕ) (n : ℕ) → decide Response bs ≡ Decided n Good → 8 ≤ length bs
unfolding decide
response_whole bs n q = (upon_inv 8 bs _ n q).0

five_least : (n : ℕ) (bs : List ℕ) → proxy_size (byte bs 3) (byte bs 4) ≡ n → 5 ≤ n
unfolding proxy_size
five_least n bs = go (eqb (byte bs 3) 0x01) (eqb (byte bs 3) 0x04)
  where
    go : (x y : Bool) → cond x 10 (cond y 22 (7 + byte bs 4)) ≡ n → 5 ≤ n
    go true y e = omega arith
    go false true e = omega arith
    go false false e = omega arith

pub bound_first : (e : Reply) (bs : List ℕ) (n : ℕ) → decide e bs ≡ Decided n Good → bound_by e (take n bs) ≡ bound_by e bs
unfolding decide
bound_first (NegotiationRes m) bs n q = refl
bound_first AuthenticationRes bs n q = refl
bound_first ProxyRes bs n q = let c = tests bs n q in proxy_first n bs c.count (five_least n bs c.count) (rw (← c.count) c.all)
bound_first Response bs n q =
    let u = upon_inv 8 bs _ n q in
    let v = at_place 8 (response_verdict (byte bs 0) (byte bs 1)) n u.1 in
    rw (← v.0) (response_first bs u.0)

-- ---- what a reply sequence names, as a value and back

abbrev Fits : Destination → Type 0
Fits (ipv4 bs) = length bs ≡ 4
Fits (ipv6 bs) = length bs ≡ 16
Fits (domain s) = length s ≤ 255

field_fits : {a : List ℕ} {x : Endpoint} → BoundField a x → Fits x.address
field_fits (four a port l p) = l
field_fits (six a port l p) = l
field_fits (named s port h k l u p) = omega arith

sequence_fits : {o : Opening} {p : List ℕ} {x : Endpoint} → Sequence o p x → Fits x.address
sequence_fits (plain b) = field_fits b
sequence_fits (credentials b) = field_fits b
sequence_fits (version4 q a l k) = k

first_of : (bs : List ℕ) (n : ℕ) → length bs ≡ n → n ≤ 255 → take n (padded 255 (take 255 bs)) ≡ bs
first_of bs n l h = rw (take_all 255 bs (omega arith)) (take_at bs (replicate (255 - length bs) 0) n l)

value_back : (d : Destination) (port : ℕ) → Fits d → destination (address_of (endpoint d port)) ≡ d
value_back (ipv4 bs) port l = ap ipv4 (first_of bs 4 l (omega arith))
value_back (ipv6 bs) port l = ap ipv6 (first_of bs 16 l (omega arith))
value_back (domain s) port l = let z : min (length s) 255 ≡ length s = omega arith in ap domain (rw z (first_of s (length s) refl l))

pub named_back : {o : Opening} {p : List ℕ} {x : Endpoint} → Sequence o p x → destination (address_of x) ≡ x.address
named_back {x = x} s = value_back x.address x.port (sequence_fits s)
