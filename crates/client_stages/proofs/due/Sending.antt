-- What is kept is within its limits, and what a reply makes due stands where it is said to stand.
use Prim.Native.Nat.{ℕ, ◌+◌, ◌≤◌, min}
use native.Mathlib.Omega.{arith}
use mathlib.Core.Path.{◌≡◌, ap, sym, ◌∙◌}
use mathlib.Core.Bool.{Bool, true, false}
use mathlib.Core.List.{List, ◌++◌}
use lib.ListN.{length, take, drop, length-take}
use lib.Seq.{drop-drop, take-add}
use Rattle.protocol.specs.declared.AuthMethod.TheVariants.{NoAuth, UserPass, NoneAcceptable}
use Rattle.protocol.specs.declared.Reply.{Reply}
use Rattle.protocol.specs.declared.Reply.TheVariants.{NegotiationRes, AuthenticationRes, ProxyRes, Response}
use Rattle.client_stages.specs.declared.due.Lengths.{Lengths}
use Rattle.client_stages.specs.declared.due.Requests.{Requests}
use Rattle.client_stages.specs.declared.due.Due.{Due}
use Rattle.client_stages.specs.declared.due.Stage.{Stage}
use Rattle.client_stages.specs.declared.due.Stage.TheVariants.{Awaiting}
use Rattle.client_stages.specs.due.Parts.{part, negotiation_size, authentication_size, proxy_size, requests_of, Limited}
use Rattle.client_stages.specs.due.Due.{unless_gone, authentication_due, due_after, authentication_first, due_from, still_due}

part_small : (bs : List ℕ) (from n most : ℕ) → length (part bs from (min n most)) ≤ most
part_small bs from n most = omega (arith, length-take (min n most) (drop from bs))

-- F-4: whatever a session value keeps, each request is within its limit
pub kept_limits : (r : Requests) → Limited (requests_of r)
kept_limits r =
    record {
      authentication = part_small r.bytes (negotiation_size r.lengths) r.lengths.authentication 513;
      proxy = part_small r.bytes (negotiation_size r.lengths + authentication_size r.lengths) r.lengths.proxy 262;
    }

few : (o : Bool) (n : ℕ) → unless_gone o n ≤ n
few true n = omega arith
few false n = omega arith

-- what a good reply makes due, and what may still be due behind it
pub still_after : (l : Lengths) (e : Reply) → (due_after l e).len + still_due (due_after l e).stage ≤ still_due (Awaiting e)
still_after l (NegotiationRes NoAuth) = omega (arith, few l.optimistic (proxy_size l))
still_after l (NegotiationRes UserPass) = omega (arith, few l.optimistic (authentication_size l))
still_after l (NegotiationRes NoneAcceptable) = omega arith
still_after l AuthenticationRes = omega (arith, few l.optimistic (proxy_size l))
still_after l ProxyRes = omega arith
still_after l Response = omega arith

pub from_small : (l : Lengths) → negotiation_size l + authentication_due l ≤ 516
from_small l = omega (arith, few l.optimistic (authentication_size l))

-- all that may still be due stands among the first 778 bytes
pub due_inside : (l : Lengths) (e : Reply) → due_from l e + still_due (Awaiting e) ≤ 778
due_inside l (NegotiationRes NoAuth) = omega (arith, from_small l)
due_inside l (NegotiationRes UserPass) = omega arith
due_inside l (NegotiationRes NoneAcceptable) = omega (arith, from_small l)
due_inside l AuthenticationRes = omega (arith, from_small l)
due_inside l ProxyRes = omega (arith, from_small l)
due_inside l Response = omega (arith, from_small l)

-- two parts, the second behind the first
pub part_on : (b : List ℕ) (from n m : ℕ) → part b from n ++ part b (from + n) m ≡ part b from (n + m)
part_on b from n m = ap (λ (l : List ℕ). take n (drop from b) ++ take m l) (sym (drop-drop n from b)) ∙ sym (take-add n m (drop from b))

-- ---- where what is due begins

module _ (l : Lengths) (e : Reply) {first : Bool} {at : ℕ} (f : first ≡ authentication_first e) where
  pub from_first : first ≡ true → at ≡ min l.first 3 → at ≡ due_from l e
  from_first t a = a ∙ rw (sym f ∙ t)

  pub from_next : first ≡ false → at ≡ min l.first 3 → {n : ℕ} → n ≡ authentication_due l → at + n ≡ due_from l e
  from_next t a q = rw (sym f ∙ t, a, q)

abbrev pub due : Stage → ℕ → Due
due s n = record { stage = s; len = n }
