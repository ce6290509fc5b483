-- What a start sends is one part of what is kept, from its start, and fits the output that a start asks.
use Prim.Native.Nat.{ℕ, ◌+◌, ◌≤◌, ◌<◌}
use native.Mathlib.Nat.{add_assoc}
use native.Mathlib.Omega.{arith}
use mathlib.Core.Path.{◌≡◌, refl, ap, sym, ◌∙◌}
use mathlib.Core.Bool.{Bool, true, false, cond}
use mathlib.Core.List.{List, ◌++◌}
use lib.Seq.{take-add}
use lib.Dec.{leb}
use Rattle.std.specs.Prelude.{Ok, Err, IfOk}
use borrow.Author.Tests.{leb-true}
use Rattle.protocol.specs.declared.Reply.{Reply}
use Rattle.protocol.specs.declared.Reply.TheVariants.{NegotiationRes, AuthenticationRes, ProxyRes, Response}
use Rattle.protocol.specs.declared.SocksError.TheVariants.{ShortOutput, OutOfOrder}
use Rattle.protocol.specs.Client.{first_room}
use Rattle.client_stages.specs.declared.due.Lengths.{Lengths}
use Rattle.client_stages.specs.declared.due.Requests.{Requests}
use Rattle.client_stages.specs.declared.due.Stage.{Stage}
use Rattle.client_stages.specs.declared.due.Stage.TheVariants.{Awaiting, Open, Failed}
use Rattle.client_stages.specs.due.Parts.{part, negotiation_size, authentication_size, proxy_size, first_of5, first_of}
use Rattle.client_stages.proofs.due.Sending.{part_on}
use Rattle.client_stages.specs.start.Starting.{first_size5, first_size, start_at}

three : (b : List ℕ) (i j k : ℕ) → part b 0 i ++ (part b i j ++ part b (i + j) k) ≡ part b 0 (i + j + k)
three b i j k = ap (λ (l : List ℕ). part b 0 i ++ l) (part_on b i j k) ∙ sym (take-add i (j + k) b) ∙ ap (part b 0) (sym (add_assoc i j k))

first5 : (r : Requests) → first_of5 r ≡ part r.bytes 0 (first_size5 r.lengths)
first5 r = go r.lengths.optimistic
  where
    go : (o : Bool)
        → let l = r.lengths in
        let i = negotiation_size l in
        let j = authentication_size l in
        let k = proxy_size l in
        let b = r.bytes in
        cond o (part b 0 i ++ (part b i j ++ part b (i + j) k)) (part b 0 i) ≡ part b 0 (cond o (i + j + k) i)
    go true = three r.bytes (negotiation_size r.lengths) (authentication_size r.lengths) (proxy_size r.lengths)
    go false = refl

pub first_part : (e : Reply) (r : Requests) → first_of e r ≡ part r.bytes 0 (first_size r.lengths e)
first_part (NegotiationRes m) r = first5 r
first_part AuthenticationRes r = first5 r
first_part ProxyRes r = first5 r
first_part Response r = refl

size5 : (l : Lengths) → first_size5 l ≤ 778
size5 l = go l.optimistic
  where
    go : (o : Bool) → cond o (negotiation_size l + authentication_size l + proxy_size l) (negotiation_size l) ≤ 778
    go true = omega arith
    go false = omega arith

pub first_fits : (l : Lengths) (e : Reply) → first_size l e ≤ first_room e
first_fits l (NegotiationRes m) = size5 l
first_fits l AuthenticationRes = size5 l
first_fits l ProxyRes = size5 l
first_fits l Response = omega arith

small : (e : Reply) → first_room e ≤ 1024
small (NegotiationRes m) = omega arith
small AuthenticationRes = omega arith
small ProxyRes = omega arith
small Response = omega arith

-- what goes first stands among the bytes kept
pub first_within : (l : Lengths) (e : Reply) → first_size l e ≤ 1024
first_within l e = omega (arith, first_fits l e, small e)

-- what a start sends fits the output lent, and stands among the bytes kept
pub sent_fits : (g : Bool) (l : Lengths) (room : ℕ) (stage : Stage) → IfOk (start_at stage g l room) (λ n. (n ≤ room) × (n ≤ 1024))
sent_fits g l room (Awaiting e) = go g (leb (first_room e) room) refl
  where
    go : (h b : Bool) → leb (first_room e) room ≡ b → IfOk (cond h (Err OutOfOrder) (cond b (Ok (first_size l e)) (Err ShortOutput))) (λ n. (n ≤ room) × (n ≤ 1024))
    go true b q = tt
    go false true q = (omega (arith, first_fits l e, leb-true (first_room e) room q), first_within l e)
    go false false q = tt
sent_fits g l room Open = tt
sent_fits g l room (Failed x) = tt
