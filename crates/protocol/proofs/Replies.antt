-- What more bytes do to a decision on a reply, and how many bytes it takes.
use Prim.Native.Nat.{ℕ, suc, ◌+◌, ◌≤◌}
use native.Mathlib.Nat.{le_trans, le_refl}
use native.Mathlib.Omega.{arith}
use mathlib.Core.Path.{◌≡◌, refl, ap, sym, subst, ◌∙◌}
use mathlib.Core.Bool.{Bool, true, false, cond}
use mathlib.Core.List.{List, [], ◌++◌}
use lib.ListN.{length, drop, length-append, get_or-append, length-drop}
use lib.Seq.{take-append-le, drop-append-le}
use lib.Dec.{leb, eqb, lit≤}
use borrow.Author.Tests.{leb-true, leb-false, le-leb, eqb-true}
use Rattle.protocol.specs.declared.SocksError.{SocksError}
use Rattle.protocol.specs.declared.SocksError.TheVariants.{Parsing}
use Rattle.protocol.specs.declared.Reply.{Reply}
use Rattle.protocol.specs.declared.Reply.TheVariants.{NegotiationRes, AuthenticationRes, ProxyRes, Response}
use Rattle.protocol.specs.Answers.{Verdict, Good, Bad, Decision, Undecided, Decided}
use Rattle.protocol.specs.Bytes.{Bytes, byte}
use Rattle.protocol.specs.Replies.{upon, negotiation_verdict, authentication_verdict, response_verdict, head_allowed, type_allowed, proxy_size, name_field, proxy_verdict, proxy_at, decide}
use Rattle.protocol.specs.Client.{judged, told}
use Rattle.talk.specs.Decision as talk
use Rattle.talk.specs.Lawful.{Late, Extends, waits, stays}
use Rattle.talk.proofs.Feed.{within_of, stays_of}

-- ---- the law of extension

late_cond : (b : Bool) (n : ℕ) (d e : Decision) → Late n (told d) → Late n (told e) → Late n (told (cond b d e))
late_cond true n d e p q = p
late_cond false n d e p q = q

late_upon : (k n : ℕ) (bs : List ℕ) (d : Decision) → Late n (told d) → Late n (told (upon k bs d))
late_upon k n bs d p = late_cond (leb k (length bs)) n d Undecided p tt

late_less : (n m : ℕ) (d : Decision) → n ≤ m → Late m (told d) → Late n (told d)
late_less n m Undecided h p = tt
late_less n m (Decided k v) h p = le_trans h p

ext_upon : (n : ℕ) (bs cs : List ℕ) (d e : Decision) → length bs ≤ length cs → Late n (told e) → (n ≤ length bs → Extends (length bs) (told d) (told e))
    → Extends (length bs) (told (upon n bs d)) (told (upon n cs e))
ext_upon n bs cs d e le late ext = go (leb n (length bs)) refl
  where
    go : (b : Bool) → leb n (length bs) ≡ b → Extends (length bs) (told (cond b d Undecided)) (told (upon n cs e))
    go true q = rw (le-leb n (length cs) (le_trans (leb-true n (length bs) q) le)) (ext (leb-true n (length bs) q))
    go false q = waits (late_upon n (suc (length bs)) cs e (late_less (suc (length bs)) n e (leb-false n (length bs) q) late))

ext_cond : (n : ℕ) (b : Bool) (d d' e e' : Decision) → Extends n (told d) (told d') → Extends n (told e) (told e')
    → Extends n (told (cond b d e)) (told (cond b d' e'))
ext_cond n true d d' e e' p q = p
ext_cond n false d d' e e' p q = q

longer : (bs more : List ℕ) → length bs ≤ length (bs ++ more)
longer bs more = omega (arith, length-append bs more)

-- a reply that its first two bytes judge, once n are there
by_two : (bs more : List ℕ) (f : ℕ → ℕ → Verdict) (n : ℕ) → 2 ≤ n
    → Extends (length bs) (told (upon n bs (Decided n (f (byte bs 0) (byte bs 1)))))
    (told (upon n (bs ++ more) (Decided n (f (byte (bs ++ more) 0) (byte (bs ++ more) 1)))))
by_two bs more f n h =
    ext_upon n bs (bs ++ more) _ _ (longer bs more) (le_refl n)
    λ k. rw (get_or-append bs more 0 0 (omega arith), get_or-append bs more 0 1 (omega arith)) (stays k)

size_5 : (t l : ℕ) → 5 ≤ proxy_size t l
unfolding proxy_size
size_5 t l = go (eqb t 0x01) (eqb t 0x04)
  where
    go : (a b : Bool) → 5 ≤ cond a 10 (cond b 22 (7 + l))
    go true b = lit≤ tt
    go false true = lit≤ tt
    go false false = omega arith

name_same : (bs more : List ℕ) → 5 + byte bs 4 ≤ length bs → byte (bs ++ more) 4 ≡ byte bs 4 → name_field (bs ++ more) ≡ name_field bs
unfolding name_field
name_same bs more h e =
    rw (e, drop-append-le 5 bs more (omega arith), take-append-le (byte bs 4) (drop 5 bs) more (omega (arith, length-drop 5 bs)))

late_type : (k : ℕ) (bs : List ℕ) (v : Verdict) → k ≤ 5
    → Late k (told (cond (type_allowed (byte bs 3) (byte bs 4)) (upon (proxy_size (byte bs 3) (byte bs 4)) bs (Decided (proxy_size (byte bs 3) (byte bs 4)) v)) (Decided 5 (Bad Parsing))))
late_type k bs v h =
    late_cond (type_allowed (byte bs 3) (byte bs 4)) k _ (Decided 5 (Bad Parsing))
    (late_upon (proxy_size (byte bs 3) (byte bs 4)) k bs (Decided (proxy_size (byte bs 3) (byte bs 4)) v)
    (le_trans h (size_5 (byte bs 3) (byte bs 4)))) h

verdict_same : (bs more : List ℕ) (b t : ℕ) → proxy_size t (byte bs 4) ≤ length bs → byte (bs ++ more) 4 ≡ byte bs 4
    → proxy_verdict b t (name_field (bs ++ more)) ≡ proxy_verdict b t (name_field bs)
unfolding proxy_verdict proxy_size
verdict_same bs more b t h e = go (eqb t 0x03) refl
  where
    go : (x : Bool) → eqb t 0x03 ≡ x → proxy_verdict b t (name_field (bs ++ more)) ≡ proxy_verdict b t (name_field bs)
    go true q =
        let k : 7 + byte bs 4 ≤ length bs = subst (λ (z : ℕ). proxy_size z (byte bs 4) ≤ length bs) (eqb-true t 0x03 q) h in
        rw (name_same bs more (omega arith) e)
    go false q = rw q

ext_proxy : (bs more : List ℕ) → Extends (length bs) (told (proxy_at bs)) (told (proxy_at (bs ++ more)))
unfolding proxy_at
ext_proxy bs more =
    ext_upon 3 bs (bs ++ more) _ _ (longer bs more)
    (late_cond (head_allowed (byte (bs ++ more) 0) (byte (bs ++ more) 1) (byte (bs ++ more) 2)) 3 _ (Decided 3 (Bad Parsing))
    (late_upon 5 3 (bs ++ more) _ (late_type 3 (bs ++ more) (proxy_verdict (byte (bs ++ more) 1) (byte (bs ++ more) 3) (name_field (bs ++ more))) (lit≤ tt)))
    (le_refl 3))
    λ h3. rw (get_or-append bs more 0 0 (omega arith), get_or-append bs more 0 1 (omega arith), get_or-append bs more 0 2 (omega arith))
    (ext_cond (length bs) (head_allowed (byte bs 0) (byte bs 1) (byte bs 2)) _ _ _ _
    (ext_upon 5 bs (bs ++ more) _ _ (longer bs more) (late_type 5 (bs ++ more) (proxy_verdict (byte bs 1) (byte (bs ++ more) 3) (name_field (bs ++ more))) (le_refl 5))
    λ h5. rw (get_or-append bs more 0 3 (omega arith), get_or-append bs more 0 4 (omega arith))
    (ext_cond (length bs) (type_allowed (byte bs 3) (byte bs 4)) _ _ _ _
    (ext_upon (proxy_size (byte bs 3) (byte bs 4)) bs (bs ++ more) _ _ (longer bs more)
    (le_refl _)
    λ h. rw (verdict_same bs more (byte bs 1) (byte bs 3) h (get_or-append bs more 0 4 (omega arith))) (stays h))
    (stays h5)))
    (stays h3))

pub extends : (e : Reply) (bs more : List ℕ) → Extends (length bs) (told (decide e bs)) (told (decide e (bs ++ more)))
unfolding decide
extends (NegotiationRes m) bs more = by_two bs more (negotiation_verdict m) 2 (le_refl 2)
extends AuthenticationRes bs more = by_two bs more authentication_verdict 2 (le_refl 2)
extends ProxyRes bs more = ext_proxy bs more
extends Response bs more = by_two bs more response_verdict 8 (lit≤ tt)

-- ---- the same in the decisions' own words

abbrev untold : talk.Decision SocksError → Decision
untold talk.undecided = Undecided
untold (talk.decided n talk.good) = Decided n Good
untold (talk.decided n (talk.bad e)) = Decided n (Bad e)

untold_told : (d : Decision) → untold (told d) ≡ d
untold_told Undecided = refl
untold_told (Decided n Good) = refl
untold_told (Decided n (Bad e)) = refl

-- what is decided stays, with the same place
pub stays_decided : (e : Reply) (bs more : List ℕ) (n : ℕ) (v : Verdict) → decide e bs ≡ Decided n v → decide e (bs ++ more) ≡ Decided n v
stays_decided e bs more n v q =
    sym (untold_told (decide e (bs ++ more))) ∙ ap untold (stays_of (extends e bs more) n (judged v) (ap told q)) ∙ untold_told (Decided n v)

-- what is undecided is so on every prefix
pub undecided_before : (e : Reply) (bs more : List ℕ) → decide e (bs ++ more) ≡ Undecided → decide e bs ≡ Undecided
undecided_before e bs more q = go (decide e bs) refl
  where
    go : (d : Decision) → decide e bs ≡ d → d ≡ Undecided
    go Undecided p = refl
    go (Decided n v) p = let r = stays_decided e bs more n v p in let z : ◌≡◌ {A = ℕ} 0 1 = cc in absurd (omega arith)

-- decided by no more bytes than there are
pub decided_within : (e : Reply) (bs : List ℕ) (n : ℕ) (v : Verdict) → decide e bs ≡ Decided n v → n ≤ length bs
decided_within e bs n v q = rw q at (within_of (extends e bs []))

-- ---- the bound

size_262 : (t l : ℕ) → l ≤ 255 → proxy_size t l ≤ 262
unfolding proxy_size
size_262 t l h = go (eqb t 0x01) (eqb t 0x04)
  where
    go : (a b : Bool) → cond a 10 (cond b 22 (7 + l)) ≤ 262
    go true b = lit≤ tt
    go false true = lit≤ tt
    go false false = omega arith

-- what holds of a decision on bytes: undecided, they are at most 261; decided, at most 262
abbrev Bounded : List ℕ → Decision → Type 0
Bounded bs Undecided = length bs ≤ 261
Bounded bs (Decided n v) = n ≤ 262

bounded_upon : (n : ℕ) (bs : List ℕ) (d : Decision) → n ≤ 262 → (n ≤ length bs → Bounded bs d) → Bounded bs (upon n bs d)
bounded_upon n bs d h f = go (leb n (length bs)) refl
  where
    go : (b : Bool) → leb n (length bs) ≡ b → Bounded bs (cond b d Undecided)
    go true e = f (leb-true n (length bs) e)
    go false e = omega (arith, leb-false n (length bs) e)

bounded_cond : (b : Bool) (bs : List ℕ) (d e : Decision) → Bounded bs d → Bounded bs e → Bounded bs (cond b d e)
bounded_cond true bs d e p q = p
bounded_cond false bs d e p q = q

bounded : (e : Reply) (bs : List ℕ) → byte bs 4 ≤ 255 → Bounded bs (decide e bs)
unfolding decide proxy_at
bounded (NegotiationRes m) bs h = bounded_upon 2 bs _ (lit≤ tt) (λ r. lit≤ tt)
bounded AuthenticationRes bs h = bounded_upon 2 bs _ (lit≤ tt) (λ r. lit≤ tt)
bounded ProxyRes bs h =
    bounded_upon 3 bs _ (lit≤ tt)
    λ r. bounded_cond (head_allowed (byte bs 0) (byte bs 1) (byte bs 2)) bs _ _
    (bounded_upon 5 bs _ (lit≤ tt)
    λ r. bounded_cond (type_allowed (byte bs 3) (byte bs 4)) bs _ _
    (bounded_upon (proxy_size (byte bs 3) (byte bs 4)) bs _ (size_262 (byte bs 3) (byte bs 4) h) (λ r. size_262 (byte bs 3) (byte bs 4) h))
    (lit≤ tt))
    (lit≤ tt)
bounded Response bs h = bounded_upon 8 bs _ (lit≤ tt) (λ r. lit≤ tt)

-- an undecided reply has at most 261 bytes; of the bytes it matters for one alone that it is one
pub undecided_by : (e : Reply) (bs : List ℕ) → byte bs 4 ≤ 255 → decide e bs ≡ Undecided → length bs ≤ 261
undecided_by e bs y q = rw q at (bounded e bs y)

pub undecided_261 : (e : Reply) (bs : List ℕ) → Bytes bs → decide e bs ≡ Undecided → length bs ≤ 261
undecided_261 e bs y q = undecided_by e bs (y 4) q

-- and none is decided past 262
pub decided_262 : (e : Reply) (bs : List ℕ) (n : ℕ) (v : Verdict) → Bytes bs → decide e bs ≡ Decided n v → n ≤ 262
decided_262 e bs n v y q = rw q at (bounded e bs (y 4))
