-- What a reply of two bytes, or of eight, lacks of being good, or else decided.
use Prim.Native.Nat.{ℕ, suc, ◌+◌, ◌-◌, ◌≤◌, ◌<◌}
use native.Mathlib.Omega.{arith}
use mathlib.Core.Path.{◌≡◌, refl, sym, ◌∙◌}
use mathlib.Core.Bool.{Bool, true, false, cond, ◌&&◌, true≢false}
use mathlib.Core.List.{List, [], ◌∷◌, ◌++◌}
use lib.ListN.{length, replicate, length-append, length-replicate}
use lib.Dec.{leb, eqb}
use borrow.Author.Tests.{leb-true, leb-false, le-ltb, eqb-true, eqb-false}
use Rattle.protocol.specs.declared.AuthMethod.{AuthMethod}
use Rattle.protocol.specs.declared.AuthMethod.TheVariants.{NoAuth, UserPass, NoneAcceptable}
use Rattle.protocol.specs.declared.Reply.{Reply}
use Rattle.protocol.specs.declared.Reply.TheVariants.{NegotiationRes, AuthenticationRes, ProxyRes, Response}
use Rattle.protocol.specs.Answers.{Verdict, Good, Decision, Undecided, Decided}
use Rattle.protocol.specs.Bytes.{Bytes, byte}
use Rattle.protocol.specs.Bound.{Endpoint}
use Rattle.protocol.specs.Grammar.{Word, method_00, method_02, accepted, connected, granted}
use Rattle.protocol.specs.Replies.{upon, negotiation_verdict, authentication_verdict, response_verdict, decide}
use Rattle.protocol.proofs.Bytes.{are_bytes, bytes_are, bytes_zeros}
use Rattle.protocol.proofs.Words.{upon_yes, method_is, authentication_is, response_is}
use Rattle.client_delivery.specs.wants.Wants.{begins_with}
use Rattle.client_delivery.specs.wants.Still.{response_still, good_still}

-- behind held bytes: whether the reply can be good, then how many bytes it has at the least as a good one, or else to be decided
pub record Facts (e : Reply) (h : List ℕ) (size : ℕ) (b : Bool) : Type 0 where
  pub more : length h < size
  pub good : b ≡ true → (c : List ℕ) × Bytes c × (length h + length c ≡ size) × (decide e (h ++ c) ≡ Decided size Good)
  pub far : b ≡ true → (bs : List ℕ) (k : ℕ) → decide e (h ++ bs) ≡ Decided k Good → size ≤ length (h ++ bs)
  pub none : b ≡ false → (bs : List ℕ) (k : ℕ) → decide e (h ++ bs) ≡ Decided k Good → ⊥
  pub some : b ≡ false → (c : List ℕ) × Bytes c × (length h + length c ≡ size) × (decide e (h ++ c) ≡ Undecided → ⊥)
  pub late : b ≡ false → (bs : List ℕ) (k : ℕ) (v : Verdict) → decide e (h ++ bs) ≡ Decided k v → size ≤ length (h ++ bs)

-- ---- a decision that wants a number of bytes

pub upon_late : (n : ℕ) (bs : List ℕ) (d : Decision) (k : ℕ) (v : Verdict) → upon n bs d ≡ Decided k v → (n ≤ length bs) × (d ≡ Decided k v)
upon_late n bs d k v q = go (leb n (length bs)) refl q
  where
    go : (b : Bool) → leb n (length bs) ≡ b → cond b d Undecided ≡ Decided k v → (n ≤ length bs) × (d ≡ Decided k v)
    go true e r = (leb-true n (length bs) e, r)
    go false e r = let z : ◌≡◌ {A = ℕ} 0 1 = cc in absurd (omega arith)

pub decided_not : {k : ℕ} {v : Verdict} → Decided k v ≡ Undecided → ⊥
decided_not q = let z : ◌≡◌ {A = ℕ} 0 1 = cc in omega arith

pub upon_not : (n : ℕ) (bs : List ℕ) (k : ℕ) (v : Verdict) → n ≤ length bs → upon n bs (Decided k v) ≡ Undecided → ⊥
upon_not n bs k v h q = decided_not (sym (upon_yes n bs (Decided k v) h) ∙ q)

-- 00 up to a size
pub filled : (h : List ℕ) (size : ℕ) → length h < size → (c : List ℕ) × Bytes c × (length h + length c ≡ size)
filled h size k = (replicate (size - length h) 0, bytes_zeros (size - length h), omega (arith, length-replicate {A = ℕ} (size - length h) 0))

-- what the words begin with
abbrev Leads : Reply → List ℕ → Type 0
Leads (NegotiationRes NoAuth) bs = byte bs 0 ≡ 0x05
Leads (NegotiationRes UserPass) bs = byte bs 0 ≡ 0x05
Leads (NegotiationRes NoneAcceptable) bs = ⊥
Leads AuthenticationRes bs = byte bs 0 ≡ 0x01
Leads ProxyRes bs = byte bs 0 ≡ 0x05
Leads Response bs = (byte bs 0 ≡ 0x00) × (byte bs 1 ≡ 0x5A)

leads : {e : Reply} {w : List ℕ} {x : Endpoint} → Word e w x → (more : List ℕ) → Leads e (w ++ more)
leads method_00 more = refl
leads method_02 more = refl
leads accepted more = refl
leads (connected b) more = refl
leads (granted q a l k) more = (refl, refl)

-- a reply that is decided at a size, no sooner and no later
pub record Fixed (e : Reply) (size : ℕ) : Type 0 where
  pub late : (bs : List ℕ) (k : ℕ) (v : Verdict) → decide e bs ≡ Decided k v → size ≤ length bs
  pub soon : (bs : List ℕ) → size ≤ length bs → decide e bs ≡ Undecided → ⊥

two : {e : Reply} → (f : ℕ → ℕ → Verdict) (n : ℕ) → ((bs : List ℕ) → decide e bs ≡ upon n bs (Decided n (f (byte bs 0) (byte bs 1)))) → Fixed e n
two f n q =
    record {
      late = λ bs k v r. (upon_late n bs (Decided n (f (byte bs 0) (byte bs 1))) k v (sym (q bs) ∙ r)).0;
      soon = λ bs h r. upon_not n bs n (f (byte bs 0) (byte bs 1)) h (sym (q bs) ∙ r);
    }

module _ {e : Reply} {size : ℕ} (x : Fixed e size) where
  short : (h : List ℕ) → decide e h ≡ Undecided → length h < size
  short h u = go (leb size (length h)) refl
    where
      go : (b : Bool) → leb size (length h) ≡ b → length h < size
      go true q = absurd (x.soon h (leb-true size (length h) q) u)
      go false q = leb-false size (length h) q

  -- it can be good, or it cannot
  fixed_good : (h c : List ℕ) → length h < size → Bytes c → length h + length c ≡ size → decide e (h ++ c) ≡ Decided size Good → Facts e h size true
  fixed_good h c k y l g =
      record {
        more = k;
        good = λ q. (c, y, l, g);
        far = λ q bs n r. x.late (h ++ bs) n Good r;
        none = λ q. absurd (true≢false q);
        some = λ q. absurd (true≢false q);
        late = λ q. absurd (true≢false q);
      }

  fixed_bad : (h : List ℕ) → length h < size → ((bs : List ℕ) (k : ℕ) → decide e (h ++ bs) ≡ Decided k Good → ⊥) → Facts e h size false
  fixed_bad h k f =
      record {
        more = k;
        good = λ q. absurd (true≢false (sym q));
        far = λ q. absurd (true≢false (sym q));
        none = λ q. f;
        some = λ q. let (c, y, l) = filled h size k in (c, y, l, x.soon (h ++ c) (omega (arith, length-append h c)));
        late = λ q bs n v r. x.late (h ++ bs) n v r;
      }

  -- of two bytes of which the first is this one
  by_first : (a b : ℕ) → size ≡ 2 → are_bytes (a ∷ b ∷ []) ≡ true → decide e (a ∷ b ∷ []) ≡ Decided size Good → ((bs : List ℕ) (k : ℕ) → decide e bs ≡ Decided k Good → byte bs 0 ≡ a)
      → (h : List ℕ) → decide e h ≡ Undecided → Facts e h size (begins_with a h)
  unfolding begins_with
  by_first a b s y g f [] u = fixed_good [] (a ∷ b ∷ []) (omega arith) (bytes_are (a ∷ b ∷ []) y) (omega arith) g
  by_first a b s y g f (d ∷ []) u = go (eqb d a) refl
    where
      go : (z : Bool) → eqb d a ≡ z → Facts e (d ∷ []) size z
      go true q = fixed_good (d ∷ []) (b ∷ []) (omega arith) (λ i. bytes_are (a ∷ b ∷ []) y (suc i)) (omega arith) (rw (eqb-true d a q) g)
      go false q = fixed_bad (d ∷ []) (omega arith) (λ bs k r. eqb-false d a q (f (d ∷ bs) k r))
  by_first a b s y g f (c ∷ d ∷ h) u = absurd (omega (arith, short (c ∷ d ∷ h) u))

method_fixed : (m : AuthMethod) → Fixed (NegotiationRes m) 2
unfolding decide
method_fixed m = two (negotiation_verdict m) 2 (λ bs. refl)

authentication_fixed : Fixed AuthenticationRes 2
unfolding decide
authentication_fixed = two authentication_verdict 2 (λ bs. refl)

response_fixed : Fixed Response 8
unfolding decide
response_fixed = two response_verdict 8 (λ bs. refl)

method_leads : (m : AuthMethod) (bs : List ℕ) (k : ℕ) → decide (NegotiationRes m) bs ≡ Decided k Good → Leads (NegotiationRes m) bs
method_leads m bs k r = let f = method_is m bs k r in rw f.split (leads f.is f.follows)

pub no_auth : (h : List ℕ) → decide (NegotiationRes NoAuth) h ≡ Undecided → Facts (NegotiationRes NoAuth) h 2 (good_still (NegotiationRes NoAuth) h)
unfolding decide negotiation_verdict
no_auth h u = by_first (method_fixed NoAuth) 0x05 0x00 refl refl refl (method_leads NoAuth) h u

pub user_pass : (h : List ℕ) → decide (NegotiationRes UserPass) h ≡ Undecided → Facts (NegotiationRes UserPass) h 2 (good_still (NegotiationRes UserPass) h)
unfolding decide negotiation_verdict
user_pass h u = by_first (method_fixed UserPass) 0x05 0x02 refl refl refl (method_leads UserPass) h u

pub none_acceptable : (h : List ℕ) → decide (NegotiationRes NoneAcceptable) h ≡ Undecided → Facts (NegotiationRes NoneAcceptable) h 2 false
none_acceptable h u = fixed_bad (method_fixed NoneAcceptable) h (short (method_fixed NoneAcceptable) h u) (λ bs k r. method_leads NoneAcceptable (h ++ bs) k r)

pub authentication : (h : List ℕ) → decide AuthenticationRes h ≡ Undecided → Facts AuthenticationRes h 2 (good_still AuthenticationRes h)
unfolding decide authentication_verdict
authentication h u = by_first authentication_fixed 0x01 0x00 refl refl refl (λ bs k r. let f = authentication_is bs k r in rw f.split (leads f.is f.follows)) h u

-- ---- of eight, of which the first two tell

response_leads : (bs : List ℕ) (k : ℕ) → decide Response bs ≡ Decided k Good → (byte bs 0 ≡ 0x00) × (byte bs 1 ≡ 0x5A)
response_leads bs k r = let f = response_is bs k r in rw f.split (leads f.is f.follows)

response_good : (a b : ℕ) (r : List ℕ) → a ≡ 0x00 → b ≡ 0x5A → 6 ≤ length r → decide Response (a ∷ b ∷ r) ≡ Decided 8 Good
unfolding decide response_verdict
response_good a b r p q k = rw (p, q) (upon_yes 8 (0x00 ∷ 0x5A ∷ r) _ (omega arith))

pub response : (h : List ℕ) → decide Response h ≡ Undecided → Facts Response h 8 (response_still h)
unfolding response_still
response [] u = fixed_good response_fixed [] (0x00 ∷ 0x5A ∷ replicate 6 0) (omega arith) (bytes_are (0x00 ∷ 0x5A ∷ replicate 6 0) refl) refl (response_good 0x00 0x5A (replicate 6 0) refl refl (omega arith))
response (a ∷ []) u = go (eqb a 0x00) refl
  where
    go : (z : Bool) → eqb a 0x00 ≡ z → Facts Response (a ∷ []) 8 (z && true)
    go true q = fixed_good response_fixed (a ∷ []) (0x5A ∷ replicate 6 0) (omega arith) (bytes_are (0x5A ∷ replicate 6 0) refl) refl (response_good a 0x5A (replicate 6 0) (eqb-true a 0 q) refl (omega arith))
    go false q = fixed_bad response_fixed (a ∷ []) (omega arith) (λ bs k r. eqb-false a 0 q (response_leads (a ∷ bs) k r).0)
response (a ∷ b ∷ h) u = rw (le-ltb (length (a ∷ b ∷ h)) 2 (omega arith)) (go (eqb a 0x00) refl (eqb b 0x5A) refl)
  where
    less : length (a ∷ b ∷ h) < 8
    less = short response_fixed (a ∷ b ∷ h) u

    go : (y : Bool) → eqb a 0x00 ≡ y → (z : Bool) → eqb b 0x5A ≡ z → Facts Response (a ∷ b ∷ h) 8 (y && z)
    go true p true q =
        let (c, y, l) = filled (a ∷ b ∷ h) 8 less in
        fixed_good response_fixed (a ∷ b ∷ h) c less y l (response_good a b (h ++ c) (eqb-true a 0 p) (eqb-true b 0x5A q) (omega (arith, length-append h c)))
    go true p false q = fixed_bad response_fixed (a ∷ b ∷ h) less (λ bs k r. eqb-false b 0x5A q (response_leads (a ∷ b ∷ (h ++ bs)) k r).1)
    go false p z q = fixed_bad response_fixed (a ∷ b ∷ h) less (λ bs k r. eqb-false a 0 p (response_leads (a ∷ b ∷ (h ++ bs)) k r).0)
