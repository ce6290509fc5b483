-- A reply is decided good just where the bytes begin with one of its words, and at the word's length.
use Prim.Native.Nat.{ℕ, ◌+◌, ◌≤◌}
use native.Mathlib.Omega.{arith}
use mathlib.Core.Path.{◌≡◌, refl, ap, sym, ◌∙◌}
use mathlib.Core.Logic.{◌↔◌}
use mathlib.Core.Bool.{Bool, true, false, cond, ◌&&◌, ◌||◌, not}
use mathlib.Core.List.{List, [], ◌∷◌, ◌++◌, append_assoc, append-nil}
use lib.ListN.{length, take, drop, length-append, length-drop, take-append-drop}
use lib.Seq.{take_all, take_at, drop_at, length-take-le}
use lib.Dec.{leb, eqb, lit≤}
use borrow.Author.Tests.{leb-true, le-leb, eqb-true, eqb-false}
use Rattle.protocol.specs.declared.AuthMethod.{AuthMethod}
use Rattle.protocol.specs.declared.AuthMethod.TheVariants.{NoAuth, UserPass, NoneAcceptable}
use Rattle.protocol.specs.declared.SocksError.{SocksError}
use Rattle.protocol.specs.declared.SocksError.TheVariants.{Parsing, Unsupported, MethodMismatch, Failed, Command}
use Rattle.protocol.specs.declared.Reply.{Reply}
use Rattle.protocol.specs.declared.Reply.TheVariants.{NegotiationRes, AuthenticationRes, ProxyRes, Response}
use Rattle.protocol.specs.Answers.{Verdict, Good, Bad, Decision, Undecided, Decided}
use Rattle.protocol.specs.Bytes.{Bytes, byte, two_of}
use Rattle.protocol.specs.Requests.{method_byte}
use Rattle.protocol.specs.AddressReading.{Destination, ipv4, ipv6, domain}
use Rattle.protocol.specs.Bound.{Endpoint, endpoint, unbound, proxy_bound, response_bound, bound_by}
use Rattle.protocol.specs.Utf8.{Utf8, is_utf8}
use Rattle.protocol.specs.Replies.{upon, negotiation_verdict, authentication_verdict, response_verdict, head_allowed, type_allowed, proxy_size, name_field, proxy_verdict, proxy_at, decide}
use Rattle.protocol.specs.Grammar.{BoundField, four, six, named, Word, method_00, method_02, accepted, connected, granted}
use Rattle.protocol.proofs.Tests.{both}
use Rattle.protocol.proofs.Utf8.{utf8_just}

-- ---- from the word to the reader

pub upon_yes : (n : ℕ) (bs : List ℕ) (d : Decision) → n ≤ length bs → upon n bs d ≡ d
upon_yes n bs d h = rw (le-leb n (length bs) h)

pub proxy_whole : (bs : List ℕ) → head_allowed (byte bs 0) (byte bs 1) (byte bs 2) ≡ true → type_allowed (byte bs 3) (byte bs 4) ≡ true
    → 5 ≤ proxy_size (byte bs 3) (byte bs 4) → proxy_size (byte bs 3) (byte bs 4) ≤ length bs
    → proxy_at bs ≡ Decided (proxy_size (byte bs 3) (byte bs 4)) (proxy_verdict (byte bs 1) (byte bs 3) (name_field bs))
unfolding proxy_at
proxy_whole bs p q h k =
    rw (le-leb 3 (length bs) (omega arith), p, le-leb 5 (length bs) (omega arith), q, le-leb (proxy_size (byte bs 3) (byte bs 4)) (length bs) k)

good_name : (n : ℕ) (s port more : List ℕ) → length s ≡ n → Utf8 s → proxy_verdict 0 0x03 (name_field (5 ∷ 0 ∷ 0 ∷ 3 ∷ n ∷ ((s ++ port) ++ more))) ≡ Good
unfolding proxy_verdict name_field
good_name n s port more l u = rw (append_assoc s port more, take_at s (port ++ more) n l, (utf8_just s).1 u)

good_bound : (a more : List ℕ) (x : Endpoint) → BoundField a x → proxy_at (5 ∷ 0 ∷ 0 ∷ (a ++ more)) ≡ Decided (3 + length a) Good
unfolding head_allowed type_allowed proxy_size proxy_verdict
good_bound _ more _ (four a port l p) =
    proxy_whole (5 ∷ 0 ∷ 0 ∷ 1 ∷ ((a ++ port) ++ more)) refl refl (lit≤ tt) (omega (arith, length-append (a ++ port) more, length-append a port)) ∙ ap (λ (k : ℕ). Decided k Good) (omega (arith, length-append a port))
good_bound _ more _ (six a port l p) =
    proxy_whole (5 ∷ 0 ∷ 0 ∷ 4 ∷ ((a ++ port) ++ more)) refl refl (lit≤ tt) (omega (arith, length-append (a ++ port) more, length-append a port)) ∙ ap (λ (k : ℕ). Decided k Good) (omega (arith, length-append a port))
good_bound _ more _ (named {n} s port h h' l u p) =
    proxy_whole (5 ∷ 0 ∷ 0 ∷ 3 ∷ n ∷ ((s ++ port) ++ more)) refl (rw (le-leb 1 n h)) (omega arith)
    (omega (arith, length-append (s ++ port) more, length-append s port))
    ∙ rw (good_name n s port more l u) (ap (λ (k : ℕ). Decided k Good) (omega (arith, length-append s port)))

pub word_good : (e : Reply) (w more : List ℕ) {x : Endpoint} → Word e w x → decide e (w ++ more) ≡ Decided (length w) Good
unfolding decide negotiation_verdict authentication_verdict response_verdict
word_good _ _ more method_00 = upon_yes 2 (5 ∷ 0 ∷ more) _ (omega arith)
word_good _ _ more method_02 = upon_yes 2 (5 ∷ 2 ∷ more) _ (omega arith)
word_good _ _ more accepted = upon_yes 2 (1 ∷ 0 ∷ more) _ (omega arith)
word_good _ _ more (connected {a} {x} b) = good_bound a more x b ∙ ap (λ (k : ℕ). Decided k Good) (omega arith)
word_good _ _ more (granted q a l k) =
    upon_yes 8 (0 ∷ 0x5A ∷ ((q ++ a) ++ more)) _ (omega (arith, length-append (q ++ a) more, length-append q a)) ∙ ap (λ (j : ℕ). Decided j Good) (omega (arith, length-append q a))

-- ---- what a word names is what its bytes do

-- the part behind one of k bytes
behind : (a b : List ℕ) (k : ℕ) → length a ≡ k → (take k (a ++ b) ≡ a) × (drop k (a ++ b) ≡ b)
behind a b k l = (take_at a b k l, drop_at a b k l)

field_names : (a : List ℕ) (x : Endpoint) → BoundField a x → proxy_bound (5 ∷ 0 ∷ 0 ∷ a) ≡ x
unfolding proxy_bound
field_names _ _ (four a port l p) = let (t, d) = behind a port 4 l in rw (t, d)
field_names _ _ (six a port l p) = let (t, d) = behind a port 16 l in rw (t, d)
field_names _ _ (named {n} s port h h' l u p) = let (t, d) = behind s port n l in rw (t, d)

pub word_names : (e : Reply) (w : List ℕ) (x : Endpoint) → Word e w x → bound_by e w ≡ x
unfolding response_bound
word_names _ _ _ method_00 = refl
word_names _ _ _ method_02 = refl
word_names _ _ _ accepted = refl
word_names _ _ _ (connected {a} {x} b) = field_names a x b
word_names _ _ _ (granted (b ∷ c ∷ []) a l k) = rw (take_all 4 a (omega arith))
word_names _ _ _ (granted [] a l k) = absurd (omega arith)
word_names _ _ _ (granted (b ∷ []) a l k) = absurd (omega arith)
word_names _ _ _ (granted (b ∷ c ∷ d ∷ q) a l k) = absurd (omega arith)

-- ---- from the reader to the word

pub record Found (e : Reply) (bs : List ℕ) (n : ℕ) : Type 0 where
  pub word : List ℕ
  pub follows : List ℕ
  pub split : bs ≡ word ++ follows
  pub names : Endpoint
  pub is : Word e word names
  pub count : length word ≡ n

pub upon_inv : (n : ℕ) (bs : List ℕ) (d : Decision) (k : ℕ) → upon n bs d ≡ Decided k Good → (n ≤ length bs) × (d ≡ Decided k Good)
upon_inv n bs d k q = go (leb n (length bs)) refl q
  where
    go : (b : Bool) → leb n (length bs) ≡ b → cond b d Undecided ≡ Decided k Good → (n ≤ length bs) × (d ≡ Decided k Good)
    go true e r = (leb-true n (length bs) e, r)
    go false e r = let z : ◌≡◌ {A = ℕ} 0 1 = cc in absurd (omega arith)

-- the parts of a decision
abbrev pub place_in : Decision → ℕ
place_in Undecided = 0
place_in (Decided n v) = n

abbrev pub verdict_in : Decision → Verdict
verdict_in Undecided = Good
verdict_in (Decided n v) = v

cond_inv : (b : Bool) (d : Decision) (m : ℕ) (e : SocksError) (k : ℕ) → cond b d (Decided m (Bad e)) ≡ Decided k Good → (b ≡ true) × (d ≡ Decided k Good)
cond_inv true d m e k q = (refl, q)
cond_inv false d m e k q = let y : Bad e ≡ Good = ap verdict_in q in let z : ◌≡◌ {A = ℕ} 0 1 = cc in absurd (omega arith)

passed : (b : Bool) (v : Verdict) (e : SocksError) → cond b v (Bad e) ≡ Good → (b ≡ true) × (v ≡ Good)
passed true v e q = (refl, q)
passed false v e q = let z : ◌≡◌ {A = ℕ} 0 1 = cc in absurd (omega arith)

unpassed : (b : Bool) (v : Verdict) (e : SocksError) → cond b (Bad e) v ≡ Good → (b ≡ false) × (v ≡ Good)
unpassed true v e q = let z : ◌≡◌ {A = ℕ} 0 1 = cc in absurd (omega arith)
unpassed false v e q = (refl, q)

pub at_place : (n : ℕ) (v : Verdict) (k : ℕ) → Decided n v ≡ Decided k Good → (n ≡ k) × (v ≡ Good)
at_place n v k q = (ap place_in q, ap verdict_in q)

cut : (k : ℕ) (l : List ℕ) → l ≡ take k l ++ drop k l
cut k l = sym (take-append-drop k l)

parts2 : (bs : List ℕ) → 2 ≤ length bs → bs ≡ byte bs 0 ∷ byte bs 1 ∷ drop 2 bs
parts2 [] h = absurd (omega arith)
parts2 (a ∷ []) h = absurd (omega arith)
parts2 (a ∷ b ∷ bs) h = refl

-- two bytes of a reply whose word they are
found2 : (e : Reply) (bs : List ℕ) (n a b : ℕ) → 2 ≤ length bs → 2 ≡ n → byte bs 0 ≡ a → byte bs 1 ≡ b → Word e (a ∷ b ∷ []) unbound → Found e bs n
found2 e bs n a b h q p₀ p₁ w = record { word = a ∷ b ∷ []; follows = drop 2 bs; split = cc (parts2 bs h); names = unbound; is = w; count = q }

method_found : (m : AuthMethod) (bs : List ℕ) (n : ℕ) → 2 ≤ length bs → 2 ≡ n → byte bs 0 ≡ 5 → (byte bs 1 ≡ 255 → ⊥) → byte bs 1 ≡ method_byte m → Found (NegotiationRes m) bs n
method_found NoAuth bs n h q p r e = found2 (NegotiationRes NoAuth) bs n 5 0 h q p e method_00
method_found UserPass bs n h q p r e = found2 (NegotiationRes UserPass) bs n 5 2 h q p e method_02
method_found NoneAcceptable bs n h q p r e = absurd (r e)

pub method_is : (m : AuthMethod) (bs : List ℕ) (n : ℕ) → decide (NegotiationRes m) bs ≡ Decided n Good → Found (NegotiationRes m) bs n
unfolding decide negotiation_verdict
method_is m bs n q =
    let u = upon_inv 2 bs _ n q in
    let v = at_place 2 (negotiation_verdict m (byte bs 0) (byte bs 1)) n u.1 in
    let a = passed (eqb (byte bs 0) 5) _ Parsing v.1 in
    let b = passed (eqb (byte bs 1) 0 || (eqb (byte bs 1) 2 || eqb (byte bs 1) 255)) _ Parsing a.1 in
    let c = unpassed (eqb (byte bs 1) 255) _ Unsupported b.1 in
    let d = passed (eqb (byte bs 1) (method_byte m)) Good MethodMismatch c.1 in
    method_found m bs n u.0 v.0 (eqb-true (byte bs 0) 5 a.0) (eqb-false (byte bs 1) 255 c.0) (eqb-true (byte bs 1) (method_byte m) d.0)

pub authentication_is : (bs : List ℕ) (n : ℕ) → decide AuthenticationRes bs ≡ Decided n Good → Found AuthenticationRes bs n
unfolding decide authentication_verdict
authentication_is bs n q =
    let u = upon_inv 2 bs _ n q in
    let v = at_place 2 (authentication_verdict (byte bs 0) (byte bs 1)) n u.1 in
    let a = passed (eqb (byte bs 0) 1) _ Parsing v.1 in
    let b = passed (eqb (byte bs 1) 0) Good Failed a.1 in
    found2 AuthenticationRes bs n 1 0 u.0 v.0 (eqb-true (byte bs 0) 1 a.0) (eqb-true (byte bs 1) 0 b.0) accepted

-- a status is the good one
status_is : (s k : ℕ) → cond (eqb s k) Good (Bad (Command s)) ≡ Good → s ≡ k
status_is s k q = eqb-true s k (passed (eqb s k) Good (Command s) q).0

pub response_is : (bs : List ℕ) (n : ℕ) → decide Response bs ≡ Decided n Good → Found Response bs n
unfolding decide response_verdict
response_is bs n q =
    let u = upon_inv 8 bs _ n q in
    let v = at_place 8 (response_verdict (byte bs 0) (byte bs 1)) n u.1 in
    let a = passed (eqb (byte bs 0) 0) _ Parsing v.1 in
    let b = passed (leb 90 (byte bs 1) && leb (byte bs 1) 93) _ Parsing a.1 in
    let c = status_is (byte bs 1) 90 b.1 in
    let r = drop 2 (drop 2 bs) in
    let l = length-take-le 2 (drop 2 bs) (omega (arith, length-drop 2 bs, u.0)) in
    let m = length-take-le 4 r (omega (arith, length-drop 2 bs, length-drop 2 (drop 2 bs), u.0)) in
    record {
      word = 0 ∷ 0x5A ∷ (take 2 (drop 2 bs) ++ take 4 r);
      follows = drop 4 r;
      split = cc (parts2 bs (omega (arith, u.0)), cut 2 (drop 2 bs), cut 4 r, append_assoc (take 2 (drop 2 bs)) (take 4 r) (drop 4 r), eqb-true (byte bs 0) 0 a.0, c);
      names = endpoint (ipv4 (take 4 r)) (two_of (take 2 (drop 2 bs)));
      is = granted (take 2 (drop 2 bs)) (take 4 r) l m;
      count = omega (arith, length-append (take 2 (drop 2 bs)) (take 4 r), v.0);
    }

-- what the tests of a good connect reply have said
pub record Connected (bs : List ℕ) (n : ℕ) : Type 0 where
  pub head : head_allowed (byte bs 0) (byte bs 1) (byte bs 2) ≡ true
  pub type : type_allowed (byte bs 3) (byte bs 4) ≡ true
  pub five : 5 ≤ length bs
  pub all : proxy_size (byte bs 3) (byte bs 4) ≤ length bs
  pub count : proxy_size (byte bs 3) (byte bs 4) ≡ n
  pub verdict : proxy_verdict (byte bs 1) (byte bs 3) (name_field bs) ≡ Good

pub tests : (bs : List ℕ) (n : ℕ) → proxy_at bs ≡ Decided n Good → Connected bs n
unfolding proxy_at
tests bs n q =
    let u = upon_inv 3 bs _ n q in
    let a = cond_inv (head_allowed (byte bs 0) (byte bs 1) (byte bs 2)) _ 3 Parsing n u.1 in
    let v = upon_inv 5 bs _ n a.1 in
    let b = cond_inv (type_allowed (byte bs 3) (byte bs 4)) _ 5 Parsing n v.1 in
    let w = upon_inv (proxy_size (byte bs 3) (byte bs 4)) bs _ n b.1 in
    let c = at_place (proxy_size (byte bs 3) (byte bs 4)) (proxy_verdict (byte bs 1) (byte bs 3) (name_field bs)) n w.1 in
    record { head = a.0; type = b.0; five = v.0; all = w.0; count = c.0; verdict = c.1 }

pub head_is : (a b c : ℕ) → head_allowed a b c ≡ true → (a ≡ 5) × (c ≡ 0)
unfolding head_allowed
head_is a b c q =
    let (x, y) = both (eqb a 5) (leb b 8 && eqb c 0) q in
    let (z, w) = both (leb b 8) (eqb c 0) y in
    (eqb-true a 5 x, eqb-true c 0 w)

pub data Typed (t l : ℕ) : Type 0 where
  is4 : t ≡ 1 → Typed t l
  is6 : t ≡ 4 → Typed t l
  is_name : t ≡ 3 → 1 ≤ l → Typed t l

pub type_is : (t l : ℕ) → type_allowed t l ≡ true → Typed t l
unfolding type_allowed
type_is t l q = go (eqb t 1) refl (eqb t 4) refl q
  where
    go : (x : Bool) → eqb t 1 ≡ x → (y : Bool) → eqb t 4 ≡ y → (x || (y || (eqb t 3 && leb 1 l))) ≡ true → Typed t l
    go true e y f r = is4 (eqb-true t 1 e)
    go false e true f r = is6 (eqb-true t 4 f)
    go false e false f r = let (a, b) = both (eqb t 3) (leb 1 l) r in is_name (eqb-true t 3 a) (leb-true 1 l b)

pub record Judged (b t : ℕ) (s : List ℕ) : Type 0 where
  pub succeeded : b ≡ 0
  pub text : t ≡ 3 → Utf8 s

pub verdict_is : (b t : ℕ) (s : List ℕ) → proxy_verdict b t s ≡ Good → Judged b t s
unfolding proxy_verdict
verdict_is b t s q =
    let a = passed (not (eqb t 3) || is_utf8 s) _ Parsing q in
    record { succeeded = status_is b 0 a.1; text = λ e. (utf8_just s).0 (rw e at a.0) }

parts5 : (bs : List ℕ) → 5 ≤ length bs → bs ≡ byte bs 0 ∷ byte bs 1 ∷ byte bs 2 ∷ byte bs 3 ∷ byte bs 4 ∷ drop 5 bs
parts5 [] h = absurd (omega arith)
parts5 (a ∷ []) h = absurd (omega arith)
parts5 (a ∷ b ∷ []) h = absurd (omega arith)
parts5 (a ∷ b ∷ c ∷ []) h = absurd (omega arith)
parts5 (a ∷ b ∷ c ∷ d ∷ []) h = absurd (omega arith)
parts5 (a ∷ b ∷ c ∷ d ∷ e ∷ bs) h = refl

drop4 : (bs : List ℕ) → 5 ≤ length bs → bs ≡ byte bs 0 ∷ byte bs 1 ∷ byte bs 2 ∷ byte bs 3 ∷ drop 4 bs
drop4 bs h = parts5 bs h ∙ ap (λ (l : List ℕ). byte bs 0 ∷ byte bs 1 ∷ byte bs 2 ∷ byte bs 3 ∷ l) (sym (ap (drop 4) (parts5 bs h)))

-- an address of k bytes with its port
fixed : (bs : List ℕ) (t k n : ℕ) (of : List ℕ → Destination) → 5 ≤ length bs → 6 + k ≤ length bs → 6 + k ≡ n → byte bs 0 ≡ 5 → byte bs 1 ≡ 0 → byte bs 2 ≡ 0 → byte bs 3 ≡ t
    → ((a port : List ℕ) → length a ≡ k → length port ≡ 2 → BoundField (t ∷ (a ++ port)) (endpoint (of a) (two_of port))) → Found ProxyRes bs n
fixed bs t k n of h l c p₀ p₁ p₂ p₃ f =
    let a = take k (drop 4 bs) in
    let r = drop k (drop 4 bs) in
    let m = length-take-le k (drop 4 bs) (omega (arith, length-drop 4 bs)) in
    let j = length-take-le 2 r (omega (arith, length-drop 4 bs, length-drop k (drop 4 bs))) in
    record {
      word = 5 ∷ 0 ∷ 0 ∷ t ∷ (a ++ take 2 r);
      follows = drop 2 r;
      split = cc (drop4 bs h, cut k (drop 4 bs), cut 2 r, append_assoc a (take 2 r) (drop 2 r));
      names = endpoint (of a) (two_of (take 2 r));
      is = connected (f a (take 2 r) m j);
      count = omega (arith, length-append a (take 2 r));
    }

by_type : (bs : List ℕ) (n : ℕ) → byte bs 4 ≤ 255 → Connected bs n → (byte bs 0 ≡ 5) × (byte bs 2 ≡ 0) → Judged (byte bs 1) (byte bs 3) (name_field bs)
    → Typed (byte bs 3) (byte bs 4) → Found ProxyRes bs n
unfolding proxy_size name_field
by_type bs n h c (p₀, p₂) j (is4 t) =
    let z : proxy_size (byte bs 3) (byte bs 4) ≡ 10 = rw t in
    fixed bs 1 4 n ipv4 c.five (omega (arith, c.all)) (omega (arith, c.count)) p₀ j.succeeded p₂ t four
by_type bs n h c (p₀, p₂) j (is6 t) =
    let z : proxy_size (byte bs 3) (byte bs 4) ≡ 22 = rw t in
    fixed bs 4 16 n ipv6 c.five (omega (arith, c.all)) (omega (arith, c.count)) p₀ j.succeeded p₂ t six
by_type bs n h c (p₀, p₂) j (is_name t k) =
    let z : proxy_size (byte bs 3) (byte bs 4) ≡ 7 + byte bs 4 = rw t in
    let r = drop (byte bs 4) (drop 5 bs) in
    let l = length-take-le (byte bs 4) (drop 5 bs) (omega (arith, length-drop 5 bs, c.all)) in
    let m = length-take-le 2 r (omega (arith, length-drop 5 bs, length-drop (byte bs 4) (drop 5 bs), c.all)) in
    record {
      word = 5 ∷ 0 ∷ 0 ∷ 3 ∷ byte bs 4 ∷ (name_field bs ++ take 2 r);
      follows = drop 2 r;
      split = cc (parts5 bs c.five, cut (byte bs 4) (drop 5 bs), cut 2 r, append_assoc (name_field bs) (take 2 r) (drop 2 r), j.succeeded);
      names = endpoint (domain (name_field bs)) (two_of (take 2 r));
      is = connected (named (name_field bs) (take 2 r) k h l (j.text t) m);
      count = omega (arith, length-append (name_field bs) (take 2 r), c.count);
    }

proxy_is : (bs : List ℕ) (n : ℕ) → byte bs 4 ≤ 255 → proxy_at bs ≡ Decided n Good → Found ProxyRes bs n
proxy_is bs n h q =
    let c = tests bs n q in
    by_type bs n h c (head_is (byte bs 0) (byte bs 1) (byte bs 2) c.head) (verdict_is (byte bs 1) (byte bs 3) (name_field bs) c.verdict)
    (type_is (byte bs 3) (byte bs 4) c.type)

pub good_found : (e : Reply) (bs : List ℕ) (n : ℕ) → Bytes bs → decide e bs ≡ Decided n Good → Found e bs n
unfolding decide
good_found (NegotiationRes m) bs n y q = method_is m bs n q
good_found AuthenticationRes bs n y q = authentication_is bs n q
good_found ProxyRes bs n y q = proxy_is bs n (y 4) q
good_found Response bs n y q = response_is bs n q

-- ---- a reader says good exactly on the words

no_more : (a b : List ℕ) → length a ≡ length (a ++ b) → b ≡ []
no_more a [] h = refl
no_more a (x ∷ b) h = absurd (omega (arith, length-append a (x ∷ b)))

pub word_just : (e : Reply) (w : List ℕ) → Bytes w → decide e w ≡ Decided (length w) Good ↔ Word e w (bound_by e w)
word_just e w y = (there, λ r. rw append-nil at (word_good e w [] r))
  where
    there : decide e w ≡ Decided (length w) Good → Word e w (bound_by e w)
    there q =
        let f = good_found e w (length w) y q in
        let z = no_more f.word f.follows (f.count ∙ ap length f.split) in
        let s : w ≡ f.word = f.split ∙ rw (z, append-nil) in
        rw (s, word_names e f.word f.names f.is) f.is
