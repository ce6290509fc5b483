-- F-12, one reply: its good word and its bad ones are decided so, and no bytes that are decided so go before them.
use Prim.Native.Nat.{ℕ, zero, suc, ◌≤◌, zero-le}
use native.Mathlib.Nat.{le_refl}
use native.Mathlib.Omega.{arith}
use mathlib.Core.Path.{◌≡◌, refl, sym, ◌∙◌}
use mathlib.Core.Bool.{Bool, true, false, cond, ◌&&◌, ◌||◌, not, false≢true}
use Rattle.std.specs.Prelude.{Option, None, Some}
use mathlib.Core.List.{List, [], ◌∷◌, append-nil}
use lib.ListN.{length, take, drop, take-append-drop}
use lib.Dec.{leb, eqb, lit≤}
use borrow.Author.Tests.{leb-true, le-leb, eqb-true, eqb-false, ne_eqb}
use Rattle.protocol.specs.declared.AuthMethod.{AuthMethod}
use Rattle.protocol.specs.declared.AuthMethod.TheVariants.{NoAuth, UserPass, NoneAcceptable}
use Rattle.protocol.specs.declared.SocksError.{SocksError}
use Rattle.protocol.specs.declared.SocksError.TheVariants.{Parsing, Unsupported, MethodMismatch, Failed, Command}
use Rattle.protocol.specs.declared.Outcome.TheVariants as Outcome
use Rattle.protocol.specs.declared.Reply.{Reply}
use Rattle.protocol.specs.declared.Reply.TheVariants.{NegotiationRes, AuthenticationRes, ProxyRes, Response}
use Rattle.protocol.specs.Answers.{Verdict, Good, Bad, Decision, Undecided, Decided}
use Rattle.protocol.specs.Bytes.{Bytes, byte}
use Rattle.protocol.specs.Requests.{method_byte}
use Rattle.protocol.specs.Utf8.{class_of, among, first, next, scan, is_boundary, is_utf8}
use Rattle.protocol.specs.Replies.{upon, negotiation_verdict, authentication_verdict, response_verdict, head_allowed, type_allowed, proxy_size, name_field, proxy_verdict, proxy_at, decide}
use Rattle.protocol.proofs.Tests.{both}
use Rattle.endings_spec.specs.declared.OutcomeStatus.{OutcomeStatus}
use Rattle.endings_spec.specs.Endings.{ending_of}
use Rattle.endings_spec.specs.Streams.{connect_reply, v4_reply, is_of}
use Rattle.endings_spec.proofs.Order.{AtMost, at_most_append, at_most_nil, at_most_take}
use Rattle.endings_spec.proofs.ReplyWords.{good_for, other_method, bad_for, ends_for}

pub test : {A : Type 0} (P : A → Type 0) (b : Bool) {x y : A} → (b ≡ true → P x) → (b ≡ false → P y) → P (cond b x y)
test P true f g = f refl
test P false f g = g refl

-- ---- no bytes that are decided so go before the word

abbrev word_for : Reply → Verdict → Option (List ℕ)
word_for e Good = good_for e
word_for e (Bad x) = ends_for (ending_of (Outcome.Failed x)) e

abbrev pub First : Option (List ℕ) → List ℕ → Type 0
First None cs = ⊥
First (Some u) cs = AtMost u cs

abbrev FirstOn : Reply → List ℕ → Decision → Type 0
FirstOn e bs Undecided = Unit {0}
FirstOn e bs (Decided n v) = First (word_for e v) (take n bs)

-- of a reply that its first two bytes judge, once n are there
by_two : (e : Reply) (bs : List ℕ) (n : ℕ) (v : Verdict) → (n ≤ length bs → First (word_for e v) (take n bs)) → FirstOn e bs (upon n bs (Decided n v))
by_two e bs n v f = test (FirstOn e bs) (leb n (length bs)) (λ q. f (leb-true n (length bs) q)) (λ q. tt)

two : (a b : ℕ) (bs : List ℕ) → 2 ≤ length bs → a ≤ byte bs 0 → b ≤ byte bs 1 → AtMost (a ∷ b ∷ []) (take 2 bs)
two a b bs h p q = at_most_take (a ∷ b ∷ []) bs 2 h (le_refl 2) (λ l. omega arith)

good_method : (m : AuthMethod) (bs : List ℕ) → 2 ≤ length bs → byte bs 0 ≡ 5 → (byte bs 1 ≡ 0xFF → ⊥) → byte bs 1 ≡ method_byte m → First (good_for (NegotiationRes m)) (take 2 bs)
good_method NoAuth bs h p d q = two 5 0 bs h (omega arith) (omega arith)
good_method UserPass bs h p d q = two 5 2 bs h (omega arith) (omega arith)
good_method NoneAcceptable bs h p d q = absurd (d q)

other_method_lem : (m : AuthMethod) (b : ℕ) → (eqb b 0x00 || (eqb b 0x02 || eqb b 0xFF)) ≡ true → (b ≡ 0xFF → ⊥) → (b ≡ method_byte m → ⊥) → other_method m ≤ b
other_method_lem NoAuth b a d q = let one : b ≡ 1 → ⊥ = λ e. false≢true (rw e at a) in omega (arith, one, q)
other_method_lem UserPass b a d q = zero-le
other_method_lem NoneAcceptable b a d q = zero-le

first_method : (m : AuthMethod) (bs : List ℕ) → 2 ≤ length bs → First (word_for (NegotiationRes m) (negotiation_verdict m (byte bs 0) (byte bs 1))) (take 2 bs)
unfolding negotiation_verdict ends_for bad_for
first_method m bs h =
    let W : Verdict → Type 0 = λ v. First (word_for (NegotiationRes m) v) (take 2 bs) in
    let parsing : W (Bad Parsing) = two 0 0 bs h zero-le zero-le in
    test W (eqb (byte bs 0) 0x05)
    (λ p. test W (eqb (byte bs 1) 0x00 || (eqb (byte bs 1) 0x02 || eqb (byte bs 1) 0xFF))
    (λ a. test W (eqb (byte bs 1) 0xFF)
    (λ q. two 5 0xFF bs h (omega (arith, eqb-true (byte bs 0) 5 p)) (omega (arith, eqb-true (byte bs 1) 0xFF q)))
    (λ d. test W (eqb (byte bs 1) (method_byte m))
    (λ q. good_method m bs h (eqb-true (byte bs 0) 5 p) (eqb-false (byte bs 1) 0xFF d) (eqb-true (byte bs 1) (method_byte m) q))
    (λ q. two 5 (other_method m) bs h (omega (arith, eqb-true (byte bs 0) 5 p)) (other_method_lem m (byte bs 1) a (eqb-false (byte bs 1) 0xFF d) (eqb-false (byte bs 1) (method_byte m) q)))))
    (λ a. parsing))
    (λ p. parsing)

first_credentials : (bs : List ℕ) → 2 ≤ length bs → First (word_for AuthenticationRes (authentication_verdict (byte bs 0) (byte bs 1))) (take 2 bs)
unfolding authentication_verdict ends_for bad_for
first_credentials bs h =
    let W : Verdict → Type 0 = λ v. First (word_for AuthenticationRes v) (take 2 bs) in
    test W (eqb (byte bs 0) 0x01)
    (λ p. test W (eqb (byte bs 1) 0x00)
    (λ q. two 1 0 bs h (omega (arith, eqb-true (byte bs 0) 1 p)) zero-le)
    (λ q. two 1 1 bs h (omega (arith, eqb-true (byte bs 0) 1 p)) (omega (arith, eqb-false (byte bs 1) 0 q))))
    (λ p. two 0 0 bs h zero-le zero-le)

eight : (cd : ℕ) (bs : List ℕ) → 8 ≤ length bs → cd ≤ byte bs 1 → AtMost (v4_reply cd) (take 8 bs)
eight cd bs h q = at_most_take (v4_reply cd) bs 8 h (le_refl 8) (λ l. omega arith)

refused : (cd : ℕ) (bs : List ℕ) → 8 ≤ length bs → byte bs 1 ≡ cd → 91 ≤ cd → cd ≤ 93 → First (word_for Response (Bad (Command cd))) (take 8 bs)
unfolding ends_for bad_for
refused cd bs h q lo hi = rw (le-leb 91 cd lo, le-leb cd 93 hi) (eight cd bs h (omega arith))

first_response : (bs : List ℕ) → 8 ≤ length bs → First (word_for Response (response_verdict (byte bs 0) (byte bs 1))) (take 8 bs)
unfolding response_verdict ends_for bad_for
first_response bs h =
    let W : Verdict → Type 0 = λ v. First (word_for Response v) (take 8 bs) in
    let parsing : W (Bad Parsing) = eight 0 bs h zero-le in
    test W (eqb (byte bs 0) 0x00)
    (λ p. test W (leb 90 (byte bs 1) && leb (byte bs 1) 93)
    (λ r. test W (eqb (byte bs 1) 90)
    (λ q. eight 90 bs h (omega (arith, eqb-true (byte bs 1) 90 q)))
    (λ q. let (lo, hi) = both (leb 90 (byte bs 1)) (leb (byte bs 1) 93) r in
    refused (byte bs 1) bs h refl (omega (arith, leb-true 90 (byte bs 1) lo, eqb-false (byte bs 1) 90 q)) (leb-true (byte bs 1) 93 hi)))
    (λ r. parsing))
    (λ p. parsing)

-- a connect reply has eight bytes at least, and then a name of one
abbrev Whole : ℕ → ℕ → ℕ → Type 0
Whole t l size = (8 ≤ size) × (size ≡ 8 → (t ≡ 3) × (l ≡ 1))

whole : (t l : ℕ) → type_allowed t l ≡ true → Whole t l (proxy_size t l)
unfolding type_allowed proxy_size
whole t l a =
    test (Whole t l) (eqb t 0x01) (λ p. (lit≤ tt, λ e. absurd (omega arith)))
    (λ p. test (Whole t l) (eqb t 0x04) (λ q. (lit≤ tt, λ e. absurd (omega arith)))
    (λ q. let (y, z) = both (eqb t 0x03) (leb 1 l) (rw (p, q) at a) in
    (omega (arith, leb-true 1 l z), λ e. (eqb-true t 0x03 y, omega arith))))

connect : (rep : ℕ) (bs : List ℕ) (size : ℕ) → size ≤ length bs → Whole (byte bs 3) (byte bs 4) size → byte bs 0 ≡ 5 → byte bs 1 ≡ rep → AtMost (connect_reply rep) (take size bs)
connect rep bs size h (k, t) p q =
    at_most_take (connect_reply rep) bs size h k λ e. let (a, b) = t (sym e) in omega arith

failed : (rep : ℕ) (bs : List ℕ) (size : ℕ) → 1 ≤ rep → rep ≤ 8 → AtMost (connect_reply rep) (take size bs) → First (word_for ProxyRes (Bad (Command rep))) (take size bs)
unfolding ends_for bad_for
failed rep bs size lo hi m = rw (le-leb 1 rep lo, le-leb rep 8 hi) m

first_whole : (bs : List ℕ) (size : ℕ) → size ≤ length bs → Whole (byte bs 3) (byte bs 4) size → head_allowed (byte bs 0) (byte bs 1) (byte bs 2) ≡ true
    → First (word_for ProxyRes (proxy_verdict (byte bs 1) (byte bs 3) (name_field bs))) (take size bs)
unfolding head_allowed proxy_verdict ends_for bad_for
first_whole bs size h (k, t) a =
    let W : Verdict → Type 0 = λ v. First (word_for ProxyRes v) (take size bs) in
    let (p, r) = both (eqb (byte bs 0) 0x05) _ a in
    let (u, z) = both (leb (byte bs 1) 0x08) _ r in
    let m : AtMost (connect_reply (byte bs 1)) (take size bs) = connect (byte bs 1) bs size h (k, t) (eqb-true (byte bs 0) 5 p) refl in
    test W (not (eqb (byte bs 3) 0x03) || is_utf8 (name_field bs))
    (λ n. test W (eqb (byte bs 1) 0x00)
    (λ q. rw (eqb-true (byte bs 1) 0 q) at m)
    (λ q. failed (byte bs 1) bs size (omega (arith, eqb-false (byte bs 1) 0 q)) (leb-true (byte bs 1) 8 u) m))
    (λ n. at_most_take (0 ∷ 0 ∷ 0 ∷ []) bs size h (omega arith) (λ e. absurd (omega arith)))

first_connect : (bs : List ℕ) → FirstOn ProxyRes bs (proxy_at bs)
unfolding proxy_at ends_for bad_for
first_connect bs =
    let W : Decision → Type 0 = FirstOn ProxyRes bs in
    let size = proxy_size (byte bs 3) (byte bs 4) in
    test W (leb 3 (length bs))
    (λ h. test W (head_allowed (byte bs 0) (byte bs 1) (byte bs 2))
    (λ a. test W (leb 5 (length bs))
    (λ h5. test W (type_allowed (byte bs 3) (byte bs 4))
    (λ t. test W (leb size (length bs))
    (λ l. first_whole bs size (leb-true size (length bs) l) (whole (byte bs 3) (byte bs 4) t) a)
    (λ l. tt))
    (λ t. at_most_take (0 ∷ 0 ∷ 0 ∷ []) bs 5 (leb-true 5 (length bs) h5) (lit≤ tt) (λ e. absurd (omega arith))))
    (λ h5. tt))
    (λ a. at_most_take (0 ∷ 0 ∷ 0 ∷ []) bs 3 (leb-true 3 (length bs) h) (le_refl 3) (λ e. omega arith)))
    (λ h. tt)

first_on : (e : Reply) (bs : List ℕ) → FirstOn e bs (decide e bs)
unfolding decide
first_on (NegotiationRes m) bs = by_two (NegotiationRes m) bs 2 _ (first_method m bs)
first_on AuthenticationRes bs = by_two AuthenticationRes bs 2 _ (first_credentials bs)
first_on ProxyRes bs = first_connect bs
first_on Response bs = by_two Response bs 8 _ (first_response bs)

-- ---- the word is decided so

abbrev Low : List ℕ → Type 0
Low [] = Unit {0}
Low (b ∷ bs) = (b ≤ 255) × Low bs

low_bytes : (bs : List ℕ) → Low bs → Bytes bs
low_bytes [] l i = zero-le
low_bytes (b ∷ bs) (h, l) zero = h
low_bytes (b ∷ bs) (h, l) (suc i) = low_bytes bs l i

-- how long the good word of a reply is; a bad one is no longer
abbrev pub size_of : Reply → ℕ
size_of (NegotiationRes m) = 2
size_of AuthenticationRes = 2
size_of ProxyRes = 8
size_of Response = 8

pub record Decides (e : Reply) (v : Verdict) (u : List ℕ) : Type 0 where
  pub bytes : Bytes u
  pub decides : decide e u ≡ Decided (length u) v
  pub small : length u ≤ size_of e

abbrev pub GoodWord : Reply → Option (List ℕ) → Type 0
GoodWord e None = Unit {0}
GoodWord e (Some u) = Decides e Good u × (length u ≡ size_of e)

pub good_word : (e : Reply) → GoodWord e (good_for e)
unfolding decide negotiation_verdict authentication_verdict response_verdict proxy_at head_allowed type_allowed proxy_size name_field proxy_verdict class_of among first next scan is_boundary is_utf8
good_word (NegotiationRes NoAuth) = (record { bytes = low_bytes (5 ∷ 0 ∷ []) (omega arith); decides = refl; small = le_refl 2 }, refl)
good_word (NegotiationRes UserPass) = (record { bytes = low_bytes (5 ∷ 2 ∷ []) (omega arith); decides = refl; small = le_refl 2 }, refl)
good_word (NegotiationRes NoneAcceptable) = tt
good_word AuthenticationRes = (record { bytes = low_bytes (1 ∷ 0 ∷ []) (omega arith); decides = refl; small = le_refl 2 }, refl)
good_word ProxyRes = (record { bytes = low_bytes (connect_reply 0) (omega arith); decides = refl; small = le_refl 8 }, refl)
good_word Response = (record { bytes = low_bytes (v4_reply 90) (omega arith); decides = refl; small = le_refl 8 }, refl)

abbrev BadWord : OutcomeStatus → Reply → Option (List ℕ) → Type 0
BadWord w e None = Unit {0}
BadWord w e (Some u) = (x : SocksError) × Decides e (Bad x) u × (ending_of (Outcome.Failed x) ≡ w)

-- what a test of what is wanted says
record Is (w : OutcomeStatus) (n lo hi : ℕ) : Type 0 where
  number : w.number ≡ n
  least : lo ≤ w.status
  most : w.status ≤ hi

is_of_lem : (w : OutcomeStatus) (n lo hi : ℕ) → is_of w n lo hi ≡ true → Is w n lo hi
is_of_lem w n lo hi q =
    let (p, r) = both (eqb w.number n) _ q in
    let (a, b) = both (leb lo w.status) (leb w.status hi) r in
    record { number = eqb-true w.number n p; least = leb-true lo w.status a; most = leb-true w.status hi b }

same_ending : (v w : OutcomeStatus) → v.number ≡ w.number → v.status ≡ w.status → v ≡ w
same_ending v w p q = λ i. record { number = p i; status = q i }

pub is_plain : (w : OutcomeStatus) (n : ℕ) → is_of w n 0 0 ≡ true → record { number = n; status = 0 } ≡ w
is_plain w n t = let i = is_of_lem w n 0 0 t in same_ending (record { number = n; status = 0 }) w (sym i.number) (omega (arith, i.most))

-- a failure that has no status
plain : (w : OutcomeStatus) (e : Reply) (n : ℕ) (x : SocksError) (u : List ℕ) → Decides e (Bad x) u → ending_of (Outcome.Failed x) ≡ record { number = n; status = 0 }
    → is_of w n 0 0 ≡ true → BadWord w e (Some u)
plain w e n x u d q t = (x, d, q ∙ is_plain w n t)

decided : (e : Reply) (x : SocksError) (u : List ℕ) → Low u → decide e u ≡ Decided (length u) (Bad x) → length u ≤ size_of e → Decides e (Bad x) u
decided e x u y d h = record { bytes = low_bytes u y; decides = d; small = h }

mismatch : (m : AuthMethod) → Decides (NegotiationRes m) (Bad MethodMismatch) (5 ∷ other_method m ∷ [])
unfolding decide negotiation_verdict
mismatch NoAuth = decided (NegotiationRes NoAuth) MethodMismatch (5 ∷ 2 ∷ []) (omega arith) refl (le_refl 2)
mismatch UserPass = decided (NegotiationRes UserPass) MethodMismatch (5 ∷ 0 ∷ []) (omega arith) refl (le_refl 2)
mismatch NoneAcceptable = decided (NegotiationRes NoneAcceptable) MethodMismatch (5 ∷ 0 ∷ []) (omega arith) refl (le_refl 2)

connect_fails : (s : ℕ) → 1 ≤ s → s ≤ 8 → decide ProxyRes (connect_reply s) ≡ Decided 8 (Bad (Command s))
unfolding decide proxy_at head_allowed type_allowed proxy_size name_field proxy_verdict class_of among first next scan is_boundary is_utf8
connect_fails s lo hi = rw (le-leb s 8 hi, ne_eqb s 0 (λ e. omega arith))

response_fails : (s : ℕ) → 91 ≤ s → s ≤ 93 → decide Response (v4_reply s) ≡ Decided 8 (Bad (Command s))
unfolding decide response_verdict
response_fails s lo hi = rw (le-leb 90 s (omega arith), le-leb s 93 hi, ne_eqb s 90 (λ e. omega arith))

-- a failure whose status the reply holds
command : (w : OutcomeStatus) (e : Reply) (u : List ℕ) → Decides e (Bad (Command w.status)) u → w.number ≡ 15 → BadWord w e (Some u)
command w e u d q = (Command w.status, d, same_ending (record { number = 15; status = w.status }) w (sym q) refl)

bad_word : (w : OutcomeStatus) (e : Reply) → BadWord w e (bad_for w e)
unfolding bad_for decide negotiation_verdict authentication_verdict response_verdict proxy_at head_allowed
bad_word w (NegotiationRes m) =
    let e = NegotiationRes m in
    test (BadWord w e) (is_of w 10 0 0)
    (plain w e 10 Parsing (0 ∷ 0 ∷ []) (decided e Parsing (0 ∷ 0 ∷ []) (omega arith) refl (le_refl 2)) refl)
    (λ a. test (BadWord w e) (is_of w 12 0 0)
    (plain w e 12 Unsupported (5 ∷ 0xFF ∷ []) (decided e Unsupported (5 ∷ 0xFF ∷ []) (omega arith) refl (le_refl 2)) refl)
    (λ b. test (BadWord w e) (is_of w 13 0 0)
    (plain w e 13 MethodMismatch (5 ∷ other_method m ∷ []) (mismatch m) refl)
    (λ c. tt)))
bad_word w AuthenticationRes =
    let e = AuthenticationRes in
    test (BadWord w e) (is_of w 10 0 0)
    (plain w e 10 Parsing (0 ∷ 0 ∷ []) (decided e Parsing (0 ∷ 0 ∷ []) (omega arith) refl (le_refl 2)) refl)
    (λ a. test (BadWord w e) (is_of w 14 0 0)
    (plain w e 14 Failed (1 ∷ 1 ∷ []) (decided e Failed (1 ∷ 1 ∷ []) (omega arith) refl (le_refl 2)) refl)
    (λ b. tt))
bad_word w ProxyRes =
    let e = ProxyRes in
    test (BadWord w e) (is_of w 10 0 0)
    (plain w e 10 Parsing (0 ∷ 0 ∷ 0 ∷ []) (decided e Parsing (0 ∷ 0 ∷ 0 ∷ []) (omega arith) refl (lit≤ tt)) refl)
    (λ a. test (BadWord w e) _
    (λ t. let i = is_of_lem w 15 1 8 t in
    let s = w.status in
    command w e (connect_reply s) (decided e (Command s) (connect_reply s) (omega (arith, i.most)) (connect_fails s i.least i.most) (le_refl 8)) i.number)
    (λ b. tt))
bad_word w Response =
    let e = Response in
    test (BadWord w e) (is_of w 10 0 0)
    (plain w e 10 Parsing (v4_reply 0) (decided e Parsing (v4_reply 0) (omega arith) refl (le_refl 8)) refl)
    (λ a. test (BadWord w e) (is_of w 15 91 93)
    (λ t. let i = is_of_lem w 15 91 93 t in
    let s = w.status in
    command w e (v4_reply s) (decided e (Command s) (v4_reply s) (omega (arith, i.most)) (response_fails s i.least i.most) (le_refl 8)) i.number)
    (λ b. tt))

-- ---- the bytes at which it ends so at a reply: none at all, or a bad word

pub undecided_nil : (e : Reply) → decide e [] ≡ Undecided
unfolding decide proxy_at
undecided_nil (NegotiationRes m) = refl
undecided_nil AuthenticationRes = refl
undecided_nil ProxyRes = refl
undecided_nil Response = refl

-- end of stream follows, and it ends here as S says, or the reply is good and the machine goes on
abbrev pub HereOr : (OutcomeStatus → Type 0) → Decision → (ℕ → Type 0) → Type 0
HereOr S Undecided on = S (ending_of Outcome.Waiting)
HereOr S (Decided n Good) on = on n
HereOr S (Decided n (Bad x)) on = S (ending_of (Outcome.Failed x))

abbrev pub Here : (OutcomeStatus → Type 0) → Decision → Type 0
Here S d = HereOr S d (λ n. ⊥)

abbrev pub EndWord : OutcomeStatus → Reply → Option (List ℕ) → Type 0
EndWord w e None = Unit {0}
EndWord w e (Some u) = Bytes u × Here (λ v. v ≡ w) (decide e u) × (length u ≤ size_of e)

pub end_word : (w : OutcomeStatus) (e : Reply) → EndWord w e (ends_for w e)
unfolding ends_for
end_word w e = test (EndWord w e) (is_of w 9 0 0) (λ t. (λ i. zero-le, rw (undecided_nil e) (is_plain w 9 t), zero-le)) (λ t. go (bad_for w e) (bad_word w e))
  where
    go : (r : Option (List ℕ)) → BadWord w e r → EndWord w e r
    go None b = tt
    go (Some u) (x, d, q) = (d.bytes, rw d.decides q, d.small)

first_more : (r : Option (List ℕ)) (n : ℕ) (cs : List ℕ) → First r (take n cs) → First r cs
first_more None n cs f = f
first_more (Some u) n cs f = rw (append-nil u, take-append-drop n cs) at (at_most_append f (at_most_nil (drop n cs)))

pub first_good : (e : Reply) (cs : List ℕ) (n : ℕ) → decide e cs ≡ Decided n Good → First (good_for e) (take n cs)
first_good e cs n q = rw q at (first_on e cs)

first_waiting : (e : Reply) (cs : List ℕ) → First (ends_for (ending_of Outcome.Waiting) e) cs
unfolding ends_for
first_waiting e cs = at_most_nil cs

pub first_end : (w : OutcomeStatus) (e : Reply) (cs : List ℕ) → Here (λ v. v ≡ w) (decide e cs) → First (ends_for w e) cs
first_end w e cs = go (decide e cs) (first_on e cs)
  where
    go : (d : Decision) → FirstOn e cs d → Here (λ v. v ≡ w) d → First (ends_for w e) cs
    go Undecided f h = rw h at (first_waiting e cs)
    go (Decided n Good) f h = absurd h
    go (Decided n (Bad x)) f h = first_more (ends_for w e) n cs (rw h at f)
