-- What a connect reply lacks of being good, or else decided.
use Prim.Native.Nat.{ℕ, zero, suc, ◌+◌, ◌-◌, ◌≤◌, ◌<◌}
use native.Mathlib.Omega.{arith}
use mathlib.Core.Path.{◌≡◌, refl, ap, sym, ◌∙◌}
use mathlib.Core.Bool.{Bool, true, false, cond, ◌&&◌, ◌||◌, not, true≢false, false≢true}
use mathlib.Core.List.{List, [], ◌∷◌, ◌++◌}
use lib.ListN.{length, take, replicate, length-append, length-take, length-replicate}
use lib.Seq.{take_at, length-take-le}
use lib.Dec.{leb, eqb, lit≤}
use borrow.Author.Tests.{leb-true, leb-false, le-ltb, eqb-true, eqb-false, ne_eqb}
use Rattle.protocol.specs.declared.SocksError.TheVariants.{Parsing, Command}
use Rattle.protocol.specs.declared.Reply.TheVariants.{ProxyRes}
use Rattle.protocol.specs.declared.Utf8State.TheVariants.{Boundary}
use Rattle.protocol.specs.Answers.{Verdict, Good, Bad, Decision, Undecided, Decided}
use Rattle.protocol.specs.Bytes.{Bytes, byte}
use Rattle.protocol.specs.Utf8.{Utf8, class_of, first, next, scan, is_boundary, is_utf8}
use Rattle.protocol.specs.Replies.{upon, head_allowed, type_allowed, proxy_size, name_field, proxy_verdict, proxy_at, decide}
use Rattle.protocol.proofs.Bytes.{are_bytes, bytes_are, bytes_zeros, bytes_join}
use Rattle.protocol.proofs.Tests.{both}
use Rattle.protocol.proofs.Utf8.{utf8_just}
use Rattle.protocol.proofs.Words.{upon_yes, proxy_whole, tests, head_is, Typed, is4, is6, is_name, type_is, verdict_is}
use Rattle.utf8.proofs.text.Laws.{scan_append}
use Rattle.client_delivery.specs.wants.Wants.{begins_with, may_connect, size_from, proxy_least}
use Rattle.client_delivery.specs.wants.Still.{name_still, type_still, proxy_still}
use Rattle.client_delivery.proofs.wants.Texts.{ends_within_lem, can_end}
use Rattle.client_delivery.proofs.wants.Short.{Facts, upon_late, decided_not, filled}

abbrev head : List ℕ → Bool
head bs = head_allowed (byte bs 0) (byte bs 1) (byte bs 2)

abbrev type : List ℕ → Bool
type bs = type_allowed (byte bs 3) (byte bs 4)

abbrev size : List ℕ → ℕ
size bs = proxy_size (byte bs 3) (byte bs 4)

-- ---- where it is decided

-- tests that go on, or are decided
went_on : (b : Bool) (d e : Decision) (k : ℕ) (v : Verdict) → cond b d e ≡ Decided k v → b ≡ true → d ≡ Decided k v
went_on true d e k v q r = q
went_on false d e k v q r = absurd (false≢true r)

late_3 : (bs : List ℕ) (k : ℕ) (v : Verdict) → proxy_at bs ≡ Decided k v → 3 ≤ length bs
unfolding proxy_at
late_3 bs k v q = (upon_late 3 bs _ k v q).0

late_5 : (bs : List ℕ) (k : ℕ) (v : Verdict) → head bs ≡ true → proxy_at bs ≡ Decided k v → 5 ≤ length bs
unfolding proxy_at
late_5 bs k v p q = (upon_late 5 bs _ k v (went_on (head bs) _ _ k v (upon_late 3 bs _ k v q).1 p)).0

late_whole : (bs : List ℕ) (k : ℕ) (v : Verdict) → head bs ≡ true → type bs ≡ true → proxy_at bs ≡ Decided k v → size bs ≤ length bs
unfolding proxy_at
late_whole bs k v p t q =
    let r = (upon_late 5 bs _ k v (went_on (head bs) _ _ k v (upon_late 3 bs _ k v q).1 p)).1 in
    (upon_late (size bs) bs _ k v (went_on (type bs) _ _ k v r t)).0

-- with so many bytes as its tests ask
decided_by : (bs : List ℕ) → 3 ≤ length bs → (head bs ≡ true → (5 ≤ length bs) × (type bs ≡ true → size bs ≤ length bs)) → proxy_at bs ≡ Undecided → ⊥
unfolding proxy_at
decided_by bs l f q = go (head bs) refl (type bs) refl q
  where
    v : Verdict
    v = proxy_verdict (byte bs 1) (byte bs 3) (name_field bs)

    go : (x : Bool) → head bs ≡ x → (y : Bool) → type bs ≡ y
        → upon 3 bs (cond x (upon 5 bs (cond y (upon (size bs) bs (Decided (size bs) v)) (Decided 5 (Bad Parsing)))) (Decided 3 (Bad Parsing))) ≡ Undecided → ⊥
    go false p y t r = decided_not (sym (upon_yes 3 bs _ l) ∙ r)
    go true p false t r = decided_not (sym (upon_yes 3 bs _ l ∙ upon_yes 5 bs _ (f p).0) ∙ r)
    go true p true t r = decided_not (sym (upon_yes 3 bs _ l ∙ (upon_yes 5 bs _ (f p).0 ∙ upon_yes (size bs) bs _ ((f p).1 t))) ∙ r)

-- so of undecided bytes the tests that they reach have passed
head_passed : (h : List ℕ) → 3 ≤ length h → proxy_at h ≡ Undecided → head h ≡ true
head_passed h l u = go (head h) refl
  where
    go : (x : Bool) → head h ≡ x → x ≡ true
    go true p = refl
    go false p = absurd (decided_by h l (λ q. absurd (true≢false (sym q ∙ p))) u)

type_passed : (h : List ℕ) → 5 ≤ length h → proxy_at h ≡ Undecided → type h ≡ true
type_passed h l u = go (type h) refl
  where
    go : (x : Bool) → type h ≡ x → x ≡ true
    go true p = refl
    go false p = absurd (decided_by h (omega arith) (λ q. (l, λ t. absurd (true≢false (sym t ∙ p)))) u)

not_whole : (h : List ℕ) → 5 ≤ length h → proxy_at h ≡ Undecided → length h < size h
not_whole h l u = go (leb (size h) (length h)) refl
  where
    go : (b : Bool) → leb (size h) (length h) ≡ b → length h < size h
    go true q = absurd (decided_by h (omega arith) (λ p. (l, λ t. leb-true (size h) (length h) q)) u)
    go false q = leb-false (size h) (length h) q

-- ---- a good one

size_8 : (t l : ℕ) → Typed t l → 8 ≤ proxy_size t l
unfolding proxy_size
size_8 t l (is4 e) = rw e (lit≤ tt)
size_8 t l (is6 e) = rw e (lit≤ tt)
size_8 t l (is_name e k) = rw e (omega arith)

good_8 : (bs : List ℕ) (k : ℕ) → proxy_at bs ≡ Decided k Good → 8 ≤ length bs
good_8 bs k q = let c = tests bs k q in omega (arith, c.all, size_8 (byte bs 3) (byte bs 4) (type_is (byte bs 3) (byte bs 4) c.type))

may_be : (h bs : List ℕ) → byte (h ++ bs) 0 ≡ 0x05 → byte (h ++ bs) 1 ≡ 0x00 → may_connect h ≡ true
unfolding may_connect begins_with
may_be [] bs p q = refl
may_be (a ∷ []) bs p q = rw p
may_be (a ∷ b ∷ h) bs p q = rw (p, q, ne_eqb (length (a ∷ b ∷ h)) 0 (λ z. omega arith))

good_may : (h bs : List ℕ) (k : ℕ) → proxy_at (h ++ bs) ≡ Decided k Good → may_connect h ≡ true
good_may h bs k q =
    let c = tests (h ++ bs) k q in
    may_be h bs (head_is _ _ _ c.head).0 (verdict_is _ _ _ c.verdict).succeeded

may_two : (a b : ℕ) (h : List ℕ) → may_connect (a ∷ b ∷ h) ≡ true → (a ≡ 0x05) × (b ≡ 0x00)
unfolding may_connect begins_with
may_two a b h q =
    let (x, y) = both (eqb (length (a ∷ b ∷ h)) 0 || eqb a 0x05) (eqb b 0x00) q in
    (eqb-true a 0x05 (rw (ne_eqb (length (a ∷ b ∷ h)) 0 (λ z. omega arith)) at x), eqb-true b 0x00 y)

may_one : (a : ℕ) → may_connect (a ∷ []) ≡ true → a ≡ 0x05
unfolding may_connect begins_with
may_one a q = eqb-true a 0x05 (both (eqb a 0x05) true q).0

-- the shortest word
abbrev shortest : List ℕ
shortest = 0x05 ∷ 0x00 ∷ 0x00 ∷ 0x03 ∷ 0x01 ∷ 0x00 ∷ 0x00 ∷ 0x00 ∷ []

shortest_good : proxy_at shortest ≡ Decided 8 Good
unfolding proxy_at head_allowed type_allowed proxy_size proxy_verdict name_field is_utf8 is_boundary scan next first class_of
shortest_good = refl

-- it can become the shortest word
opens_8 : (h c : List ℕ) → 1 ≤ length c → are_bytes c ≡ true → h ++ c ≡ shortest → Facts ProxyRes h 8 true
unfolding decide
opens_8 h c l y e =
    record {
      more = omega (arith, length-append h c, ap length e);
      good = λ q. (c, bytes_are c y, omega (arith, length-append h c, ap length e), rw e shortest_good);
      far = λ q bs k r. good_8 (h ++ bs) k r;
      none = λ q. absurd (true≢false q);
      some = λ q. absurd (true≢false q);
      late = λ q. absurd (true≢false q);
    }

-- it can only fail, and does where the tests say so
fails_at : (h c : List ℕ) (n : ℕ) → length h < n → are_bytes c ≡ true → length h + length c ≡ n → (proxy_at (h ++ c) ≡ Undecided → ⊥)
    → ((bs : List ℕ) (k : ℕ) → proxy_at (h ++ bs) ≡ Decided k Good → ⊥)
    → ((bs : List ℕ) (k : ℕ) (v : Verdict) → proxy_at (h ++ bs) ≡ Decided k v → n ≤ length (h ++ bs)) → Facts ProxyRes h n false
unfolding decide
fails_at h c n k y l s f g =
    record {
      more = k;
      good = λ q. absurd (true≢false (sym q));
      far = λ q. absurd (true≢false (sym q));
      none = λ q. f;
      some = λ q. (c, bytes_are c y, l, s);
      late = λ q. g;
    }

not_may : (h : List ℕ) → may_connect h ≡ false → (bs : List ℕ) (k : ℕ) → proxy_at (h ++ bs) ≡ Decided k Good → ⊥
not_may h e bs k r = true≢false (sym (good_may h bs k r) ∙ e)

-- ---- up to its reserved byte

none_held : Facts ProxyRes [] (proxy_least []) (proxy_still [])
unfolding proxy_least proxy_still may_connect begins_with
none_held = opens_8 [] shortest (omega arith) refl refl

module _ (a : ℕ) where
  one_held : (x : Bool) → may_connect (a ∷ []) ≡ x → Facts ProxyRes (a ∷ []) (cond x 8 3) x
  one_held true p = opens_8 (a ∷ []) (0x00 ∷ 0x00 ∷ 0x03 ∷ 0x01 ∷ 0x00 ∷ 0x00 ∷ 0x00 ∷ []) (omega arith) refl (ap (λ (z : ℕ). z ∷ 0x00 ∷ 0x00 ∷ 0x03 ∷ 0x01 ∷ 0x00 ∷ 0x00 ∷ 0x00 ∷ []) (may_one a p))
  one_held false p =
      fails_at (a ∷ []) (0x00 ∷ 0x00 ∷ []) 3 (omega arith) refl refl
      (decided_by (a ∷ 0x00 ∷ 0x00 ∷ []) (omega arith) (λ q. absurd (true≢false (sym (may_be (a ∷ []) (0x00 ∷ []) (head_is a 0x00 0x00 q).0 refl) ∙ p))))
      (not_may (a ∷ []) p) (λ bs k v r. late_3 (a ∷ bs) k v r)

module _ (a b : ℕ) where
  two_held : (x : Bool) → may_connect (a ∷ b ∷ []) ≡ x → Facts ProxyRes (a ∷ b ∷ []) (cond x 8 3) x
  two_held true p =
      let (q, r) = may_two a b [] p in
      opens_8 (a ∷ b ∷ []) (0x00 ∷ 0x03 ∷ 0x01 ∷ 0x00 ∷ 0x00 ∷ 0x00 ∷ []) (omega arith) refl (λ i. q i ∷ r i ∷ 0x00 ∷ 0x03 ∷ 0x01 ∷ 0x00 ∷ 0x00 ∷ 0x00 ∷ [])
  two_held false p =
      fails_at (a ∷ b ∷ []) (0x01 ∷ []) 3 (omega arith) refl refl
      (decided_by (a ∷ b ∷ 0x01 ∷ []) (omega arith) (λ q. absurd (omega (arith, (head_is a b 0x01 q).1))))
      (not_may (a ∷ b ∷ []) p) (λ bs k v r. late_3 (a ∷ b ∷ bs) k v r)

module _ (a b c : ℕ) (w : head_allowed a b c ≡ true) where
  three_held : (x : Bool) → may_connect (a ∷ b ∷ c ∷ []) ≡ x → Facts ProxyRes (a ∷ b ∷ c ∷ []) (cond x 8 5) x
  unfolding type_allowed
  three_held true p =
      let (q, r) = may_two a b (c ∷ []) p in
      let s = (head_is a b c w).1 in
      opens_8 (a ∷ b ∷ c ∷ []) (0x03 ∷ 0x01 ∷ 0x00 ∷ 0x00 ∷ 0x00 ∷ []) (omega arith) refl (λ i. q i ∷ r i ∷ s i ∷ 0x03 ∷ 0x01 ∷ 0x00 ∷ 0x00 ∷ 0x00 ∷ [])
  three_held false p =
      fails_at (a ∷ b ∷ c ∷ []) (0x00 ∷ 0x00 ∷ []) 5 (omega arith) refl refl
      (decided_by (a ∷ b ∷ c ∷ 0x00 ∷ 0x00 ∷ []) (omega arith) (λ q. (omega arith, λ t. absurd (true≢false (sym t)))))
      (not_may (a ∷ b ∷ c ∷ []) p) (λ bs k v r. late_5 (a ∷ b ∷ c ∷ bs) k v w r)

-- ---- from its type on

-- its size is known: decided there, no sooner and no later
sized : (h : List ℕ) (n : ℕ) (b : Bool) → length h < n → 5 ≤ n
    → ((bs : List ℕ) → 5 ≤ length (h ++ bs) → (head (h ++ bs) ≡ true) × (type (h ++ bs) ≡ true) × (size (h ++ bs) ≡ n)) → ((bs : List ℕ) → head (h ++ bs) ≡ true)
    → (b ≡ true → (c : List ℕ) × Bytes c × (length h + length c ≡ n) × (proxy_verdict (byte (h ++ c) 1) (byte (h ++ c) 3) (name_field (h ++ c)) ≡ Good))
    → (b ≡ false → (bs : List ℕ) (k : ℕ) → proxy_at (h ++ bs) ≡ Decided k Good → ⊥)
    → Facts ProxyRes h n b
unfolding decide
sized h n b l m f w g u =
    let late : (bs : List ℕ) (k : ℕ) (v : Verdict) → proxy_at (h ++ bs) ≡ Decided k v → n ≤ length (h ++ bs) = λ bs k v r.
    let (p, t, s) = f bs (late_5 (h ++ bs) k v (w bs) r) in
    omega (arith, s, late_whole (h ++ bs) k v p t r) in
    record {
      more = l;
      good = λ q.
          let (c, y, e, v) = g q in
          let k : 5 ≤ length (h ++ c) = omega (arith, length-append h c) in
          let (p, t, s) = f c k in
          (c, y, e, proxy_whole (h ++ c) p t (omega arith) (omega (arith, length-append h c)) ∙ (λ i. Decided (s i) (v i)));
      far = λ q bs k r. late bs k Good r;
      none = u;
      some = λ q.
          let (c, y, e) = filled h n l in
          let k : 5 ≤ length (h ++ c) = omega (arith, length-append h c) in
          let (p, t, s) = f c k in
          (c, y, e, decided_by (h ++ c) (omega arith) (λ z. (k, λ z. omega (arith, length-append h c))));
      late = λ q. late;
    }

-- where no name is judged, REP tells
rep_tells : (b t : ℕ) (s : List ℕ) → b ≡ 0x00 → (t ≡ 0x03 → ⊥) → proxy_verdict b t s ≡ Good
unfolding proxy_verdict
rep_tells b t s e f = rw (e, ne_eqb t 0x03 f)

name_tells : (b t : ℕ) (s : List ℕ) → b ≡ 0x00 → is_utf8 s ≡ true → proxy_verdict b t s ≡ Good
unfolding proxy_verdict
name_tells b t s e f = go (not (eqb t 0x03))
  where
    go : (x : Bool) → cond (x || is_utf8 s) (cond (eqb b 0x00) Good (Bad (Command b))) (Bad Parsing) ≡ Good
    go true = rw e
    go false = rw (f, e)

module _ (a b c d : ℕ) (w : head_allowed a b c ≡ true) where
  abbrev h : List ℕ
  h = a ∷ b ∷ c ∷ d ∷ []

  -- an address of a kind
  typed : (n : ℕ) → 5 ≤ n → (d ≡ 0x03 → ⊥) → ((l : ℕ) → (type_allowed d l ≡ true) × (proxy_size d l ≡ n)) → (x : Bool) → may_connect h ≡ x → Facts ProxyRes h n x
  typed n k t f x p =
      sized h n x (omega arith) k (λ bs l. let (y, z) = f (byte (h ++ bs) 4) in (w, y, z)) (λ bs. w)
      (λ q. let (e, y, l) = filled h n (omega arith) in (e, y, l, rep_tells b d (name_field (h ++ e)) (may_two a b (c ∷ d ∷ []) (p ∙ q)).1 t))
      (λ q. not_may h (p ∙ q))

  -- at the byte behind its type, which is none of a name's
  untyped : ((bs : List ℕ) (k : ℕ) → proxy_at (h ++ bs) ≡ Decided k Good → ⊥) → (type_allowed d 0 ≡ true → ⊥) → Facts ProxyRes h 5 false
  untyped f t =
      fails_at h (0x00 ∷ []) 5 (omega arith) refl refl (decided_by (h ++ (0x00 ∷ [])) (omega arith) (λ q. (omega arith, λ z. absurd (t z))))
      f (λ bs k v r. late_5 (h ++ bs) k v w r)

  four_typed : (x y z m : Bool) → eqb d 0x01 ≡ x → eqb d 0x04 ≡ y → eqb d 0x03 ≡ z → may_connect h ≡ m
      → Facts ProxyRes h (cond x 10 (cond y 22 (cond (z && m) 8 5))) (m && (x || (y || (z && true))))
  unfolding type_allowed proxy_size
  four_typed true y z true p q r s = let e = eqb-true d 1 p in typed 10 (lit≤ tt) (λ t. omega arith) (λ l. (rw e, rw e)) true s
  four_typed true y z false p q r s = let e = eqb-true d 1 p in typed 10 (lit≤ tt) (λ t. omega arith) (λ l. (rw e, rw e)) false s
  four_typed false true z true p q r s = let e = eqb-true d 4 q in typed 22 (lit≤ tt) (λ t. omega arith) (λ l. (rw e, rw e)) true s
  four_typed false true z false p q r s = let e = eqb-true d 4 q in typed 22 (lit≤ tt) (λ t. omega arith) (λ l. (rw e, rw e)) false s
  four_typed false false true true p q r s =
      let (e, f) = may_two a b (c ∷ d ∷ []) s in
      let g = (head_is a b c w).1 in
      let t = eqb-true d 0x03 r in
      opens_8 h (0x01 ∷ 0x00 ∷ 0x00 ∷ 0x00 ∷ []) (omega arith) refl (λ i. e i ∷ f i ∷ g i ∷ t i ∷ 0x01 ∷ 0x00 ∷ 0x00 ∷ 0x00 ∷ [])
  four_typed false false true false p q r s = untyped (not_may h s) (λ t. true≢false (sym t ∙ rw (p, q, r)))
  four_typed false false false true p q r s =
      untyped (λ bs k g. none bs (type_is d (byte (h ++ bs) 4) (tests (h ++ bs) k g).type)) (λ t. true≢false (sym t ∙ rw (p, q, r)))
    where
      none : (bs : List ℕ) → Typed d (byte (h ++ bs) 4) → ⊥
      none bs (is4 e) = eqb-false d 1 p e
      none bs (is6 e) = eqb-false d 4 q e
      none bs (is_name e l) = eqb-false d 3 r e
  four_typed false false false false p q r s = untyped (not_may h s) (λ t. true≢false (sym t ∙ rw (p, q, r)))

  four_held : Facts ProxyRes h (size_from d (may_connect h)) (may_connect h && type_still h)
  unfolding size_from type_still name_still name_field scan
  four_held = four_typed (eqb d 0x01) (eqb d 0x04) (eqb d 0x03) (may_connect h) refl refl refl refl

-- ---- from its fifth byte on

-- the first bytes of two lists: of the first, and as many of the second as it lacks
take_on : (n : ℕ) (r c : List ℕ) → take n (r ++ c) ≡ take n r ++ take (n - length (take n r)) c
take_on zero r c = refl
take_on (suc n) [] c = let e : suc n ≡ suc n - 0 = omega arith in ap (λ (k : ℕ). take k c) e
take_on (suc n) (x ∷ r) c =
    let e : n - length (take n r) ≡ suc n - suc (length (take n r)) = omega arith in
    ap (λ (l : List ℕ). x ∷ l) (take_on n r c ∙ ap (λ (k : ℕ). take n r ++ take k c) e)

utf8_ends : (x y z : List ℕ) → z ≡ x ++ y → is_boundary (scan (scan Boundary x) y) ≡ true → is_utf8 z ≡ true
unfolding is_utf8
utf8_ends x y z e q = rw (e, scan_append Boundary x y) q

and_true : (b : Bool) → (b && true) ≡ b
and_true true = refl
and_true false = refl

module _ (a b c d n : ℕ) (r : List ℕ) (w : head_allowed a b c ≡ true) (t : type_allowed d n ≡ true) (l : length (a ∷ b ∷ c ∷ d ∷ n ∷ r) < proxy_size d n) where
  abbrev g : List ℕ
  g = a ∷ b ∷ c ∷ d ∷ n ∷ r

  -- what a name that has come lacks
  lack : ℕ
  lack = n - length (take n r)

  name_from : d ≡ 0x03 → b ≡ 0x00 → name_still g ≡ true
      → (e : List ℕ) × Bytes e × (length g + length e ≡ proxy_size d n) × (proxy_verdict b d (name_field (g ++ e)) ≡ Good)
  unfolding name_still name_field proxy_size lack
  name_from q p s =
      let z : proxy_size d n ≡ 7 + n = rw q in
      let v = can_end (scan Boundary (take n r)) lack s in
      let m : length v.text ≤ proxy_size d n - length g = omega (arith, v.long, length-take n r) in
      let k = proxy_size d n - length g - length v.text in
      let e = v.text ++ replicate k 0 in
      let i : take n (r ++ e) ≡ take n r ++ v.text = take_on n r e ∙ ap (λ (l : List ℕ). take n r ++ l) (take_at v.text (replicate k 0) lack v.long) in (
        e,
        bytes_join v.text (replicate k 0) v.bytes (bytes_zeros k),
        omega (arith, length-append v.text (replicate k 0), length-replicate {A = ℕ} k 0),
        name_tells b d (take n (r ++ e)) p (utf8_ends (take n r) v.text (take n (r ++ e)) i v.ends),
      )

  name_of_lem : (bs : List ℕ) → 5 + n ≤ length (g ++ bs) → is_utf8 (name_field (g ++ bs)) ≡ true → name_still g ≡ true
  unfolding name_still name_field is_utf8
  name_of_lem bs k q =
      let e = take_on n r bs in
      let m : length (take (n - length (take n r)) bs) ≡ n - length (take n r) = length-take-le (n - length (take n r)) bs (omega (arith, length-take n r, length-append r bs)) in
      rw (← m) (ends_within_lem (scan Boundary (take n r)) (take (n - length (take n r)) bs) (rw (e, scan_append Boundary (take n r)) at q))

  good_type : (bs : List ℕ) (k : ℕ) → proxy_at (g ++ bs) ≡ Decided k Good → type_still g ≡ true
  unfolding type_still proxy_size
  good_type bs k q = let z = tests (g ++ bs) k q in go (type_is d n z.type) z.all (verdict_is b d (name_field (g ++ bs)) z.verdict).text
    where
      go : Typed d n → proxy_size d n ≤ length (g ++ bs) → (d ≡ 0x03 → Utf8 (name_field (g ++ bs))) → type_still g ≡ true
      go (is4 e) m f = rw e
      go (is6 e) m f = rw e
      go (is_name e j) m f =
          let z : proxy_size d n ≡ 7 + n = rw e in
          let s = name_of_lem bs (omega arith) ((utf8_just (name_field (g ++ bs))).1 (f e)) in
          rw (s, e)

  type_good : Typed d n → b ≡ 0x00 → type_still g ≡ true
      → (e : List ℕ) × Bytes e × (length g + length e ≡ proxy_size d n) × (proxy_verdict b d (name_field (g ++ e)) ≡ Good)
  unfolding type_still name_still name_field
  type_good (is4 q) p s = let (e, y, i) = filled g (proxy_size d n) l in (e, y, i, rep_tells b d (name_field (g ++ e)) p (λ z. omega arith))
  type_good (is6 q) p s = let (e, y, i) = filled g (proxy_size d n) l in (e, y, i, rep_tells b d (name_field (g ++ e)) p (λ z. omega arith))
  type_good (is_name q j) p s = name_from q p (rw q at s)

  five_held : (x y : Bool) → may_connect g ≡ x → type_still g ≡ y → Facts ProxyRes g (proxy_size d n) (x && y)
  five_held x y p s =
      sized g (proxy_size d n) (x && y) l (omega (arith, size_8 d n (type_is d n t))) (λ bs k. (w, t, refl)) (λ bs. w)
      (λ q. let (i, j) = both x y q in type_good (type_is d n t) (may_two a b (c ∷ d ∷ n ∷ r) (p ∙ i)).1 (s ∙ j))
      (λ q bs k z. true≢false (sym (λ i. (sym p ∙ good_may g bs k z) i && (sym s ∙ good_type bs k z) i) ∙ q))

-- ---- whatever is held

pub connect : (h : List ℕ) → decide ProxyRes h ≡ Undecided → Facts ProxyRes h (proxy_least h) (proxy_still h)
unfolding decide proxy_least proxy_still
connect [] u = none_held
connect (a ∷ []) u = rw and_true (one_held a (may_connect (a ∷ [])) refl)
connect (a ∷ b ∷ []) u = rw and_true (two_held a b (may_connect (a ∷ b ∷ [])) refl)
connect (a ∷ b ∷ c ∷ []) u = rw and_true (three_held a b c (head_passed (a ∷ b ∷ c ∷ []) (omega arith) u) (may_connect (a ∷ b ∷ c ∷ [])) refl)
connect (a ∷ b ∷ c ∷ d ∷ []) u = four_held a b c d (head_passed (a ∷ b ∷ c ∷ d ∷ []) (omega arith) u)
connect (a ∷ b ∷ c ∷ d ∷ n ∷ r) u =
    let h = a ∷ b ∷ c ∷ d ∷ n ∷ r in
    let k : 5 ≤ length h = omega arith in
    rw (le-ltb (length h) 4 (omega arith), le-ltb (length h) 5 k)
    (five_held a b c d n r (head_passed h (omega arith) u) (type_passed h k u) (not_whole h k u) (may_connect h) (type_still h) refl refl)
