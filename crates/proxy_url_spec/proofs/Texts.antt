-- F-9: IPv6 text and `]` are read as the grammar has them: as far as the text goes on, byte by byte.
use Prim.Native.Nat.{ℕ, zero, suc, ◌+◌, ◌≤◌, ◌<◌}
use native.Mathlib.Omega.{arith}
use native.Mathlib.Nat.{le_of_lt}
use mathlib.Core.Path.{◌≡◌, refl, sym, ap, subst, ◌∙◌}
use mathlib.Core.Logic.{◌⊎◌, inl, inr}
use mathlib.Core.Option.{Option, none, some}
use mathlib.Core.Bool.{Bool, true, false, cond, ◌&&◌, ◌||◌, false≢true}
use mathlib.Core.List.{List, [], ◌∷◌, ◌++◌, append_assoc, append-nil}
use lib.Dec.{ltb, eqb}
use lib.ListN.{replicate, length, take, drop, length-append, get_or-append, get_or-eq_default}
use lib.Seq.{take-append_seam, take-append-le, get_or-append_seam, split_at, length-take-le}
use borrow.Author.Tests.{ltb-true, ltb-false, eqb-true}
use Rattle.protocol.specs.Bytes.{byte}
use Rattle.protocol.specs.AddressText.{Ipv6}
use Rattle.protocol.specs.AddressReading.{ipv6_of, starts_gap, join_of, right_of}
use Rattle.protocol.proofs.AddressIpv6.{ipv6_sound, ipv6_complete}
use Rattle.proxy_url_spec.specs.Ipv6Endings.{endings}
use Rattle.proxy_url_spec.proofs.Ipv6Extent.{ipv6_long, ipv6_no_bracket}
use Rattle.proxy_url_spec.proofs.Ipv6Beginnings.{stops_by}
use Rattle.proxy_url_spec.specs.Reading.{reads, dies, is_some, ipv6_by, ipv6_goes_on, along, ipv6_end, ipv6_text_of}
use Rattle.proxy_url_spec.proofs.Readers.{Any, Found, Alive, Inhabited, Law, reads_not_dies, reads_value, reads_place}

-- ---- as far as a test on beginnings passes

pub record Along (test : List ℕ → Bool) (p s : List ℕ) (n : ℕ) : Type 0 where
  pub a : List ℕ
  pub r : List ℕ
  pub split : s ≡ a ++ r
  pub long : length a ≡ n
  pub passes : test (p ++ a) ≡ true

module _ (test : List ℕ → Bool) where
  nothing_more : (p s : List ℕ) → test p ≡ true → Along test p s 0
  nothing_more p s e = record { a = []; r = s; split = refl; long = refl; passes = rw append-nil e }

  along_is : (k : ℕ) (p s : List ℕ) → test p ≡ true → Along test p s (along test k p s)
  unfolding along
  along_is zero p s e = nothing_more p s e
  along_is (suc k) p [] e = nothing_more p [] e
  along_is (suc k) p (b ∷ s) e = go (test (p ++ (b ∷ []))) refl (along_is k (p ++ (b ∷ [])) s)
    where
      go : (x : Bool) → test (p ++ (b ∷ [])) ≡ x → (test (p ++ (b ∷ [])) ≡ true → Along test (p ++ (b ∷ [])) s (along test k (p ++ (b ∷ [])) s))
          → Along test p (b ∷ s) (cond x (suc (along test k (p ++ (b ∷ [])) s)) 0)
      go true q f =
          let y = f q in
          record {
            a = b ∷ y.a;
            r = y.r;
            split = ap (λ (l : List ℕ). b ∷ l) y.split;
            long = ap suc y.long;
            passes = rw (append_assoc p (b ∷ []) y.a) at y.passes;
          }
      go false q f = nothing_more p (b ∷ s) e

  along_causal : (k : ℕ) (p a r t : List ℕ) → along test k p (a ++ r) < length a → along test k p (a ++ t) ≡ along test k p (a ++ r)
  unfolding along
  along_causal zero p a r t h = refl
  along_causal (suc k) p [] r t h = absurd (omega arith)
  along_causal (suc k) p (b ∷ a) r t h = go (test (p ++ (b ∷ []))) h (along_causal k (p ++ (b ∷ [])) a r t)
    where
      go : (x : Bool) → cond x (suc (along test k (p ++ (b ∷ [])) (a ++ r))) 0 < length (b ∷ a)
          → (along test k (p ++ (b ∷ [])) (a ++ r) < length a → along test k (p ++ (b ∷ [])) (a ++ t) ≡ along test k (p ++ (b ∷ [])) (a ++ r))
          → cond x (suc (along test k (p ++ (b ∷ [])) (a ++ t))) 0 ≡ cond x (suc (along test k (p ++ (b ∷ [])) (a ++ r))) 0
      go true g f = ap suc (f (omega arith))
      go false g f = refl

-- ---- which beginnings of IPv6 text go on

by_ending : (s e : List ℕ) → ipv6_by s e ≡ true → (bs : List ℕ) × Ipv6 (s ++ e) bs
unfolding ipv6_by
by_ending s e = go (ipv6_of (s ++ e)) refl
  where
    go : (r : Option (List ℕ)) → ipv6_of (s ++ e) ≡ r → is_some r ≡ true → (bs : List ℕ) × Ipv6 (s ++ e) bs
    go none q f = absurd (false≢true f)
    go (some bs) q f = (bs, ipv6_sound (s ++ e) bs q)

is_by : (s e : List ℕ) {bs : List ℕ} → Ipv6 (s ++ e) bs → ipv6_by s e ≡ true
unfolding ipv6_by
is_by s e x = rw (ipv6_complete x)

not_by : (s e : List ℕ) → ipv6_by s e ≡ false → ipv6_of (s ++ e) ≡ none
unfolding ipv6_by
not_by s e = go (ipv6_of (s ++ e))
  where
    go : (r : Option (List ℕ)) → is_some r ≡ false → r ≡ none
    go none f = refl
    go (some bs) f = absurd (false≢true (sym f))

either_of : (a b : Bool) → (a || b) ≡ true → (a ≡ true) ⊎ (b ≡ true)
either_of true b e = inl refl
either_of false b e = inr e

neither_of : (a b : Bool) → (a || b) ≡ false → (a ≡ false) × (b ≡ false)
neither_of true b e = absurd (false≢true (sym e))
neither_of false b e = (refl, e)

-- an ending that makes an IPv6 text of it
abbrev Ends : List ℕ → Type 0
Ends s = (e : List ℕ) × (bs : List ℕ) × Ipv6 (s ++ e) bs

ends_by : (s e : List ℕ) (b : Bool) → (ipv6_by s e || b) ≡ true → (b ≡ true → Ends s) → Ends s
ends_by s e b q f = go (either_of (ipv6_by s e) b q)
  where
    go : (ipv6_by s e ≡ true) ⊎ (b ≡ true) → Ends s
    go (inl x) = let (bs, y) = by_ending s e x in (e, bs, y)
    go (inr x) = f x

goes_ends : (s : List ℕ) → ipv6_goes_on s ≡ true → Ends s
unfolding ipv6_goes_on
goes_ends s q =
    ends_by s [] _ q
    (λ q. ends_by s (0x30 ∷ []) _ q
    (λ q. ends_by s (0x3A ∷ []) _ q
    (λ q. ends_by s (0x3A ∷ 0x3A ∷ []) _ q
    (λ q. ends_by s (0x2E ∷ 0x30 ∷ []) _ q
    (λ q. ends_by s (0x30 ∷ 0x2E ∷ 0x30 ∷ []) _ q
    (λ q. ends_by s (0x2E ∷ 0x30 ∷ 0x2E ∷ 0x30 ∷ []) _ q
    (λ q. let (bs, y) = by_ending s (0x30 ∷ 0x2E ∷ 0x30 ∷ 0x2E ∷ 0x30 ∷ []) q in (0x30 ∷ 0x2E ∷ 0x30 ∷ 0x2E ∷ 0x30 ∷ [], bs, y))))))))

stops_ends : (s : List ℕ) → ipv6_goes_on s ≡ false → (q bs : List ℕ) → Ipv6 (s ++ q) bs → ⊥
unfolding ipv6_goes_on endings
stops_ends s f =
    let (a, fa) = neither_of _ _ f in
    let (b, fb) = neither_of _ _ fa in
    let (c, fc) = neither_of _ _ fb in
    let (d, fd) = neither_of _ _ fc in
    let (e, fe) = neither_of _ _ fd in
    let (g, fg) = neither_of _ _ fe in
    let (h, i) = neither_of _ _ fg in
    stops_by s (not_by s _ d, (not_by s _ c, (not_by s _ h, (not_by s _ i, (not_by s _ e, (not_by s _ g, (not_by s _ a, (not_by s _ b, tt))))))))

-- ---- a text up to `]`

-- within a text it goes on, and `]` ends it
inside : (k : ℕ) (p s t : List ℕ) {bs : List ℕ} → Ipv6 (p ++ s) bs → length s ≤ k → along ipv6_goes_on k p (s ++ (0x5D ∷ t)) ≡ length s
unfolding along
inside zero p [] t x h = refl
inside (suc k) p [] t x h = go (ipv6_goes_on (p ++ (0x5D ∷ []))) refl
  where
    go : (y : Bool) → ipv6_goes_on (p ++ (0x5D ∷ [])) ≡ y → cond y (suc (along ipv6_goes_on k (p ++ (0x5D ∷ [])) t)) 0 ≡ 0
    go true q =
        let (e, bs, z) = goes_ends (p ++ (0x5D ∷ [])) q in
        let f : (p ++ (0x5D ∷ [])) ++ e ≡ p ++ (0x5D ∷ e) = append_assoc p (0x5D ∷ []) e in
        let l : length p < length ((p ++ (0x5D ∷ [])) ++ e) = rw (f, length-append p (0x5D ∷ e)) (omega arith) in
        absurd (ipv6_no_bracket ((p ++ (0x5D ∷ [])) ++ e) bs z (length p) l (rw f (get_or-append_seam p 0x5D e 0)))
    go false q = refl
inside zero p (b ∷ s) t x h = absurd (omega arith)
inside (suc k) p (b ∷ s) t {bs} x h =
    let x' : Ipv6 ((p ++ (b ∷ [])) ++ s) bs = rw (append_assoc p (b ∷ []) s) x in
    go (ipv6_goes_on (p ++ (b ∷ []))) refl x' (inside k (p ++ (b ∷ [])) s t x' (omega arith))
  where
    go : (y : Bool) → ipv6_goes_on (p ++ (b ∷ [])) ≡ y → Ipv6 ((p ++ (b ∷ [])) ++ s) bs → along ipv6_goes_on k (p ++ (b ∷ [])) (s ++ (0x5D ∷ t)) ≡ length s
        → cond y (suc (along ipv6_goes_on k (p ++ (b ∷ [])) (s ++ (0x5D ∷ t)))) 0 ≡ suc (length s)
    go true q x e = ap suc e
    go false q x e = absurd (stops_ends (p ++ (b ∷ [])) q s bs x)

end_is : (s t : List ℕ) {bs : List ℕ} → Ipv6 s bs → ipv6_end (s ++ (0x5D ∷ t)) ≡ length s
unfolding ipv6_end
end_is s t {bs} x = inside 45 [] s t x (ipv6_long s bs x)

unspecified : Ipv6 (0x3A ∷ 0x3A ∷ []) (replicate 16 0)
unspecified = ipv6_sound (0x3A ∷ 0x3A ∷ []) (replicate 16 0) (unfold ipv6_of starts_gap join_of right_of in refl)

begins : ipv6_goes_on [] ≡ true
begins = go (ipv6_goes_on []) refl
  where
    go : (y : Bool) → ipv6_goes_on [] ≡ y → y ≡ true
    go true q = refl
    go false q = absurd (stops_ends [] q (0x3A ∷ 0x3A ∷ []) (replicate 16 0) unspecified)

end_splits : (s : List ℕ) → Along ipv6_goes_on [] s (ipv6_end s)
unfolding ipv6_end
end_splits s = along_is ipv6_goes_on 45 [] s begins

end_causal : (p r t : List ℕ) → ipv6_end (p ++ r) < length p → ipv6_end (p ++ t) ≡ ipv6_end (p ++ r)
unfolding ipv6_end
end_causal p r t h = along_causal ipv6_goes_on 45 [] p r t h

-- an IPv6 text and `]`
pub record TextWord (w s : List ℕ) : Type 0 where
  pub spelt : w ≡ s ++ (0x5D ∷ [])
  pub bytes : List ℕ
  pub is : Ipv6 s bytes

pub both_true : (a b : Bool) → (a && b) ≡ true → (a ≡ true) × (b ≡ true)
both_true true b e = (refl, e)
both_true false b e = absurd (false≢true e)

mark_inside : (s : List ℕ) (n : ℕ) → byte s n ≡ 0x5D → n < length s
mark_inside s n e = go (ltb n (length s)) refl
  where
    go : (b : Bool) → ltb n (length s) ≡ b → n < length s
    go true h = ltb-true n (length s) h
    go false h = let f = get_or-eq_default s 0 (ltb-false n (length s) h) in absurd (omega arith)

closed_sound : (s : List ℕ) (v : List ℕ) (m n : ℕ) (b : Bool) → (eqb (byte s n) 0x5D && ipv6_by (take n s) []) ≡ b → cond b (reads (take n s) (n + 1)) (dies n) ≡ reads v m
    → Found Any TextWord s v m
closed_sound s v m n true q e =
    let (c, d) = both_true _ _ q in
    let f = eqb-true (byte s n) 0x5D c in
    let h = mark_inside s n f in
    let ev : take n s ≡ v = reads_value e in
    let em : m ≡ n + 1 = sym (reads_place e) in
    let (bs, x) = by_ending (take n s) [] d in
    let x' : Ipv6 (take n s) bs = rw append-nil at x in
    let l = length-take-le n s (le_of_lt h) in
    record {
      w = take n s ++ (0x5D ∷ []);
      t = drop (suc n) s;
      split = split_at s n 0 h ∙ rw (f, append_assoc (take n s) (0x5D ∷ []) (drop (suc n) s));
      long = rw (length-append (take n s) (0x5D ∷ [])) (omega arith);
      word = record { spelt = ap (λ (z : List ℕ). z ++ (0x5D ∷ [])) ev; bytes = bs; is = subst (λ (z : List ℕ). Ipv6 z bs) ev x' };
      ok = tt;
    }
closed_sound s v m n false q e = absurd (reads_not_dies (sym e))

text_complete : (s t : List ℕ) {bs : List ℕ} → Ipv6 s bs → ipv6_text_of (s ++ (0x5D ∷ t)) ≡ reads s (length s + 1)
unfolding ipv6_text_of
text_complete s t {bs} x =
    rw (end_is s t x, get_or-append_seam s 0x5D t 0, take-append_seam s (0x5D ∷ t), is_by s [] {bs = bs} (rw append-nil x))

closed_dies : (s : List ℕ) (m n : ℕ) (b : Bool) → cond b (reads (take n s) (n + 1)) (dies n) ≡ dies m → n ≡ m
closed_dies s m n true e = absurd (reads_not_dies e)
closed_dies s m n false e = cc

text_dies : (s : List ℕ) (m : ℕ) → ipv6_text_of s ≡ dies m → ipv6_end s ≡ m
unfolding ipv6_text_of
text_dies s m e = closed_dies s m (ipv6_end s) (eqb (byte s (ipv6_end s)) 0x5D && ipv6_by (take (ipv6_end s) s) []) e

text_alive : (s : List ℕ) (n : ℕ) → ipv6_end s ≡ n → Alive TextWord s n
text_alive s n e =
    let x = end_splits s in
    let (i, bs, y) = goes_ends x.a x.passes in
    record {
      p = x.a;
      r = x.r;
      split = x.split;
      long = x.long ∙ e;
      t = i ++ (0x5D ∷ []);
      v = x.a ++ i;
      word = record { spelt = sym (append_assoc x.a i (0x5D ∷ [])); bytes = bs; is = y };
    }

text_causal : (p r t : List ℕ) (n : ℕ) → ipv6_text_of (p ++ r) ≡ dies n → ipv6_end (p ++ r) ≡ n → n < length p → ipv6_text_of (p ++ t) ≡ dies n
unfolding ipv6_text_of
text_causal p r t n q e h =
    let f = end_causal p r t (omega arith) in
    rw (f, e, get_or-append p t 0 n h, take-append-le n p t (le_of_lt h)) (rw (e, get_or-append p r 0 n h, take-append-le n p r (le_of_lt h)) at q)

pub law_text : Law Any TextWord ipv6_text_of
unfolding ipv6_text_of
law_text =
    record {
      sound = λ s v m e. closed_sound s v m (ipv6_end s) _ refl e;
      complete = λ w t v x o. rw (x.spelt, append_assoc v (0x5D ∷ []) t, length-append v (0x5D ∷ [])) (unfold ipv6_text_of in text_complete v t x.is);
      alive = λ s n e. text_alive s n (text_dies s n e);
      causal = λ p r t n e h. text_causal p r t n e (text_dies (p ++ r) n e) h;
    }

pub text_some : Inhabited TextWord
text_some = record { w = 0x3A ∷ 0x3A ∷ 0x5D ∷ []; v = 0x3A ∷ 0x3A ∷ []; word = record { spelt = refl; bytes = replicate 16 0; is = unspecified } }
