-- What more bytes do to what is seen, and what follows from it for a reader of which that is known.
use Prim.Native.Nat.{ℕ, suc, ◌≤◌, ◌<◌}
use native.Mathlib.Nat.{le_trans}
use native.Mathlib.Omega.{arith}
use mathlib.Core.Path.{◌≡◌, refl, ap, sym, subst, ◌∙◌}
use mathlib.Core.Logic.{◌↔◌, ◌⊎◌, inl, inr}
use mathlib.Core.Bool.{Bool, true, false, cond}
use mathlib.Core.List.{List, [], ◌++◌}
use lib.ListN.{length, take, drop, take-append-drop}
use lib.Seq.{length-take-le}
use lib.Dec.{leb}
use borrow.Author.Tests.{leb-true, leb-false, le-leb}
use Rattle.protocol.specs.Bytes.{Bytes}
use Rattle.protocol.proofs.Bytes.{bytes_left}
use Rattle.proxy_spec.specs.Reads.{Seen, short, wrong, unknown, whole, from, held}
use Rattle.talk.specs.Lawful.{Begins}

-- something is seen, at the last of n bytes
abbrev pub Decided : {A : Type 0} → ℕ → Seen A → Type 0
Decided n short = ⊥
Decided n (wrong m) = m ≡ n
Decided n (unknown m) = m ≡ n
Decided n (whole m a) = m ≡ n

-- seen, if at all, at n bytes or more
abbrev pub Late : {A : Type 0} → ℕ → Seen A → Type 0
Late n short = Unit {0}
Late n (wrong m) = n ≤ m
Late n (unknown m) = n ≤ m
Late n (whole m a) = n ≤ m

-- what n bytes show, and what more do: what is seen stays, within the n bytes; what is not is seen past them, if at all
abbrev pub Ext : {A : Type 0} → ℕ → Seen A → Seen A → Type 0
Ext n d e = ((d ≡ short) × Late (suc n) e) ⊎ ((k : ℕ) × (k ≤ n) × Decided k d × (e ≡ d))

module _ {A : Type 0} where
  pub late_cond : (b : Bool) (n : ℕ) (d e : Seen A) → Late n d → Late n e → Late n (cond b d e)
  late_cond true n d e p q = p
  late_cond false n d e p q = q

  pub late_held : (b : Bool) (k n : ℕ) (d : Seen A) → k ≤ n → Late k d → Late k (held b n d)
  late_held b k n d h p = late_cond b k d (wrong n) p h

  pub late_from : (k n : ℕ) (bs : List ℕ) (d : Seen A) → Late n d → Late n (from k bs d)
  late_from k n bs d p = late_cond (leb k (length bs)) n d short p tt

  pub late_less : (n m : ℕ) (d : Seen A) → n ≤ m → Late m d → Late n d
  late_less n m short h p = tt
  late_less n m (wrong k) h p = le_trans h p
  late_less n m (unknown k) h p = le_trans h p
  late_less n m (whole k v) h p = le_trans h p

  pub ext_from : (n : ℕ) (bs cs : List ℕ) (d e : Seen A) → length bs ≤ length cs → Late n e → (n ≤ length bs → Ext (length bs) d e)
      → Ext (length bs) (from n bs d) (from n cs e)
  ext_from n bs cs d e le late ext = go (leb n (length bs)) refl
    where
      go : (b : Bool) → leb n (length bs) ≡ b → Ext (length bs) (cond b d short) (from n cs e)
      go true q = rw (le-leb n (length cs) (le_trans (leb-true n (length bs) q) le)) (ext (leb-true n (length bs) q))
      go false q = inl (refl, late_from n (suc (length bs)) cs e (late_less (suc (length bs)) n e (leb-false n (length bs) q) late))

  pub ext_cond : (n : ℕ) (b : Bool) (d d' e e' : Seen A) → Ext n d d' → Ext n e e' → Ext n (cond b d e) (cond b d' e')
  ext_cond n true d d' e e' p q = p
  ext_cond n false d d' e e' p q = q

  pub ext_held : (n : ℕ) (b : Bool) (k : ℕ) (d d' : Seen A) → k ≤ n → Ext n d d' → Ext n (held b k d) (held b k d')
  ext_held n b k d d' h p = ext_cond n b d d' (wrong k) (wrong k) p (inr (k, h, refl, refl))

  pub ext_whole : (n k : ℕ) (a b : A) → k ≤ n → b ≡ a → Ext n (whole k a) (whole k b)
  ext_whole n k a b h q = inr (k, h, refl, ap (whole k) q)

  -- ---- what a test that led to a whole request has said

  pub from_inv : (n : ℕ) (bs : List ℕ) (d : Seen A) (k : ℕ) (a : A) → from n bs d ≡ whole k a → (n ≤ length bs) × (d ≡ whole k a)
  from_inv n bs d k a q = go (leb n (length bs)) refl q
    where
      go : (b : Bool) → leb n (length bs) ≡ b → cond b d short ≡ whole k a → (n ≤ length bs) × (d ≡ whole k a)
      go true e r = (leb-true n (length bs) e, r)
      go false e r = let z : ◌≡◌ {A = ℕ} 0 1 = cc in absurd (omega arith)

  pub held_inv : (b : Bool) (n : ℕ) (d : Seen A) (k : ℕ) (a : A) → held b n d ≡ whole k a → (b ≡ true) × (d ≡ whole k a)
  held_inv true n d k a q = (refl, q)
  held_inv false n d k a q = let z : ◌≡◌ {A = ℕ} 0 1 = cc in absurd (omega arith)

  pub whole_inv : (n k : ℕ) (a b : A) → whole n a ≡ whole k b → (n ≡ k) × (a ≡ b)
  whole_inv n k a b q = (cc, cc)

  pub from_yes : (n : ℕ) (bs : List ℕ) (d : Seen A) → n ≤ length bs → from n bs d ≡ d
  from_yes n bs d h = rw (le-leb n (length bs) h)

  -- ---- a reader of which that is known

  decided_one : (n k : ℕ) (d : Seen A) → Decided n d → Decided k d → n ≡ k
  decided_one n k short p q = absurd p
  decided_one n k (wrong m) p q = sym p ∙ q
  decided_one n k (unknown m) p q = sym p ∙ q
  decided_one n k (whole m a) p q = sym p ∙ q

  not_late : (n m : ℕ) (d : Seen A) → Decided n d → Late m d → m ≤ n
  not_late n m short p q = absurd p
  not_late n m (wrong k) p q = omega arith
  not_late n m (unknown k) p q = omega arith
  not_late n m (whole k a) p q = omega arith

  module _ (R : List ℕ → Seen A) (extends : (bs more : List ℕ) → Ext (length bs) (R bs) (R (bs ++ more))) where
    -- what is seen stays
    pub settled : (bs more : List ℕ) → (R bs ≡ short → ⊥) → R (bs ++ more) ≡ R bs
    settled bs more h = go (extends bs more)
      where
        go : Ext (length bs) (R bs) (R (bs ++ more)) → R (bs ++ more) ≡ R bs
        go (inl (q, l)) = absurd (h q)
        go (inr (k, l, d, q)) = q

    -- within the bytes that are there
    pub inside : (bs : List ℕ) (n : ℕ) → Decided n (R bs) → n ≤ length bs
    inside bs n p = go (extends bs [])
      where
        go : Ext (length bs) (R bs) (R (bs ++ [])) → n ≤ length bs
        go (inl (q, l)) = absurd (subst (Decided n) q p)
        go (inr (k, l, d, q)) = let z = decided_one n k (R bs) p d in omega arith

    -- and not on fewer
    pub unseen : (bs : List ℕ) (n : ℕ) → Decided n (R bs) → (k : ℕ) → k < n → R (take k bs) ≡ short
    unseen bs n p k h = go (rw (take-append-drop k bs) at (extends (take k bs) (drop k bs)))
      where
        m : length (take k bs) ≡ k
        m = length-take-le k bs (let i = inside bs n p in omega arith)

        go : Ext (length (take k bs)) (R (take k bs)) (R bs) → R (take k bs) ≡ short
        go (inl (q, l)) = q
        go (inr (j, l, d, q)) = let z = decided_one n j (R bs) p (subst (Decided j) (sym q) d) in absurd (omega (arith, m))

    -- both
    pub early : (bs : List ℕ) (n : ℕ) → Decided n (R bs) → (n ≤ length bs) × ((k : ℕ) → k < n → R (take k bs) ≡ short)
    early bs n p = (inside bs n p, unseen bs n p)

    -- the bytes that are seen show the same by themselves
    pub itself : (bs : List ℕ) (n : ℕ) → Decided n (R bs) → R (take n bs) ≡ R bs
    itself bs n p = go (rw (take-append-drop n bs) at (extends (take n bs) (drop n bs)))
      where
        m : length (take n bs) ≡ n
        m = length-take-le n bs (inside bs n p)

        go : Ext (length (take n bs)) (R (take n bs)) (R bs) → R (take n bs) ≡ R bs
        go (inl (q, l)) = let z = not_late n (suc (length (take n bs))) (R bs) p l in absurd (omega (arith, m))
        go (inr (j, l, d, q)) = sym q

    -- a reader that is whole on just its words is whole where the bytes begin with one
    pub just : (W : List ℕ → A → Type 0) → ((p : List ℕ) → Bytes p → (a : A) → R p ≡ whole (length p) a → W p a) → ((p : List ℕ) (a : A) → W p a → R p ≡ whole (length p) a)
        → (bs : List ℕ) → Bytes bs → (n : ℕ) (a : A) → R bs ≡ whole n a ↔ ((p : List ℕ) × Begins p bs × (length p ≡ n) × W p a)
    just W is of bs y n a = (there, back)
      where
        there : R bs ≡ whole n a → (p : List ℕ) × Begins p bs × (length p ≡ n) × W p a
        there q =
            let d : Decided n (R bs) = subst (Decided n) (sym q) refl in
            let m = length-take-le n bs (inside bs n d) in
            let s = sym (take-append-drop n bs) in
            (take n bs, (drop n bs, s), m, is (take n bs) (bytes_left (take n bs) (drop n bs) (rw (take-append-drop n bs) y)) a (itself bs n d ∙ q ∙ ap (λ (k : ℕ). whole k a) (sym m)))

        back : ((p : List ℕ) × Begins p bs × (length p ≡ n) × W p a) → R bs ≡ whole n a
        back (p, (f, s), l, w) =
            let q = of p a w in
            let t : R p ≡ short → ⊥ = λ r. let z : ◌≡◌ {A = ℕ} 0 1 = cc in absurd (omega arith) in
            ap R s ∙ settled p f t ∙ q ∙ ap (λ (k : ℕ). whole k a) l
