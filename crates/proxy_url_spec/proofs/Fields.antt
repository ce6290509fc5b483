-- F-9: the laws of words, of single bytes and of rows of a field up to a mark.
use Prim.Native.Nat.{ℕ, zero, suc, ◌+◌, ◌≤◌, ◌<◌}
use native.Mathlib.Omega.{arith}
use mathlib.Core.Path.{◌≡◌, refl, sym, ap, subst, ◌∙◌}
use mathlib.Core.Bool.{Bool, true, false, cond}
use mathlib.Core.List.{List, [], ◌∷◌, ◌++◌, append_assoc, append-nil}
use lib.Dec.{eqb}
use lib.ListN.{length, length-append}
use borrow.Author.Tests.{eqb-true, eq-eqb}
use Rattle.proxy_url_spec.specs.Reading.{reads, dies, Reader, common, word, one, consed, always, map, seq, many}
use Rattle.proxy_url_spec.proofs.Readers as R
use Rattle.proxy_url_spec.proofs.Readers.{Any, Found, Alive, Inhabited, Law, reads_not_dies, reads_value, reads_place, Image, law_map, Joined, law_seq, Or, Apart, law_or}

-- ---- a word

-- what a word and a text have in common stands at both their starts
pub record Common (w s : List ℕ) (n : ℕ) : Type 0 where
  pub c : List ℕ
  pub u : List ℕ
  pub r : List ℕ
  pub long : length c ≡ n
  pub of_word : w ≡ c ++ u
  pub of_text : s ≡ c ++ r

common_is : (w s : List ℕ) → Common w s (common w s)
unfolding common
common_is [] s = record { c = []; u = []; r = s; long = refl; of_word = refl; of_text = refl }
common_is (a ∷ w) [] = record { c = []; u = a ∷ w; r = []; long = refl; of_word = refl; of_text = refl }
common_is (a ∷ w) (b ∷ s) = go (eqb a b) refl (common_is w s)
  where
    go : (t : Bool) → eqb a b ≡ t → Common w s (common w s) → Common (a ∷ w) (b ∷ s) (cond t (suc (common w s)) 0)
    go true e x =
        let f = eqb-true a b e in
        record {
          c = a ∷ x.c;
          u = x.u;
          r = x.r;
          long = ap suc x.long;
          of_word = ap (λ (l : List ℕ). a ∷ l) x.of_word;
          of_text = let g = x.of_text in cc;
        }
    go false e x = record { c = []; u = a ∷ w; r = b ∷ s; long = refl; of_word = refl; of_text = refl }

common_whole : (w t : List ℕ) → common w (w ++ t) ≡ length w
unfolding common
common_whole [] t = refl
common_whole (a ∷ w) t = rw (eq-eqb a a refl) (ap suc (common_whole w t))

common_causal : (w p r t : List ℕ) → common w (p ++ r) < length p → common w (p ++ t) ≡ common w (p ++ r)
unfolding common
common_causal w [] r t h = absurd (omega arith)
common_causal [] (b ∷ p) r t h = refl
common_causal (a ∷ w) (b ∷ p) r t h = go (eqb a b) refl h (common_causal w p r t)
  where
    go : (x : Bool) → eqb a b ≡ x → cond x (suc (common w (p ++ r))) 0 < length (b ∷ p) → (common w (p ++ r) < length p → common w (p ++ t) ≡ common w (p ++ r))
        → cond x (suc (common w (p ++ t))) 0 ≡ cond x (suc (common w (p ++ r))) 0
    go true e g f = ap suc (f (omega arith))
    go false e g f = refl

-- this word, with this value
pub record Is {A : Type 0} (w : List ℕ) (v : A) (x : List ℕ) (u : A) : Type 0 where
  pub spelt : x ≡ w
  pub value : u ≡ v

none_left : (u : List ℕ) → length u ≡ 0 → u ≡ []
none_left [] h = refl
none_left (a ∷ u) h = absurd (omega arith)

module _ {A : Type 0} (w : List ℕ) (v : A) where
  word_sound : (s : List ℕ) (u : A) (n : ℕ) (b : Bool) → eqb (common w s) (length w) ≡ b → cond b (reads v (length w)) (dies (common w s)) ≡ reads u n
      → Found Any (Is w v) s u n
  word_sound s u n true q e =
      let c = common_is w s in
      let h = eqb-true (common w s) (length w) q in
      let l : length w ≡ length c.c + length c.u = ap length c.of_word ∙ length-append c.c c.u in
      let z : c.u ≡ [] = none_left c.u (let k = c.long in omega arith) in
      let eu : u ≡ v = sym (reads_value e) in
      let en : n ≡ length w = sym (reads_place e) in
      let ew : c.c ≡ w = sym (c.of_word ∙ rw z (append-nil c.c)) in
      record { w = w; t = c.r; split = c.of_text ∙ ap (λ (x : List ℕ). x ++ c.r) ew; long = en; word = record { spelt = refl; value = eu }; ok = tt }
  word_sound s u n false q e = absurd (reads_not_dies (sym e))

  word_alive : (s : List ℕ) (n : ℕ) (b : Bool) → eqb (common w s) (length w) ≡ b → cond b (reads v (length w)) (dies (common w s)) ≡ dies n → Alive (Is w v) s n
  word_alive s n true q e = absurd (reads_not_dies e)
  word_alive s n false q e =
      let c = common_is w s in
      let en : common w s ≡ n = cc in
      record { p = c.c; r = c.r; split = c.of_text; long = c.long ∙ en; t = c.u; v = v; word = record { spelt = sym c.of_word; value = refl } }

  word_causal : (p r t : List ℕ) (n : ℕ) (b : Bool) → eqb (common w (p ++ r)) (length w) ≡ b
      → cond b (reads v (length w)) (dies (common w (p ++ r))) ≡ dies n → n < length p
      → cond (eqb (common w (p ++ t)) (length w)) (reads v (length w)) (dies (common w (p ++ t))) ≡ dies n
  word_causal p r t n true q e h = absurd (reads_not_dies e)
  word_causal p r t n false q e h =
      let en : common w (p ++ r) ≡ n = cc in
      rw (common_causal w p r t (omega arith), q) e

  pub law_word : Law Any (Is w v) (word w v)
  unfolding word
  law_word =
      record {
        sound = λ s u n e. word_sound s u n (eqb (common w s) (length w)) refl e;
        complete = λ x t u i o. rw (i.spelt, i.value, common_whole w t, eq-eqb (length w) (length w) refl);
        alive = λ s n e. word_alive s n (eqb (common w s) (length w)) refl e;
        causal = λ p r t n e h. word_causal p r t n (eqb (common w (p ++ r)) (length w)) refl e h;
      }

-- ---- a byte that passes a test

pub record Passes {A : Type 0} (test : ℕ → Bool) (value : ℕ → A) (w : List ℕ) (u : A) : Type 0 where
  pub b : ℕ
  pub spelt : w ≡ b ∷ []
  pub passes : test b ≡ true
  pub is : u ≡ value b

module _ {A : Type 0} (test : ℕ → Bool) (value : ℕ → A) (b₀ : ℕ) (e₀ : test b₀ ≡ true) where
  one_sound_by : (b : ℕ) (s : List ℕ) (u : A) (n : ℕ) (x : Bool) → test b ≡ x → cond x (reads (value b) 1) (dies 0) ≡ reads u n → Found Any (Passes test value) (b ∷ s) u n
  one_sound_by b s u n true q e =
      let eu : u ≡ value b = sym (reads_value e) in
      let en : n ≡ 1 = sym (reads_place e) in
      record { w = b ∷ []; t = s; split = refl; long = en; word = record { b = b; spelt = refl; passes = q; is = eu }; ok = tt }
  one_sound_by b s u n false q e = absurd (reads_not_dies (sym e))

  one_sound : (s : List ℕ) (u : A) (n : ℕ) → one test value s ≡ reads u n → Found Any (Passes test value) s u n
  unfolding one
  one_sound [] u n e = absurd (reads_not_dies (sym e))
  one_sound (b ∷ s) u n e = one_sound_by b s u n (test b) refl e

  dead_first : (s : List ℕ) (n : ℕ) → 0 ≡ n → Alive (Passes test value) s n
  dead_first s n e = record { p = []; r = s; split = refl; long = e; t = b₀ ∷ []; v = value b₀; word = record { b = b₀; spelt = refl; passes = e₀; is = refl } }

  one_alive_by : (b : ℕ) (s : List ℕ) (n : ℕ) (x : Bool) → cond x (reads (value b) 1) (dies 0) ≡ dies n → Alive (Passes test value) (b ∷ s) n
  one_alive_by b s n true e = absurd (reads_not_dies e)
  one_alive_by b s n false e = dead_first (b ∷ s) n cc

  one_alive : (s : List ℕ) (n : ℕ) → one test value s ≡ dies n → Alive (Passes test value) s n
  unfolding one
  one_alive [] n e = dead_first [] n cc
  one_alive (b ∷ s) n e = one_alive_by b s n (test b) e

  one_causal : (p r t : List ℕ) (n : ℕ) → one test value (p ++ r) ≡ dies n → n < length p → one test value (p ++ t) ≡ dies n
  unfolding one
  one_causal [] r t n e h = absurd (omega arith)
  one_causal (b ∷ p) r t n e h = e

  one_complete : (w t : List ℕ) (u : A) → Passes test value w u → one test value (w ++ t) ≡ reads u (length w)
  unfolding one
  one_complete w t u x = rw (x.spelt, x.passes, x.is)

  pub law_one : Law Any (Passes test value) (one test value)
  law_one = record { sound = one_sound; complete = λ w t u x o. one_complete w t u x; alive = one_alive; causal = one_causal }

-- ---- at most so many of a field, and a mark

abbrev pub Then : {A B : Type 0} → (List ℕ → B → Type 0) → A → List ℕ → B → Type 0
Then X v = X

abbrev pub Many : (List ℕ → ℕ → Type 0) → ℕ → ℕ → List ℕ → List ℕ → Type 0
Many W mark zero = Is (mark ∷ []) []
Many W mark (suc k) = Or (Is (mark ∷ []) []) (Image consed (Joined W (Then (Many W mark k))))

module _ (W : List ℕ → ℕ → Type 0) (F : Reader ℕ) (mark : ℕ) (l : Law Any W F)
    (clear : (w t : List ℕ) (v : ℕ) → W w v → (r : List ℕ) → mark ∷ r ≡ w ++ t → ⊥) where
  pub none_of : (k : ℕ) → Inhabited (Many W mark k)
  none_of zero = record { w = mark ∷ []; v = []; word = record { spelt = refl; value = refl } }
  none_of (suc k) = record { w = mark ∷ []; v = []; word = R.one (record { spelt = refl; value = refl }) }

  pub many_apart : (X : List ℕ → List ℕ → Type 0) → Apart Any (Is (mark ∷ []) []) (Image consed (Joined W (Then X)))
  many_apart X w t v i o x r u y q e =
      let j = y.word in
      let f : mark ∷ t ≡ w ++ t = rw i.spelt in
      let g : x ++ r ≡ j.a ++ (j.b ++ r) = rw j.split (append_assoc j.a j.b r) in
      clear j.a (j.b ++ r) y.value.0 j.first t (f ∙ e ∙ g)

  pub law_many : (k : ℕ) → Law Any (Many W mark k) (many F mark k)
  unfolding many
  law_many zero = law_word (mark ∷ []) []
  law_many (suc k) =
      law_or Any (Is (mark ∷ []) []) (Image consed (Joined W (Then (Many W mark k)))) (word (mark ∷ []) []) (map consed (seq F (always (many F mark k))))
      (law_word (mark ∷ []) [])
      (law_map consed Any (Joined W (Then (Many W mark k))) (seq F (always (many F mark k)))
      (law_seq Any W F (Then (Many W mark k)) (always (many F mark k)) l (λ v. law_many k) (λ v. none_of k)))
      (many_apart (Many W mark k))

-- a row of words, one behind another
pub data Row (W : List ℕ → ℕ → Type 0) : List ℕ → List ℕ → Type 0 where
  end : Row W [] []
  next : {a s vs : List ℕ} {v : ℕ} → W a v → Row W s vs → Row W (a ++ s) (v ∷ vs)

-- at most so many of them, and the mark
pub record Marked (W : List ℕ → ℕ → Type 0) (mark k : ℕ) (w vs : List ℕ) : Type 0 where
  pub s : List ℕ
  pub spelt : w ≡ s ++ (mark ∷ [])
  pub row : Row W s vs
  pub few : length vs ≤ k

module _ (W : List ℕ → ℕ → Type 0) (mark : ℕ) where
  mark_only : {k : ℕ} {w vs : List ℕ} → Is (mark ∷ []) [] w vs → Marked W mark k w vs
  mark_only {k} {w} {vs} i = record { s = []; spelt = i.spelt; row = rw i.value end; few = rw i.value (omega arith) }

  one_more : {k : ℕ} {w vs : List ℕ} {t : ℕ × ℕ × List ℕ} {X : List ℕ → List ℕ → Type 0}
      → (j : Joined W (Then X) w t) → vs ≡ consed t → Marked W mark k j.b t.2 → Marked W mark (suc k) w vs
  one_more {k} {w} {vs} {t} j e m =
      record {
        s = j.a ++ m.s;
        spelt = j.split ∙ rw (m.spelt, append_assoc j.a m.s (mark ∷ []));
        row = rw e (next j.first m.row);
        few = rw e (let f = m.few in omega arith);
      }

  pub marked : (k : ℕ) {w vs : List ℕ} → Many W mark k w vs → Marked W mark k w vs
  marked zero i = mark_only i
  marked (suc k) (R.one i) = mark_only i
  marked (suc k) (R.other x) = one_more x.word x.is (marked k x.word.second)

  pub many_of : (k : ℕ) {s vs : List ℕ} → Row W s vs → length vs ≤ k → Many W mark k (s ++ (mark ∷ [])) vs
  many_of zero end h = record { spelt = refl; value = refl }
  many_of (suc k) end h = R.one (record { spelt = refl; value = refl })
  many_of zero (next x y) h = absurd (omega arith)
  many_of (suc k) (next {a} {s} {vs} {v} x y) h =
      R.other (record {
        value = (v, length a, vs);
        word = record { a = a; b = s ++ (mark ∷ []); split = append_assoc a s (mark ∷ []); long = refl; first = x; second = many_of k y (omega arith) };
        is = refl;
      })

  -- the field of a row and its mark
  pub law_marked : (F : Reader ℕ) → Law Any W F → ((w t : List ℕ) (v : ℕ) → W w v → (r : List ℕ) → mark ∷ r ≡ w ++ t → ⊥) → (k : ℕ)
      → Law Any (Marked W mark k) (many F mark k)
  law_marked F l clear k =
      R.law_as (λ w vs x. marked k x) (λ w vs x. subst (λ (z : List ℕ). Many W mark k z vs) (sym x.spelt) (many_of k x.row x.few)) (law_many W F mark l clear k)
