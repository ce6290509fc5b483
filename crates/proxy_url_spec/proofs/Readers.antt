-- F-9's readers: four laws of a field, and that readers made of others keep them.
use Prim.Native.Nat.{ℕ, ◌+◌, ◌≤◌, ◌<◌, max}
use native.Mathlib.Omega.{arith}
use mathlib.Core.Path.{◌≡◌, refl, sym, ap, subst, ◌∙◌}
use mathlib.Core.Logic.{◌⊎◌, inl, inr}
use mathlib.Core.Bool.{Bool, true, false}
use mathlib.Core.List.{List, [], ◌++◌, append_assoc}
use lib.ListN.{length, take, drop, length-append, length-drop, take-append-drop}
use lib.Seq.{take_at, drop_at, drop-append-le, take-append-le}
use lib.Dec.{leb}
use borrow.Author.Tests.{leb-true, leb-false}
use Rattle.proxy_url_spec.specs.Reading.{Read, reads, dies, Reader, mapped, map, behind, onward, seq, either, or}

-- what stands behind a word: anything, or nothing
abbrev pub Any : List ℕ → Type 0
Any t = Unit {0}

abbrev pub Nothing : List ℕ → Type 0
Nothing t = t ≡ []

module _ {A : Type 0} where
  -- a text begins with a word of this value and this length, and what may stand behind it
  pub record Found (Ok : List ℕ → Type 0) (W : List ℕ → A → Type 0) (s : List ℕ) (v : A) (n : ℕ) : Type 0 where
    pub w : List ℕ
    pub t : List ℕ
    pub split : s ≡ w ++ t
    pub long : n ≡ length w
    pub word : W w v
    pub ok : Ok t

  -- a beginning of this length has an ending that makes a word
  pub record Alive (W : List ℕ → A → Type 0) (s : List ℕ) (n : ℕ) : Type 0 where
    pub p : List ℕ
    pub r : List ℕ
    pub split : s ≡ p ++ r
    pub long : length p ≡ n
    pub t : List ℕ
    pub v : A
    pub word : W (p ++ t) v

  -- some word
  pub record Inhabited (W : List ℕ → A → Type 0) : Type 0 where
    pub w : List ℕ
    pub v : A
    pub word : W w v

  -- a reader reads the words: those that it reads are words, it reads each, where it dies the beginning goes on, and a byte further it
  -- dies whatever follows
  pub record Law (Ok : List ℕ → Type 0) (W : List ℕ → A → Type 0) (F : Reader A) : Type 0 where
    pub sound : (s : List ℕ) (v : A) (n : ℕ) → F s ≡ reads v n → Found Ok W s v n
    pub complete : (w t : List ℕ) (v : A) → W w v → Ok t → F (w ++ t) ≡ reads v (length w)
    pub alive : (s : List ℕ) (n : ℕ) → F s ≡ dies n → Alive W s n
    pub causal : (p r t : List ℕ) (n : ℕ) → F (p ++ r) ≡ dies n → n < length p → F (p ++ t) ≡ dies n

  pub reads_not_dies : {v : A} {m n : ℕ} → ◌≡◌ {A = Read A} (reads v m) (dies n) → ⊥
  reads_not_dies e = let z : ◌≡◌ {A = ℕ} 0 1 = cc in absurd (omega arith)

  pub reads_value : {u v : A} {m n : ℕ} → ◌≡◌ {A = Read A} (reads u m) (reads v n) → u ≡ v
  reads_value {u} {v} {m} {n} e = let p : ◌≡◌ {A = A × ℕ} (u, m) (v, n) = cc in ap (λ (x : A × ℕ). x.0) p

  pub reads_place : {u v : A} {m n : ℕ} → ◌≡◌ {A = Read A} (reads u m) (reads v n) → m ≡ n
  reads_place {u} {v} {m} {n} e = let p : ◌≡◌ {A = A × ℕ} (u, m) (v, n) = cc in ap (λ (x : A × ℕ). x.1) p

  -- a word is read as one value, whatever its length is
  pub one_value : {Ok : List ℕ → Type 0} {W : List ℕ → A → Type 0} {F : Reader A} → Law Ok W F → {s : List ℕ} {u v : A} → Ok [] → W s u → W s v → u ≡ v
  one_value l {s} {u} {v} o x y = reads_value (sym (l.complete s [] u x o) ∙ l.complete s [] v y o)

  -- a place is within the text
  pub reads_within : {Ok : List ℕ → Type 0} {W : List ℕ → A → Type 0} {F : Reader A} → Law Ok W F → {s : List ℕ} {v : A} {n : ℕ} → F s ≡ reads v n → n ≤ length s
  reads_within l {s} {v} {n} e =
      let x = l.sound s v n e in
      let h = x.long in
      let k = ap length x.split ∙ length-append x.w x.t in
      omega arith

  pub dies_within : {Ok : List ℕ → Type 0} {W : List ℕ → A → Type 0} {F : Reader A} → Law Ok W F → {s : List ℕ} {n : ℕ} → F s ≡ dies n → n ≤ length s
  dies_within l {s} {n} e =
      let x = l.alive s n e in
      let h = x.long in
      let k = ap length x.split ∙ length-append x.p x.r in
      omega arith

  -- by words that are the same
  pub law_as : {Ok : List ℕ → Type 0} {W X : List ℕ → A → Type 0} {F : Reader A} → ((w : List ℕ) (v : A) → W w v → X w v) → ((w : List ℕ) (v : A) → X w v → W w v)
      → Law Ok W F → Law Ok X F
  law_as to from l =
      record {
        sound = λ s v n e. let f = l.sound s v n e in record { w = f.w; t = f.t; split = f.split; long = f.long; word = to f.w v f.word; ok = f.ok };
        complete = λ w t v x o. l.complete w t v (from w v x) o;
        alive = λ s n e. let a = l.alive s n e in record { p = a.p; r = a.r; split = a.split; long = a.long; t = a.t; v = a.v; word = to (a.p ++ a.t) a.v a.word };
        causal = l.causal;
      }

-- ---- the value changed

pub record Image {A B : Type 0} (f : A → B) (W : List ℕ → A → Type 0) (w : List ℕ) (u : B) : Type 0 where
  pub value : A
  pub word : W w value
  pub is : u ≡ f value

pub some_image : {A B : Type 0} (f : A → B) {W : List ℕ → A → Type 0} → Inhabited W → Inhabited (Image f W)
some_image f x = record { w = x.w; v = f x.v; word = record { value = x.v; word = x.word; is = refl } }

module _ {A B : Type 0} (f : A → B) (Ok : List ℕ → Type 0) (W : List ℕ → A → Type 0) (F : Reader A) (l : Law Ok W F) where
  map_sound : (s : List ℕ) (u : B) (n : ℕ) (r : Read A) → F s ≡ r → mapped f r ≡ reads u n → Found Ok (Image f W) s u n
  map_sound s u n (reads v m) q e =
      let x = l.sound s v m q in
      let eu : u ≡ f v = sym (reads_value e) in
      let en : n ≡ m = sym (reads_place e) in
      record { w = x.w; t = x.t; split = x.split; long = en ∙ x.long; word = record { value = v; word = x.word; is = eu }; ok = x.ok }
  map_sound s u n (dies m) q e = absurd (reads_not_dies (sym e))

  map_alive : (s : List ℕ) (n : ℕ) (r : Read A) → F s ≡ r → mapped f r ≡ dies n → Alive (Image f W) s n
  map_alive s n (reads v m) q e = absurd (reads_not_dies e)
  map_alive s n (dies m) q e =
      let en : m ≡ n = cc in
      let x = l.alive s m q in
      record { p = x.p; r = x.r; split = x.split; long = x.long ∙ en; t = x.t; v = f x.v; word = record { value = x.v; word = x.word; is = refl } }

  map_causal : (p r t : List ℕ) (n : ℕ) (x : Read A) → F (p ++ r) ≡ x → mapped f x ≡ dies n → n < length p → mapped f (F (p ++ t)) ≡ dies n
  map_causal p r t n (reads v m) q e h = absurd (reads_not_dies e)
  map_causal p r t n (dies m) q e h = let en : m ≡ n = cc in rw (l.causal p r t m q (omega arith)) e

  pub law_map : Law Ok (Image f W) (map f F)
  unfolding map
  law_map =
      record {
        sound = λ s u n e. map_sound s u n (F s) refl e;
        complete = λ w t u x o. rw (l.complete w t x.value x.word o, x.is);
        alive = λ s n e. map_alive s n (F s) refl e;
        causal = λ p r t n e h. map_causal p r t n (F (p ++ r)) refl e h;
      }

-- ---- one behind another

pub record Joined {A B : Type 0} (W : List ℕ → A → Type 0) (X : A → List ℕ → B → Type 0) (w : List ℕ) (t : A × ℕ × B) : Type 0 where
  pub a : List ℕ
  pub b : List ℕ
  pub split : w ≡ a ++ b
  pub long : t.1 ≡ length a
  pub first : W a t.0
  pub second : X t.0 b t.2

pub some_joined : {A B : Type 0} {W : List ℕ → A → Type 0} {X : A → List ℕ → B → Type 0} → Inhabited W → ((v : A) → Inhabited (X v)) → Inhabited (Joined W X)
some_joined x y =
    let z = y x.v in
    record {
      w = x.w ++ z.w;
      v = (x.v, length x.w, z.v);
      word = record { a = x.w; b = z.w; split = refl; long = refl; first = x.word; second = z.word };
    }

module _ {A B : Type 0} (Ok : List ℕ → Type 0) (W : List ℕ → A → Type 0) (F : Reader A) (X : A → List ℕ → B → Type 0) (G : A → Reader B)
    (l : Law Any W F) (k : (v : A) → Law Ok (X v) (G v)) (some : (v : A) → Inhabited (X v)) where
  -- what the second reads stands behind what the first read
  rest_is : {s : List ℕ} {v : A} {n : ℕ} → (x : Found Any W s v n) → drop n s ≡ x.t
  rest_is {s} {v} {n} x = rw x.split (drop_at x.w x.t n (sym x.long))

  word_is : {s : List ℕ} {v : A} {n : ℕ} → (x : Found Any W s v n) → take n s ≡ x.w
  word_is {s} {v} {n} x = rw x.split (take_at x.w x.t n (sym x.long))

  seq_sound_by : (s : List ℕ) (t : A × ℕ × B) (n : ℕ) (v : A) (m : ℕ) → F s ≡ reads v m → (y : Read B) → G v (drop m s) ≡ y → behind v m y ≡ reads t n
      → Found Ok (Joined W X) s t n
  seq_sound_by s t n v m q (reads u i) g e =
      let x = l.sound s v m q in
      let y = (k v).sound (drop m s) u i g in
      let et : (v, m, u) ≡ t = reads_value e in
      let en : n ≡ m + i = sym (reads_place e) in
      record {
        w = x.w ++ y.w;
        t = y.t;
        split = x.split ∙ rw (sym (rest_is x) ∙ y.split, append_assoc x.w y.w y.t);
        long = rw (length-append x.w y.w) (let a = x.long in let b = y.long in omega arith);
        word = subst (λ (z : A × ℕ × B). Joined W X (x.w ++ y.w) z) et (record { a = x.w; b = y.w; split = refl; long = x.long; first = x.word; second = y.word });
        ok = y.ok;
      }
  seq_sound_by s t n v m q (dies i) g e = absurd (reads_not_dies (sym e))

  seq_sound : (s : List ℕ) (t : A × ℕ × B) (n : ℕ) (x : Read A) → F s ≡ x → onward x G s ≡ reads t n → Found Ok (Joined W X) s t n
  seq_sound s t n (reads v m) q e = seq_sound_by s t n v m q (G v (drop m s)) refl e
  seq_sound s t n (dies m) q e = absurd (reads_not_dies (sym e))

  seq_complete : (w t : List ℕ) (v : A × ℕ × B) → Joined W X w v → Ok t → onward (F (w ++ t)) G (w ++ t) ≡ reads v (length w)
  seq_complete w t v j o =
      let e : w ++ t ≡ j.a ++ (j.b ++ t) = rw j.split (append_assoc j.a j.b t) in
      let f = l.complete j.a (j.b ++ t) v.0 j.first tt in
      let d = drop_at j.a (j.b ++ t) (length j.a) refl in
      let g = (k v.0).complete j.b t v.2 j.second o in
      let n : length w ≡ length j.a + length j.b = ap length j.split ∙ length-append j.a j.b in
      rw (e, f, d, g, n, ← j.long)

  seq_alive_by : (s : List ℕ) (n : ℕ) (v : A) (m : ℕ) → F s ≡ reads v m → (y : Read B) → G v (drop m s) ≡ y → behind v m y ≡ dies n → Alive (Joined W X) s n
  seq_alive_by s n v m q (reads u i) g e = absurd (reads_not_dies e)
  seq_alive_by s n v m q (dies i) g e =
      let x = l.sound s v m q in
      let y = (k v).alive (drop m s) i g in
      let en : m + i ≡ n = cc in
      record {
        p = x.w ++ y.p;
        r = y.r;
        split = x.split ∙ rw (sym (rest_is x) ∙ y.split, append_assoc x.w y.p y.r);
        long = rw (length-append x.w y.p) (let a = x.long in let b = y.long in omega arith);
        t = y.t;
        v = (v, m, y.v);
        word = record { a = x.w; b = y.p ++ y.t; split = append_assoc x.w y.p y.t; long = x.long; first = x.word; second = y.word };
      }

  seq_alive : (s : List ℕ) (n : ℕ) (x : Read A) → F s ≡ x → onward x G s ≡ dies n → Alive (Joined W X) s n
  seq_alive s n (reads v m) q e = seq_alive_by s n v m q (G v (drop m s)) refl e
  seq_alive s n (dies m) q e =
      let x = l.alive s m q in
      let y = some x.v in
      let en : m ≡ n = cc in
      record {
        p = x.p;
        r = x.r;
        split = x.split;
        long = x.long ∙ en;
        t = x.t ++ y.w;
        v = (x.v, length (x.p ++ x.t), y.v);
        word = record { a = x.p ++ x.t; b = y.w; split = sym (append_assoc x.p x.t y.w); long = refl; first = x.word; second = y.word };
      }

  seq_causal_by : (p r t : List ℕ) (n : ℕ) (v : A) (m : ℕ) → F (p ++ r) ≡ reads v m → (y : Read B) → G v (drop m (p ++ r)) ≡ y → behind v m y ≡ dies n
      → n < length p → onward (F (p ++ t)) G (p ++ t) ≡ dies n
  seq_causal_by p r t n v m q (reads u i) g e h = absurd (reads_not_dies e)
  seq_causal_by p r t n v m q (dies i) g e h =
      let x = l.sound (p ++ r) v m q in
      let en : m + i ≡ n = cc in
      let c : m ≤ length p = omega arith in
      let w : take m p ≡ x.w = sym (take-append-le m p r c) ∙ word_is x in
      let pt : p ++ t ≡ x.w ++ (drop m p ++ t) = rw (← w, ← append_assoc (take m p) (drop m p) t, take-append-drop m p) in
      let f : F (p ++ t) ≡ reads v m = rw pt (l.complete x.w (drop m p ++ t) v x.word tt ∙ ap (λ (j : ℕ). reads v j) (sym x.long)) in
      let g' : G v (drop m p ++ r) ≡ dies i = rw (drop-append-le m p r c) at g in
      let b : i < length (drop m p) = rw (length-drop m p) (omega arith) in
      rw (f, drop-append-le m p t c, (k v).causal (drop m p) r t i g' b) e

  seq_causal : (p r t : List ℕ) (n : ℕ) (x : Read A) → F (p ++ r) ≡ x → onward x G (p ++ r) ≡ dies n → n < length p → onward (F (p ++ t)) G (p ++ t) ≡ dies n
  seq_causal p r t n (reads v m) q e h = seq_causal_by p r t n v m q (G v (drop m (p ++ r))) refl e h
  seq_causal p r t n (dies m) q e h = let en : m ≡ n = cc in rw (l.causal p r t m q (omega arith)) e

  pub law_seq : Law Ok (Joined W X) (seq F G)
  unfolding seq
  law_seq =
      record {
        sound = λ s t n e. seq_sound s t n (F s) refl e;
        complete = seq_complete;
        alive = λ s n e. seq_alive s n (F s) refl e;
        causal = λ p r t n e h. seq_causal p r t n (F (p ++ r)) refl e h;
      }

-- ---- one or another

pub data Or {A : Type 0} (W X : List ℕ → A → Type 0) (w : List ℕ) (v : A) : Type 0 where
  one : W w v → Or W X w v
  other : X w v → Or W X w v

-- no text begins with a word of both
abbrev pub Apart : {A : Type 0} → (List ℕ → Type 0) → (List ℕ → A → Type 0) → (List ℕ → A → Type 0) → Type 0
Apart {A} Ok W X = (w t : List ℕ) (v : A) → W w v → Ok t → (x r : List ℕ) (u : A) → X x u → Ok r → w ++ t ≡ x ++ r → ⊥

max_is : (m i n : ℕ) → n ≡ max m i → (n ≡ m) ⊎ (n ≡ i)
max_is m i n e = go (leb i m) refl
  where
    go : (b : Bool) → leb i m ≡ b → (n ≡ m) ⊎ (n ≡ i)
    go true h = let g = leb-true i m h in inl (omega arith)
    go false h = let g = leb-false i m h in inr (omega arith)

module _ {A : Type 0} (Ok : List ℕ → Type 0) (W X : List ℕ → A → Type 0) (F G : Reader A) (l : Law Ok W F) (k : Law Ok X G) (apart : Apart Ok W X) where
  or_sound : (s : List ℕ) (v : A) (n : ℕ) (x : Read A) → F s ≡ x → (y : Read A) → G s ≡ y → either x y ≡ reads v n → Found Ok (Or W X) s v n
  or_sound s v n (reads u m) q y g e =
      let f = l.sound s v n (q ∙ e) in
      record { w = f.w; t = f.t; split = f.split; long = f.long; word = one f.word; ok = f.ok }
  or_sound s v n (dies m) q (reads u i) g e =
      let f = k.sound s v n (g ∙ e) in
      record { w = f.w; t = f.t; split = f.split; long = f.long; word = other f.word; ok = f.ok }
  or_sound s v n (dies m) q (dies i) g e = absurd (reads_not_dies (sym e))

  other_complete : (w t : List ℕ) (v : A) → X w v → Ok t → (x : Read A) → F (w ++ t) ≡ x → either x (reads v (length w)) ≡ reads v (length w)
  other_complete w t v a o (reads u m) q = let f = l.sound (w ++ t) u m q in absurd (apart f.w f.t u f.word f.ok w t v a o (sym f.split))
  other_complete w t v a o (dies m) q = refl

  or_complete : (w t : List ℕ) (v : A) → Or W X w v → Ok t → either (F (w ++ t)) (G (w ++ t)) ≡ reads v (length w)
  or_complete w t v (one a) o = rw (l.complete w t v a o)
  or_complete w t v (other a) o = rw (k.complete w t v a o) (other_complete w t v a o (F (w ++ t)) refl)

  -- the later place is one of the two
  or_alive_by : (s : List ℕ) (m i : ℕ) → F s ≡ dies m → G s ≡ dies i → (n : ℕ) → n ≡ max m i → (n ≡ m) ⊎ (n ≡ i) → Alive (Or W X) s n
  or_alive_by s m i q g n e (inl h) =
      let a = l.alive s m q in
      record { p = a.p; r = a.r; split = a.split; long = a.long ∙ sym h; t = a.t; v = a.v; word = one a.word }
  or_alive_by s m i q g n e (inr h) =
      let a = k.alive s i g in
      record { p = a.p; r = a.r; split = a.split; long = a.long ∙ sym h; t = a.t; v = a.v; word = other a.word }

  or_alive : (s : List ℕ) (n : ℕ) (x : Read A) → F s ≡ x → (y : Read A) → G s ≡ y → either x y ≡ dies n → Alive (Or W X) s n
  or_alive s n (reads u m) q y g e = absurd (reads_not_dies e)
  or_alive s n (dies m) q (reads u i) g e = absurd (reads_not_dies e)
  or_alive s n (dies m) q (dies i) g e = let en : n ≡ max m i = cc in or_alive_by s m i q g n en (max_is m i n en)

  or_causal : (p r t : List ℕ) (n : ℕ) (x : Read A) → F (p ++ r) ≡ x → (y : Read A) → G (p ++ r) ≡ y → either x y ≡ dies n → n < length p
      → either (F (p ++ t)) (G (p ++ t)) ≡ dies n
  or_causal p r t n (reads u m) q y g e h = absurd (reads_not_dies e)
  or_causal p r t n (dies m) q (reads u i) g e h = absurd (reads_not_dies e)
  or_causal p r t n (dies m) q (dies i) g e h =
      let en : max m i ≡ n = cc in
      rw (l.causal p r t m q (omega arith), k.causal p r t i g (omega arith)) e

  pub law_or : Law Ok (Or W X) (or F G)
  unfolding or
  law_or =
      record {
        sound = λ s v n e. or_sound s v n (F s) refl (G s) refl e;
        complete = or_complete;
        alive = λ s n e. or_alive s n (F s) refl (G s) refl e;
        causal = λ p r t n e h. or_causal p r t n (F (p ++ r)) refl (G (p ++ r)) refl e h;
      }
