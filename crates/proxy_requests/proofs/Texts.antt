-- A text up to a 00 is told by the bytes ahead of its first 00, and these by a loop.
use mathlib.Core.Path.{◌≡◌, refl, sym, ap, ◌∙◌}
use mathlib.Core.Bool.{Bool, true, false, cond}
use mathlib.Core.List.{List, [], ◌∷◌}
use Prim.Native.Nat.{ℕ, zero, suc, ◌+◌, ◌-◌, ◌≤◌, ◌<◌, min}
use native.Mathlib.Numerals.{add-one}
use native.Mathlib.Omega.{arith}
use lib.ListN.{length, drop, drop_of_length-le}
use lib.Seq.{drop-cons}
use lib.Dec.{leb, eqb, leb-zero, leb-suc-zero, leb-suc-suc}
use borrow.Author.Tests.{le-leb, lt-leb, eq-eqb, ne_eqb, leb-true, leb-false}
use Rattle.std.specs.List.{slice_get}
use Rattle.std.specs.Prelude.{Some, None}
use Rattle.std.proofs.lemmas.Option.{none-some, slice_get_within, get_or_from_slice_get}
use Rattle.protocol.specs.Bytes.{byte}
use Rattle.protocol.specs.declared.SocksError.{SocksError}
use Rattle.protocol.specs.declared.SocksError.TheVariants.{Malformed}
use Rattle.proxy_spec.specs.Reads.{Seen, short, wrong, unknown, whole, text_in}
use Rattle.proxy_spec.specs.Side.{read_text, read_name}
use Rattle.talk.specs.Decision.{Decision, undecided, decided, good, bad}
use Rattle.proxy_requests.specs.Runs.{run_of, read_within}

-- ---- a test of a byte, which the code has as v

module _ (k : ℕ) {v b : ℕ} (e : v ≡ b) where
  pub is : v ≡ k → eqb b k ≡ true
  is t = eq-eqb b k (sym e ∙ t)

  pub is_not : (v ≡ k → ⊥) → eqb b k ≡ false
  is_not t = ne_eqb b k (λ q. t (e ∙ q))

-- ---- the loop: behind i bytes of the run, the rest of the run is ahead

run_none : (most : ℕ) → run_of most [] ≡ 0
unfolding run_of
run_none zero = refl
run_none (suc most) = refl

run_stops : (most b : ℕ) (bs : List ℕ) → b ≡ 0x00 → run_of most (b ∷ bs) ≡ 0
unfolding run_of
run_stops zero b bs e = refl
run_stops (suc most) b bs e = rw (eq-eqb b 0x00 e)

run_goes : (most b : ℕ) (bs : List ℕ) → (b ≡ 0x00 → ⊥) → run_of (suc most) (b ∷ bs) ≡ suc (run_of most bs)
unfolding run_of
run_goes most b bs e = rw (ne_eqb b 0x00 e)

run_all : (bs : List ℕ) → run_of 0 bs ≡ 0
unfolding run_of
run_all bs = refl

abbrev pub Goes : ℕ → List ℕ → ℕ → Type 0
Goes most bs i = run_of most bs ≡ i + run_of (most - i) (drop i bs)

module _ (most : ℕ) (bs : List ℕ) where
  pub goes_first : Goes most bs 0
  goes_first = let z : most - 0 ≡ most = omega arith in rw z (omega arith)

  module _ (i : ℕ) (inv : Goes most bs i) where
    pub goes_on : i < length bs → i < most → (byte bs i ≡ 0x00 → ⊥) → Goes most bs (i + 1)
    goes_on k l n =
        let z : most - i ≡ suc (most - (i + 1)) = omega arith in
        let d = drop-cons bs i 0 k in
        let e : run_of (most - i) (drop i bs) ≡ suc (run_of (most - (i + 1)) (drop (i + 1) bs)) = rw (z, d, add-one i) (run_goes (most - suc i) (byte bs i) (drop (suc i) bs) n) in
        omega arith

    pub stops : i < length bs → byte bs i ≡ 0x00 → i ≡ run_of most bs
    stops k n =
        let e : run_of (most - i) (drop i bs) ≡ 0 = rw (drop-cons bs i 0 k) (run_stops (most - i) (byte bs i) (drop (suc i) bs) n) in
        omega arith

    pub ends : min (length bs) most ≤ i → i ≡ run_of most bs
    ends k = go (leb most i) refl
      where
        go : (b : Bool) → leb most i ≡ b → i ≡ run_of most bs
        go true t =
            let l = leb-true most i t in
            let z : most - i ≡ 0 = omega arith in
            let e : run_of (most - i) (drop i bs) ≡ 0 = rw z (run_all (drop i bs)) in
            omega arith
        go false t =
            let l = leb-false most i t in
            let e : run_of (most - i) (drop i bs) ≡ 0 = rw (drop_of_length-le bs {i = i} (omega arith)) (run_none (most - i)) in
            omega arith

-- ---- the text

-- one byte further on
abbrev step : Seen ℕ → Seen ℕ
step short = short
step (wrong n) = wrong (suc n)
step (unknown n) = unknown (suc n)
step (whole n m) = whole (suc n) (suc m)

text_more : (most b : ℕ) (bs : List ℕ) → text_in (suc most) (b ∷ bs) ≡ cond (eqb b 0x00) (whole 1 0) (step (text_in most bs))
unfolding text_in
text_more most b bs = go (text_in most bs) refl
  where
    go : (d : Seen ℕ) → text_in most bs ≡ d → text_in (suc most) (b ∷ bs) ≡ cond (eqb b 0x00) (whole 1 0) (step (text_in most bs))
    go short q = rw q
    go (wrong n) q = rw q
    go (unknown n) q = rw q
    go (whole n m) q = rw q

-- at the byte behind the run, once it is there
abbrev seen_at : List ℕ → ℕ → Seen ℕ
seen_at bs n = cond (leb (length bs) n) short (cond (eqb (byte bs n) 0x00) (whole (suc n) n) (wrong (suc n)))

seen_step : (b : ℕ) (bs : List ℕ) (n : ℕ) → step (seen_at bs n) ≡ seen_at (b ∷ bs) (suc n)
seen_step b bs n = rw (leb-suc-suc (length bs) n) (go (leb (length bs) n) (eqb (byte bs n) 0x00))
  where
    go : (x y : Bool) → step (cond x short (cond y (whole (suc n) n) (wrong (suc n)))) ≡ cond x short (cond y (whole (suc (suc n)) (suc n)) (wrong (suc (suc n))))
    go true y = refl
    go false true = refl
    go false false = refl

text_run : (most : ℕ) (bs : List ℕ) → text_in most bs ≡ seen_at bs (run_of most bs)
unfolding text_in run_of
text_run zero [] = refl
text_run (suc most) [] = refl
text_run zero (b ∷ bs) = rw (leb-suc-zero (length bs))
text_run (suc most) (b ∷ bs) = text_more most b bs ∙ go (text_run most bs) (eqb b 0x00) refl
  where
    go : text_in most bs ≡ seen_at bs (run_of most bs) → (x : Bool) → eqb b 0x00 ≡ x → cond x (whole 1 0) (step (text_in most bs)) ≡ seen_at (b ∷ bs) (cond x 0 (suc (run_of most bs)))
    go q true e = rw (leb-suc-zero (length bs), e)
    go q false e = ap step q ∙ seen_step b bs (run_of most bs)

-- a text as it is read behind a run of n bytes
module _ (fewest most : ℕ) (bs : List ℕ) (n : ℕ) (q : n ≡ run_of most bs) where
  seen : text_in most bs ≡ seen_at bs n
  seen = text_run most bs ∙ ap (seen_at bs) (sym q)

  pub text_late : slice_get bs n ≡ None → undecided ≡ read_within fewest (text_in most bs)
  text_late e = rw (seen, le-leb (length bs) n (past bs n e))
    where
      past : (bs : List ℕ) (n : ℕ) → slice_get bs n ≡ None → length bs ≤ n
      past [] n e = omega arith
      past (b ∷ bs) zero e = absurd (none-some b (sym e))
      past (b ∷ bs) (suc n) e = let h = past bs n e in omega arith

  module _ (b : ℕ) (g : slice_get bs n ≡ Some b) where
    k : n < length bs
    k = slice_get_within bs n b g

    stands : byte bs n ≡ b
    stands = get_or_from_slice_get bs n b 0 g

    pub text_long : (b ≡ 0x00 → ⊥) → decided (n + 1) (bad Malformed) ≡ read_within fewest (text_in most bs)
    text_long e = rw (seen, lt-leb (length bs) n k, is_not 0x00 (sym stands) e, add-one n)

    pub text_few : b ≡ 0x00 → n < fewest → decided (n + 1) (bad Malformed) ≡ read_within fewest (text_in most bs)
    text_few e l = rw (seen, lt-leb (length bs) n k, is 0x00 (sym stands) e, lt-leb fewest n l, add-one n)

    pub text_whole : b ≡ 0x00 → fewest ≤ n → decided (n + 1) good ≡ read_within fewest (text_in most bs)
    text_whole e l = rw (seen, lt-leb (length bs) n k, is 0x00 (sym stands) e, le-leb fewest n l, add-one n)

-- ---- a user id, and a name, which has a byte

pub as_text : (seen : Seen ℕ) {r : Decision SocksError} → r ≡ read_within 0 seen → r ≡ read_text seen
as_text short e = e
as_text (wrong n) e = e
as_text (unknown n) e = e
as_text (whole n m) e = rw (leb-zero m) at e

pub as_name : (seen : Seen ℕ) {r : Decision SocksError} → r ≡ read_within 1 seen → r ≡ read_name seen
as_name short e = e
as_name (wrong n) e = e
as_name (unknown n) e = e
as_name (whole n zero) e = e
as_name (whole n (suc m)) e = rw (leb-suc-suc 0 m, leb-zero m) at e
