-- F-3: bytes that show nothing yet can still become a request: no reader waits past the byte that shows that they cannot.
use Prim.Native.Nat.{ℕ, zero, suc, ◌+◌, ◌≤◌, zero-le}
use native.Mathlib.Omega.{arith}
use mathlib.Core.Path.{◌≡◌, refl, ap, sym, subst, ◌∙◌}
use mathlib.Core.Bool.{Bool, true, false, cond}
use mathlib.Core.List.{List, [], ◌∷◌, ◌++◌}
use lib.ListN.{length, replicate, length-append, length-replicate, get_or-append}
use lib.Seq.{get_or_at}
use lib.Dec.{leb, eqb, lit≤}
use borrow.Author.Tests.{leb-true, leb-false, eqb-true}
use Rattle.protocol.specs.Bytes.{Bytes, byte}
use Rattle.protocol.specs.Bound.{Endpoint}
use Rattle.proxy_spec.specs.Reads.{Seen, short, unknown, whole, from, held, greeting_in, password_at, login_in, target_in, connect_in}
use Rattle.proxy_spec.proofs.Seen.{from_yes}
use Rattle.proxy_spec.proofs.Words.{greeting_whole, login_whole, connect_head, four_whole, six_whole, named_whole}

abbrev pub Whole : {A : Type 0} → (List ℕ → Seen A) → List ℕ → Type 0
Whole {A} R bs = (n : ℕ) × (a : A) × (R bs ≡ whole n a)

-- some more bytes make it whole
abbrev pub Open : {A : Type 0} → (List ℕ → Seen A) → List ℕ → Type 0
Open R bs = (more : List ℕ) × Bytes more × Whole R (bs ++ more)

-- ---- zeros behind

zeros_byte : (k i : ℕ) → byte (replicate k 0) i ≡ 0
zeros_byte zero i = refl
zeros_byte (suc k) zero = refl
zeros_byte (suc k) (suc i) = zeros_byte k i

pub padded_byte : (bs : List ℕ) (k i : ℕ) → byte (bs ++ replicate k 0) i ≡ byte bs i
padded_byte [] k i = zeros_byte k i
padded_byte (b ∷ bs) k zero = refl
padded_byte (b ∷ bs) k (suc i) = padded_byte bs k i

pub padded_long : (bs : List ℕ) (k : ℕ) → length (bs ++ replicate k 0) ≡ length bs + k
padded_long bs k = omega (arith, length-append bs (replicate k 0), length-replicate {A = ℕ} k 0)

pub zeros : (k : ℕ) → Bytes (replicate k 0)
zeros k i = subst (λ (b : ℕ). b ≤ 255) (sym (zeros_byte k i)) zero-le

pub bytes_then : (b : ℕ) (bs : List ℕ) → b ≤ 255 → Bytes bs → Bytes (b ∷ bs)
bytes_then b bs h y zero = h
bytes_then b bs h y (suc i) = y i

-- ---- what a test that led to nothing yet has said

module _ {A : Type 0} where
  pub past : (n : ℕ) (bs : List ℕ) (d : Seen A) → n ≤ length bs → from n bs d ≡ short → d ≡ short
  past n bs d h q = sym (from_yes n bs d h) ∙ q

  pub passed : (b : Bool) (n : ℕ) (d : Seen A) → held b n d ≡ short → (b ≡ true) × (d ≡ short)
  passed true n d q = (refl, q)
  passed false n d q = let z : ◌≡◌ {A = ℕ} 0 1 = cc in absurd (omega arith)

pub greeting_open : (bs : List ℕ) → greeting_in bs ≡ short → Open greeting_in bs
unfolding greeting_in
greeting_open [] q = (5 ∷ 1 ∷ replicate 1 0, bytes_then 5 (1 ∷ replicate 1 0) (lit≤ tt) (bytes_then 1 (replicate 1 0) (lit≤ tt) (zeros 1)), (_, _, greeting_whole (5 ∷ 1 ∷ replicate 1 0) refl (lit≤ tt) (lit≤ tt)))
greeting_open (a ∷ []) q =
    let b = passed (eqb a 0x05) 1 _ (past 1 (a ∷ []) _ (lit≤ tt) q) in
    (1 ∷ replicate 1 0, bytes_then 1 (replicate 1 0) (lit≤ tt) (zeros 1), (_, _, greeting_whole (a ∷ 1 ∷ replicate 1 0) (eqb-true a 5 b.0) (lit≤ tt) (lit≤ tt)))
greeting_open (a ∷ n ∷ l) q =
    let b = passed (eqb a 0x05) 1 _ (past 1 (a ∷ n ∷ l) _ (omega arith) q) in
    let c = passed (leb 1 n) 2 _ (past 2 (a ∷ n ∷ l) _ (omega arith) b.1) in
    (replicate n 0, zeros n, (_, _, greeting_whole (a ∷ n ∷ (l ++ replicate n 0)) (eqb-true a 5 b.0) (leb-true 1 n c.0) (omega (arith, padded_long l n))))

login_pads : (bs : List ℕ) → byte bs 0 ≡ 0x01 → Open login_in bs
login_pads bs e =
    let k = password_at bs + 1 + byte bs (password_at bs) in
    let cs = bs ++ replicate k 0 in
    let p : password_at cs ≡ password_at bs = ap (λ (z : ℕ). 2 + z) (padded_byte bs k 1) in
    let q : byte cs (password_at cs) ≡ byte bs (password_at bs) = ap (byte cs) p ∙ padded_byte bs k (password_at bs) in
    (replicate k 0, zeros k, (_, _, login_whole cs (padded_byte bs k 0 ∙ e) (omega (arith, p, q, padded_long bs k))))

pub login_open : (bs : List ℕ) → login_in bs ≡ short → Open login_in bs
unfolding login_in
login_open [] q = (1 ∷ replicate 2 0, bytes_then 1 (replicate 2 0) (lit≤ tt) (zeros 2), (_, _, login_whole (1 ∷ replicate 2 0) refl (lit≤ tt)))
login_open (a ∷ l) q = login_pads (a ∷ l) (eqb-true a 1 (passed (eqb a 0x01) 1 _ (past 1 (a ∷ l) _ (omega arith) q)).0)

-- ---- the connect request

four_ends : (bs : List ℕ) → byte bs 0 ≡ 0x05 → byte bs 2 ≡ 0x00 → byte bs 3 ≡ 0x01 → 10 ≤ length bs → Whole connect_in bs
four_ends bs e f g h = (_, _, connect_head bs e f (omega arith) ∙ four_whole (byte bs 1) bs g h)

six_ends : (bs : List ℕ) → byte bs 0 ≡ 0x05 → byte bs 2 ≡ 0x00 → byte bs 3 ≡ 0x04 → 22 ≤ length bs → Whole connect_in bs
six_ends bs e f g h = (_, _, connect_head bs e f (omega arith) ∙ six_whole (byte bs 1) bs g h)

name_ends : (bs : List ℕ) → byte bs 0 ≡ 0x05 → byte bs 2 ≡ 0x00 → byte bs 3 ≡ 0x03 → 1 ≤ byte bs 4 → 7 + byte bs 4 ≤ length bs → Whole connect_in bs
name_ends bs e f g k h = (_, _, connect_head bs e f (omega arith) ∙ named_whole (byte bs 1) bs g k h)

module _ (bs : List ℕ) (h : 4 ≤ length bs) (e : byte bs 0 ≡ 0x05) (f : byte bs 2 ≡ 0x00) where
  open4 : byte bs 3 ≡ 0x01 → Open connect_in bs
  open4 g = (replicate 10 0, zeros 10, four_ends (bs ++ replicate 10 0) (padded_byte bs 10 0 ∙ e) (padded_byte bs 10 2 ∙ f) (padded_byte bs 10 3 ∙ g) (omega (arith, padded_long bs 10)))

  open6 : byte bs 3 ≡ 0x04 → Open connect_in bs
  open6 g = (replicate 22 0, zeros 22, six_ends (bs ++ replicate 22 0) (padded_byte bs 22 0 ∙ e) (padded_byte bs 22 2 ∙ f) (padded_byte bs 22 3 ∙ g) (omega (arith, padded_long bs 22)))

  open_name : byte bs 3 ≡ 0x03 → 1 ≤ byte bs 4 → Open connect_in bs
  open_name g k =
      let n = 7 + byte bs 4 in
      let b = padded_byte bs n 4 in
      (replicate n 0, zeros n, name_ends (bs ++ replicate n 0) (padded_byte bs n 0 ∙ e) (padded_byte bs n 2 ∙ f) (padded_byte bs n 3 ∙ g) (omega arith) (omega (arith, padded_long bs n)))

  open_count : byte bs 3 ≡ 0x03 → length bs ≡ 4 → Open connect_in bs
  open_count g l =
      let m : List ℕ = 1 ∷ replicate 3 0 in
      let b : byte (bs ++ m) 4 ≡ 1 = get_or_at bs 1 (replicate 3 0) 0 4 l in (
        m,
        bytes_then 1 (replicate 3 0) (lit≤ tt) (zeros 3),
        name_ends (bs ++ m) (get_or-append bs m 0 0 (omega arith) ∙ e) (get_or-append bs m 0 2 (omega arith) ∙ f) (get_or-append bs m 0 3 (omega arith) ∙ g) (omega arith) (omega (arith, length-append bs m, length-replicate {A = ℕ} 3 0)),
      )

  name_open : byte bs 3 ≡ 0x03 → (d : Seen (ℕ × Endpoint)) → from 5 bs (held (leb 1 (byte bs 4)) 5 d) ≡ short → Open connect_in bs
  name_open g d q = go (leb 5 (length bs)) refl q
    where
      go : (x : Bool) → leb 5 (length bs) ≡ x → cond x (held (leb 1 (byte bs 4)) 5 d) short ≡ short → Open connect_in bs
      go true y r = open_name g (leb-true 1 (byte bs 4) (passed (leb 1 (byte bs 4)) 5 d r).0)
      go false y r = let l = leb-false 5 (length bs) y in open_count g (omega arith)

  target_open : target_in (byte bs 1) bs ≡ short → Open connect_in bs
  unfolding target_in
  target_open q = go (eqb (byte bs 3) 0x01) refl _ (eqb (byte bs 3) 0x04) refl _ (eqb (byte bs 3) 0x03) refl _ q
    where
      go : (x : Bool) → eqb (byte bs 3) 0x01 ≡ x → (d : Seen (ℕ × Endpoint)) → (y : Bool) → eqb (byte bs 3) 0x04 ≡ y → (d' : Seen (ℕ × Endpoint)) → (z : Bool) → eqb (byte bs 3) 0x03 ≡ z
          → (d'' : Seen (ℕ × Endpoint)) → cond x d (cond y d' (cond z (from 5 bs (held (leb 1 (byte bs 4)) 5 d'')) (unknown 4))) ≡ short → Open connect_in bs
      go true a d y b d' z c d'' r = open4 (eqb-true (byte bs 3) 1 a)
      go false a d true b d' z c d'' r = open6 (eqb-true (byte bs 3) 4 b)
      go false a d false b d' true c d'' r = name_open (eqb-true (byte bs 3) 3 c) d'' r
      go false a d false b d' false c d'' r = let z : ◌≡◌ {A = ℕ} 0 1 = cc in absurd (omega arith)

type_bytes : Bytes (0x01 ∷ replicate 6 0)
type_bytes = bytes_then 1 (replicate 6 0) (lit≤ tt) (zeros 6)

rest_bytes : Bytes (0x00 ∷ 0x01 ∷ replicate 6 0)
rest_bytes = bytes_then 0 (1 ∷ replicate 6 0) (lit≤ tt) type_bytes

more_bytes : Bytes (0x01 ∷ 0x00 ∷ 0x01 ∷ replicate 6 0)
more_bytes = bytes_then 1 (0 ∷ 1 ∷ replicate 6 0) (lit≤ tt) rest_bytes

pub connect_open : (bs : List ℕ) → connect_in bs ≡ short → Open connect_in bs
unfolding connect_in
connect_open [] q = (5 ∷ 1 ∷ 0 ∷ 1 ∷ replicate 6 0, bytes_then 5 (1 ∷ 0 ∷ 1 ∷ replicate 6 0) (lit≤ tt) more_bytes, four_ends (5 ∷ 1 ∷ 0 ∷ 1 ∷ replicate 6 0) refl refl refl (lit≤ tt))
connect_open (a ∷ []) q =
    let b = passed (eqb a 0x05) 1 _ (past 1 (a ∷ []) _ (lit≤ tt) q) in
    (1 ∷ 0 ∷ 1 ∷ replicate 6 0, more_bytes, four_ends (a ∷ 1 ∷ 0 ∷ 1 ∷ replicate 6 0) (eqb-true a 5 b.0) refl refl (lit≤ tt))
connect_open (a ∷ c ∷ []) q =
    let b = passed (eqb a 0x05) 1 _ (past 1 (a ∷ c ∷ []) _ (lit≤ tt) q) in
    (0 ∷ 1 ∷ replicate 6 0, rest_bytes, four_ends (a ∷ c ∷ 0 ∷ 1 ∷ replicate 6 0) (eqb-true a 5 b.0) refl refl (lit≤ tt))
connect_open (a ∷ c ∷ r ∷ []) q =
    let b = passed (eqb a 0x05) 1 _ (past 1 (a ∷ c ∷ r ∷ []) _ (lit≤ tt) q) in
    let d = passed (eqb r 0x00) 3 _ (past 3 (a ∷ c ∷ r ∷ []) _ (lit≤ tt) b.1) in
    (1 ∷ replicate 6 0, type_bytes, four_ends (a ∷ c ∷ r ∷ 1 ∷ replicate 6 0) (eqb-true a 5 b.0) (eqb-true r 0 d.0) refl (lit≤ tt))
connect_open (a ∷ c ∷ r ∷ t ∷ l) q =
    let bs : List ℕ = a ∷ c ∷ r ∷ t ∷ l in
    let b = passed (eqb a 0x05) 1 _ (past 1 bs _ (omega arith) q) in
    let d = passed (eqb r 0x00) 3 _ (past 3 bs _ (omega arith) b.1) in
    target_open bs (omega arith) (eqb-true a 5 b.0) (eqb-true r 0 d.0) (past 4 bs (target_in c bs) (omega arith) d.1)
