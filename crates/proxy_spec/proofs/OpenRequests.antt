-- F-3: the same of the request of SOCKS4 and SOCKS4A.
use Prim.Native.Nat.{ℕ, zero, suc, ◌+◌, ◌≤◌, ◌<◌}
use native.Mathlib.Omega.{arith}
use mathlib.Core.Path.{◌≡◌, refl, ap, sym, ◌∙◌}
use mathlib.Core.Logic.{◌⊎◌, inl, inr}
use mathlib.Core.Bool.{Bool, true, false, cond}
use mathlib.Core.List.Memᴰ
use mathlib.Core.List.{List, [], ◌∷◌, ◌++◌}
use lib.ListN.{length, take, drop, replicate, length-append, length-drop, get_or-append, get_or-eq_default}
use lib.Seq.{drop-append-le, drop-cons, drop-drop, get_or-take, get_or-drop, length-take-le}
use lib.Dec.{leb, eqb, lit≤, lit<}
use borrow.Author.Tests.{leb-true, leb-false, eqb-true}
use Rattle.protocol.specs.Bytes.{Bytes, byte}
use Rattle.protocol.specs.AddressReading.{ipv4}
use Rattle.protocol.specs.Bound.{endpoint}
use Rattle.protocol.specs.Requests.{Announces}
use Rattle.protocol.specs.Opening.{announces}
use Rattle.proxy_spec.specs.Words.{Unbroken}
use Rattle.proxy_spec.specs.Reads.{Seen, short, wrong, unknown, whole, from, text_in, further, port_in, name_in, behind_user, request_in}
use Rattle.proxy_spec.proofs.Seen.{settled}
use Rattle.proxy_spec.proofs.Words.{part_same}
use Rattle.proxy_spec.proofs.Texts.{text_extends, text_is, text_of_lem, text_short, Text, unbroken_more}
use Rattle.proxy_spec.proofs.Requests.{request_user, behind_plain, behind_name, behind_user_lem, text_length, announces_not}
use Rattle.proxy_spec.proofs.Open.{Whole, Open, zeros, padded_byte, padded_long, bytes_then, past, passed}

further_short : {A B : Type 0} (n : ℕ) (d : Seen A) (on : ℕ → A → Seen B) → further n d on ≡ short → (d ≡ short) ⊎ ((k : ℕ) × (a : A) × (d ≡ whole k a) × (on (n + k) a ≡ short))
further_short n short on q = inl refl
further_short n (wrong k) on q = let z : ◌≡◌ {A = ℕ} 0 1 = cc in absurd (omega arith)
further_short n (unknown k) on q = let z : ◌≡◌ {A = ℕ} 0 1 = cc in absurd (omega arith)
further_short n (whole k a) on q = inr (k, a, refl, q)

name_unshort : (bs : List ℕ) (at n m : ℕ) → name_in bs at n m ≡ short → ⊥
name_unshort bs at n zero q = let z : ◌≡◌ {A = ℕ} 0 1 = cc in absurd (omega arith)
name_unshort bs at n (suc m) q = let z : ◌≡◌ {A = ℕ} 0 1 = cc in absurd (omega arith)

-- ---- fewer than eight bytes: zeros

unannounced : (p : List ℕ) → byte p 7 ≡ 0 → Announces (take 4 (drop 4 p)) → ⊥
unannounced p e (x, l, q) =
    let r : byte (take 4 (drop 4 p)) 3 ≡ x = ap (λ (z : List ℕ). byte z 3) q in
    let s : byte (take 4 (drop 4 p)) 3 ≡ byte p 7 = get_or-take 4 (drop 4 p) 3 0 (lit< tt) ∙ get_or-drop 4 p 3 0 in
    absurd (omega arith)

empty_user : (p : List ℕ) → byte p 0 ≡ 0x04 → byte p 7 ≡ 0 → byte p 8 ≡ 0 → 9 ≤ length p → Whole request_in p
empty_user p e f g h =
    let d : drop 8 p ≡ 0 ∷ drop 9 p = drop-cons p 8 0 h ∙ ap (λ (b : ℕ). b ∷ drop 9 p) g in
    let t : text_in 255 (drop 8 p) ≡ whole 1 0 = ap (text_in 255) d ∙ text_of_lem 255 [] (drop 9 p) (lit≤ tt) (λ m. Memᴰ.not-nil m) in
    (_, _, request_user p 1 0 e (omega arith) t ∙ behind_plain p (8 + 1) (announces_not (take 4 (drop 4 p)) (unannounced p f)))

few_open : (bs : List ℕ) → byte bs 0 ≡ 0x04 → length bs < 8 → Open request_in bs
few_open bs e h =
    let d₇ : byte bs 7 ≡ 0 = get_or-eq_default bs 0 {n = 7} (omega arith) in
    let d₈ : byte bs 8 ≡ 0 = get_or-eq_default bs 0 {n = 8} (omega arith) in
    (replicate 9 0, zeros 9, empty_user (bs ++ replicate 9 0) (padded_byte bs 9 0 ∙ e) (padded_byte bs 9 7 ∙ d₇) (padded_byte bs 9 8 ∙ d₈) (omega (arith, padded_long bs 9)))

-- ---- the user id is not ended

x_bytes : Bytes (0x01 ∷ replicate 1 0)
x_bytes = bytes_then 1 (replicate 1 0) (lit≤ tt) (zeros 1)

x_unbroken : Unbroken (0x01 ∷ [])
x_unbroken = unbroken_more 1 [] (λ q. absurd (omega arith)) (λ m. Memᴰ.not-nil m)

user_ends : (p user : List ℕ) → byte p 0 ≡ 0x04 → 8 ≤ length p → drop 8 p ≡ user ++ (0 ∷ 1 ∷ 0 ∷ []) → length user ≤ 255 → Unbroken user → Whole request_in p
user_ends p user e h d l u = go (announces (take 4 (drop 4 p))) refl
  where
    at : ℕ
    at = 8 + suc (length user)

    t : text_in 255 (drop 8 p) ≡ whole (suc (length user)) (length user)
    t = ap (text_in 255) d ∙ text_of_lem 255 user (1 ∷ 0 ∷ []) l u

    b : drop at p ≡ 1 ∷ 0 ∷ []
    b = sym (drop-drop (suc (length user)) 8 p) ∙ ap (drop (suc (length user))) d ∙ behind_user_lem user (1 ∷ 0 ∷ [])

    n : text_in 1014 (drop at p) ≡ whole 2 1
    n = ap (text_in 1014) b ∙ text_of_lem 1014 (1 ∷ []) [] (lit≤ tt) x_unbroken

    go : (x : Bool) → announces (take 4 (drop 4 p)) ≡ x → Whole request_in p
    go true q = (_, _, request_user p (suc (length user)) (length user) e h t ∙ behind_name p at 2 1 q n (lit≤ tt))
    go false q = (_, _, request_user p (suc (length user)) (length user) e h t ∙ behind_plain p at q)

user_open : (bs : List ℕ) → byte bs 0 ≡ 0x04 → 8 ≤ length bs → text_in 255 (drop 8 bs) ≡ short → Open request_in bs
user_open bs e h q =
    let m : List ℕ = 0 ∷ 1 ∷ 0 ∷ [] in
    let (l, u) = text_short 255 (drop 8 bs) q in
    (m, bytes_then 0 (1 ∷ 0 ∷ []) (lit≤ tt) x_bytes, user_ends (bs ++ m) (drop 8 bs) (get_or-append bs m 0 0 (omega arith) ∙ e) (omega (arith, length-append bs m)) (drop-append-le 8 bs m h) l u)

-- ---- the name is not ended

name_ends : (bs more s : List ℕ) (k m : ℕ) → byte bs 0 ≡ 0x04 → 8 ≤ length bs → text_in 255 (drop 8 bs) ≡ whole k m → announces (take 4 (drop 4 bs)) ≡ true → 8 + k ≤ length bs
    → drop (8 + k) bs ++ more ≡ s ++ (0 ∷ []) → 1 ≤ length s → length s ≤ 1014 → Unbroken s → Whole request_in (bs ++ more)
name_ends bs more s k m e h q n l d g j u =
    let p = bs ++ more in
    let z : text_in 255 (drop 8 bs) ≡ short → ⊥ = λ r. let z : ◌≡◌ {A = ℕ} 0 1 = cc in absurd (omega arith) in
    let t : text_in 255 (drop 8 p) ≡ whole k m = ap (text_in 255) (drop-append-le 8 bs more h) ∙ settled (text_in 255) (text_extends 255) (drop 8 bs) more z ∙ q in
    let a : announces (take 4 (drop 4 p)) ≡ true = ap announces (part_same bs more 4 4 (omega arith)) ∙ n in
    let v : text_in 1014 (drop (8 + k) p) ≡ whole (suc (length s)) (length s) = ap (text_in 1014) (drop-append-le (8 + k) bs more l ∙ d) ∙ text_of_lem 1014 s [] j u in
    (_, _, request_user p k m (get_or-append bs more 0 0 (omega arith) ∙ e) (omega (arith, length-append bs more)) t ∙ behind_name p (8 + k) (suc (length s)) (length s) a v g)

text_inside : (most : ℕ) (l : List ℕ) (k m : ℕ) → Text most l k m → k ≤ length l
text_inside most l k m t =
    let c = t.count in
    let i = length-take-le m l (text_length most l k m t) in
    let s : length l ≡ length (take m l ++ (0 ∷ drop (suc m) l)) = ap length t.split in
    omega (arith, length-append (take m l) (0 ∷ drop (suc m) l))

module _ (bs : List ℕ) (e : byte bs 0 ≡ 0x04) (h : 8 ≤ length bs) (k m : ℕ) (q : text_in 255 (drop 8 bs) ≡ whole k m) (n : announces (take 4 (drop 4 bs)) ≡ true) (i : 8 + k ≤ length bs) where
  name_open : (s : List ℕ) → drop (8 + k) bs ≡ s → length s ≤ 1014 → Unbroken s → Open request_in bs
  name_open [] d l u = (1 ∷ replicate 1 0, x_bytes, name_ends bs (1 ∷ 0 ∷ []) (1 ∷ []) k m e h q n i (ap (λ (z : List ℕ). z ++ (1 ∷ 0 ∷ [])) d) (lit≤ tt) (lit≤ tt) x_unbroken)
  name_open (b ∷ s) d l u = (replicate 1 0, zeros 1, name_ends bs (0 ∷ []) (b ∷ s) k m e h q n i (ap (λ (z : List ℕ). z ++ (0 ∷ [])) d) (omega arith) l u)

  named_open : (further (8 + k) (text_in 1014 (drop (8 + k) bs)) (name_in bs (8 + k))) ≡ short → Open request_in bs
  named_open r = go (further_short (8 + k) (text_in 1014 (drop (8 + k) bs)) (name_in bs (8 + k)) r)
    where
      go : (text_in 1014 (drop (8 + k) bs) ≡ short) ⊎ ((j : ℕ) × (a : ℕ) × (text_in 1014 (drop (8 + k) bs) ≡ whole j a) × (name_in bs (8 + k) (8 + k + j) a ≡ short)) → Open request_in bs
      go (inl w) = let (l, u) = text_short 1014 (drop (8 + k) bs) w in name_open (drop (8 + k) bs) refl l u
      go (inr (j, a, w, v)) = absurd (name_unshort bs (8 + k) (8 + k + j) a v)

behind_open : (bs : List ℕ) → byte bs 0 ≡ 0x04 → 8 ≤ length bs → (k m : ℕ) → text_in 255 (drop 8 bs) ≡ whole k m → behind_user bs (8 + k) ≡ short → Open request_in bs
behind_open bs e h k m q r = go (announces (take 4 (drop 4 bs))) refl r
  where
    go : (b : Bool) → announces (take 4 (drop 4 bs)) ≡ b
        → cond b (further (8 + k) (text_in 1014 (drop (8 + k) bs)) (name_in bs (8 + k))) (whole (8 + k) (byte bs 1, endpoint (ipv4 (take 4 (drop 4 bs))) (port_in bs))) ≡ short → Open request_in bs
    go true n v = let i = text_inside 255 (drop 8 bs) k m (text_is 255 (drop 8 bs) k m q) in named_open bs e h k m q n (omega (arith, length-drop 8 bs)) v
    go false n v = let z : ◌≡◌ {A = ℕ} 0 1 = cc in absurd (omega arith)

many_open : (bs : List ℕ) → byte bs 0 ≡ 0x04 → 8 ≤ length bs → further 8 (text_in 255 (drop 8 bs)) (λ at m. behind_user bs at) ≡ short → Open request_in bs
many_open bs e h q = go (further_short 8 (text_in 255 (drop 8 bs)) (λ at m. behind_user bs at) q)
  where
    go : (text_in 255 (drop 8 bs) ≡ short) ⊎ ((k : ℕ) × (m : ℕ) × (text_in 255 (drop 8 bs) ≡ whole k m) × (behind_user bs (8 + k) ≡ short)) → Open request_in bs
    go (inl w) = user_open bs e h w
    go (inr (k, m, w, v)) = behind_open bs e h k m w v

begun_open : (bs : List ℕ) → byte bs 0 ≡ 0x04 → from 8 bs (further 8 (text_in 255 (drop 8 bs)) (λ at m. behind_user bs at)) ≡ short → Open request_in bs
begun_open bs e q = go (leb 8 (length bs)) refl q
  where
    go : (b : Bool) → leb 8 (length bs) ≡ b → cond b (further 8 (text_in 255 (drop 8 bs)) (λ at m. behind_user bs at)) short ≡ short → Open request_in bs
    go true w v = many_open bs e (leb-true 8 (length bs) w) v
    go false w v = few_open bs e (leb-false 8 (length bs) w)

pub request_open : (bs : List ℕ) → request_in bs ≡ short → Open request_in bs
unfolding request_in
request_open [] q = (4 ∷ replicate 8 0, bytes_then 4 (replicate 8 0) (lit≤ tt) (zeros 8), empty_user (4 ∷ replicate 8 0) refl refl refl (lit≤ tt))
request_open (a ∷ l) q =
    let b = passed (eqb a 0x04) 1 _ (past 1 (a ∷ l) _ (omega arith) q) in
    begun_open (a ∷ l) (eqb-true a 4 b.0) b.1
