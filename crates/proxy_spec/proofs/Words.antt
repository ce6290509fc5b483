-- F-3: the greeting, the credentials and the connect request: each is whole just where the bytes begin with one of its words, and is seen at the byte that shows it.
use Prim.Native.Nat.{ℕ, suc, ◌+◌, ◌≤◌, ◌<◌}
use native.Mathlib.Nat.{le_refl}
use native.Mathlib.Omega.{arith}
use mathlib.Core.Path.{◌≡◌, refl, ap, sym, subst, ◌∙◌}
use mathlib.Core.Logic.{◌↔◌, ◌⊎◌, inl, inr}
use mathlib.Core.Bool.{Bool, true, false, cond}
use mathlib.Core.List.{List, [], ◌∷◌, ◌++◌}
use lib.ListN.{length, take, drop, length-append, length-drop, take-append-drop, get_or-append}
use lib.Seq.{take_all, take_at, drop_at, length-take-le, take-append-le, drop-append-le, drop-cons, drop-drop, get_or-drop, get_or_at}
use lib.Dec.{leb, eqb, lit≤}
use borrow.Author.Tests.{leb-true, le-leb, eqb-true, eq-eqb}
use Rattle.protocol.specs.Bytes.{Bytes, byte, two_of}
use Rattle.protocol.specs.AddressReading.{Destination, ipv4, ipv6, domain}
use Rattle.protocol.specs.Bound.{Endpoint, endpoint}
use Rattle.proxy_spec.specs.Words.{Greeting, greeting, Login, login, Target, four, six, named, Connect, connect}
use Rattle.proxy_spec.specs.Reads.{Seen, short, unknown, whole, from, held, greeting_in, password_at, login_in, target_in, connect_in}
use Rattle.proxy_spec.proofs.Seen.{Decided, Late, Ext, late_cond, late_held, late_from, late_less, ext_from, ext_cond, ext_held, ext_whole, from_inv, held_inv, whole_inv, settled, early, itself, just}
use Rattle.talk.specs.Lawful.{Begins}

pub longer : (bs more : List ℕ) → length bs ≤ length (bs ++ more)
longer bs more = omega (arith, length-append bs more)

-- a part that is there stays as it is
pub part_same : (bs more : List ℕ) (k n : ℕ) → k + n ≤ length bs → take n (drop k (bs ++ more)) ≡ take n (drop k bs)
part_same bs more k n h = rw (drop-append-le k bs more (omega arith), take-append-le n (drop k bs) more (omega (arith, length-drop k bs)))

pub two_same : (bs more : List ℕ) (k : ℕ) → k + 2 ≤ length bs → two_of (drop k (bs ++ more)) ≡ two_of (drop k bs)
two_same bs more k h =
    rw (drop-append-le k bs more (omega arith), get_or-append (drop k bs) more 0 0 (omega (arith, length-drop k bs)), get_or-append (drop k bs) more 0 1 (omega (arith, length-drop k bs)))

-- ---- the greeting

pub greeting_extends : (bs more : List ℕ) → Ext (length bs) (greeting_in bs) (greeting_in (bs ++ more))
unfolding greeting_in
greeting_extends bs more =
    let cs = bs ++ more in
    ext_from 1 bs cs _ _ (longer bs more)
    (late_held (eqb (byte cs 0) 0x05) 1 1 _ (le_refl 1) (late_from 2 1 cs _ (late_held (leb 1 (byte cs 1)) 1 2 _ (lit≤ tt) (late_from (2 + byte cs 1) 1 cs _ (omega arith)))))
    λ h1. rw (get_or-append bs more 0 0 (omega arith))
    (ext_held (length bs) (eqb (byte bs 0) 0x05) 1 _ _ h1
    (ext_from 2 bs cs _ _ (longer bs more) (late_held (leb 1 (byte cs 1)) 2 2 _ (le_refl 2) (late_from (2 + byte cs 1) 2 cs _ (omega arith)))
    λ h2. rw (get_or-append bs more 0 1 (omega arith))
    (ext_held (length bs) (leb 1 (byte bs 1)) 2 _ _ h2
    (ext_from (2 + byte bs 1) bs cs _ _ (longer bs more) (le_refl _)
    λ h. ext_whole (length bs) (2 + byte bs 1) _ _ h (part_same bs more 2 (byte bs 1) h)))))

pub parts2 : (bs : List ℕ) → 2 ≤ length bs → bs ≡ byte bs 0 ∷ byte bs 1 ∷ drop 2 bs
parts2 [] h = absurd (omega arith)
parts2 (a ∷ []) h = absurd (omega arith)
parts2 (a ∷ b ∷ bs) h = refl

pub greeting_whole : (bs : List ℕ) → byte bs 0 ≡ 0x05 → 1 ≤ byte bs 1 → 2 + byte bs 1 ≤ length bs → greeting_in bs ≡ whole (2 + byte bs 1) (take (byte bs 1) (drop 2 bs))
unfolding greeting_in
greeting_whole bs e h k = rw (le-leb 1 (length bs) (omega arith), eq-eqb (byte bs 0) 0x05 e, le-leb 2 (length bs) (omega arith), le-leb 1 (byte bs 1) h, le-leb (2 + byte bs 1) (length bs) k)

greeting_of : (p ms : List ℕ) → Greeting p ms → greeting_in p ≡ whole (length p) ms
greeting_of _ _ (greeting {n} ms h k l) = greeting_whole (5 ∷ n ∷ ms) refl h (omega arith) ∙ rw (take_all n ms (omega arith)) (ap (λ (i : ℕ). whole i ms) (omega arith))

greeting_by : (p ms : List ℕ) (n : ℕ) → p ≡ 5 ∷ n ∷ ms → 1 ≤ n → n ≤ 255 → length ms ≡ n → Greeting p ms
greeting_by p ms n e h k l = rw e (greeting ms h k l)

greeting_is : (p : List ℕ) → Bytes p → (ms : List ℕ) → greeting_in p ≡ whole (length p) ms → Greeting p ms
unfolding greeting_in
greeting_is p y ms q =
    let a = from_inv 1 p _ (length p) ms q in
    let b = held_inv (eqb (byte p 0) 0x05) 1 _ (length p) ms a.1 in
    let c = from_inv 2 p _ (length p) ms b.1 in
    let d = held_inv (leb 1 (byte p 1)) 2 _ (length p) ms c.1 in
    let e = from_inv (2 + byte p 1) p _ (length p) ms d.1 in
    let f = whole_inv (2 + byte p 1) (length p) (take (byte p 1) (drop 2 p)) ms e.1 in
    let l : length (drop 2 p) ≡ byte p 1 = omega (arith, length-drop 2 p, f.0) in
    let t : drop 2 p ≡ ms = sym (take_all (byte p 1) (drop 2 p) (omega arith)) ∙ f.1 in
    greeting_by p ms (byte p 1) (cc (parts2 p c.0, eqb-true (byte p 0) 5 b.0, t)) (leb-true 1 (byte p 1) d.0) (y 1) (ap length (sym t) ∙ l)

pub greeting_just : (bs : List ℕ) → Bytes bs → (n : ℕ) (ms : List ℕ) → greeting_in bs ≡ whole n ms ↔ ((p : List ℕ) × Begins p bs × (length p ≡ n) × Greeting p ms)
greeting_just = just greeting_in greeting_extends Greeting greeting_is greeting_of

pub greeting_settled : (bs more : List ℕ) → (greeting_in bs ≡ short → ⊥) → greeting_in (bs ++ more) ≡ greeting_in bs
greeting_settled = settled greeting_in greeting_extends

pub greeting_early : (bs : List ℕ) (n : ℕ) → Decided n (greeting_in bs) → (n ≤ length bs) × ((k : ℕ) → k < n → greeting_in (take k bs) ≡ short)
greeting_early = early greeting_in greeting_extends

-- and there: the bytes up to it show the same
pub greeting_itself : (bs : List ℕ) (n : ℕ) → Decided n (greeting_in bs) → greeting_in (take n bs) ≡ greeting_in bs
greeting_itself = itself greeting_in greeting_extends

-- ---- the credentials

pub login_extends : (bs more : List ℕ) → Ext (length bs) (login_in bs) (login_in (bs ++ more))
unfolding login_in
login_extends bs more =
    let cs = bs ++ more in
    ext_from 1 bs cs _ _ (longer bs more)
    (late_held (eqb (byte cs 0) 0x01) 1 1 _ (le_refl 1) (late_from 2 1 cs _ (late_from (password_at cs + 1) 1 cs _ (late_from (password_at cs + 1 + byte cs (password_at cs)) 1 cs _ (omega arith)))))
    λ h1. rw (get_or-append bs more 0 0 (omega arith))
    (ext_held (length bs) (eqb (byte bs 0) 0x01) 1 _ _ h1
    (ext_from 2 bs cs _ _ (longer bs more) (late_from (password_at cs + 1) 2 cs _ (late_from (password_at cs + 1 + byte cs (password_at cs)) 2 cs _ (omega arith)))
    λ h2. rw (get_or-append bs more 0 1 (omega arith))
    (ext_from (password_at bs + 1) bs cs _ _ (longer bs more) (late_from (password_at bs + 1 + byte cs (password_at bs)) (password_at bs + 1) cs _ (omega arith))
    λ h3. rw (get_or-append bs more 0 (password_at bs) (omega arith))
    (ext_from (password_at bs + 1 + byte bs (password_at bs)) bs cs _ _ (longer bs more) (le_refl _)
    λ h. ext_whole (length bs) (password_at bs + 1 + byte bs (password_at bs)) _ _ h (rw (part_same bs more 2 (byte bs 1) (omega arith), part_same bs more (password_at bs + 1) (byte bs (password_at bs)) h))))))

pub login_whole : (bs : List ℕ) → byte bs 0 ≡ 0x01 → password_at bs + 1 + byte bs (password_at bs) ≤ length bs
    → login_in bs ≡ whole (password_at bs + 1 + byte bs (password_at bs)) (take (byte bs 1) (drop 2 bs), take (byte bs (password_at bs)) (drop (password_at bs + 1) bs))
unfolding login_in
login_whole bs e k =
    rw (le-leb 1 (length bs) (omega arith), eq-eqb (byte bs 0) 0x01 e, le-leb 2 (length bs) (omega arith), le-leb (password_at bs + 1) (length bs) (omega arith), le-leb (password_at bs + 1 + byte bs (password_at bs)) (length bs) k)

-- the user, the second length and the password are what stands behind the first
user_split : (r : List ℕ) (n : ℕ) → n < length r → r ≡ take n r ++ (byte r n ∷ drop (suc n) r)
user_split r n h = sym (take-append-drop n r) ∙ ap (λ (l : List ℕ). take n r ++ l) (drop-cons r n 0 h)

login_by : (p user password : List ℕ) (n m : ℕ) → p ≡ 1 ∷ n ∷ (user ++ (m ∷ password)) → n ≤ 255 → m ≤ 255 → length user ≡ n → length password ≡ m → Login p user password
login_by p user password n m e h k l j = rw e (login user password h k l j)

pub drop_same : (k j : ℕ) (p : List ℕ) → k ≡ j → drop k p ≡ drop j p
drop_same k j p e = rw e

login_is : (p : List ℕ) → Bytes p → (a : List ℕ × List ℕ) → login_in p ≡ whole (length p) a → Login p a.0 a.1
unfolding login_in
login_is p y x q =
    let a = from_inv 1 p _ (length p) x q in
    let b = held_inv (eqb (byte p 0) 0x01) 1 _ (length p) x a.1 in
    let c = from_inv 2 p _ (length p) x b.1 in
    let d = from_inv (password_at p + 1) p _ (length p) x c.1 in
    let e = from_inv (password_at p + 1 + byte p (password_at p)) p _ (length p) x d.1 in
    let f = whole_inv (password_at p + 1 + byte p (password_at p)) (length p) (take (byte p 1) (drop 2 p), take (byte p (password_at p)) (drop (password_at p + 1) p)) x e.1 in
    let n = byte p 1 in
    let m = byte p (password_at p) in
    let s = user_split (drop 2 p) n (omega (arith, length-drop 2 p, d.0)) in
    let t : drop (suc n) (drop 2 p) ≡ drop (password_at p + 1) p = drop-drop (suc n) 2 p ∙ drop_same (2 + suc n) (password_at p + 1) p (omega arith) in
    let k : length (drop (password_at p + 1) p) ≡ m = omega (arith, length-drop (password_at p + 1) p, f.0) in
    let w : drop (password_at p + 1) p ≡ x.1 = sym (take_all m (drop (password_at p + 1) p) (omega arith)) ∙ ap (λ (z : List ℕ × List ℕ). z.1) f.1 in
    let u : take n (drop 2 p) ≡ x.0 = ap (λ (z : List ℕ × List ℕ). z.0) f.1 in
    login_by p x.0 x.1 n m (cc (parts2 p c.0, eqb-true (byte p 0) 1 b.0, s, t, w, u, get_or-drop 2 p n 0)) (y 1) (y (password_at p))
    (ap length (sym u) ∙ length-take-le n (drop 2 p) (omega (arith, length-drop 2 p, d.0))) (ap length (sym w) ∙ k)

login_of : (p : List ℕ) (a : List ℕ × List ℕ) → Login p a.0 a.1 → login_in p ≡ whole (length p) a
login_of p (user, password) w = go w
  where
    go : {p user password : List ℕ} → Login p user password → login_in p ≡ whole (length p) (user, password)
    go (login {n} {m} u w h k l j) =
        let p : List ℕ = 1 ∷ n ∷ (u ++ (m ∷ w)) in
        let e : byte p (2 + n) ≡ m = sym (get_or-drop 2 p n 0) ∙ get_or_at u m w 0 n l in
        let d : drop (2 + n + 1) p ≡ w =
        drop_same (2 + n + 1) (2 + (n + 1)) p (omega arith) ∙ sym (drop-drop (n + 1) 2 p) ∙ sym (drop-drop 1 n (u ++ (m ∷ w))) ∙ ap (drop 1) (drop_at u (m ∷ w) n l) in
        login_whole p refl (omega (arith, e, length-append u (m ∷ w)))
        ∙ rw (e, d, take_at u (m ∷ w) n l, take_all m w (omega arith)) (ap (λ (i : ℕ). whole i (u, w)) (omega (arith, length-append u (m ∷ w))))

pub login_just : (bs : List ℕ) → Bytes bs → (n : ℕ) (user password : List ℕ) → login_in bs ≡ whole n (user, password) ↔ ((p : List ℕ) × Begins p bs × (length p ≡ n) × Login p user password)
login_just bs y n user password = just login_in login_extends (λ p a. Login p a.0 a.1) login_is login_of bs y n (user, password)

pub login_settled : (bs more : List ℕ) → (login_in bs ≡ short → ⊥) → login_in (bs ++ more) ≡ login_in bs
login_settled = settled login_in login_extends

pub login_early : (bs : List ℕ) (n : ℕ) → Decided n (login_in bs) → (n ≤ length bs) × ((k : ℕ) → k < n → login_in (take k bs) ≡ short)
login_early = early login_in login_extends

-- and there: the bytes up to it show the same
pub login_itself : (bs : List ℕ) (n : ℕ) → Decided n (login_in bs) → login_in (take n bs) ≡ login_in bs
login_itself = itself login_in login_extends

-- ---- the connect request

-- what is asked for, of k bytes, with its port
asked_same : (bs more : List ℕ) (command at k port : ℕ) (of : List ℕ → Destination) → at + k ≤ length bs → port + 2 ≤ length bs
    → ◌≡◌ {A = ℕ × Endpoint} (command, endpoint (of (take k (drop at (bs ++ more)))) (two_of (drop port (bs ++ more)))) (command, endpoint (of (take k (drop at bs))) (two_of (drop port bs)))
asked_same bs more command at k port of h j = rw (part_same bs more at k h, two_same bs more port j)

target_late : (command : ℕ) (bs : List ℕ) → Late 4 (target_in command bs)
unfolding target_in
target_late command bs =
    late_cond (eqb (byte bs 3) 0x01) 4 _ _ (late_from 10 4 bs _ (lit≤ tt))
    (late_cond (eqb (byte bs 3) 0x04) 4 _ _ (late_from 22 4 bs _ (lit≤ tt))
    (late_cond (eqb (byte bs 3) 0x03) 4 _ (unknown 4) (late_from 5 4 bs _ (late_held (leb 1 (byte bs 4)) 4 5 _ (lit≤ tt) (late_from (7 + byte bs 4) 4 bs _ (omega arith)))) (le_refl 4)))

target_extends : (command : ℕ) (bs more : List ℕ) → 4 ≤ length bs → Ext (length bs) (target_in command bs) (target_in command (bs ++ more))
unfolding target_in
target_extends command bs more h =
    let cs = bs ++ more in
    rw (get_or-append bs more 0 3 (omega arith))
    (ext_cond (length bs) (eqb (byte bs 3) 0x01) _ _ _ _
    (ext_from 10 bs cs _ _ (longer bs more) (le_refl 10) λ k. ext_whole (length bs) 10 _ _ k (asked_same bs more command 4 4 8 ipv4 (omega arith) (omega arith)))
    (ext_cond (length bs) (eqb (byte bs 3) 0x04) _ _ _ _
    (ext_from 22 bs cs _ _ (longer bs more) (le_refl 22) λ k. ext_whole (length bs) 22 _ _ k (asked_same bs more command 4 16 20 ipv6 (omega arith) (omega arith)))
    (ext_cond (length bs) (eqb (byte bs 3) 0x03) _ _ (unknown 4) (unknown 4)
    (ext_from 5 bs cs _ _ (longer bs more) (late_held (leb 1 (byte cs 4)) 5 5 _ (le_refl 5) (late_from (7 + byte cs 4) 5 cs _ (omega arith)))
    λ h5. rw (get_or-append bs more 0 4 (omega arith))
    (ext_held (length bs) (leb 1 (byte bs 4)) 5 _ _ h5
    (ext_from (7 + byte bs 4) bs cs _ _ (longer bs more) (le_refl _)
    λ k. ext_whole (length bs) (7 + byte bs 4) _ _ k (asked_same bs more command 5 (byte bs 4) (5 + byte bs 4) domain (omega arith) (omega arith)))))
    (inr (4, h, refl, refl)))))

pub connect_extends : (bs more : List ℕ) → Ext (length bs) (connect_in bs) (connect_in (bs ++ more))
unfolding connect_in
connect_extends bs more =
    let cs = bs ++ more in
    let t = target_late (byte cs 1) cs in
    ext_from 1 bs cs _ _ (longer bs more)
    (late_held (eqb (byte cs 0) 0x05) 1 1 _ (le_refl 1) (late_from 3 1 cs _ (late_held (eqb (byte cs 2) 0x00) 1 3 _ (lit≤ tt) (late_from 4 1 cs _ (late_less 1 4 (target_in (byte cs 1) cs) (lit≤ tt) t)))))
    λ h1. rw (get_or-append bs more 0 0 (omega arith))
    (ext_held (length bs) (eqb (byte bs 0) 0x05) 1 _ _ h1
    (ext_from 3 bs cs _ _ (longer bs more) (late_held (eqb (byte cs 2) 0x00) 3 3 _ (le_refl 3) (late_from 4 3 cs _ (late_less 3 4 (target_in (byte cs 1) cs) (lit≤ tt) t)))
    λ h3. rw (get_or-append bs more 0 2 (omega arith))
    (ext_held (length bs) (eqb (byte bs 2) 0x00) 3 _ _ h3
    (ext_from 4 bs cs _ _ (longer bs more) t
    λ h4. rw (get_or-append bs more 0 1 (omega arith)) (target_extends (byte bs 1) bs more h4)))))

parts3 : (bs : List ℕ) → 3 ≤ length bs → bs ≡ byte bs 0 ∷ byte bs 1 ∷ byte bs 2 ∷ drop 3 bs
parts3 [] h = absurd (omega arith)
parts3 (a ∷ []) h = absurd (omega arith)
parts3 (a ∷ b ∷ []) h = absurd (omega arith)
parts3 (a ∷ b ∷ c ∷ bs) h = refl

pub connect_head : (bs : List ℕ) → byte bs 0 ≡ 0x05 → byte bs 2 ≡ 0x00 → 4 ≤ length bs → connect_in bs ≡ target_in (byte bs 1) bs
unfolding connect_in
connect_head bs e f h = rw (le-leb 1 (length bs) (omega arith), eq-eqb (byte bs 0) 0x05 e, le-leb 3 (length bs) (omega arith), eq-eqb (byte bs 2) 0x00 f, le-leb 4 (length bs) h)

pub four_whole : (command : ℕ) (bs : List ℕ) → byte bs 3 ≡ 0x01 → 10 ≤ length bs → target_in command bs ≡ whole 10 (command, endpoint (ipv4 (take 4 (drop 4 bs))) (two_of (drop 8 bs)))
unfolding target_in
four_whole command bs e h = rw (e, le-leb 10 (length bs) h)

pub six_whole : (command : ℕ) (bs : List ℕ) → byte bs 3 ≡ 0x04 → 22 ≤ length bs → target_in command bs ≡ whole 22 (command, endpoint (ipv6 (take 16 (drop 4 bs))) (two_of (drop 20 bs)))
unfolding target_in
six_whole command bs e h = rw (e, le-leb 22 (length bs) h)

pub named_whole : (command : ℕ) (bs : List ℕ) → byte bs 3 ≡ 0x03 → 1 ≤ byte bs 4 → 7 + byte bs 4 ≤ length bs
    → target_in command bs ≡ whole (7 + byte bs 4) (command, endpoint (domain (take (byte bs 4) (drop 5 bs))) (two_of (drop (5 + byte bs 4) bs)))
unfolding target_in
named_whole command bs e k h = rw (e, le-leb 5 (length bs) (omega arith), le-leb 1 (byte bs 4) k, le-leb (7 + byte bs 4) (length bs) h)

target_of_lem : (command : ℕ) (a : List ℕ) (x : Endpoint) → Target a x → (1 ≤ length a) × (target_in command (5 ∷ command ∷ 0 ∷ a) ≡ whole (3 + length a) (command, x))
target_of_lem command _ _ (four a port l j) = (
  omega arith,
  four_whole command (5 ∷ command ∷ 0 ∷ 1 ∷ (a ++ port)) refl (omega (arith, length-append a port)) ∙ rw (take_at a port 4 l, drop_at a port 4 l)
      (ap (λ (i : ℕ). whole i (command, endpoint (ipv4 a) (two_of port))) (omega (arith, length-append a port))),
)
target_of_lem command _ _ (six a port l j) = (
  omega arith,
  six_whole command (5 ∷ command ∷ 0 ∷ 4 ∷ (a ++ port)) refl (omega (arith, length-append a port)) ∙ rw (take_at a port 16 l, drop_at a port 16 l)
      (ap (λ (i : ℕ). whole i (command, endpoint (ipv6 a) (two_of port))) (omega (arith, length-append a port))),
)
target_of_lem command _ _ (named {n} s port h k l j) =
    let p : List ℕ = 5 ∷ command ∷ 0 ∷ 3 ∷ n ∷ (s ++ port) in
    let d : drop (5 + n) p ≡ port = sym (drop-drop n 5 p) ∙ drop_at s port n l in (
      omega arith,
      named_whole command p refl h (omega (arith, length-append s port)) ∙ rw (take_at s port n l, d)
          (ap (λ (i : ℕ). whole i (command, endpoint (domain s) (two_of port))) (omega (arith, length-append s port))),
    )

-- an address of k bytes with its port
fixed_is : (p : List ℕ) (t k : ℕ) (of : List ℕ → Destination)
    → ((a port : List ℕ) → length a ≡ k → length port ≡ 2 → Target (t ∷ (a ++ port)) (endpoint (of a) (two_of port)))
    → byte p 3 ≡ t → 6 + k ≡ length p → Target (drop 3 p) (endpoint (of (take k (drop 4 p))) (two_of (drop (4 + k) p)))
fixed_is p t k of f e l =
    let s : drop 3 p ≡ t ∷ (take k (drop 4 p) ++ drop (4 + k) p) = cc (drop-cons p 3 0 (omega arith), take-append-drop k (drop 4 p), drop-drop k 4 p) in
    subst (λ (q : List ℕ). Target q (endpoint (of (take k (drop 4 p))) (two_of (drop (4 + k) p)))) (sym s)
    (f (take k (drop 4 p)) (drop (4 + k) p) (length-take-le k (drop 4 p) (omega (arith, length-drop 4 p))) (omega (arith, length-drop (4 + k) p)))

name_is : (p : List ℕ) (n : ℕ) → byte p 3 ≡ 0x03 → byte p 4 ≡ n → 1 ≤ n → n ≤ 255 → 7 + n ≡ length p → Target (drop 3 p) (endpoint (domain (take n (drop 5 p))) (two_of (drop (5 + n) p)))
name_is p n e b h k l =
    let s : drop 3 p ≡ 3 ∷ n ∷ (take n (drop 5 p) ++ drop (5 + n) p) = cc (drop-cons p 3 0 (omega arith), drop-cons p 4 0 (omega arith), take-append-drop n (drop 5 p), drop-drop n 5 p) in
    subst (λ (q : List ℕ). Target q (endpoint (domain (take n (drop 5 p))) (two_of (drop (5 + n) p)))) (sym s)
    (named (take n (drop 5 p)) (drop (5 + n) p) h k (length-take-le n (drop 5 p) (omega (arith, length-drop 5 p))) (omega (arith, length-drop (5 + n) p)))

either : {A : Type 0} (b : Bool) (d e w : Seen A) → cond b d e ≡ w → ((b ≡ true) × (d ≡ w)) ⊎ (e ≡ w)
either true d e w q = inl (refl, q)
either false d e w q = inr q

target_is : (p : List ℕ) → Bytes p → (command : ℕ) (x : ℕ × Endpoint) → target_in command p ≡ whole (length p) x → (x.0 ≡ command) × Target (drop 3 p) x.1
unfolding target_in
target_is p y command x q = first (either (eqb (byte p 3) 0x01) _ _ _ q)
  where
    into : (n : ℕ) (z : Endpoint) → whole n (command, z) ≡ whole (length p) x → (n ≡ length p → Target (drop 3 p) z) → (x.0 ≡ command) × Target (drop 3 p) x.1
    into n z e f =
        let w = whole_inv n (length p) (command, z) x e in
        (ap (λ (v : ℕ × Endpoint). v.0) (sym w.1), subst (λ (v : ℕ × Endpoint). Target (drop 3 p) v.1) w.1 (f w.0))

    third : ((eqb (byte p 3) 0x03 ≡ true) × (from 5 p (held (leb 1 (byte p 4)) 5 (from (7 + byte p 4) p (whole (7 + byte p 4) (command, endpoint (domain (take (byte p 4) (drop 5 p))) (two_of (drop (5 + byte p 4) p)))))) ≡ whole (length p) x))
        ⊎ (unknown 4 ≡ whole (length p) x) → (x.0 ≡ command) × Target (drop 3 p) x.1
    third (inl (t, e)) =
        let a = from_inv 5 p _ (length p) x e in
        let b = held_inv (leb 1 (byte p 4)) 5 _ (length p) x a.1 in
        let c = from_inv (7 + byte p 4) p _ (length p) x b.1 in
        into (7 + byte p 4) _ c.1 (name_is p (byte p 4) (eqb-true (byte p 3) 0x03 t) refl (leb-true 1 (byte p 4) b.0) (y 4))
    third (inr e) = let z : ◌≡◌ {A = ℕ} 0 1 = cc in absurd (omega arith)

    second : ((eqb (byte p 3) 0x04 ≡ true) × (from 22 p (whole 22 (command, endpoint (ipv6 (take 16 (drop 4 p))) (two_of (drop 20 p)))) ≡ whole (length p) x))
        ⊎ (cond (eqb (byte p 3) 0x03) (from 5 p (held (leb 1 (byte p 4)) 5 (from (7 + byte p 4) p (whole (7 + byte p 4) (command, endpoint (domain (take (byte p 4) (drop 5 p))) (two_of (drop (5 + byte p 4) p))))))) (unknown 4) ≡ whole (length p) x)
        → (x.0 ≡ command) × Target (drop 3 p) x.1
    second (inl (t, e)) = into 22 _ (from_inv 22 p _ (length p) x e).1 (fixed_is p 4 16 ipv6 six (eqb-true (byte p 3) 0x04 t))
    second (inr e) = third (either (eqb (byte p 3) 0x03) _ _ _ e)

    first : ((eqb (byte p 3) 0x01 ≡ true) × (from 10 p (whole 10 (command, endpoint (ipv4 (take 4 (drop 4 p))) (two_of (drop 8 p)))) ≡ whole (length p) x))
        ⊎ (cond (eqb (byte p 3) 0x04) (from 22 p (whole 22 (command, endpoint (ipv6 (take 16 (drop 4 p))) (two_of (drop 20 p)))))
        (cond (eqb (byte p 3) 0x03) (from 5 p (held (leb 1 (byte p 4)) 5 (from (7 + byte p 4) p (whole (7 + byte p 4) (command, endpoint (domain (take (byte p 4) (drop 5 p))) (two_of (drop (5 + byte p 4) p))))))) (unknown 4)) ≡ whole (length p) x)
        → (x.0 ≡ command) × Target (drop 3 p) x.1
    first (inl (t, e)) = into 10 _ (from_inv 10 p _ (length p) x e).1 (fixed_is p 1 4 ipv4 four (eqb-true (byte p 3) 0x01 t))
    first (inr e) = second (either (eqb (byte p 3) 0x04) _ _ _ e)

connect_by : (p a : List ℕ) (command : ℕ) (x : Endpoint) → p ≡ 5 ∷ command ∷ 0 ∷ a → Target a x → Connect p command x
connect_by p a command x e t = rw e (connect t)

connect_is : (p : List ℕ) → Bytes p → (x : ℕ × Endpoint) → connect_in p ≡ whole (length p) x → Connect p x.0 x.1
unfolding connect_in
connect_is p y x q =
    let a = from_inv 1 p _ (length p) x q in
    let b = held_inv (eqb (byte p 0) 0x05) 1 _ (length p) x a.1 in
    let c = from_inv 3 p _ (length p) x b.1 in
    let d = held_inv (eqb (byte p 2) 0x00) 3 _ (length p) x c.1 in
    let e = from_inv 4 p _ (length p) x d.1 in
    let (f, t) = target_is p y (byte p 1) x e.1 in
    connect_by p (drop 3 p) x.0 x.1 (cc (parts3 p c.0, eqb-true (byte p 0) 0x05 b.0, eqb-true (byte p 2) 0x00 d.0, f)) t

connect_of : (p : List ℕ) (x : ℕ × Endpoint) → Connect p x.0 x.1 → connect_in p ≡ whole (length p) x
connect_of p (command, x) w = go w
  where
    go : {p : List ℕ} {command : ℕ} {x : Endpoint} → Connect p command x → connect_in p ≡ whole (length p) (command, x)
    go (connect {command} {a} {x} t) =
        let (l, e) = target_of_lem command a x t in
        connect_head (5 ∷ command ∷ 0 ∷ a) refl refl (omega arith) ∙ e ∙ ap (λ (i : ℕ). whole i (command, x)) (omega arith)

pub connect_just : (bs : List ℕ) → Bytes bs → (n command : ℕ) (x : Endpoint) → connect_in bs ≡ whole n (command, x) ↔ ((p : List ℕ) × Begins p bs × (length p ≡ n) × Connect p command x)
connect_just bs y n command x = just connect_in connect_extends (λ p a. Connect p a.0 a.1) connect_is connect_of bs y n (command, x)

pub connect_settled : (bs more : List ℕ) → (connect_in bs ≡ short → ⊥) → connect_in (bs ++ more) ≡ connect_in bs
connect_settled = settled connect_in connect_extends

pub connect_early : (bs : List ℕ) (n : ℕ) → Decided n (connect_in bs) → (n ≤ length bs) × ((k : ℕ) → k < n → connect_in (take k bs) ≡ short)
connect_early = early connect_in connect_extends

-- and there: the bytes up to it show the same
pub connect_itself : (bs : List ℕ) (n : ℕ) → Decided n (connect_in bs) → connect_in (take n bs) ≡ connect_in bs
connect_itself = itself connect_in connect_extends
