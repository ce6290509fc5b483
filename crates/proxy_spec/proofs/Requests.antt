-- F-3: the request of SOCKS4 and SOCKS4A is whole just where the bytes begin with one of its words, and is seen at the byte that shows it.
use Prim.Native.Nat.{ℕ, zero, suc, ◌+◌, ◌≤◌, ◌<◌}
use native.Mathlib.Nat.{le_refl}
use native.Mathlib.Omega.{arith}
use mathlib.Core.Path.{◌≡◌, refl, ap, sym, subst, ◌∙◌}
use mathlib.Core.Logic.{◌↔◌, inl, inr}
use mathlib.Core.Bool.{Bool, true, false, cond, false≢true}
use mathlib.Core.List.{List, [], ◌∷◌, ◌++◌}
use lib.ListN.{length, take, drop, drop_of_length-le, length-append, length-drop, length-take, take-append-drop, get_or-append}
use lib.Seq.{take_at, drop_at, length-take-le, drop-append-le, drop-drop, get_or-take}
use lib.Dec.{eqb, lit≤, lit<}
use borrow.Author.Tests.{le-leb, eqb-true, eq-eqb}
use Rattle.protocol.specs.Bytes.{Bytes, byte, two_of}
use Rattle.protocol.specs.AddressReading.{ipv4, domain}
use Rattle.protocol.specs.Bound.{Endpoint, endpoint}
use Rattle.protocol.specs.Requests.{Announces}
use Rattle.protocol.specs.Opening.{announces}
use Rattle.protocol.proofs.Openings.{announces_just}
use Rattle.proxy_spec.specs.Words.{Unbroken, Request, addressed, announced}
use Rattle.proxy_spec.specs.Reads.{Seen, short, wrong, unknown, whole, text_in, further, port_in, name_in, behind_user, request_in}
use Rattle.proxy_spec.proofs.Seen.{Decided, Late, Ext, late_cond, late_held, late_from, late_less, ext_from, ext_cond, ext_held, ext_whole, from_inv, held_inv, whole_inv, settled, early, itself, just}
use Rattle.proxy_spec.proofs.Words.{longer, part_same, two_same, parts2, drop_same}
use Rattle.proxy_spec.proofs.Texts.{text_extends, Text, text_is, text_of_lem}
use Rattle.talk.specs.Lawful.{Begins}

-- ---- so many bytes further on

module _ {A B : Type 0} where
  late_further : (n : ℕ) (d : Seen A) (on : ℕ → A → Seen B) → ((k : ℕ) (a : A) → Late (n + k) (on (n + k) a)) → Late n (further n d on)
  late_further n short on f = tt
  late_further n (wrong k) on f = omega arith
  late_further n (unknown k) on f = omega arith
  late_further n (whole k a) on f = late_less n (n + k) (on (n + k) a) (omega arith) (f k a)

  late_past : (n m : ℕ) (d : Seen A) (on : ℕ → A → Seen B) → ((k : ℕ) (a : A) → Late (n + k) (on (n + k) a)) → Late (suc m) d → Late (suc (n + m)) (further n d on)
  late_past n m short on f l = tt
  late_past n m (wrong k) on f l = omega arith
  late_past n m (unknown k) on f l = omega arith
  late_past n m (whole k a) on f l = late_less (suc (n + m)) (n + k) (on (n + k) a) (omega arith) (f k a)

  ext_further : (n m : ℕ) (d e : Seen A) (on on' : ℕ → A → Seen B) → ((k : ℕ) (a : A) → Late (n + k) (on' (n + k) a))
      → ((k : ℕ) (a : A) → d ≡ whole k a → k ≤ m → Ext (n + m) (on (n + k) a) (on' (n + k) a)) → Ext m d e → Ext (n + m) (further n d on) (further n e on')
  ext_further n m d e on on' f g (inl (q, l)) = inl (ap (λ (z : Seen A). further n z on) q, late_past n m e on' f l)
  ext_further n m d e on on' f g (inr (k, h, p, q)) = subst (λ (z : Seen A). Ext (n + m) (further n d on) (further n z on')) (sym q) (go d g p)
    where
      go : (d : Seen A) → ((j : ℕ) (a : A) → d ≡ whole j a → j ≤ m → Ext (n + m) (on (n + j) a) (on' (n + j) a)) → Decided k d → Ext (n + m) (further n d on) (further n d on')
      go short g p = absurd p
      go (wrong j) g p = inr (n + j, omega arith, refl, refl)
      go (unknown j) g p = inr (n + j, omega arith, refl, refl)
      go (whole j a) g p = g j a refl (omega arith)

  further_inv : (n : ℕ) (d : Seen A) (on : ℕ → A → Seen B) (j : ℕ) (x : B) → further n d on ≡ whole j x → (k : ℕ) × (a : A) × (d ≡ whole k a) × (on (n + k) a ≡ whole j x)
  further_inv n short on j x q = let z : ◌≡◌ {A = ℕ} 0 1 = cc in absurd (omega arith)
  further_inv n (wrong k) on j x q = let z : ◌≡◌ {A = ℕ} 0 1 = cc in absurd (omega arith)
  further_inv n (unknown k) on j x q = let z : ◌≡◌ {A = ℕ} 0 1 = cc in absurd (omega arith)
  further_inv n (whole k a) on j x q = (k, a, refl, q)

-- ---- more bytes

name_late : (bs : List ℕ) (at n m : ℕ) → Late n (name_in bs at n m)
name_late bs at n zero = le_refl n
name_late bs at n (suc m) = le_refl n

behind_late : (bs : List ℕ) (at : ℕ) → Late at (behind_user bs at)
behind_late bs at =
    late_cond (announces (take 4 (drop 4 bs))) at (further at (text_in 1014 (drop at bs)) (name_in bs at)) (whole at (byte bs 1, endpoint (ipv4 (take 4 (drop 4 bs))) (port_in bs)))
    (late_further at (text_in 1014 (drop at bs)) (name_in bs at) (λ k a. name_late bs at (at + k) a)) (le_refl at)

-- a text that is there
text_in_lem : (most : ℕ) (bs : List ℕ) (at k m : ℕ) → at ≤ length bs → text_in most (drop at bs) ≡ whole k m → k ≤ length (drop at bs) → at + m < length bs
text_in_lem most bs at k m h q l = let c = (text_is most (drop at bs) k m q).count in omega (arith, length-drop at bs)

name_ext : (bs more : List ℕ) (at n m : ℕ) → 8 ≤ length bs → n ≤ length bs → at + m ≤ length bs → Ext (length bs) (name_in bs at n m) (name_in (bs ++ more) at n m)
name_ext bs more at n zero h k l = inr (n, k, refl, refl)
name_ext bs more at n (suc m) h k l = ext_whole (length bs) n _ _ k (rw (get_or-append bs more 0 1 (omega arith), part_same bs more at (suc m) l, two_same bs more 2 (omega arith)))

name_further : (bs more : List ℕ) (at : ℕ) → 8 ≤ at → at ≤ length bs
    → Ext (length bs) (further at (text_in 1014 (drop at bs)) (name_in bs at)) (further at (text_in 1014 (drop at (bs ++ more))) (name_in (bs ++ more) at))
name_further bs more at h k =
    let e : at + length (drop at bs) ≡ length bs = omega (arith, length-drop at bs) in
    let x = text_extends 1014 (drop at bs) more in
    let d = ext_further at (length (drop at bs)) (text_in 1014 (drop at bs)) (text_in 1014 (drop at bs ++ more)) (name_in bs at) (name_in (bs ++ more) at)
    (λ j a. name_late (bs ++ more) at (at + j) a)
    (λ j a q l. let i = text_in_lem 1014 bs at j a k q l in subst (λ (z : ℕ). Ext z (name_in bs at (at + j) a) (name_in (bs ++ more) at (at + j) a)) (sym e) (name_ext bs more at (at + j) a (omega arith) (omega arith) (omega arith))) x in
    rw (drop-append-le at bs more k) (subst (λ (z : ℕ). Ext z (further at (text_in 1014 (drop at bs)) (name_in bs at)) (further at (text_in 1014 (drop at bs ++ more)) (name_in (bs ++ more) at))) e d)

behind_ext : (bs more : List ℕ) (at : ℕ) → 8 ≤ at → at ≤ length bs → Ext (length bs) (behind_user bs at) (behind_user (bs ++ more) at)
behind_ext bs more at h k =
    rw (part_same bs more 4 4 (omega arith))
    (ext_cond (length bs) (announces (take 4 (drop 4 bs))) _ _ _ _ (name_further bs more at h k)
    (ext_whole (length bs) at _ _ k (rw (get_or-append bs more 0 1 (omega arith), two_same bs more 2 (omega arith)))))

user_further : (bs more : List ℕ) → 8 ≤ length bs
    → Ext (length bs) (further 8 (text_in 255 (drop 8 bs)) (λ at m. behind_user bs at)) (further 8 (text_in 255 (drop 8 (bs ++ more))) (λ at m. behind_user (bs ++ more) at))
user_further bs more k =
    let e : 8 + length (drop 8 bs) ≡ length bs = omega (arith, length-drop 8 bs) in
    let x = text_extends 255 (drop 8 bs) more in
    let d = ext_further 8 (length (drop 8 bs)) (text_in 255 (drop 8 bs)) (text_in 255 (drop 8 bs ++ more)) (λ at m. behind_user bs at) (λ at m. behind_user (bs ++ more) at)
    (λ j a. behind_late (bs ++ more) (8 + j))
    (λ j a q l. subst (λ (z : ℕ). Ext z (behind_user bs (8 + j)) (behind_user (bs ++ more) (8 + j))) (sym e) (behind_ext bs more (8 + j) (omega arith) (omega arith))) x in
    rw (drop-append-le 8 bs more k) (subst (λ (z : ℕ). Ext z (further 8 (text_in 255 (drop 8 bs)) (λ at m. behind_user bs at)) (further 8 (text_in 255 (drop 8 bs ++ more)) (λ at m. behind_user (bs ++ more) at))) e d)

pub request_extends : (bs more : List ℕ) → Ext (length bs) (request_in bs) (request_in (bs ++ more))
unfolding request_in
request_extends bs more =
    let cs = bs ++ more in
    let t = late_further 8 (text_in 255 (drop 8 cs)) (λ at m. behind_user cs at) (λ j a. behind_late cs (8 + j)) in
    ext_from 1 bs cs _ _ (longer bs more)
    (late_held (eqb (byte cs 0) 0x04) 1 1 _ (le_refl 1) (late_from 8 1 cs _ (late_less 1 8 (further 8 (text_in 255 (drop 8 cs)) (λ at m. behind_user cs at)) (lit≤ tt) t)))
    λ h1. rw (get_or-append bs more 0 0 (omega arith))
    (ext_held (length bs) (eqb (byte bs 0) 0x04) 1 _ _ h1
    (ext_from 8 bs cs _ _ (longer bs more) t λ h8. user_further bs more h8))

pub request_settled : (bs more : List ℕ) → (request_in bs ≡ short → ⊥) → request_in (bs ++ more) ≡ request_in bs
request_settled = settled request_in request_extends

pub request_early : (bs : List ℕ) (n : ℕ) → Decided n (request_in bs) → (n ≤ length bs) × ((k : ℕ) → k < n → request_in (take k bs) ≡ short)
request_early = early request_in request_extends

-- and there: the bytes up to it show the same
pub request_itself : (bs : List ℕ) (n : ℕ) → Decided n (request_in bs) → request_in (take n bs) ≡ request_in bs
request_itself = itself request_in request_extends

-- ---- the address that announces a name

pub announces_not : (ip : List ℕ) → (Announces ip → ⊥) → announces ip ≡ false
announces_not ip h = go (announces ip) refl
  where
    go : (b : Bool) → announces ip ≡ b → announces ip ≡ false
    go true q = absurd (h ((announces_just ip).0 q))
    go false q = q

-- ---- from the word to the reader

-- the bytes ahead of the user id
record Head (p : List ℕ) (q a r : List ℕ) : Type 0 where
  long : length p ≡ 8 + length r
  port : port_in p ≡ two_of q
  address : take 4 (drop 4 p) ≡ a
  rest : drop 8 p ≡ r

head_of : (command : ℕ) (q a r : List ℕ) → length q ≡ 2 → length a ≡ 4 → Head (4 ∷ command ∷ (q ++ (a ++ r))) q a r
head_of command q a r l k =
    let t = q ++ (a ++ r) in
    let d : drop 2 t ≡ a ++ r = drop_at q (a ++ r) 2 l in
    record {
      long = omega (arith, length-append q (a ++ r), length-append a r);
      port = rw (get_or-append q (a ++ r) 0 0 (omega arith), get_or-append q (a ++ r) 0 1 (omega arith));
      address = ap (take 4) d ∙ take_at a r 4 k;
      rest = sym (drop-drop 4 2 t) ∙ ap (drop 4) d ∙ drop_at a r 4 k;
    }

pub request_user : (bs : List ℕ) (k m : ℕ) → byte bs 0 ≡ 0x04 → 8 ≤ length bs → text_in 255 (drop 8 bs) ≡ whole k m → request_in bs ≡ behind_user bs (8 + k)
unfolding request_in
request_user bs k m e h q = rw (le-leb 1 (length bs) (omega arith), eq-eqb (byte bs 0) 0x04 e, le-leb 8 (length bs) h, q)

pub behind_plain : (bs : List ℕ) (at : ℕ) → announces (take 4 (drop 4 bs)) ≡ false → behind_user bs at ≡ whole at (byte bs 1, endpoint (ipv4 (take 4 (drop 4 bs))) (port_in bs))
behind_plain bs at q = rw q

pub behind_name : (bs : List ℕ) (at k m : ℕ) → announces (take 4 (drop 4 bs)) ≡ true → text_in 1014 (drop at bs) ≡ whole k m → 1 ≤ m
    → behind_user bs at ≡ whole (at + k) (byte bs 1, endpoint (domain (take m (drop at bs))) (port_in bs))
behind_name bs at k zero q e h = absurd (omega arith)
behind_name bs at k (suc m) q e h = rw (q, e)

addressed_of : (command : ℕ) (q a user : List ℕ) → length q ≡ 2 → length a ≡ 4 → (Announces a → ⊥) → length user ≤ 255 → Unbroken user
    → let p : List ℕ = 4 ∷ command ∷ (q ++ (a ++ (user ++ (0 ∷ [])))) in request_in p ≡ whole (length p) (command, endpoint (ipv4 a) (two_of q))
addressed_of command q a user l k n h u =
    let p : List ℕ = 4 ∷ command ∷ (q ++ (a ++ (user ++ (0 ∷ [])))) in
    let w = head_of command q a (user ++ (0 ∷ [])) l k in
    let t : text_in 255 (drop 8 p) ≡ whole (suc (length user)) (length user) = ap (text_in 255) w.rest ∙ text_of_lem 255 user [] h u in
    let i : 8 + suc (length user) ≡ length p = omega (arith, w.long, length-append user (0 ∷ [])) in
    let x : ◌≡◌ {A = ℕ × Endpoint} (command, endpoint (ipv4 (take 4 (drop 4 p))) (port_in p)) (command, endpoint (ipv4 a) (two_of q)) = cc (w.port, w.address) in
    request_user p (suc (length user)) (length user) refl (omega (arith, w.long)) t ∙ behind_plain p (8 + suc (length user)) (ap announces w.address ∙ announces_not a n) ∙ cc

pub behind_user_lem : (user r : List ℕ) → drop (suc (length user)) (user ++ (0 ∷ r)) ≡ r
behind_user_lem [] r = refl
behind_user_lem (b ∷ user) r = behind_user_lem user r

announced_of : (command : ℕ) (q a user s : List ℕ) → length q ≡ 2 → length a ≡ 4 → Announces a → length user ≤ 255 → Unbroken user → 1 ≤ length s → length s ≤ 1014 → Unbroken s
    → let p : List ℕ = 4 ∷ command ∷ (q ++ (a ++ (user ++ (0 ∷ (s ++ (0 ∷ [])))))) in request_in p ≡ whole (length p) (command, endpoint (domain s) (two_of q))
announced_of command q a user s l k n h u g j v =
    let r : List ℕ = s ++ (0 ∷ []) in
    let p : List ℕ = 4 ∷ command ∷ (q ++ (a ++ (user ++ (0 ∷ r)))) in
    let w = head_of command q a (user ++ (0 ∷ r)) l k in
    let at = 8 + suc (length user) in
    let t : text_in 255 (drop 8 p) ≡ whole (suc (length user)) (length user) = ap (text_in 255) w.rest ∙ text_of_lem 255 user r h u in
    let b : drop at p ≡ r = sym (drop-drop (suc (length user)) 8 p) ∙ ap (drop (suc (length user))) w.rest ∙ behind_user_lem user r in
    let e : text_in 1014 (drop at p) ≡ whole (suc (length s)) (length s) = ap (text_in 1014) b ∙ text_of_lem 1014 s [] j v in
    let i : at + suc (length s) ≡ length p = omega (arith, w.long, length-append user (0 ∷ r), length-append s (0 ∷ [])) in
    let z : take (length s) (drop at p) ≡ s = ap (take (length s)) b ∙ take_at s (0 ∷ []) (length s) refl in
    let x : ◌≡◌ {A = ℕ × Endpoint} (command, endpoint (domain (take (length s) (drop at p))) (port_in p)) (command, endpoint (domain s) (two_of q)) = cc (w.port, z) in
    request_user p (suc (length user)) (length user) refl (omega (arith, w.long)) t ∙ behind_name p at (suc (length s)) (length s) (ap announces w.address ∙ (announces_just a).1 n) e g ∙ cc

request_of : (p : List ℕ) (x : ℕ × Endpoint) → Request p x.0 x.1 → request_in p ≡ whole (length p) x
request_of p (command, x) w = go w
  where
    go : {p : List ℕ} {command : ℕ} {x : Endpoint} → Request p command x → request_in p ≡ whole (length p) (command, x)
    go (addressed {command} q a user l k n h u) = addressed_of command q a user l k n h u
    go (announced {command} q a user s l k n h u g j v) = announced_of command q a user s l k n h u g j v

-- ---- from the reader to the word

head_split : (p : List ℕ) → 8 ≤ length p → byte p 0 ≡ 4 → p ≡ 4 ∷ byte p 1 ∷ (take 2 (drop 2 p) ++ (take 4 (drop 4 p) ++ drop 8 p))
head_split p h e = cc (parts2 p (omega arith), take-append-drop 2 (drop 2 p), drop-drop 2 2 p, take-append-drop 4 (drop 4 p), drop-drop 4 4 p)

port_of : (l : List ℕ) → two_of l ≡ two_of (take 2 l)
port_of l = rw (get_or-take 2 l 0 0 (lit< tt), get_or-take 2 l 1 0 (lit< tt))

-- a text that is the last of the bytes
text_ends : (most : ℕ) (l : List ℕ) (k m : ℕ) → Text most l k m → length l ≡ k → l ≡ take m l ++ (0 ∷ [])
text_ends most l k m t e = let c = t.count in let d : drop (suc m) l ≡ [] = drop_of_length-le l {i = suc m} (omega arith) in t.split ∙ ap (λ (r : List ℕ). take m l ++ (0 ∷ r)) d

addressed_by : (p q a user : List ℕ) (command port : ℕ) → p ≡ 4 ∷ command ∷ (q ++ (a ++ (user ++ (0 ∷ [])))) → port ≡ two_of q
    → length q ≡ 2 → length a ≡ 4 → (Announces a → ⊥) → length user ≤ 255 → Unbroken user → Request p command (endpoint (ipv4 a) port)
addressed_by p q a user command port e f l k n h u = rw (e, f) (addressed q a user l k n h u)

announced_by : (p q a user s : List ℕ) (command port : ℕ) → p ≡ 4 ∷ command ∷ (q ++ (a ++ (user ++ (0 ∷ (s ++ (0 ∷ [])))))) → port ≡ two_of q
    → length q ≡ 2 → length a ≡ 4 → Announces a → length user ≤ 255 → Unbroken user → 1 ≤ length s → length s ≤ 1014 → Unbroken s → Request p command (endpoint (domain s) port)
announced_by p q a user s command port e f l k n h u g j v = rw (e, f) (announced q a user s l k n h u g j v)

name_inv : (bs : List ℕ) (at n m j : ℕ) (x : ℕ × Endpoint) → name_in bs at n m ≡ whole j x → (1 ≤ m) × (n ≡ j) × ((byte bs 1, endpoint (domain (take m (drop at bs))) (port_in bs)) ≡ x)
name_inv bs at n zero j x q = let z : ◌≡◌ {A = ℕ} 0 1 = cc in absurd (omega arith)
name_inv bs at n (suc m) j x q = let w = whole_inv n j _ x q in (omega arith, w.0, w.1)

pub text_length : (most : ℕ) (l : List ℕ) (k m : ℕ) → Text most l k m → m ≤ length l
text_length most l k m t = go (ap length t.split)
  where
    go : length l ≡ length (take m l ++ (0 ∷ drop (suc m) l)) → m ≤ length l
    go e = omega (arith, length-append (take m l) (0 ∷ drop (suc m) l), length-take m l)

plain_is : (p : List ℕ) (k m : ℕ) → byte p 0 ≡ 4 → 8 ≤ length p → Text 255 (drop 8 p) k m → announces (take 4 (drop 4 p)) ≡ false → 8 + k ≡ length p
    → Request p (byte p 1) (endpoint (ipv4 (take 4 (drop 4 p))) (port_in p))
plain_is p k m e h t n l =
    let f = t.fits in
    let s = text_ends 255 (drop 8 p) k m t (omega (arith, length-drop 8 p)) in
    let i = length-take-le m (drop 8 p) (text_length 255 (drop 8 p) k m t) in
    addressed_by p (take 2 (drop 2 p)) (take 4 (drop 4 p)) (take m (drop 8 p)) (byte p 1) (port_in p) (cc (head_split p h e, s)) (port_of (drop 2 p))
    (length-take-le 2 (drop 2 p) (omega (arith, length-drop 2 p))) (length-take-le 4 (drop 4 p) (omega (arith, length-drop 4 p)))
    (λ a. false≢true (sym n ∙ (announces_just (take 4 (drop 4 p))).1 a)) (omega arith) t.unbroken

named_is : (p : List ℕ) (k m at j i : ℕ) → byte p 0 ≡ 4 → 8 ≤ length p → Text 255 (drop 8 p) k m → announces (take 4 (drop 4 p)) ≡ true → at ≡ 8 + k → Text 1014 (drop at p) j i → 1 ≤ i → at + j ≡ length p
    → Request p (byte p 1) (endpoint (domain (take i (drop at p))) (port_in p))
named_is p k m at j i e h t n r v g l =
    let f = t.fits in
    let f' = v.fits in
    let c = t.count in
    let o : drop (suc m) (drop 8 p) ≡ drop at p = drop-drop (suc m) 8 p ∙ drop_same (8 + suc m) at p (omega arith) in
    let s = text_ends 1014 (drop at p) j i v (omega (arith, length-drop at p)) in
    let b = length-take-le m (drop 8 p) (text_length 255 (drop 8 p) k m t) in
    let b' = length-take-le i (drop at p) (text_length 1014 (drop at p) j i v) in
    announced_by p (take 2 (drop 2 p)) (take 4 (drop 4 p)) (take m (drop 8 p)) (take i (drop at p)) (byte p 1) (port_in p) (cc (head_split p h e, t.split, o, s)) (port_of (drop 2 p))
    (length-take-le 2 (drop 2 p) (omega (arith, length-drop 2 p))) (length-take-le 4 (drop 4 p) (omega (arith, length-drop 4 p)))
    ((announces_just (take 4 (drop 4 p))).0 n) (omega arith) t.unbroken (omega arith) (omega arith) v.unbroken

abbrev Asks : List ℕ → ℕ × Endpoint → Type 0
Asks p x = Request p x.0 x.1

behind_is : (p : List ℕ) (k m : ℕ) (x : ℕ × Endpoint) → byte p 0 ≡ 4 → 8 ≤ length p → Text 255 (drop 8 p) k m → behind_user p (8 + k) ≡ whole (length p) x → Asks p x
behind_is p k m x e h t q = go (announces (take 4 (drop 4 p))) refl q
  where
    go : (b : Bool) → announces (take 4 (drop 4 p)) ≡ b
        → cond b (further (8 + k) (text_in 1014 (drop (8 + k) p)) (name_in p (8 + k))) (whole (8 + k) (byte p 1, endpoint (ipv4 (take 4 (drop 4 p))) (port_in p))) ≡ whole (length p) x → Asks p x
    go true n r =
        let (j, i, u, g) = further_inv (8 + k) (text_in 1014 (drop (8 + k) p)) (name_in p (8 + k)) (length p) x r in
        let (o, l, w) = name_inv p (8 + k) (8 + k + j) i (length p) x g in
        subst (Asks p) w (named_is p k m (8 + k) j i e h t n refl (text_is 1014 (drop (8 + k) p) j i u) o l)
    go false n r =
        let w = whole_inv (8 + k) (length p) (byte p 1, endpoint (ipv4 (take 4 (drop 4 p))) (port_in p)) x r in
        subst (Asks p) w.1 (plain_is p k m e h t n w.0)

request_is : (p : List ℕ) → Bytes p → (x : ℕ × Endpoint) → request_in p ≡ whole (length p) x → Asks p x
unfolding request_in
request_is p y x q =
    let a = from_inv 1 p _ (length p) x q in
    let b = held_inv (eqb (byte p 0) 0x04) 1 _ (length p) x a.1 in
    let c = from_inv 8 p _ (length p) x b.1 in
    let (k, m, t, g) = further_inv 8 (text_in 255 (drop 8 p)) (λ at m. behind_user p at) (length p) x c.1 in
    behind_is p k m x (eqb-true (byte p 0) 0x04 b.0) c.0 (text_is 255 (drop 8 p) k m t) g

pub request_just : (bs : List ℕ) → Bytes bs → (n command : ℕ) (x : Endpoint) → request_in bs ≡ whole n (command, x) ↔ ((p : List ℕ) × Begins p bs × (length p ≡ n) × Request p command x)
request_just bs y n command x = just request_in request_extends Asks request_is request_of bs y n (command, x)
