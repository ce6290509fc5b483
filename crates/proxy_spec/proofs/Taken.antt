-- What every stream is that brings the proxy's end from a field to its question: how long at the least, and which bytes it has.
use Prim.Native.Nat.{ℕ, ◌+◌, ◌≤◌}
use native.Mathlib.Omega.{arith}
use mathlib.Core.Path.{◌≡◌, refl, ap, sym, ◌∙◌}
use mathlib.Core.Bool.{Bool, true, false, true≢false, cond, not, ◌&&◌}
use mathlib.Core.List.{List, [], ◌∷◌, ◌++◌, append-nil}
use lib.ListN.{length, drop, length-append, length-drop, get_or-append}
use lib.Dec.{eqb}
use borrow.Author.Tests.{not-true}
use Rattle.protocol.specs.declared.SocksError.{SocksError}
use Rattle.protocol.specs.Bytes.{byte, same}
use Rattle.protocol.specs.AddressReading.{Destination}
use Rattle.protocol.specs.Opening.{announces}
use Rattle.protocol.proofs.Bytes.{both_true, same_equal}
use Rattle.proxy_spec.specs.declared.Ports.{Ports}
use Rattle.proxy_spec.specs.declared.Field.TheVariants.{UserId}
use Rattle.proxy_spec.specs.End.{Setup, Asked, chosen, offers}
use Rattle.proxy_spec.specs.Side.{EndTalk, refuses, at_address, is_known, at_head, at_password, at_user, at_methods, ports_of, ip_of, unless_other4, at_name, at_user_id, at_request, at_first, server, reads}
use Rattle.proxy_spec.specs.Shortest.{from_head, from_password, from_user, from_login, takes4}
use Rattle.proxy_spec.proofs.Words.{parts2}
use Rattle.proxy_spec.proofs.Fields.{Sized, four, six, named, good_first, good_methods, good_user, good_password, good_head, good_address, good_request, good_id, good_name}
use Rattle.talk.specs.Decision.{decided, good}
use Rattle.talk.specs.Talk.{stop, done}
use Rattle.talk.specs.Lawful.{Accepts}

-- a talk is done just on these bytes
abbrev pub Taken : Setup → EndTalk → List ℕ → Type 0
Taken c t l = (x : Asked) × Accepts (server c) t l x

parts1 : (m : List ℕ) → 1 ≤ length m → m ≡ byte m 0 ∷ drop 1 m
parts1 [] h = absurd (omega arith)
parts1 (b ∷ m) h = refl

pub small_size : (type : ℕ) (m : List ℕ) (n : ℕ) → Sized type m n → 4 ≤ n
small_size type m n (four e q) = omega arith
small_size type m n (six e f q) = omega arith
small_size type m n (named e f h q) = omega arith

module _ (c : Setup) where
  -- by a test of which the other way fails
  unless_refused : (b : Bool) (t : EndTalk) (q : List ℕ) (e : SocksError) (l : List ℕ) → Taken c (cond b t (refuses q e)) l → (b ≡ true) × Taken c t l
  unless_refused true t q e l k = (refl, k)
  unless_refused false t q e l k = absurd k.1

  pub taken_address : (command type : ℕ) (l : List ℕ) → Taken c (at_address command type) l → (eqb command 1 ≡ true) × Sized type l (length l)
  taken_address command type l (x, (m, r, e, g, a)) =
      let (b, d) = unless_refused (eqb command 1) _ _ _ r (x, a) in
      let w : l ≡ m = e ∙ ap (λ (z : List ℕ). m ++ z) d.1.0 ∙ append-nil m in
      (b, rw w (good_address command type m (length m) g))

  pub taken_head : (l : List ℕ) → Taken c at_head l → (from_head ≤ length l) × (eqb (byte l 1) 1 ≡ true)
  taken_head l (x, (m, r, e, g, a)) =
      let n = good_head m (length m) g in
      let (_, d) = unless_refused (is_known (byte m 3)) _ _ _ r (x, a) in
      let (b, s) = taken_address (byte m 1) (byte m 3) r d in
      let w : byte l 1 ≡ byte m 1 = ap (λ (z : List ℕ). byte z 1) e ∙ get_or-append m r 0 1 (omega arith) in
      (omega (arith, ap length e, length-append m r, small_size (byte m 3) r (length r) s), rw w b)

  -- it begins with the password that is set
  pub taken_password : (right : Bool) (l : List ℕ) → Taken c (at_password c right) l
      → (right ≡ true) × (r : List ℕ) × (l ≡ (length c.password ∷ c.password) ++ r) × (from_head ≤ length r)
  taken_password right l (x, (m, r, e, g, a)) =
      let n = good_password right m (length m) g in
      let (b, d) = unless_refused (right && same (drop 1 m) c.password) _ _ _ r (x, a) in
      let (o, s) = both_true right (same (drop 1 m) c.password) b in
      let p = same_equal (drop 1 m) c.password s in
      let z : byte m 0 ≡ length c.password = omega (arith, ap length p, length-drop 1 m) in
      let w : m ≡ length c.password ∷ c.password = parts1 m (omega arith) ∙ (λ i. z i ∷ p i) in
      (o, r, e ∙ ap (λ (y : List ℕ). y ++ r) w, (taken_head r d).0)

  pub taken_user : (l : List ℕ) → Taken c (at_user c) l → (r : List ℕ) × (l ≡ (0x01 ∷ length c.user ∷ c.user) ++ r) × (from_password c.password ≤ length r)
  taken_user l (x, (m, r, e, g, a)) =
      let (v, n) = good_user m (length m) g in
      let (s, q, f, h) = taken_password (same (drop 2 m) c.user) r (x, a) in
      let u = same_equal (drop 2 m) c.user s in
      let z : byte m 1 ≡ length c.user = omega (arith, ap length u, length-drop 2 m) in
      let w : m ≡ 0x01 ∷ length c.user ∷ c.user = parts2 m (omega arith) ∙ (λ i. v i ∷ z i ∷ u i) in
      (r, e ∙ ap (λ (y : List ℕ). y ++ r) w, omega (arith, ap length f, length-append (length c.password ∷ c.password) q))

  user_long : (l : List ℕ) → Taken c (at_user c) l → from_user c.user c.password ≤ length l
  user_long l k = let (r, e, h) = taken_user l k in omega (arith, ap length e, length-append (0x01 ∷ length c.user ∷ c.user) r)

  login_long : (l : List ℕ) → Taken c (cond c.authenticates (at_user c) at_head) l → from_login c ≤ length l
  login_long l k = go c.authenticates k
    where
      go : (b : Bool) → Taken c (cond b (at_user c) at_head) l → cond b (from_user c.user c.password) from_head ≤ length l
      go true d = user_long l d
      go false d = (taken_head l d).0

  pub taken_methods : (l : List ℕ) → Taken c (at_methods c) l → (1 ≤ byte l 0) × (1 + byte l 0 + from_login c ≤ length l)
  taken_methods l (x, (m, r, e, g, a)) =
      let (p, n) = good_methods m (length m) g in
      let (_, d) = unless_refused (offers (chosen c.authenticates) (drop 1 m)) _ _ _ r (x, a) in
      let w : byte l 0 ≡ byte m 0 = ap (λ (z : List ℕ). byte z 0) e ∙ get_or-append m r 0 0 (omega arith) in
      (rw w p, rw w (omega (arith, ap length e, length-append m r, login_long r d)))

  -- a whole v4 request: no credentials are set, and the command is 1
  unless : (a b : Bool) (y : Asked) (q s : List ℕ) (e f : SocksError) (l : List ℕ) → Taken c (cond a (refuses q e) (cond b (stop (done y)) (refuses s f))) l
      → ((not a && b) ≡ true) × (l ≡ [])
  unless true b y q s e f l k = absurd k.1
  unless false true y q s e f l k = (refl, k.1.0)
  unless false false y q s e f l k = absurd k.1

  taken_other : (p : Ports) (d : Destination) (l : List ℕ) → Taken c (unless_other4 c p d) l → (takes4 c.authenticates p ≡ true) × (l ≡ [])
  taken_other p d l k = unless c.authenticates (eqb p.command 1) _ _ _ _ _ l k

  pub taken_name : (p : Ports) (l : List ℕ) → Taken c (at_name c p) l → (takes4 c.authenticates p ≡ true) × (2 ≤ length l)
  taken_name p l (x, (m, r, e, g, a)) =
      ((taken_other p _ r (x, a)).0, omega (arith, good_name p m (length m) g, ap length e, length-append m r))

  behind_id : (p : Ports) (d : Destination) (b : Bool) (l : List ℕ) → Taken c (cond b (at_name c p) (unless_other4 c p d)) l → (takes4 c.authenticates p ≡ true) × (b ≡ true → 2 ≤ length l)
  behind_id p d true l k = let (o, h) = taken_name p l k in (o, λ q. h)
  behind_id p d false l k = ((taken_other p d l k).0, λ q. absurd (true≢false (sym q)))

  -- the NULL of a user id stands behind all that is held of it
  pub taken_id : (p : Ports) (l : List ℕ) → Taken c (at_user_id c p) l
      → (takes4 c.authenticates p ≡ true) × (m : List ℕ) × (r : List ℕ) × (l ≡ m ++ r) × (reads (UserId p) m ≡ decided (length m) good) × (announces (ip_of p) ≡ true → 2 ≤ length r)
  taken_id p l (x, (m, r, e, g, a)) = let (o, h) = behind_id p _ (announces (ip_of p)) r (x, a) in (o, m, r, e, g, h)

  pub taken_request : (l : List ℕ) → Taken c (at_request c) l → (c.authenticates ≡ false) × (eqb (byte l 0) 1 ≡ true) × (8 ≤ length l)
  taken_request l (x, (m, r, e, g, a)) =
      let n = good_request m (length m) g in
      let (o, s, q, f, h, _) = taken_id (ports_of m) r (x, a) in
      let (y, z) = both_true (not c.authenticates) (eqb (byte m 0) 1) o in
      let w : byte l 0 ≡ byte m 0 = ap (λ (k : List ℕ). byte k 0) e ∙ get_or-append m r 0 0 (omega arith) in
      (not-true c.authenticates y, rw w z, omega (arith, ap length e, ap length f, length-append m r, length-append s q, good_id (ports_of m) s (length s) h))

  pub taken_first : (l : List ℕ) → Taken c (at_first c) l → cond c.authenticates (3 + from_user c.user c.password) 9 ≤ length l
  taken_first l (x, (m, r, e, g, a)) = go (eqb (byte m 0) 0x05) c.authenticates refl (x, a)
    where
      n : length m ≡ 1
      n = good_first m (length m) g

      go : (b o : Bool) → c.authenticates ≡ o → Taken c (cond b (at_methods c) (at_request c)) r → cond o (3 + from_user c.user c.password) 9 ≤ length l
      go true o q k =
          let (p, h) = taken_methods r k in
          over o (omega (arith, ap length e, length-append m r, n, rw q at h))
        where
          over : (o : Bool) → 3 + cond o (from_user c.user c.password) from_head ≤ length l → cond o (3 + from_user c.user c.password) 9 ≤ length l
          over true h = h
          over false h = omega arith
      go false true q k = let (z, _, _) = taken_request r k in absurd (true≢false (sym q ∙ z))
      go false false q k = let (_, _, h) = taken_request r k in omega (arith, ap length e, length-append m r, n)
