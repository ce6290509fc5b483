-- F-3: what the end holds, hands out and sends has a bound, whichever field it waits for and whatever bytes come.
use Prim.Native.Nat.{ℕ, zero, suc, ◌+◌, ◌-◌, ◌≤◌, zero-le}
use native.Mathlib.Nat.{le_trans}
use native.Mathlib.Omega.{arith}
use mathlib.Core.Path.{◌≡◌, refl, subst}
use mathlib.Core.Bool.{Bool, true, false, cond, ◌&&◌}
use mathlib.Core.List.{List, ◌++◌}
use lib.ListN.{length, take, drop, length-take, take-append-drop}
use lib.Dec.{eqb, lit≤}
use Rattle.protocol.specs.declared.SocksError.{SocksError}
use Rattle.protocol.specs.Bytes.{Bytes, byte, same}
use Rattle.protocol.specs.AddressReading.{Destination, ipv4}
use Rattle.protocol.specs.Bound.{bytes_in}
use Rattle.protocol.specs.Opening.{announces}
use Rattle.protocol.proofs.Bytes.{bytes_left, bytes_right}
use Rattle.proxy_spec.specs.declared.Ports.{Ports}
use Rattle.proxy_spec.specs.declared.Field.{Field}
use Rattle.proxy_spec.specs.declared.Field.TheVariants.{First, Methods, User, Password, Head, Address, Request, UserId, Name}
use Rattle.proxy_spec.specs.Reads.{Seen, short, wrong, unknown, whole, text_in}
use Rattle.proxy_spec.specs.End.{Setup, Asked, chosen, offers}
use Rattle.proxy_spec.specs.Side.{reads, read_name, EndTalk, refuses, target_of, at_address, is_known, at_head, at_password, at_user, at_methods, ports_of, ip_of, unless_other4, at_name, at_user_id, at_request, talk_at, server}
use Rattle.proxy_spec.proofs.Side.{server_lawful, held_most}
use Rattle.proxy_spec.proofs.Texts.{text_is}
use Rattle.talk.specs.Decision.{Decision, undecided, decided, good, bad}
use Rattle.talk.specs.Talk.{done, stop, send, await, waiting, ended, deciding, feed, held_by}
use Rattle.talk.specs.Lawful.{Accepts}
use Rattle.talk.proofs.Accept.{parsed}
use Rattle.talk.proofs.Sends.{Sends, sends_more, sends_cond, sends_fed}

bytes_behind : (n : ℕ) (bs : List ℕ) → Bytes bs → Bytes (drop n bs)
bytes_behind n bs y = bytes_right (take n bs) (drop n bs) (rw (take-append-drop n bs) y)

-- ---- what is held

module _ (c : Setup) where
  held_await : (s : Field) (k : List ℕ → EndTalk) (bs : List ℕ) → Bytes bs → (d : Decision SocksError) → reads s bs ≡ d
      → ((n : ℕ) → length (held_by (feed (server c) (k (take n bs)) (drop n bs)).session) ≤ 1014)
      → length (held_by (deciding d (waiting s bs) (λ n. feed (server c) (k (take n bs)) (drop n bs))).session) ≤ 1014
  held_await s k bs y undecided q ih = held_most s bs y q
  held_await s k bs y (decided n good) q ih = ih n
  held_await s k bs y (decided n (bad e)) q ih = zero-le

  held_talk : (t : EndTalk) (bs : List ℕ) → Bytes bs → length (held_by (feed (server c) t bs).session) ≤ 1014
  unfolding feed
  held_talk (stop e) bs y = zero-le
  held_talk (send q t) bs y = held_talk t bs y
  held_talk (await s k) bs y = held_await s k bs y (reads s bs) refl (λ n. held_talk (k (take n bs)) (drop n bs) (bytes_behind n bs y))

pub feed_held : (c : Setup) (f : Field) (bs : List ℕ) → Bytes bs → length (held_by (feed (server c) (talk_at c f) bs).session) ≤ 1014
feed_held c f bs y = held_talk c (talk_at c f) bs y

-- ---- what is handed out

abbrev Small : Destination → Type 0
Small d = length (bytes_in d) ≤ 1014

part_within : (n most : ℕ) (l : List ℕ) → n ≤ most → length (take n l) ≤ most
part_within n most l h = omega (arith, length-take n l)

-- a good name has its 00 behind at most 1,014 bytes
name_within : (m : List ℕ) (s : Seen ℕ) → text_in 1014 m ≡ s → read_name s ≡ decided (length m) good → length m ≤ 1015
name_within m short e g = let z : ◌≡◌ {A = ℕ} 0 1 = cc in absurd (omega arith)
name_within m (wrong n) e g = let z : ◌≡◌ {A = ℕ} 0 1 = cc in absurd (omega arith)
name_within m (unknown n) e g = let z : ◌≡◌ {A = ℕ} 0 1 = cc in absurd (omega arith)
name_within m (whole n zero) e g = let z : ◌≡◌ {A = ℕ} 0 1 = cc in absurd (omega arith)
name_within m (whole n (suc j)) e g =
    let t = text_is 1014 m n (suc j) e in
    let a = t.count in
    let b = t.fits in
    let l : n ≡ length m = cc in
    omega arith

small_target : (type : ℕ) (m : List ℕ) → Bytes m → Small (target_of type m).address
small_target type m y = go (eqb type 0x01) (eqb type 0x04)
  where
    go : (a b : Bool) → Small (cond a (target_of 0x01 m) (cond b (target_of 0x04 m) (target_of 0x03 m))).address
    go true b = part_within 4 1014 m (lit≤ tt)
    go false true = part_within 16 1014 m (lit≤ tt)
    go false false = part_within (byte m 0) 1014 (drop 1 m) (le_trans (y 0) (lit≤ tt))

-- whatever bytes it accepts
record Hands (c : Setup) (t : EndTalk) : Type 0 where
  small : (p : List ℕ) (x : Asked) → Bytes p → Accepts (server c) t p x → Small x.target.address

module _ (c : Setup) where
  hands_cond : (b : Bool) (t u : EndTalk) → Hands c t → Hands c u → Hands c (cond b t u)
  hands_cond true t u f g = f
  hands_cond false t u f g = g

  -- what follows each message that is good
  hands_await : (s : Field) (k : List ℕ → EndTalk) → ((m : List ℕ) → Bytes m → reads s m ≡ decided (length m) good → Hands c (k m)) → Hands c (await s k)
  hands_await s k f = record { small = go }
    where
      go : (p : List ℕ) (x : Asked) → Bytes p → Accepts (server c) (await s k) p x → Small x.target.address
      go p x y (m, l, e, g, a) =
          let z : Bytes (m ++ l) = subst Bytes e y in
          (f m (bytes_left m l z) g).small l x (bytes_right m l z) a

  hands_stop : (x : Asked) → Small x.target.address → Hands c (stop (done x))
  hands_stop x h = record { small = λ p z y e. subst (λ (w : Asked). Small w.target.address) e.1 h }

  hands_refuses : (r : List ℕ) (e : SocksError) → Hands c (refuses r e)
  hands_refuses r e = record { small = λ p x y a. absurd a }

  hands_send : (r : List ℕ) (t : EndTalk) → Hands c t → Hands c (send r t)
  hands_send r t h = record { small = λ p x y a. h.small p x y a }

  hands_address : (command type : ℕ) → Hands c (at_address command type)
  hands_address command type =
      hands_await (Address command type) _ (λ m y g. hands_cond (eqb command 1) _ _ (hands_stop _ (small_target type m y)) (hands_refuses _ _))

  hands_head : Hands c at_head
  hands_head = hands_await Head _ (λ m y g. hands_cond (is_known (byte m 3)) _ _ (hands_address (byte m 1) (byte m 3)) (hands_refuses _ _))

  hands_password : (right : Bool) → Hands c (at_password c right)
  hands_password right = hands_await (Password right) _ (λ m y g. hands_cond (right && same (drop 1 m) c.password) _ _ (hands_send _ _ hands_head) (hands_refuses _ _))

  hands_user : Hands c (at_user c)
  hands_user = hands_await User _ (λ m y g. hands_password (same (drop 2 m) c.user))

  hands_methods : Hands c (at_methods c)
  hands_methods =
      hands_await Methods _ (λ m y g. hands_cond (offers (chosen c.authenticates) (drop 1 m)) _ _ (hands_send _ _ (hands_cond c.authenticates (at_user c) at_head hands_user hands_head)) (hands_refuses _ _))

  hands_other : (p : Ports) (d : Destination) → Small d → Hands c (unless_other4 c p d)
  hands_other p d h = hands_cond c.authenticates _ _ (hands_refuses _ _) (hands_cond (eqb p.command 1) _ _ (hands_stop _ h) (hands_refuses _ _))

  hands_name : (p : Ports) → Hands c (at_name c p)
  unfolding reads
  hands_name p =
      hands_await (Name p) _ (λ m y g. let h = name_within m (text_in 1014 m) refl g in hands_other p _ (part_within (length m - 1) 1014 m (omega arith)))

  hands_id : (p : Ports) → Hands c (at_user_id c p)
  hands_id p = hands_await (UserId p) _ (λ m y g. hands_cond (announces (ip_of p)) _ _ (hands_name p) (hands_other p (ipv4 (ip_of p)) (lit≤ tt)))

  hands_request : Hands c (at_request c)
  hands_request = hands_await Request _ (λ m y g. hands_id (ports_of m))

  hands_at : (f : Field) → Hands c (talk_at c f)
  hands_at First = hands_await First _ (λ m y g. hands_cond (eqb (byte m 0) 0x05) _ _ hands_methods hands_request)
  hands_at Methods = hands_methods
  hands_at User = hands_user
  hands_at (Password right) = hands_password right
  hands_at Head = hands_head
  hands_at (Address command type) = hands_address command type
  hands_at Request = hands_request
  hands_at (UserId p) = hands_id p
  hands_at (Name p) = hands_name p

pub feed_target : (c : Setup) (f : Field) (bs : List ℕ) → Bytes bs → (x : Asked) → (feed (server c) (talk_at c f) bs).session ≡ ended (done x) → length (bytes_in x.target.address) ≤ 1014
feed_target c f bs y x q =
    let (p, (l, e), a) = parsed (server c) (server_lawful c) (talk_at c f) bs x q in
    (hands_at c f).small p x (bytes_left p l (subst Bytes e y)) a

-- ---- what is sent

module _ (c : Setup) where
  sends_address : (command type : ℕ) → Sends 10 (at_address command type)
  sends_address command type m = sends_cond 10 (eqb command 1) _ _ tt (lit≤ tt, tt)

  sends_head : Sends 10 at_head
  sends_head m = sends_cond 10 (is_known (byte m 3)) _ _ (sends_address (byte m 1) (byte m 3)) (lit≤ tt, tt)

  sends_password : (right : Bool) → Sends 12 (at_password c right)
  sends_password right m = sends_cond 12 (right && same (drop 1 m) c.password) _ _ (lit≤ tt, sends_head) (lit≤ tt, tt)

  sends_user : Sends 12 (at_user c)
  sends_user m = sends_password (same (drop 2 m) c.user)

  sends_methods : Sends 14 (at_methods c)
  sends_methods m =
      sends_cond 14 (offers (chosen c.authenticates) (drop 1 m)) _ _
      (lit≤ tt, sends_cond 12 c.authenticates (at_user c) at_head sends_user (sends_more 10 12 at_head (lit≤ tt) sends_head)) (lit≤ tt, tt)

  sends_other : (p : Ports) (d : Destination) → Sends 8 (unless_other4 c p d)
  sends_other p d = sends_cond 8 c.authenticates _ _ (lit≤ tt, tt) (sends_cond 8 (eqb p.command 1) _ _ tt (lit≤ tt, tt))

  sends_name : (p : Ports) → Sends 8 (at_name c p)
  sends_name p m = sends_other p _

  sends_id : (p : Ports) → Sends 8 (at_user_id c p)
  sends_id p m = sends_cond 8 (announces (ip_of p)) _ _ (sends_name p) (sends_other p _)

  sends_request : Sends 8 (at_request c)
  sends_request m = sends_id (ports_of m)

  sends_at : (f : Field) → Sends 14 (talk_at c f)
  sends_at First = λ m. sends_cond 14 (eqb (byte m 0) 0x05) _ _ sends_methods (sends_more 8 14 (at_request c) (lit≤ tt) sends_request)
  sends_at Methods = sends_methods
  sends_at User = sends_more 12 14 (at_user c) (lit≤ tt) sends_user
  sends_at (Password right) = sends_more 12 14 (at_password c right) (lit≤ tt) (sends_password right)
  sends_at Head = sends_more 10 14 at_head (lit≤ tt) sends_head
  sends_at (Address command type) = sends_more 10 14 (at_address command type) (lit≤ tt) (sends_address command type)
  sends_at Request = sends_more 8 14 (at_request c) (lit≤ tt) sends_request
  sends_at (UserId p) = sends_more 8 14 (at_user_id c p) (lit≤ tt) (sends_id p)
  sends_at (Name p) = sends_more 8 14 (at_name c p) (lit≤ tt) (sends_name p)

pub feed_sent : (c : Setup) (f : Field) (bs : List ℕ) → length (feed (server c) (talk_at c f) bs).sent ≤ 14
feed_sent c f bs = sends_fed (server c) 14 (talk_at c f) (sends_at c f) bs
