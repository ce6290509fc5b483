-- Streams that bring the proxy's end from a field to its question, and streams that settle it.
use Prim.Native.Nat.{ℕ, zero, suc, ◌+◌, ◌≤◌}
use native.Mathlib.Omega.{arith}
use mathlib.Core.Path.{◌≡◌, refl, ap, sym, ◌∙◌}
use mathlib.Core.Bool.{Bool, true, false, true≢false, cond, not, ◌&&◌}
use mathlib.Core.List.{List, [], ◌∷◌, ◌++◌, append-nil}
use lib.ListN.{length, drop, length-append}
use lib.Seq.{take_at, drop_at}
use lib.Dec.{eqb}
use borrow.Author.Tests.{le-leb, eq-eqb}
use Rattle.protocol.specs.declared.SocksError.{SocksError}
use Rattle.protocol.specs.declared.SocksError.TheVariants.{Malformed}
use Rattle.protocol.specs.declared.Version.TheVariants.{V5}
use Rattle.protocol.specs.Bytes.{byte, same}
use Rattle.protocol.specs.AddressReading.{Destination, ipv4}
use Rattle.protocol.specs.Opening.{announces}
use Rattle.protocol.proofs.Bytes.{same_self}
use Rattle.proxy_spec.specs.Words.{Unbroken}
use Rattle.proxy_spec.specs.Reads.{Seen, short, wrong, unknown, whole, text_in}
use Rattle.proxy_spec.specs.declared.Ports.{Ports}
use Rattle.proxy_spec.specs.declared.Field.{Field}
use Rattle.proxy_spec.specs.declared.Field.TheVariants.{Methods, User, Password, Address, Request, UserId, Name}
use Rattle.proxy_spec.specs.End.{Setup, Asked, asked, chosen, offers}
use Rattle.proxy_spec.specs.Side.{EndTalk, refuses, target_of, at_address, at_head, at_password, at_user, at_methods, ports_of, ip_of, unless_other4, at_name, at_user_id, at_request, server, reads, read_text, read_name}
use Rattle.proxy_spec.specs.Shortest.{takes4}
use Rattle.proxy_spec.proofs.Side.{extends}
use Rattle.proxy_spec.proofs.Texts.{text_of_lem, text_over, text_short}
use Rattle.proxy_spec.proofs.Taken.{Taken}
use Rattle.talk.specs.Decision.{undecided, decided, good, bad}
use Rattle.talk.specs.Talk.{stop, done, await, feed, is_over}
use Rattle.talk.proofs.Feed.{stays_of}

-- ---- fields that are good

pub methods_good : (m : List ℕ) → 1 ≤ byte m 0 → length m ≡ 1 + byte m 0 → reads Methods m ≡ decided (length m) good
unfolding reads
methods_good m h e = rw (le-leb 1 (length m) (omega arith), le-leb 1 (byte m 0) h, le-leb (1 + byte m 0) (length m) (omega arith)) (ap (λ (k : ℕ). decided k good) (sym e))

pub user_good : (m : List ℕ) → byte m 0 ≡ 0x01 → length m ≡ 2 + byte m 1 → reads User m ≡ decided (length m) good
unfolding reads
user_good m h e =
    rw (le-leb 1 (length m) (omega arith), eq-eqb (byte m 0) 0x01 h, le-leb 2 (length m) (omega arith), le-leb (2 + byte m 1) (length m) (omega arith)) (ap (λ (k : ℕ). decided k good) (sym e))

pub password_good : (right : Bool) (m : List ℕ) → length m ≡ 1 + byte m 0 → reads (Password right) m ≡ decided (length m) good
unfolding reads
password_good right m e = rw (le-leb 1 (length m) (omega arith), le-leb (1 + byte m 0) (length m) (omega arith)) (ap (λ (k : ℕ). decided k good) (sym e))

pub request_good : (m : List ℕ) → length m ≡ 7 → reads Request m ≡ decided (length m) good
unfolding reads
request_good m e = rw (le-leb 7 (length m) (omega arith)) (ap (λ (k : ℕ). decided k good) (sym e))

-- bytes that are no user id, or no name, yet are one with a 00 behind them
snoc_long : (h : List ℕ) (b : ℕ) → length (h ++ (b ∷ [])) ≡ suc (length h)
snoc_long h b = omega (arith, length-append h (b ∷ []))

text_waits : (s : Seen ℕ) → read_text s ≡ undecided → s ≡ short
text_waits short q = refl
text_waits (wrong n) q = let z : ◌≡◌ {A = ℕ} 0 1 = cc in absurd (omega arith)
text_waits (unknown n) q = let z : ◌≡◌ {A = ℕ} 0 1 = cc in absurd (omega arith)
text_waits (whole n m) q = let z : ◌≡◌ {A = ℕ} 0 1 = cc in absurd (omega arith)

name_waits : (s : Seen ℕ) → read_name s ≡ undecided → s ≡ short
name_waits short q = refl
name_waits (wrong n) q = let z : ◌≡◌ {A = ℕ} 0 1 = cc in absurd (omega arith)
name_waits (unknown n) q = let z : ◌≡◌ {A = ℕ} 0 1 = cc in absurd (omega arith)
name_waits (whole n zero) q = let z : ◌≡◌ {A = ℕ} 0 1 = cc in absurd (omega arith)
name_waits (whole n (suc m)) q = let z : ◌≡◌ {A = ℕ} 0 1 = cc in absurd (omega arith)

module _ (p : Ports) (h : List ℕ) where
  pub id_short : reads (UserId p) h ≡ undecided → (length h ≤ 255) × Unbroken h
  unfolding reads
  id_short q = text_short 255 h (text_waits (text_in 255 h) q)

  pub id_good : reads (UserId p) h ≡ undecided → reads (UserId p) (h ++ (0x00 ∷ [])) ≡ decided (length (h ++ (0x00 ∷ []))) good
  unfolding reads
  id_good q = let (l, u) = id_short q in rw (text_of_lem 255 h [] l u) (ap (λ (k : ℕ). decided k good) (sym (snoc_long h 0)))

  -- a 256th byte is wrong
  pub id_over : reads (UserId p) h ≡ undecided → 255 ≤ length h → reads (UserId p) (h ++ (0x01 ∷ [])) ≡ decided 256 (bad Malformed)
  unfolding reads
  id_over q l =
      let (k, u) = id_short q in
      let e : length h ≡ 255 = omega arith in
      let w : text_in 255 (h ++ (0x01 ∷ [])) ≡ wrong 256 = rw e at (text_over h 0x01 [] (λ z. omega arith) u) in
      rw w

  pub name_good : reads (Name p) h ≡ undecided → 1 ≤ length h → reads (Name p) (h ++ (0x00 ∷ [])) ≡ decided (length (h ++ (0x00 ∷ []))) good
  unfolding reads
  name_good q o =
      let (l, u) = text_short 1014 h (name_waits (text_in 1014 h) q) in
      rw (text_of_lem 1014 h [] l u) (go (length h) refl o)
    where
      go : (n : ℕ) → length h ≡ n → 1 ≤ n → read_name (whole (suc n) n) ≡ decided (length (h ++ (0x00 ∷ []))) good
      go zero e z = absurd (omega arith)
      go (suc n) e z = ap (λ (k : ℕ). decided k good) (ap suc (sym e) ∙ sym (snoc_long h 0))

-- ---- streams that end in a question

-- a connect by name, of one byte
abbrev pub head_word : List ℕ
head_word = 0x05 ∷ 0x01 ∷ 0x00 ∷ 0x03 ∷ 0x01 ∷ 0x00 ∷ 0x00 ∷ 0x00 ∷ []

abbrev pub password_word : Setup → List ℕ
password_word c = (length c.password ∷ c.password) ++ head_word

abbrev pub user_word : Setup → List ℕ
user_word c = (0x01 ∷ length c.user ∷ c.user) ++ password_word c

abbrev pub login_word : Setup → List ℕ
login_word c = cond c.authenticates (user_word c) head_word

silent : (a b d : ℕ) → announces (a ∷ b ∷ d ∷ 0 ∷ []) ≡ false
unfolding announces
silent a b d = go (eqb a 0) (eqb b 0) (eqb d 0)
  where
    go : (x y z : Bool) → (x && (y && (z && false))) ≡ false
    go false y z = refl
    go true false z = refl
    go true true false = refl
    go true true true = refl

-- zero as the last of the address: no name is announced
pub request_silent : (m : List ℕ) → byte m 6 ≡ 0 → announces (ip_of (ports_of m)) ≡ false
request_silent m e = rw e (silent (byte m 3) (byte m 4) (byte m 5))

module _ (c : Setup) where
  pub made_address : (command type : ℕ) (m : List ℕ) → eqb command 1 ≡ true → reads (Address command type) m ≡ decided (length m) good → Taken c (at_address command type) m
  made_address command type m b g = (asked V5 (target_of type m), (m, [], sym (append-nil m), g, rw b (refl, refl)))

  pub made_head : Taken c at_head head_word
  unfolding reads
  made_head = (_, (0x05 ∷ 0x01 ∷ 0x00 ∷ 0x03 ∷ [], 0x01 ∷ 0x00 ∷ 0x00 ∷ 0x00 ∷ [], refl, refl, (0x01 ∷ 0x00 ∷ 0x00 ∷ 0x00 ∷ [], [], refl, refl, (refl, refl))))

  pub made_password : Taken c (at_password c true) (password_word c)
  made_password =
      let (x, a) = made_head in
      (x, (length c.password ∷ c.password, head_word, refl, password_good true (length c.password ∷ c.password) (omega arith), rw (same_self c.password) a))

  pub made_user : Taken c (at_user c) (user_word c)
  made_user =
      let (x, a) = made_password in
      (x, (0x01 ∷ length c.user ∷ c.user, password_word c, refl, user_good (0x01 ∷ length c.user ∷ c.user) refl (omega arith), rw (same_self c.user) a))

  made_login : Taken c (cond c.authenticates (at_user c) at_head) (login_word c)
  made_login = go c.authenticates
    where
      go : (b : Bool) → Taken c (cond b (at_user c) at_head) (cond b (user_word c) head_word)
      go true = made_user
      go false = made_head

  pub made_methods : (m : List ℕ) → 1 ≤ byte m 0 → length m ≡ 1 + byte m 0 → offers (chosen c.authenticates) (drop 1 m) ≡ true → Taken c (at_methods c) (m ++ login_word c)
  made_methods m h e o =
      let (x, a) = made_login in
      (x, (m, login_word c, refl, methods_good m h e, rw o a))

  made_other : (p : Ports) (d : Destination) → takes4 c.authenticates p ≡ true → Taken c (unless_other4 c p d) []
  made_other p d q = go c.authenticates (eqb p.command 1) _ _ _ _ _ q
    where
      go : (a b : Bool) (y : Asked) (r s : List ℕ) (e f : SocksError) → (not a && b) ≡ true → Taken c (cond a (refuses r e) (cond b (stop (done y)) (refuses s f))) []
      go true b y r s e f w = absurd (true≢false (sym w))
      go false true y r s e f w = (y, (refl, refl))
      go false false y r s e f w = absurd (true≢false (sym w))

  pub made_name : (p : Ports) (m : List ℕ) → takes4 c.authenticates p ≡ true → reads (Name p) m ≡ decided (length m) good → Taken c (at_name c p) m
  made_name p m q g = let (x, a) = made_other p _ q in (x, (m, [], sym (append-nil m), g, a))

  pub made_id : (p : Ports) (m : List ℕ) → announces (ip_of p) ≡ false → takes4 c.authenticates p ≡ true → reads (UserId p) m ≡ decided (length m) good → Taken c (at_user_id c p) m
  made_id p m n q g = let (x, a) = made_other p (ipv4 (ip_of p)) q in (x, (m, [], sym (append-nil m), g, rw n a))

  pub made_named : (p : Ports) (m : List ℕ) → announces (ip_of p) ≡ true → takes4 c.authenticates p ≡ true → reads (UserId p) m ≡ decided (length m) good → Taken c (at_user_id c p) (m ++ (0x01 ∷ 0x00 ∷ []))
  unfolding reads text_in
  made_named p m n q g = let (x, a) = made_name p (0x01 ∷ 0x00 ∷ []) q refl in (x, (m, 0x01 ∷ 0x00 ∷ [], refl, g, rw n a))

  pub made_request : (m : List ℕ) → length m ≡ 7 → byte m 6 ≡ 0 → takes4 c.authenticates (ports_of m) ≡ true → Taken c (at_request c) (m ++ (0x00 ∷ []))
  unfolding reads text_in
  made_request m l z q =
      let (x, a) = made_id (ports_of m) (0x00 ∷ []) (request_silent m z) q refl in
      (x, (m, 0x00 ∷ [], refl, request_good m l, a))

  -- ---- streams that settle it

  abbrev pub Over : EndTalk → List ℕ → Type 0
  Over t l = is_over (feed (server c) t l).session ≡ true

  pub over_message : (f : Field) (k : List ℕ → EndTalk) (m r : List ℕ) → reads f m ≡ decided (length m) good → Over (k m) r → Over (await f k) (m ++ r)
  unfolding feed
  over_message f k m r g o = rw (stays_of (extends f m r) (length m) good g, take_at m r (length m) refl, drop_at m r (length m) refl) o

  over_alone : (f : Field) (k : List ℕ → EndTalk) (m : List ℕ) → reads f m ≡ decided (length m) good → Over (k m) [] → Over (await f k) m
  over_alone f k m g o = rw append-nil at (over_message f k m [] g o)

  pub over_bad : (f : Field) (k : List ℕ → EndTalk) (l : List ℕ) (n : ℕ) (e : SocksError) → reads f l ≡ decided n (bad e) → Over (await f k) l
  unfolding feed
  over_bad f k l n e q = rw q

  pub over_refused : (q : List ℕ) (e : SocksError) (l : List ℕ) → Over (refuses q e) l
  unfolding feed
  over_refused q e l = refl

  pub over_address : (command type : ℕ) (m : List ℕ) → eqb command 1 ≡ false → reads (Address command type) m ≡ decided (length m) good → Over (at_address command type) m
  over_address command type m b g = over_alone (Address command type) _ m g (rw b (over_refused _ _ []))

  pub over_password : (right : Bool) (m : List ℕ) → (right && same (drop 1 m) c.password) ≡ false → reads (Password right) m ≡ decided (length m) good → Over (at_password c right) m
  over_password right m b g = over_alone (Password right) _ m g (rw b (over_refused _ _ []))

  pub over_user : (m : List ℕ) → same (drop 2 m) c.user ≡ false → reads User m ≡ decided (length m) good → Over (at_user c) (m ++ (0x00 ∷ []))
  unfolding reads
  over_user m b g = over_message User _ m (0x00 ∷ []) g (rw b (over_password false (0x00 ∷ []) refl refl))

  over_other : (p : Ports) (d : Destination) (l : List ℕ) → takes4 c.authenticates p ≡ false → Over (unless_other4 c p d) l
  over_other p d l q = go c.authenticates (eqb p.command 1) _ _ _ _ _ q
    where
      go : (a b : Bool) (y : Asked) (r s : List ℕ) (e f : SocksError) → (not a && b) ≡ false → Over (cond a (refuses r e) (cond b (stop (done y)) (refuses s f))) l
      go true b y r s e f w = over_refused r e l
      go false true y r s e f w = absurd (true≢false w)
      go false false y r s e f w = over_refused s f l

  pub over_name : (p : Ports) (m : List ℕ) → takes4 c.authenticates p ≡ false → reads (Name p) m ≡ decided (length m) good → Over (at_name c p) m
  over_name p m q g = over_alone (Name p) _ m g (over_other p _ [] q)

  pub over_id : (p : Ports) (m : List ℕ) → announces (ip_of p) ≡ false → takes4 c.authenticates p ≡ false → reads (UserId p) m ≡ decided (length m) good → Over (at_user_id c p) m
  over_id p m n q g = over_alone (UserId p) _ m g (rw n (over_other p _ [] q))

  -- a name of no byte
  pub over_named : (p : Ports) (m : List ℕ) → announces (ip_of p) ≡ true → reads (UserId p) m ≡ decided (length m) good → Over (at_user_id c p) (m ++ (0x00 ∷ []))
  unfolding reads text_in
  over_named p m n g = over_message (UserId p) _ m (0x00 ∷ []) g (rw n (over_bad (Name p) _ (0x00 ∷ []) 1 Malformed refl))

  pub over_request : (m : List ℕ) → length m ≡ 7 → byte m 6 ≡ 0 → takes4 c.authenticates (ports_of m) ≡ false → Over (at_request c) (m ++ (0x00 ∷ []))
  unfolding reads text_in
  over_request m l z q = over_message Request _ m (0x00 ∷ []) (request_good m l) (over_id (ports_of m) (0x00 ∷ []) (request_silent m z) q refl)
