-- What a greeting and credentials want, and the first byte.
use Prim.Native.Nat.{ℕ, zero, suc, ◌+◌, ◌-◌, ◌≤◌, ◌<◌}
use native.Mathlib.Omega.{arith}
use mathlib.Core.Path.{◌≡◌, refl, ap, sym, subst, ◌∙◌}
use mathlib.Core.Bool.{Bool, true, false, true≢false, cond, ◌&&◌, ◌||◌}
use mathlib.Core.List.{List, [], ◌∷◌, ◌++◌, append-nil, append_assoc}
use lib.ListN.{length, take, drop, replicate, length-append, length-take, length-drop, length-replicate}
use lib.Seq.{take-append-le, take-append_seam}
use lib.Dec.{leb, eqb, lit≤}
use borrow.Author.Tests.{leb-true, le-leb, lt-ltb, eqb-true, eq-eqb}
use Rattle.protocol.specs.Bytes.{Bytes, byte, same}
use Rattle.protocol.proofs.Bytes.{bytes_join, both_true, same_equal, same_self}
use Rattle.proxy_spec.specs.declared.Field.TheVariants.{First, Methods, User, Password}
use Rattle.proxy_spec.specs.End.{Setup, chosen}
use Rattle.proxy_spec.specs.Side.{at_methods, talk_at, reads}
use Rattle.proxy_spec.specs.Shortest.{lacking, from_head, from_password, from_user, from_login, agrees, wants_methods, wants_user, wants_password}
use Rattle.proxy_spec.proofs.Open.{zeros, bytes_then}
use Rattle.proxy_spec.proofs.Side.{offers_there}
use Rattle.proxy_spec.proofs.Taken.{Taken, taken_password, taken_user, taken_methods, taken_first}
use Rattle.proxy_spec.proofs.Made as made
use Rattle.proxy_spec.proofs.Made.{head_word, password_word, user_word, login_word, Over}
use Rattle.proxy_spec.proofs.WantingConnect.{head_bytes}
use Rattle.proxy_spec.proofs.Wanting.{Wanted, asks_just, asks_by, fails_by, asks_word, once_waits, test_waits, sized_waits, over_one, Fixed, fixed_short, fixed_good, fixed_over, fill, filled}
use Rattle.talk.specs.Decision.{undecided}

-- ---- bytes that begin a length and a text

-- the length, and as much of the text as is held
abbrev Meets : ℕ → List ℕ → List ℕ → Bool
Meets b h text = eqb b (length text) && same h (take (length h) text)

agrees_one : (b : ℕ) (h text : List ℕ) → agrees 0 (b ∷ h) text ≡ Meets b h text
unfolding agrees
agrees_one b h text =
    let e : suc (length h) - 1 ≡ length h = omega arith in
    rw (lt-ltb 0 (suc (length h)) (omega arith)) (ap (λ (n : ℕ). eqb b (length text) && same h (take n text)) e)

agrees_two : (a b : ℕ) (h text : List ℕ) → agrees 1 (a ∷ b ∷ h) text ≡ Meets b h text
unfolding agrees
agrees_two a b h text =
    let e : suc (suc (length h)) - 2 ≡ length h = omega arith in
    rw (lt-ltb 1 (suc (suc (length h))) (omega arith)) (ap (λ (n : ℕ). eqb b (length text) && same h (take n text)) e)

meets : (b : ℕ) (h text : List ℕ) → Meets b h text ≡ true → b ∷ h ≡ length text ∷ take (length h) text
meets b h text q = let (p, r) = both_true (eqb b (length text)) (same h (take (length h) text)) q in λ i. eqb-true b (length text) p i ∷ same_equal h (take (length h) text) r i

begun : (b : ℕ) (h x text y : List ℕ) → (b ∷ h) ++ x ≡ (length text ∷ text) ++ y → length h < b → Meets b h text ≡ true
begun b h x text y e o =
    let p : b ≡ length text = cc in
    let q : h ++ x ≡ text ++ y = cc in
    let r : take (length h) text ≡ h = sym (take-append-le (length h) text y (omega arith)) ∙ sym (ap (take (length h)) q) ∙ take-append_seam h x in
    rw (eq-eqb b (length text) p, r) (same_self h)

-- credentials that a client can send
pub record Sendable (c : Setup) : Type 0 where
  pub user : Bytes c.user
  pub password : Bytes c.password
  pub user_fits : length c.user ≤ 255
  pub password_fits : length c.password ≤ 255

module _ (c : Setup) (s : Sendable c) where
  password_bytes : Bytes (password_word c)
  password_bytes = bytes_join (length c.password ∷ c.password) head_word (bytes_then (length c.password) c.password s.password_fits s.password) head_bytes

  user_bytes : Bytes (user_word c)
  user_bytes =
      bytes_join (0x01 ∷ length c.user ∷ c.user) (password_word c)
      (bytes_then 1 (length c.user ∷ c.user) (lit≤ tt) (bytes_then (length c.user) c.user s.user_fits s.user)) password_bytes

  login_bytes : Bytes (login_word c)
  login_bytes = go c.authenticates
    where
      go : (b : Bool) → Bytes (cond b (user_word c) head_word)
      go true = user_bytes
      go false = head_bytes

password_long : (c : Setup) → length (password_word c) ≡ from_password c.password
password_long c = omega (arith, length-append (length c.password ∷ c.password) head_word)

user_long : (c : Setup) → length (user_word c) ≡ from_user c.user c.password
user_long c = omega (arith, password_long c, length-append (0x01 ∷ length c.user ∷ c.user) (password_word c))

login_long : (c : Setup) → length (login_word c) ≡ from_login c
login_long c = go c.authenticates
  where
    go : (b : Bool) → length (cond b (user_word c) head_word) ≡ cond b (from_user c.user c.password) from_head
    go true = user_long c
    go false = refl

-- bytes that begin some begin those with others behind them
prefix : (h w v : List ℕ) → h ≡ take (length h) w → (h ≡ take (length h) (w ++ v)) × (length h ≤ length w)
prefix h w v e =
    let l : length h ≤ length w = omega (arith, ap length e, length-take (length h) w) in
    (e ∙ sym (take-append-le (length h) w v l), l)

-- ---- PLEN and PASSWD

module _ (c : Setup) where
  password_asks : Sendable c → (h : List ℕ) → h ≡ take (length h) (length c.password ∷ c.password) → Wanted c (Password true) h (lacking (from_password c.password) h)
  password_asks s h e =
      let (p, l) = prefix h (length c.password ∷ c.password) head_word e in
      asks_word c (Password true) h (password_word c) (from_password c.password) (password_bytes c s) (password_long c) p (omega arith) (made.made_password c)
      (λ bs k. let (_, r, w, o) = taken_password c true (h ++ bs) k in omega (arith, ap length w, length-append (length c.password ∷ c.password) r))

  module _ (right : Bool) (b : ℕ) (h : List ℕ) (u : reads (Password right) (b ∷ h) ≡ undecided) where
    password_sized : Fixed (Password right) (b ∷ h) (1 + b)
    unfolding reads
    password_sized bs = rw (le-leb 1 (suc (length (h ++ bs))) (omega arith))

    password_short : length (b ∷ h) < 1 + b
    password_short = fixed_short (Password right) (b ∷ h) (1 + b) password_sized u

    judged : (right ≡ true → Meets b h c.password ≡ true → ⊥) → (x : List ℕ) → length ((b ∷ h) ++ x) ≡ 1 + b → (t : Bool) → (right && same (h ++ x) c.password) ≡ t → t ≡ false
    judged n x l false e = refl
    judged n x l true e =
        let (r, q) = both_true right (same (h ++ x) c.password) e in
        let w = same_equal (h ++ x) c.password q in
        let z : b ≡ length c.password = omega (arith, ap length w) in
        absurd (n r (begun b h x c.password [] ((λ i. z i ∷ w i) ∙ sym (append-nil (length c.password ∷ c.password))) (omega (arith, password_short))))

    password_fails : (right ≡ true → Meets b h c.password ≡ true → ⊥) → Wanted c (Password right) (b ∷ h) (lacking (1 + b) (b ∷ h))
    password_fails n =
        let o = password_short in
        let (l, m) = filled (b ∷ h) (1 + b) o in
        fails_by c (Password right) (b ∷ h) (fill (b ∷ h) (1 + b)) (1 + b) (zeros (1 + b - length (b ∷ h))) l o
        (λ bs k. let (r, y, w, _) = taken_password c right ((b ∷ h) ++ bs) k in n r (begun b h bs c.password y w (omega arith)))
        (made.over_password c right ((b ∷ h) ++ fill (b ∷ h) (1 + b)) (judged n (fill (b ∷ h) (1 + b)) m (right && same (h ++ fill (b ∷ h) (1 + b)) c.password) refl)
        (fixed_good (Password right) (b ∷ h) (1 + b) password_sized (fill (b ∷ h) (1 + b)) m))
        (λ bs k. (fixed_over (Password right) (b ∷ h) (1 + b) password_sized c _ bs k).0)

  password_by : Sendable c → (b : ℕ) (h : List ℕ) → reads (Password true) (b ∷ h) ≡ undecided → (t : Bool) → Meets b h c.password ≡ t
      → Wanted c (Password true) (b ∷ h) (cond t (lacking (from_password c.password) (b ∷ h)) (lacking (1 + b) (b ∷ h)))
  password_by s b h u true e = password_asks s (b ∷ h) (meets b h c.password e)
  password_by s b h u false e = password_fails true b h u (λ _ q. true≢false (sym q ∙ e))

  pub shortest_password : Sendable c → (right : Bool) (h : List ℕ) → reads (Password right) h ≡ undecided → Wanted c (Password right) h (wants_password c.password right h)
  unfolding reads agrees
  shortest_password s false [] u =
      fails_by c (Password false) [] (0x00 ∷ []) 1 (zeros 1) refl (omega arith) (λ bs k. true≢false (sym (taken_password c false bs k).0)) (made.over_password c false (0x00 ∷ []) refl refl)
      (λ bs k. over_one c (Password false) _ [] refl bs k)
  shortest_password s false (b ∷ h) u = password_fails false b h u (λ q. absurd (true≢false (sym q)))
  shortest_password s true [] u = password_asks s [] refl
  shortest_password s true (b ∷ h) u = rw (agrees_one b h c.password) (password_by s b h u (Meets b h c.password) refl)

-- ---- VER, ULEN and UNAME

module _ (c : Setup) where
  abbrev named : List ℕ
  named = 0x01 ∷ length c.user ∷ c.user

  user_asks : Sendable c → (h : List ℕ) → h ≡ take (length h) named → Wanted c User h (lacking (from_user c.user c.password) h)
  user_asks s h e =
      let (p, l) = prefix h named (password_word c) e in
      asks_word c User h (user_word c) (from_user c.user c.password) (user_bytes c s) (user_long c) p (omega arith) (made.made_user c)
      (λ bs k. let (r, w, o) = taken_user c (h ++ bs) k in omega (arith, ap length w, length-append named r))

  module _ (b : ℕ) (h : List ℕ) (u : reads User (0x01 ∷ b ∷ h) ≡ undecided) where
    abbrev held : List ℕ
    held = 0x01 ∷ b ∷ h

    user_sized : Fixed User held (2 + b)
    unfolding reads
    user_sized bs = rw (le-leb 1 (suc (suc (length (h ++ bs)))) (omega arith), le-leb 2 (suc (suc (length (h ++ bs)))) (omega arith))

    user_short : length held < 2 + b
    user_short = fixed_short User held (2 + b) user_sized u

    -- another user, whole
    other : (Meets b h c.user ≡ true → ⊥) → (x : List ℕ) → length (held ++ x) ≡ 2 + b → (t : Bool) → same (h ++ x) c.user ≡ t → t ≡ false
    other n x l false e = refl
    other n x l true e =
        let w = same_equal (h ++ x) c.user e in
        let z : b ≡ length c.user = omega (arith, ap length w) in
        absurd (n (begun b h x c.user [] ((λ i. z i ∷ w i) ∙ sym (append-nil (length c.user ∷ c.user))) (omega (arith, user_short))))

    abbrev pad : List ℕ
    pad = fill held (2 + b)

    user_fails : (Meets b h c.user ≡ true → ⊥) → Wanted c User held (lacking (3 + b) held)
    unfolding reads
    user_fails n =
        let o = user_short in
        let (l, m) = filled held (2 + b) o in
        fails_by c User held (pad ++ (0x00 ∷ [])) (3 + b) (bytes_join pad (0x00 ∷ []) (zeros (2 + b - length held)) (zeros 1)) (omega (arith, length-append pad (0x00 ∷ []))) (omega arith)
        (λ bs k. let (r, w, _) = taken_user c (held ++ bs) k in n (begun b h bs c.user r (ap (drop 1) w) (omega arith)))
        (subst (Over c (talk_at c User)) (append_assoc held pad (0x00 ∷ []))
        (made.over_user c (held ++ pad) (other n pad m (same (h ++ pad) c.user) refl) (fixed_good User held (2 + b) user_sized pad m)))
        (λ bs k. let (q, v) = fixed_over User held (2 + b) user_sized c _ bs k in
        omega (arith, over_one c (Password (same (drop 2 (take (2 + b) (held ++ bs))) c.user)) _ [] refl (drop (2 + b) (held ++ bs)) v, length-drop (2 + b) (held ++ bs)))

  user_by : Sendable c → (b : ℕ) (h : List ℕ) → reads User (0x01 ∷ b ∷ h) ≡ undecided → (t : Bool) → Meets b h c.user ≡ t
      → Wanted c User (0x01 ∷ b ∷ h) (cond t (lacking (from_user c.user c.password) (0x01 ∷ b ∷ h)) (lacking (3 + b) (0x01 ∷ b ∷ h)))
  user_by s b h u true e = user_asks s (0x01 ∷ b ∷ h) (ap (λ (z : List ℕ). 0x01 ∷ z) (meets b h c.user e))
  user_by s b h u false e = user_fails b h u (λ q. true≢false (sym q ∙ e))

  user_any : Sendable c → (h : List ℕ) → reads User (0x01 ∷ h) ≡ undecided → Wanted c User (0x01 ∷ h) (wants_user c.user c.password (0x01 ∷ h))
  unfolding agrees
  user_any s [] u = user_asks s (0x01 ∷ []) refl
  user_any s (b ∷ h) u = rw (agrees_two 0x01 b h c.user) (user_by s b h u (Meets b h c.user) refl)

  pub shortest_user : Sendable c → (h : List ℕ) → reads User h ≡ undecided → Wanted c User h (wants_user c.user c.password h)
  unfolding reads agrees
  shortest_user s [] u = user_asks s [] refl
  shortest_user s (a ∷ h) u =
      let (p, _) = test_waits (eqb a 0x01) 1 _ (once_waits 1 (a ∷ h) _ (omega arith) u) in
      let e : 0x01 ∷ h ≡ a ∷ h = ap (λ (z : ℕ). z ∷ h) (sym (eqb-true a 0x01 p)) in
      subst (λ (l : List ℕ). Wanted c User l (wants_user c.user c.password l)) e (user_any s h (ap (reads User) e ∙ u))

-- ---- NMETHODS and METHODS

module _ (c : Setup) (s : Sendable c) where
  abbrev method : ℕ
  method = chosen c.authenticates

  method_small : method ≤ 255
  method_small = go c.authenticates
    where
      go : (b : Bool) → chosen b ≤ 255
      go true = lit≤ tt
      go false = lit≤ tt

  -- the chosen one, so often
  abbrev offered : ℕ → List ℕ
  offered k = replicate k method

  offered_bytes : (k : ℕ) → Bytes (offered k)
  offered_bytes zero = zeros 0
  offered_bytes (suc k) = bytes_then method (offered k) method_small (offered_bytes k)

  greeting_asks : (h : List ℕ) (k : ℕ) → 1 ≤ byte (h ++ offered (suc k)) 0 → length (h ++ offered (suc k)) ≡ 1 + byte (h ++ offered (suc k)) 0 → 1 ≤ length h
      → Taken c (at_methods c) (h ++ (offered (suc k) ++ login_word c))
  greeting_asks [] k o l n = absurd (omega arith)
  greeting_asks (b ∷ h) k o l n =
      subst (Taken c (at_methods c)) (append_assoc (b ∷ h) (offered (suc k)) (login_word c)) (made.made_methods c ((b ∷ h) ++ offered (suc k)) o l (offers_there method h (offered k)))

  pub first_method : Taken c (at_methods c) (0x01 ∷ method ∷ login_word c)
  first_method = greeting_asks (0x01 ∷ []) 0 (lit≤ tt) refl (lit≤ tt)

  pub first_bytes : Bytes (0x01 ∷ method ∷ login_word c)
  first_bytes = bytes_then 1 (method ∷ login_word c) (lit≤ tt) (bytes_then method (login_word c) method_small (login_bytes c s))

  methods_by : (b : ℕ) (h : List ℕ) (k : ℕ) → 1 ≤ b → suc (length h) + suc k ≡ 1 + b → Wanted c Methods (b ∷ h) (lacking (1 + b + from_login c) (b ∷ h))
  methods_by b h k o l =
      let r = length-replicate {A = ℕ} (suc k) method in
      asks_by c Methods (b ∷ h) (offered (suc k) ++ login_word c) (1 + b + from_login c) (bytes_join (offered (suc k)) (login_word c) (offered_bytes (suc k)) (login_bytes c s))
      (omega (arith, length-append (offered (suc k)) (login_word c), login_long c)) (omega arith) (greeting_asks (b ∷ h) k o (omega (arith, length-append h (offered (suc k)))) (omega arith))
      (λ bs z. (taken_methods c ((b ∷ h) ++ bs) z).1)

  pub shortest_methods : (h : List ℕ) → reads Methods h ≡ undecided → Wanted c Methods h (wants_methods c h)
  unfolding reads
  shortest_methods [] u =
      asks_by c Methods [] (0x01 ∷ method ∷ login_word c) (2 + from_login c) first_bytes (omega (arith, login_long c)) (omega arith) first_method
      (λ bs z. let (o, l) = taken_methods c bs z in omega arith)
  shortest_methods (b ∷ h) u =
      let (p, v) = test_waits (leb 1 b) 1 _ (once_waits 1 (b ∷ h) _ (omega arith) u) in
      let o = sized_waits (1 + b) (b ∷ h) v in
      rw (le-leb 1 (suc (length h)) (omega arith)) (methods_by b h (b - suc (length h)) (leb-true 1 b p) (omega arith))

-- ---- the version

module _ (c : Setup) (s : Sendable c) where
  first_asks : (b : Bool) → c.authenticates ≡ b → Wanted c First [] (cond b (3 + from_user c.user c.password) 9)
  unfolding reads
  first_asks true e =
      let (x, a) = first_method c s in
      let l : from_login c ≡ from_user c.user c.password = rw e in
      asks_just c First [] (0x05 ∷ 0x01 ∷ chosen c.authenticates ∷ login_word c) (3 + from_user c.user c.password)
      (bytes_then 5 (0x01 ∷ chosen c.authenticates ∷ login_word c) (lit≤ tt) (first_bytes c s)) (omega (arith, login_long c))
      (x, (0x05 ∷ [], 0x01 ∷ chosen c.authenticates ∷ login_word c, refl, refl, a))
      (λ bs k. rw e at (taken_first c bs k))
  first_asks false e =
      let (x, a) = made.made_request c (0x01 ∷ replicate 6 0x00) refl refl (rw e) in
      asks_just c First [] (0x04 ∷ 0x01 ∷ replicate 7 0x00) 9 (bytes_then 4 (0x01 ∷ replicate 7 0x00) (lit≤ tt) (bytes_then 1 (replicate 7 0) (lit≤ tt) (zeros 7))) refl
      (x, (0x04 ∷ [], 0x01 ∷ replicate 7 0x00, refl, refl, a))
      (λ bs k. rw e at (taken_first c bs k))

  pub shortest_first : (h : List ℕ) → reads First h ≡ undecided → Wanted c First h (cond c.authenticates (3 + from_user c.user c.password) 9)
  unfolding reads
  shortest_first [] u = first_asks c.authenticates refl
  shortest_first (a ∷ h) u =
      let (p, v) = test_waits (eqb a 0x05 || eqb a 0x04) 1 _ (once_waits 1 (a ∷ h) _ (omega arith) u) in
      let z : ◌≡◌ {A = ℕ} 0 1 = cc in absurd (omega arith)
