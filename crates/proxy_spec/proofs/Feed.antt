-- Fed with bytes, the proxy's end does what the plain machine does, though it reads fields and the machine whole requests.
use Prim.Native.Nat.{ℕ, zero, suc, ◌+◌, ◌-◌, ◌≤◌}
use native.Mathlib.Nat.{add-zero, zero-add, suc-add, add_assoc}
use native.Mathlib.Omega.{arith}
use mathlib.Core.Path.{◌≡◌, refl, ap, sym, ◌∙◌}
use mathlib.Core.Bool.{Bool, true, false, cond, ◌&&◌}
use mathlib.Core.List.{List, [], ◌∷◌, ◌++◌, append_assoc, append-nil}
use lib.ListN.{length, take, drop, length-drop}
use lib.Seq.{get_or-take, get_or-drop, take-take, drop-drop, length-take-le}
use lib.Dec.{leb, eqb, lit≤}
use borrow.Author.Tests.{leb-true, leb-false, le-leb, lt-leb}
use Rattle.protocol.specs.declared.SocksError.{SocksError}
use Rattle.protocol.specs.declared.SocksError.TheVariants.{Unsupported, Command, Malformed, WrongCredentials}
use Rattle.protocol.specs.declared.Version.TheVariants.{V4, V5}
use Rattle.protocol.specs.Bytes.{byte, two_of, same}
use Rattle.protocol.specs.AddressReading.{Destination, ipv4, ipv6, domain}
use Rattle.protocol.specs.Bound.{Endpoint, endpoint}
use Rattle.protocol.specs.Opening.{announces}
use Rattle.proxy_spec.specs.Reads.{Seen, short, wrong, unknown, whole, greeting_in, login_in, target_in, connect_in, text_in, request_in, further, name_in, behind_user}
use Rattle.proxy_spec.specs.declared.Ports.{Ports}
use Rattle.proxy_spec.specs.declared.Field.{Field}
use Rattle.proxy_spec.specs.declared.Field.TheVariants.{First, Methods, User, Password, Head, Address, Request, UserId, Name}
use Rattle.proxy_spec.specs.End.{Setup, Asked, asked, Standing, waits, asks, fails, End, has, chosen, method_reply, login_reply, own_reply5, own_reply4, offers, reads, connected, connecting, judged, signing, greeted, requested, machine, used_by, used}
use Rattle.proxy_spec.specs.Side as side
use Rattle.proxy_spec.specs.Side.{EndTalk, EndSession, refuses, unless_other5, target_of, at_address, is_known, at_head, at_password, at_user, at_methods, ports_of, ip_of, unless_other4, at_name, at_user_id, at_request, at_first, talk_at, server, standing_of, read_text, read_name}
use Rattle.proxy_spec.proofs.Side.{TextLaw, text_law, server_lawful}
use Rattle.talk.proofs.Feed.{feed_exact}
use Rattle.talk.specs.Decision.{Decision, undecided, decided, good, bad}
use Rattle.talk.specs.Talk.{done, failed, stop, send, await, waiting, ended, Fed, unmoved, sending, moving, deciding, feed, is_over, reached}

-- ---- lists

take_nil : (m : ℕ) → take {A = ℕ} m [] ≡ []
take_nil zero = refl
take_nil (suc m) = refl

drop_take : (n m : ℕ) (l : List ℕ) → drop n (take (n + m) l) ≡ take m (drop n l)
drop_take zero m l = ap (λ (k : ℕ). take k l) (zero-add m)
drop_take (suc n) m [] = rw (suc-add n m) (sym (take_nil m))
drop_take (suc n) m (x ∷ xs) = ap (λ (k : ℕ). drop (suc n) (take k (x ∷ xs))) (suc-add n m) ∙ drop_take n m xs

two_cut : (k n : ℕ) (l : List ℕ) → k + 2 ≤ n → two_of (drop k (take n l)) ≡ two_of (drop k l)
two_cut k n l h =
    rw (get_or-drop k (take n l) 0 0, get_or-drop k (take n l) 1 0, get_or-drop k l 0 0, get_or-drop k l 1 0, get_or-take n l (k + 0) 0 (omega arith), get_or-take n l (k + 1) 0 (omega arith))

leb_drop : (k n : ℕ) (l : List ℕ) → k ≤ length l → leb (k + n) (length l) ≡ leb n (length (drop k l))
leb_drop k n l h = go (leb n (length (drop k l))) refl
  where
    go : (b : Bool) → leb n (length (drop k l)) ≡ b → leb (k + n) (length l) ≡ b
    go true e = le-leb (k + n) (length l) (omega (arith, leb-true n (length (drop k l)) e, length-drop k l))
    go false e = lt-leb (k + n) (length l) (omega (arith, leb-false n (length (drop k l)) e, length-drop k l))

same_endpoint : (d e : Destination) (p q : ℕ) → d ≡ e → p ≡ q → endpoint d p ≡ endpoint e q
same_endpoint d e p q f g = λ i. endpoint (f i) (g i)

name_leb : (ds : List ℕ) → 4 ≤ length ds → leb (7 + byte ds 4) (length ds) ≡ leb (3 + byte ds 4) (length (drop 4 ds))
name_leb ds h = ap (λ (k : ℕ). leb k (length ds)) (add_assoc 4 3 (byte ds 4)) ∙ leb_drop 4 (3 + byte ds 4) ds h

name_same : (n : ℕ) (ds : List ℕ) → byte ds 4 ≡ n
    → (let m = take (3 + n) (drop 4 ds) in
    endpoint (domain (take n (drop 5 ds))) (two_of (drop (5 + n) ds)) ≡ endpoint (domain (take (byte m 0) (drop 1 m))) (two_of (drop (1 + byte m 0) m)))
name_same n ds e =
    let b : byte (take (3 + n) (drop 4 ds)) 0 ≡ n = get_or-take (3 + n) (drop 4 ds) 0 0 (omega arith) ∙ get_or-drop 4 ds 0 0 ∙ e in
    let t : drop 1 (take (3 + n) (drop 4 ds)) ≡ take (2 + n) (drop 5 ds) = ap (λ (k : ℕ). drop 1 (take k (drop 4 ds))) (add_assoc 1 2 n) ∙ drop_take 1 (2 + n) (drop 4 ds) ∙ ap (take (2 + n)) (drop-drop 1 4 ds) in
    let u : two_of (drop (1 + n) (take (3 + n) (drop 4 ds))) ≡ two_of (drop (5 + n) ds) = two_cut (1 + n) (3 + n) (drop 4 ds) (omega arith) ∙ ap two_of (drop-drop (1 + n) 4 ds ∙ ap (λ (k : ℕ). drop k ds) (sym (add_assoc 4 1 n))) in
    rw b (same_endpoint _ _ _ _ (ap domain (sym (ap (take n) t ∙ take-take n (2 + n) (drop 5 ds) (omega arith)))) (sym u))

greeting_leb : (n : ℕ) (bs : List ℕ) → 1 ≤ length bs → leb (2 + n) (length bs) ≡ leb (1 + n) (length (drop 1 bs))
greeting_leb n bs h = ap (λ (k : ℕ). leb k (length bs)) (add_assoc 1 1 n) ∙ leb_drop 1 (1 + n) bs h

behind_login : (place n p : ℕ) (bs ds : List ℕ) → drop place bs ≡ ds → drop (place + (2 + n + 1 + p)) bs ≡ drop (1 + p) (drop (2 + n) ds)
behind_login place n p bs ds w =
    sym (drop-drop (2 + n + 1 + p) place bs) ∙ ap (drop (2 + n + 1 + p)) w ∙ ap (λ (k : ℕ). drop k ds) (add_assoc (2 + n) 1 p) ∙ sym (drop-drop (1 + p) (2 + n) ds)

but_last : (k m : ℕ) (l : List ℕ) → k ≡ suc (suc m) → k ≤ length l → take (length (take k l) - 1) (take k l) ≡ take (suc m) l
but_last k m l e h =
    let j : length (take k l) - 1 ≡ suc m = omega (arith, length-take-le k l h) in
    ap (λ (i : ℕ). take i (take k l)) j ∙ take-take (suc m) k l (omega arith)

-- the four bytes of an address among the seven ahead of a user id
ip_same : (l : List ℕ) → 7 ≤ length l → take 4 (drop 3 l) ≡ ip_of (ports_of (take 7 l))
ip_same [] h = absurd (omega arith)
ip_same (a ∷ []) h = absurd (omega arith)
ip_same (a ∷ b ∷ []) h = absurd (omega arith)
ip_same (a ∷ b ∷ c ∷ []) h = absurd (omega arith)
ip_same (a ∷ b ∷ c ∷ d ∷ []) h = absurd (omega arith)
ip_same (a ∷ b ∷ c ∷ d ∷ e ∷ []) h = absurd (omega arith)
ip_same (a ∷ b ∷ c ∷ d ∷ e ∷ f ∷ []) h = absurd (omega arith)
ip_same (a ∷ b ∷ c ∷ d ∷ e ∷ f ∷ g ∷ l) h = refl

by_cases : {P : Type 0} (b : Bool) → (b ≡ true → P) → (b ≡ false → P) → P
by_cases true f g = f refl
by_cases false f g = g refl

-- ---- the states that are told apart: while it waits, a place is none

abbrev EndFed : Type 0
EndFed = Fed Field Asked SocksError

abbrev pub counted : Standing → ℕ → ℕ
counted waits n = 0
counted (asks x) n = n
counted (fails e) n = n

abbrev pub settled : End → End
settled e = has e.sent e.standing (counted e.standing e.place)

-- what it has that had sent bytes and stood at a place, and then was fed
abbrev pub after : List ℕ → ℕ → EndFed → End
after sent place f = has (sent ++ f.sent) (standing_of f.session) (place + f.place)

same_end : (m n : End) → m.sent ≡ n.sent → m.standing ≡ n.standing → m.place ≡ n.place → m ≡ n
same_end m n p q r = λ i. record { sent = p i; standing = q i; place = r i }

moved : (sent : List ℕ) (q k : ℕ) (f : EndFed) → settled (after sent (q + k) f) ≡ settled (after sent q (moving k f))
moved sent q k f = same_end _ _ refl refl (ap (λ (n : ℕ). counted (standing_of f.session) n) (add_assoc q k f.place))

sent_on : (sent r : List ℕ) (q : ℕ) (f : EndFed) → settled (after (sent ++ r) q f) ≡ settled (after sent q (sending r f))
sent_on sent r q f = same_end _ _ (append_assoc sent r f.sent) refl refl

-- it waits
quiet : (sent : List ℕ) (p q : ℕ) (s : Field) (h : List ℕ) → settled (has sent waits p) ≡ settled (after sent q (unmoved (waiting s h)))
quiet sent p q s h = same_end _ _ (sym (append-nil sent)) refl refl

-- it stops, with what is sent last
stops : (sent : List ℕ) (p q : ℕ) (e : SocksError) → p ≡ q → settled (has sent (fails e) p) ≡ settled (after sent q (unmoved (ended (failed e))))
stops sent p q e h = same_end _ _ (sym (append-nil sent)) refl (omega arith)

malformed : (sent : List ℕ) (p q k : ℕ) → p ≡ q + k → settled (has sent (fails Malformed) p) ≡ settled (after sent q (moving k (unmoved (ended (failed Malformed)))))
malformed sent p q k h = stops sent p (q + k) Malformed h ∙ moved sent q k (unmoved (ended (failed Malformed)))

module _ (c : Setup) where
  -- ---- a field that is awaited, by what its reader says, and the whole request by what it shows

  await_feed : (s : Field) (k : List ℕ → EndTalk) (es : List ℕ) (d : Decision SocksError) → side.reads s es ≡ d
      → feed (server c) (await s k) es ≡ deciding d (waiting s es) (λ n. feed (server c) (k (take n es)) (drop n es))
  unfolding feed
  await_feed s k es d e = ap (λ (z : Decision SocksError). deciding z (waiting s es) (λ n. feed (server c) (k (take n es)) (drop n es))) e

  module _ {A : Type 0} (sent : List ℕ) (place : ℕ) (on : ℕ → A → End) (s : Field) (k : List ℕ → EndTalk) (q : ℕ) (es : List ℕ) (x : Seen A) where
    pends : x ≡ short → side.reads s es ≡ undecided → settled (reads x sent place on) ≡ settled (after sent q (feed (server c) (await s k) es))
    pends e d =
        ap (λ (z : Seen A). settled (reads z sent place on)) e ∙ quiet sent place q s es
        ∙ ap (λ (f : EndFed). settled (after sent q f)) (sym (await_feed s k es undecided d))

    breaks : (n j : ℕ) → x ≡ wrong n → side.reads s es ≡ decided j (bad Malformed) → place + n ≡ q + j
        → settled (reads x sent place on) ≡ settled (after sent q (feed (server c) (await s k) es))
    breaks n j e d h =
        ap (λ (z : Seen A). settled (reads z sent place on)) e ∙ malformed sent (place + n) q j h
        ∙ ap (λ (f : EndFed). settled (after sent q f)) (sym (await_feed s k es (decided j (bad Malformed)) d))

    passes : (j : ℕ) (y : Seen A) → x ≡ y → side.reads s es ≡ decided j good
        → settled (reads y sent place on) ≡ settled (after sent (q + j) (feed (server c) (k (take j es)) (drop j es)))
        → settled (reads x sent place on) ≡ settled (after sent q (feed (server c) (await s k) es))
    passes j y e d h =
        ap (λ (z : Seen A). settled (reads z sent place on)) e ∙ h ∙ moved sent q j (feed (server c) (k (take j es)) (drop j es))
        ∙ ap (λ (f : EndFed). settled (after sent q f)) (sym (await_feed s k es (decided j good) d))

  -- ---- a connect: its head and its address

  refused : (sent r : List ℕ) (p q : ℕ) (e : SocksError) (ds : List ℕ) → p ≡ q
      → settled (has (sent ++ r) (fails e) p) ≡ settled (after sent q (feed (server c) (refuses r e) ds))
  unfolding feed
  refused sent r p q e ds h = stops (sent ++ r) p q e h ∙ sent_on sent r q (unmoved (ended (failed e)))

  hands : (sent : List ℕ) (p q : ℕ) (x : Asked) (ds : List ℕ) → p ≡ q → settled (has sent (asks x) p) ≡ settled (after sent q (feed (server c) (stop (done x)) ds))
  unfolding feed
  hands sent p q x ds h = same_end _ _ (sym (append-nil sent)) refl (omega arith)

  connected_feed : (sent : List ℕ) (p q command : ℕ) (x y : Endpoint) (ds : List ℕ) → p ≡ q → x ≡ y
      → settled (connected sent p command x) ≡ settled (after sent q (feed (server c) (unless_other5 command y) ds))
  connected_feed sent p q command x y ds h e =
      ap (λ (z : Endpoint). settled (connected sent p command z)) e ∙ go (eqb command 1)
    where
      go : (b : Bool) → settled (cond b (has sent (asks (asked V5 y)) p) (has (sent ++ own_reply5 7) (fails (Command 7)) p))
          ≡ settled (after sent q (feed (server c) (cond b (stop (done (asked V5 y))) (refuses (own_reply5 7) (Command 7))) ds))
      go true = hands sent p q (asked V5 y) ds h
      go false = refused sent (own_reply5 7) p q (Command 7) ds h

  abbrev on_connect : List ℕ → ℕ → ℕ → ℕ × Endpoint → End
  on_connect sent place n r = connected sent (place + n) r.0 r.1

  abbrev on_address : ℕ → ℕ → List ℕ → EndTalk
  on_address command type m = unless_other5 command (target_of type m)

  type_1 : (sent : List ℕ) (place command type : ℕ) (ds : List ℕ) → 4 ≤ length ds → byte ds 3 ≡ type → eqb type 0x01 ≡ true
      → settled (reads (target_in command ds) sent place (on_connect sent place)) ≡ settled (after sent (place + 4) (feed (server c) (at_address command type) (drop 4 ds)))
  unfolding target_in side.reads
  type_1 sent place command type ds h b e =
      by_cases (leb 6 (length (drop 4 ds)))
      (λ f. passes sent place (on_connect sent place) (Address command type) (on_address command type) (place + 4) (drop 4 ds) (target_in command ds)
      6 (whole 10 (command, endpoint (ipv4 (take 4 (drop 4 ds))) (two_of (drop 8 ds))))
      (rw (b, e, leb_drop 4 6 ds h, f)) (rw (e, f))
      (connected_feed sent (place + 10) (place + 4 + 6) command (endpoint (ipv4 (take 4 (drop 4 ds))) (two_of (drop 8 ds)))
      (target_of type (take 6 (drop 4 ds))) (drop 6 (drop 4 ds)) (omega arith)
      (rw (e)
      (same_endpoint _ _ _ _ (ap ipv4 (sym (take-take 4 6 (drop 4 ds) (lit≤ tt)))) (sym (two_cut 4 6 (drop 4 ds) (lit≤ tt) ∙ ap two_of (drop-drop 4 4 ds)))))))
      (λ f. pends sent place (on_connect sent place) (Address command type) (on_address command type) (place + 4) (drop 4 ds) (target_in command ds)
      (rw (b, e, leb_drop 4 6 ds h, f)) (rw (e, f)))

  type_4 : (sent : List ℕ) (place command type : ℕ) (ds : List ℕ) → 4 ≤ length ds → byte ds 3 ≡ type → eqb type 0x01 ≡ false → eqb type 0x04 ≡ true
      → settled (reads (target_in command ds) sent place (on_connect sent place)) ≡ settled (after sent (place + 4) (feed (server c) (at_address command type) (drop 4 ds)))
  unfolding target_in side.reads
  type_4 sent place command type ds h b e1 e =
      by_cases (leb 18 (length (drop 4 ds)))
      (λ f. passes sent place (on_connect sent place) (Address command type) (on_address command type) (place + 4) (drop 4 ds) (target_in command ds)
      18 (whole 22 (command, endpoint (ipv6 (take 16 (drop 4 ds))) (two_of (drop 20 ds))))
      (rw (b, e1, e, leb_drop 4 18 ds h, f)) (rw (e1, e, f))
      (connected_feed sent (place + 22) (place + 4 + 18) command (endpoint (ipv6 (take 16 (drop 4 ds))) (two_of (drop 20 ds)))
      (target_of type (take 18 (drop 4 ds))) (drop 18 (drop 4 ds)) (omega arith)
      (rw (e1, e)
      (same_endpoint _ _ _ _ (ap ipv6 (sym (take-take 16 18 (drop 4 ds) (lit≤ tt)))) (sym (two_cut 16 18 (drop 4 ds) (lit≤ tt) ∙ ap two_of (drop-drop 16 4 ds)))))))
      (λ f. pends sent place (on_connect sent place) (Address command type) (on_address command type) (place + 4) (drop 4 ds) (target_in command ds)
      (rw (b, e1, e, leb_drop 4 18 ds h, f)) (rw (e1, e, f)))

  type_3 : (sent : List ℕ) (place command type : ℕ) (ds : List ℕ) → 4 ≤ length ds → byte ds 3 ≡ type → eqb type 0x01 ≡ false → eqb type 0x04 ≡ false → eqb type 0x03 ≡ true
      → settled (reads (target_in command ds) sent place (on_connect sent place)) ≡ settled (after sent (place + 4) (feed (server c) (at_address command type) (drop 4 ds)))
  unfolding target_in side.reads
  type_3 sent place command type ds h b e1 e4 e =
      let z : byte (drop 4 ds) 0 ≡ byte ds 4 = get_or-drop 4 ds 0 0 in
      by_cases (leb 1 (length (drop 4 ds)))
      (λ f. by_cases (leb 1 (byte ds 4))
      (λ g. by_cases (leb (3 + byte ds 4) (length (drop 4 ds)))
      (λ k. passes sent place (on_connect sent place) (Address command type) (on_address command type) (place + 4) (drop 4 ds) (target_in command ds)
      (3 + byte ds 4) (whole (7 + byte ds 4) (command, endpoint (domain (take (byte ds 4) (drop 5 ds))) (two_of (drop (5 + byte ds 4) ds))))
      (rw (b, e1, e4, e, leb_drop 4 1 ds h, f, g, name_leb ds h, k)) (rw (e1, e4, f, z, g, k))
      (connected_feed sent (place + (7 + byte ds 4)) (place + 4 + (3 + byte ds 4)) command (endpoint (domain (take (byte ds 4) (drop 5 ds))) (two_of (drop (5 + byte ds 4) ds)))
      (target_of type (take (3 + byte ds 4) (drop 4 ds))) (drop (3 + byte ds 4) (drop 4 ds)) (omega arith)
      (rw (e1, e4) (name_same (byte ds 4) ds refl))))
      (λ k. pends sent place (on_connect sent place) (Address command type) (on_address command type) (place + 4) (drop 4 ds) (target_in command ds)
      (rw (b, e1, e4, e, leb_drop 4 1 ds h, f, g, name_leb ds h, k)) (rw (e1, e4, f, z, g, k))))
      (λ g. breaks sent place (on_connect sent place) (Address command type) (on_address command type) (place + 4) (drop 4 ds) (target_in command ds)
      5 1 (rw (b, e1, e4, e, leb_drop 4 1 ds h, f, g)) (rw (e1, e4, f, z, g)) (omega arith)))
      (λ f. pends sent place (on_connect sent place) (Address command type) (on_address command type) (place + 4) (drop 4 ds) (target_in command ds)
      (rw (b, e1, e4, e, leb_drop 4 1 ds h, f)) (rw (e1, e4, f)))

  target_feed : (sent : List ℕ) (place command type : ℕ) (ds : List ℕ) → 4 ≤ length ds → byte ds 3 ≡ type → (known : Bool) → is_known type ≡ known
      → settled (reads (target_in command ds) sent place (on_connect sent place))
      ≡ settled (after sent (place + 4) (feed (server c) (cond known (at_address command type) (refuses (own_reply5 8) (Command 8))) (drop 4 ds)))
  unfolding target_in
  target_feed sent place command type ds h b known w =
      by_cases (eqb type 0x01)
      (λ e1. let t : known ≡ true = sym w ∙ rw e1 in rw t (type_1 sent place command type ds h b e1))
      (λ e1. by_cases (eqb type 0x04)
      (λ e4. let t : known ≡ true = sym w ∙ rw (e1, e4) in rw t (type_4 sent place command type ds h b e1 e4))
      (λ e4. by_cases (eqb type 0x03)
      (λ e3. let t : known ≡ true = sym w ∙ rw (e1, e4, e3) in rw t (type_3 sent place command type ds h b e1 e4 e3))
      (λ e3. let t : known ≡ false = sym w ∙ rw (e1, e4, e3) in rw (t, b, e1, e4, e3) (refused sent (own_reply5 8) (place + 4) (place + 4) (Command 8) (drop 4 ds) refl))))

  abbrev on_head : List ℕ → EndTalk
  on_head m = cond (is_known (byte m 3)) (at_address (byte m 1) (byte m 3)) (refuses (own_reply5 8) (Command 8))

  connect_feed : (sent : List ℕ) (place : ℕ) (ds : List ℕ)
      → settled (reads (connect_in ds) sent place (on_connect sent place)) ≡ settled (after sent place (feed (server c) at_head ds))
  unfolding connect_in side.reads
  connect_feed sent place ds =
      by_cases (leb 1 (length ds))
      (λ f1. by_cases (eqb (byte ds 0) 0x05)
      (λ e0. by_cases (leb 3 (length ds))
      (λ f3. by_cases (eqb (byte ds 2) 0x00)
      (λ e2. by_cases (leb 4 (length ds))
      (λ f4. passes sent place (on_connect sent place) Head on_head place ds (connect_in ds) 4 (target_in (byte ds 1) ds) (rw (f1, e0, f3, e2, f4)) (rw (f1, e0, f3, e2, f4))
      (rw (get_or-take 4 ds 1 0 (lit≤ tt)) (target_feed sent place (byte ds 1) (byte (take 4 ds) 3) ds (leb-true 4 (length ds) f4) (sym (get_or-take 4 ds 3 0 (lit≤ tt))) (is_known (byte (take 4 ds) 3)) refl)))
      (λ f4. pends sent place (on_connect sent place) Head on_head place ds (connect_in ds) (rw (f1, e0, f3, e2, f4)) (rw (f1, e0, f3, e2, f4))))
      (λ e2. breaks sent place (on_connect sent place) Head on_head place ds (connect_in ds) 3 3 (rw (f1, e0, f3, e2)) (rw (f1, e0, f3, e2)) refl))
      (λ f3. pends sent place (on_connect sent place) Head on_head place ds (connect_in ds) (rw (f1, e0, f3)) (rw (f1, e0, f3))))
      (λ e0. breaks sent place (on_connect sent place) Head on_head place ds (connect_in ds) 1 1 (rw (f1, e0)) (rw (f1, e0)) refl))
      (λ f1. pends sent place (on_connect sent place) Head on_head place ds (connect_in ds) (rw f1) (rw f1))

  -- ---- credentials: the user and the password

  here : (sent : List ℕ) (p q : ℕ) (t : EndTalk) (ds fs : List ℕ) → p ≡ q → ds ≡ fs → settled (after sent p (feed (server c) t ds)) ≡ settled (after sent q (feed (server c) t fs))
  here sent p q t ds fs h e = λ i. settled (after sent (h i) (feed (server c) t (e i)))

  connecting_feed : (sent r : List ℕ) (p q : ℕ) (bs fs : List ℕ) → p ≡ q → drop p bs ≡ fs
      → settled (connecting (sent ++ r) p bs) ≡ settled (after sent q (feed (server c) (send r at_head) fs))
  unfolding connecting feed
  connecting_feed sent r p q bs fs h e =
      connect_feed (sent ++ r) p (drop p bs) ∙ here (sent ++ r) p q at_head (drop p bs) fs h e ∙ sent_on sent r q (feed (server c) at_head fs)

  judged_feed : (sent : List ℕ) (p q : ℕ) (u v u' v' bs fs : List ℕ) → u ≡ u' → v ≡ v' → p ≡ q → drop p bs ≡ fs
      → settled (judged c sent p u v bs)
      ≡ settled (after sent q (feed (server c) (cond (same u' c.user && same v' c.password) (send (login_reply 0x00) at_head) (refuses (login_reply 0x01) WrongCredentials)) fs))
  judged_feed sent p q u v u' v' bs fs hu hv h e = (λ i. settled (judged c sent p (hu i) (hv i) bs)) ∙ go (same u' c.user && same v' c.password)
    where
      go : (b : Bool) → settled (cond b (connecting (sent ++ login_reply 0x00) p bs) (has (sent ++ login_reply 0x01) (fails WrongCredentials) p))
          ≡ settled (after sent q (feed (server c) (cond b (send (login_reply 0x00) at_head) (refuses (login_reply 0x01) WrongCredentials)) fs))
      go true = connecting_feed sent (login_reply 0x00) p q bs fs h e
      go false = refused sent (login_reply 0x01) p q WrongCredentials fs h

  abbrev on_login : List ℕ → ℕ → List ℕ → ℕ → List ℕ × List ℕ → End
  on_login sent place bs n r = judged c sent (place + n) r.0 r.1 bs

  abbrev on_password : Bool → List ℕ → EndTalk
  on_password right m = cond (right && same (drop 1 m) c.password) (send (login_reply 0x00) at_head) (refuses (login_reply 0x01) WrongCredentials)

  abbrev on_user : List ℕ → EndTalk
  on_user m = at_password c (same (drop 2 m) c.user)

  password_feed : (sent : List ℕ) (place : ℕ) (bs ds : List ℕ) (right : Bool) → drop place bs ≡ ds → leb 1 (length ds) ≡ true → eqb (byte ds 0) 0x01 ≡ true → leb 2 (length ds) ≡ true
      → 2 + byte ds 1 ≤ length ds → same (drop 2 (take (2 + byte ds 1) ds)) c.user ≡ right
      → settled (reads (login_in ds) sent place (on_login sent place bs)) ≡ settled (after sent (place + (2 + byte ds 1)) (feed (server c) (at_password c right) (drop (2 + byte ds 1) ds)))
  unfolding login_in side.reads
  password_feed sent place bs ds right w f1 e0 f2 h r =
      let n = byte ds 1 in
      let p = byte ds (2 + n) in
      let z : byte (drop (2 + n) ds) 0 ≡ p = get_or-drop (2 + n) ds 0 0 ∙ ap (λ (k : ℕ). byte ds k) (add-zero (2 + n)) in
      by_cases (leb 1 (length (drop (2 + n) ds)))
      (λ f. by_cases (leb (1 + p) (length (drop (2 + n) ds)))
      (λ g. passes sent place (on_login sent place bs) (Password right) (on_password right) (place + (2 + byte ds 1)) (drop (2 + byte ds 1) ds) (login_in ds)
      (1 + p) (whole (2 + n + 1 + p) (take n (drop 2 ds), take p (drop (2 + n + 1) ds)))
      (rw (f1, e0, f2, leb_drop (2 + n) 1 ds h, f, add_assoc (2 + n) 1 p, leb_drop (2 + n) (1 + p) ds h, g)) (rw (f, z, g))
      (rw (← r)
      (judged_feed sent (place + (2 + n + 1 + p)) (place + (2 + n) + (1 + p)) (take n (drop 2 ds)) (take p (drop (2 + n + 1) ds))
      (drop 2 (take (2 + n) ds)) (drop 1 (take (1 + p) (drop (2 + n) ds))) bs (drop (1 + p) (drop (2 + n) ds))
      (sym (drop_take 2 n ds)) (sym (drop_take 1 p (drop (2 + n) ds) ∙ ap (take p) (drop-drop 1 (2 + n) ds))) (omega arith) (behind_login place n p bs ds w))))
      (λ g. pends sent place (on_login sent place bs) (Password right) (on_password right) (place + (2 + byte ds 1)) (drop (2 + byte ds 1) ds) (login_in ds)
      (rw (f1, e0, f2, leb_drop (2 + n) 1 ds h, f, add_assoc (2 + n) 1 p, leb_drop (2 + n) (1 + p) ds h, g)) (rw (f, z, g))))
      (λ f. pends sent place (on_login sent place bs) (Password right) (on_password right) (place + (2 + byte ds 1)) (drop (2 + byte ds 1) ds) (login_in ds)
      (rw (f1, e0, f2, leb_drop (2 + n) 1 ds h, f)) (rw f))

  login_feed : (sent : List ℕ) (place : ℕ) (bs ds : List ℕ) → drop place bs ≡ ds
      → settled (reads (login_in ds) sent place (on_login sent place bs)) ≡ settled (after sent place (feed (server c) (at_user c) ds))
  unfolding login_in side.reads
  login_feed sent place bs ds w =
      by_cases (leb 1 (length ds))
      (λ f1. by_cases (eqb (byte ds 0) 0x01)
      (λ e0. by_cases (leb 2 (length ds))
      (λ f2. by_cases (leb (2 + byte ds 1) (length ds))
      (λ f. passes sent place (on_login sent place bs) User on_user place ds (login_in ds) (2 + byte ds 1) (login_in ds) refl (rw (f1, e0, f2, f))
      (password_feed sent place bs ds (same (drop 2 (take (2 + byte ds 1) ds)) c.user) w f1 e0 f2 (leb-true (2 + byte ds 1) (length ds) f) refl))
      (λ f. pends sent place (on_login sent place bs) User on_user place ds (login_in ds)
      (rw (f1, e0, f2, lt-leb (2 + byte ds 1 + 1) (length ds) (omega (arith, leb-false (2 + byte ds 1) (length ds) f)))) (rw (f1, e0, f2, f))))
      (λ f2. pends sent place (on_login sent place bs) User on_user place ds (login_in ds) (rw (f1, e0, f2)) (rw (f1, e0, f2))))
      (λ e0. breaks sent place (on_login sent place bs) User on_user place ds (login_in ds) 1 1 (rw (f1, e0)) (rw (f1, e0)) refl))
      (λ f1. pends sent place (on_login sent place bs) User on_user place ds (login_in ds) (rw f1) (rw f1))

  signing_feed : (r : List ℕ) (p q : ℕ) (bs fs : List ℕ) → p ≡ q → drop p bs ≡ fs → settled (signing c r p bs) ≡ settled (after [] q (feed (server c) (send r (at_user c)) fs))
  unfolding signing feed
  signing_feed r p q bs fs h e =
      login_feed r p bs (drop p bs) refl ∙ here r p q (at_user c) (drop p bs) fs h e ∙ sent_on [] r q (feed (server c) (at_user c) fs)

  -- ---- a greeting: the version and the methods

  greeted_feed : (a : Bool) (p q : ℕ) (ms ns bs fs : List ℕ) → ms ≡ ns → p ≡ q → drop p bs ≡ fs
      → settled (cond (offers (chosen a) ms) (cond a (signing c (method_reply 0x02) p bs) (connecting (method_reply 0x00) p bs)) (has (method_reply 0xFF) (fails Unsupported) p))
      ≡ settled (after [] q (feed (server c) (cond (offers (chosen a) ns) (send (method_reply (chosen a)) (cond a (at_user c) at_head)) (refuses (method_reply 0xFF) Unsupported)) fs))
  greeted_feed a p q ms ns bs fs m h e =
      ap (λ (l : List ℕ). settled (cond (offers (chosen a) l) (cond a (signing c (method_reply 0x02) p bs) (connecting (method_reply 0x00) p bs)) (has (method_reply 0xFF) (fails Unsupported) p))) m
      ∙ go a (offers (chosen a) ns)
    where
      go : (a b : Bool) → settled (cond b (cond a (signing c (method_reply 0x02) p bs) (connecting (method_reply 0x00) p bs)) (has (method_reply 0xFF) (fails Unsupported) p))
          ≡ settled (after [] q (feed (server c) (cond b (send (method_reply (chosen a)) (cond a (at_user c) at_head)) (refuses (method_reply 0xFF) Unsupported)) fs))
      go true true = signing_feed (method_reply 0x02) p q bs fs h e
      go false true = connecting_feed [] (method_reply 0x00) p q bs fs h e
      go true false = refused [] (method_reply 0xFF) p q Unsupported fs h
      go false false = refused [] (method_reply 0xFF) p q Unsupported fs h

  abbrev on_greeting : List ℕ → ℕ → List ℕ → End
  on_greeting bs n ms = greeted c n ms bs

  abbrev on_methods : List ℕ → EndTalk
  on_methods m =
      cond (offers (chosen c.authenticates) (drop 1 m)) (send (method_reply (chosen c.authenticates)) (cond c.authenticates (at_user c) at_head))
      (refuses (method_reply 0xFF) Unsupported)

  greeting_feed : (bs : List ℕ) → leb 1 (length bs) ≡ true → eqb (byte bs 0) 0x05 ≡ true
      → settled (reads (greeting_in bs) [] 0 (on_greeting bs)) ≡ settled (after [] 1 (feed (server c) (at_methods c) (drop 1 bs)))
  unfolding greeting_in side.reads
  greeting_feed bs f1 e0 =
      let n = byte bs 1 in
      let h : 1 ≤ length bs = leb-true 1 (length bs) f1 in
      let z : byte (drop 1 bs) 0 ≡ n = get_or-drop 1 bs 0 0 in
      by_cases (leb 1 (length (drop 1 bs)))
      (λ f. by_cases (leb 1 n)
      (λ g. by_cases (leb (1 + n) (length (drop 1 bs)))
      (λ k. passes [] 0 (on_greeting bs) Methods on_methods 1 (drop 1 bs) (greeting_in bs)
      (1 + n) (whole (2 + n) (take n (drop 2 bs)))
      (rw (f1, e0, leb_drop 1 1 bs h, f, g, greeting_leb n bs h, k)) (rw (f, z, g, k))
      (greeted_feed c.authenticates (2 + n) (1 + (1 + n)) (take n (drop 2 bs)) (drop 1 (take (1 + n) (drop 1 bs))) bs (drop (1 + n) (drop 1 bs))
      (sym (drop_take 1 n (drop 1 bs) ∙ ap (take n) (drop-drop 1 1 bs))) (add_assoc 1 1 n) (sym (drop-drop (1 + n) 1 bs ∙ ap (λ (k : ℕ). drop k bs) (sym (add_assoc 1 1 n))))))
      (λ k. pends [] 0 (on_greeting bs) Methods on_methods 1 (drop 1 bs) (greeting_in bs)
      (rw (f1, e0, leb_drop 1 1 bs h, f, g, greeting_leb n bs h, k)) (rw (f, z, g, k))))
      (λ g. breaks [] 0 (on_greeting bs) Methods on_methods 1 (drop 1 bs) (greeting_in bs)
      2 1 (rw (f1, e0, leb_drop 1 1 bs h, f, g)) (rw (f, z, g)) refl))
      (λ f. pends [] 0 (on_greeting bs) Methods on_methods 1 (drop 1 bs) (greeting_in bs)
      (rw (f1, e0, leb_drop 1 1 bs h, f)) (rw f))

  -- ---- a v4 request: the version, seven bytes, the user id, a name

  requested_feed : (a : Bool) (p q command other : ℕ) (x y : Endpoint) (fs : List ℕ) → p ≡ q → command ≡ other → x ≡ y
      → settled (cond a (has (own_reply4 91) (fails WrongCredentials) p) (cond (eqb command 1) (has [] (asks (asked V4 x)) p) (has (own_reply4 91) (fails (Command 91)) p)))
      ≡ settled (after [] q (feed (server c) (cond a (refuses (own_reply4 91) WrongCredentials) (cond (eqb other 1) (stop (done (asked V4 y))) (refuses (own_reply4 91) (Command 91)))) fs))
  requested_feed a p q command other x y fs h e f =
      (λ i. settled (cond a (has (own_reply4 91) (fails WrongCredentials) p) (cond (eqb (e i) 1) (has [] (asks (asked V4 (f i))) p) (has (own_reply4 91) (fails (Command 91)) p))))
      ∙ go a (eqb other 1)
    where
      go : (a b : Bool) → settled (cond a (has (own_reply4 91) (fails WrongCredentials) p) (cond b (has [] (asks (asked V4 y)) p) (has (own_reply4 91) (fails (Command 91)) p)))
          ≡ settled (after [] q (feed (server c) (cond a (refuses (own_reply4 91) WrongCredentials) (cond b (stop (done (asked V4 y))) (refuses (own_reply4 91) (Command 91)))) fs))
      go true b = refused [] (own_reply4 91) p q WrongCredentials fs h
      go false true = hands [] p q (asked V4 y) fs h
      go false false = refused [] (own_reply4 91) p q (Command 91) fs h

  abbrev on_request : ℕ → ℕ × Endpoint → End
  on_request n r = requested c n r.0 r.1

  abbrev on_name : Ports → List ℕ → EndTalk
  on_name p m = unless_other4 c p (domain (take (length m - 1) m))

  abbrev on_user_id : Ports → List ℕ → EndTalk
  on_user_id p m = cond (announces (ip_of p)) (at_name c p) (unless_other4 c p (ipv4 (ip_of p)))

  name_feed : (bs : List ℕ) (p : Ports) (at : ℕ) → byte bs 1 ≡ p.command → two_of (drop 2 bs) ≡ p.port
      → settled (reads (further at (text_in 1014 (drop at bs)) (name_in bs at)) [] 0 on_request) ≡ settled (after [] at (feed (server c) (at_name c p) (drop at bs)))
  unfolding side.reads
  name_feed bs p at hc hp = go (text_in 1014 (drop at bs)) refl (text_law 1014 (drop at bs))
    where
      go : (s : Seen ℕ) → text_in 1014 (drop at bs) ≡ s → TextLaw 1014 (drop at bs) s
          → settled (reads (further at s (name_in bs at)) [] 0 on_request) ≡ settled (after [] at (feed (server c) (at_name c p) (drop at bs)))
      go short e l = pends [] 0 on_request (Name p) (on_name p) at (drop at bs) short refl (ap read_name e)
      go (wrong k) e l = breaks [] 0 on_request (Name p) (on_name p) at (drop at bs) (wrong (at + k)) (at + k) k refl (ap read_name e) (zero-add (at + k))
      go (unknown k) e l = absurd l
      go (whole k zero) e l = breaks [] 0 on_request (Name p) (on_name p) at (drop at bs) (wrong (at + k)) (at + k) k refl (ap read_name e) (zero-add (at + k))
      go (whole k (suc m)) e l =
          let x = endpoint (domain (take (suc m) (drop at bs))) (two_of (drop 2 bs)) in
          passes [] 0 on_request (Name p) (on_name p) at (drop at bs) (whole (at + k) (byte bs 1, x)) k (whole (at + k) (byte bs 1, x)) refl (ap read_name e)
          (requested_feed c.authenticates (at + k) (at + k) (byte bs 1) p.command x
          (endpoint (domain (take (length (take k (drop at bs)) - 1) (take k (drop at bs)))) p.port) (drop k (drop at bs)) refl hc
          (same_endpoint _ _ _ _ (ap domain (sym (but_last k m (drop at bs) l.0 l.1))) hp))

  behind_feed : (bs : List ℕ) (p : Ports) (fs : List ℕ) (at : ℕ) → byte bs 1 ≡ p.command → two_of (drop 2 bs) ≡ p.port → take 4 (drop 4 bs) ≡ ip_of p → drop at bs ≡ fs
      → settled (reads (behind_user bs at) [] 0 on_request) ≡ settled (after [] at (feed (server c) (on_user_id p []) fs))
  behind_feed bs p fs at hc hp hi w =
      ap (λ (b : Bool). settled (reads (cond b named (whole at (byte bs 1, x))) [] 0 on_request)) (ap announces hi) ∙ go (announces (ip_of p))
    where
      named : Seen (ℕ × Endpoint)
      named = further at (text_in 1014 (drop at bs)) (name_in bs at)

      x : Endpoint
      x = endpoint (ipv4 (take 4 (drop 4 bs))) (two_of (drop 2 bs))

      y : Endpoint
      y = endpoint (ipv4 (ip_of p)) p.port

      go : (b : Bool) → settled (reads (cond b named (whole at (byte bs 1, x))) [] 0 on_request) ≡ settled (after [] at (feed (server c) (cond b (at_name c p) (unless_other4 c p (ipv4 (ip_of p)))) fs))
      go true = name_feed bs p at hc hp ∙ here [] at at (at_name c p) (drop at bs) fs refl w
      go false = requested_feed c.authenticates at at (byte bs 1) p.command x y fs refl hc (same_endpoint _ _ _ _ (ap ipv4 hi) hp)

  id_feed : (bs : List ℕ) (p : Ports) (es : List ℕ) → byte bs 1 ≡ p.command → two_of (drop 2 bs) ≡ p.port → take 4 (drop 4 bs) ≡ ip_of p → drop 8 bs ≡ es
      → settled (reads (further 8 (text_in 255 es) (λ at m. behind_user bs at)) [] 0 on_request) ≡ settled (after [] 8 (feed (server c) (at_user_id c p) es))
  unfolding side.reads
  id_feed bs p es hc hp hi w = go (text_in 255 es) refl (text_law 255 es)
    where
      go : (s : Seen ℕ) → text_in 255 es ≡ s → TextLaw 255 es s
          → settled (reads (further 8 s (λ at m. behind_user bs at)) [] 0 on_request) ≡ settled (after [] 8 (feed (server c) (at_user_id c p) es))
      go short e l = pends [] 0 on_request (UserId p) (on_user_id p) 8 es short refl (ap read_text e)
      go (wrong k) e l = breaks [] 0 on_request (UserId p) (on_user_id p) 8 es (wrong (8 + k)) (8 + k) k refl (ap read_text e) (zero-add (8 + k))
      go (unknown k) e l = absurd l
      go (whole k m) e l =
          passes [] 0 on_request (UserId p) (on_user_id p) 8 es (behind_user bs (8 + k)) k (behind_user bs (8 + k)) refl (ap read_text e)
          (behind_feed bs p (drop k es) (8 + k) hc hp hi (sym (drop-drop k 8 bs) ∙ ap (drop k) w))

  abbrev on_ports : List ℕ → EndTalk
  on_ports m = at_user_id c (ports_of m)

  request_feed : (bs : List ℕ) → leb 1 (length bs) ≡ true → eqb (byte bs 0) 0x04 ≡ true
      → settled (reads (request_in bs) [] 0 on_request) ≡ settled (after [] 1 (feed (server c) (at_request c) (drop 1 bs)))
  unfolding request_in side.reads
  request_feed bs f1 e0 =
      let h : 1 ≤ length bs = leb-true 1 (length bs) f1 in
      let p = ports_of (take 7 (drop 1 bs)) in
      by_cases (leb 7 (length (drop 1 bs)))
      (λ f. passes [] 0 on_request Request on_ports 1 (drop 1 bs) (request_in bs) 7 (further 8 (text_in 255 (drop 8 bs)) (λ at m. behind_user bs at)) (rw (f1, e0, leb_drop 1 7 bs h, f)) (rw f)
      (id_feed bs p (drop 8 bs) (sym (get_or-take 7 (drop 1 bs) 0 0 (lit≤ tt) ∙ get_or-drop 1 bs 0 0)) (sym (two_cut 1 7 (drop 1 bs) (lit≤ tt) ∙ ap two_of (drop-drop 1 1 bs)))
      (ap (take 4) (sym (drop-drop 3 1 bs)) ∙ ip_same (drop 1 bs) (leb-true 7 (length (drop 1 bs)) f)) refl
      ∙ here [] 8 8 (at_user_id c p) (drop 8 bs) (drop 7 (drop 1 bs)) refl (sym (drop-drop 7 1 bs))))
      (λ f. pends [] 0 on_request Request on_ports 1 (drop 1 bs) (request_in bs) (rw (f1, e0, leb_drop 1 7 bs h, f)) (rw f))

  -- ---- the first byte picks the version

  abbrev on_first : List ℕ → EndTalk
  on_first m = cond (eqb (byte m 0) 0x05) (at_methods c) (at_request c)

  abbrev never : ℕ → ℕ → End
  never n m = has [] waits 0

  picked : (bs : List ℕ) (b : Bool) → eqb (byte bs 0) 0x05 ≡ b → on_first (take 1 bs) ≡ cond b (at_methods c) (at_request c)
  picked bs b e = ap (λ (n : ℕ). cond (eqb n 0x05) (at_methods c) (at_request c)) (get_or-take 1 bs 0 0 (lit≤ tt)) ∙ ap (λ (z : Bool). cond z (at_methods c) (at_request c)) e

  at_first_lem : (bs : List ℕ) (t : EndTalk) → on_first (take 1 bs) ≡ t → settled (after [] 1 (feed (server c) t (drop 1 bs))) ≡ settled (after [] 1 (feed (server c) (on_first (take 1 bs)) (drop 1 bs)))
  at_first_lem bs t e = ap (λ (z : EndTalk). settled (after [] 1 (feed (server c) z (drop 1 bs)))) (sym e)

  machine_after_lem : (bs : List ℕ) → settled (machine c bs) ≡ settled (after [] 0 (feed (server c) (at_first c) bs))
  unfolding machine side.reads
  machine_after_lem bs =
      by_cases (leb 1 (length bs))
      (λ f. by_cases (eqb (byte bs 0) 0x05)
      (λ e. let m : machine c bs ≡ reads (greeting_in bs) [] 0 (on_greeting bs) = rw (f, e) in
      ap settled m ∙ passes [] 0 (on_greeting bs) First on_first 0 bs (greeting_in bs) 1 (greeting_in bs) refl (rw (f, e))
      (greeting_feed bs f e ∙ at_first_lem bs (at_methods c) (picked bs true e)))
      (λ e. by_cases (eqb (byte bs 0) 0x04)
      (λ g. let m : machine c bs ≡ reads (request_in bs) [] 0 on_request = rw (f, e, g) in
      ap settled m ∙ passes [] 0 on_request First on_first 0 bs (request_in bs) 1 (request_in bs) refl (rw (f, e, g))
      (request_feed bs f g ∙ at_first_lem bs (at_request c) (picked bs false e)))
      (λ g. let m : machine c bs ≡ has [] (fails Malformed) 1 = rw (f, e, g) in
      ap settled m ∙ breaks [] 0 never First on_first 0 bs (wrong 1) 1 1 refl (rw (f, e, g)) refl)))
      (λ f. let m : machine c bs ≡ has [] waits 0 = rw f in
      ap settled m ∙ pends [] 0 never First on_first 0 bs short refl (rw f))

-- ---- the plain machine and the end fed with bytes: the same sent bytes and standing; and, unless it waits, the same place

-- the end as it stands, in the plain machine's words
abbrev pub as_end : EndFed → End
as_end f = has f.sent (standing_of f.session) f.place

-- while it waits the machine counts from where the request begins, and the end from where the field begins: places are compared once it waits no more
pub machine_feed : (c : Setup) (bs : List ℕ) → settled (machine c bs) ≡ settled (as_end (feed (server c) (talk_at c First) bs))
machine_feed c bs =
    let f = feed (server c) (talk_at c First) bs in
    machine_after_lem c bs ∙ same_end (settled (after [] 0 f)) (settled (as_end f)) refl refl (ap (counted (standing_of f.session)) (zero-add f.place))

pub sent_feed : (c : Setup) (bs : List ℕ) → (machine c bs).sent ≡ (feed (server c) (talk_at c First) bs).sent
sent_feed c bs = ap (λ (e : End). e.sent) (machine_feed c bs)

pub standing_feed : (c : Setup) (bs : List ℕ) → (machine c bs).standing ≡ standing_of (feed (server c) (talk_at c First) bs).session
standing_feed c bs = ap (λ (e : End). e.standing) (machine_feed c bs)

-- ---- the count: all bytes while it waits, else up to the place

used_counted : (s : Standing) (n : ℕ) (bs : List ℕ) → used_by s n bs ≡ used_by s (counted s n) bs
used_counted waits n bs = refl
used_counted (asks x) n bs = refl
used_counted (fails e) n bs = refl

used_reached : (f : EndFed) (bs : List ℕ) → (is_over f.session ≡ false → reached f ≡ length bs) → used_by (standing_of f.session) f.place bs ≡ reached f
used_reached f bs h = go f.session refl
  where
    go : (s : EndSession) → f.session ≡ s → used_by (standing_of s) f.place bs ≡ reached f
    go (waiting s held) e = sym (h (rw e))
    go (ended (done x)) e = rw e (omega arith)
    go (ended (failed x)) e = rw e (omega arith)

pub used_feed : (c : Setup) (bs : List ℕ) → used c bs ≡ reached (feed (server c) (talk_at c First) bs)
unfolding used
used_feed c bs =
    let f = feed (server c) (talk_at c First) bs in
    used_counted (machine c bs).standing (machine c bs).place bs
    ∙ ap (λ (m : End). used_by m.standing m.place bs) (machine_feed c bs)
    ∙ sym (used_counted (standing_of f.session) f.place bs)
    ∙ used_reached f bs (feed_exact (server c) (server_lawful c) (talk_at c First) bs)
