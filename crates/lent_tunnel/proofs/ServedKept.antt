-- F-3: ends that lent bytes can hold stay so: whatever byte strings an end is fed with, and whatever it is answered.
use Prim.Native.Nat.{ℕ, zero, suc, ◌+◌, ◌/◌, ◌%◌, ◌≤◌, ◌<◌, zero-le}
use native.Mathlib.Omega.{arith}
use mathlib.Core.Path.{◌≡◌, refl, ap, sym, subst, ◌∙◌}
use mathlib.Core.Bool.{Bool, true, false, cond, ◌&&◌, ◌||◌}
use mathlib.Core.List.{List, [], ◌∷◌, ◌++◌}
use lib.ListN.{length, take, drop, length-append, length-take, length-drop, length-replicate, take-append-drop}
use lib.Dec.{eqb, leb, ltb, lit<}
use borrow.Author.Tests.{leb-true, lt-ltb, ltb-true, ltb-false}
use Rattle.protocol.specs.Answers.{Answer, Accepted, Refused}
use Rattle.protocol.specs.declared.AddressKind.{AddressKind}
use Rattle.protocol.specs.declared.AddressKind.TheVariants.{Ipv4, Ipv6, Domain}
use Rattle.protocol.specs.declared.SocksError.{SocksError}
use Rattle.protocol.specs.declared.SocksError.TheVariants.{ShortOutput, CredentialTooLong, UnexpectedEof, Settled, Malformed, Command}
use Rattle.protocol.specs.declared.Version.{Version}
use Rattle.protocol.specs.declared.Version.TheVariants.{V4, V5}
use Rattle.protocol.specs.Bytes.{Bytes, byte, two_of, same}
use Rattle.protocol.specs.Numbers.{number, status}
use Rattle.protocol.specs.AddressReading.{Destination, ipv4}
use Rattle.protocol.specs.Requests.{kind_of}
use Rattle.protocol.specs.Bound.{Endpoint, endpoint, bytes_in}
use Rattle.protocol.specs.Opening.{announces}
use Rattle.protocol.proofs.Bytes.{bytes_join, bytes_right, bytes_part, both_true}
use Rattle.proxy_spec.specs.declared.Field.{Field}
use Rattle.proxy_spec.specs.declared.Field.TheVariants.{First, Methods, User, Password, Head, Address, Request, UserId, Name}
use Rattle.proxy_spec.specs.declared.Ports.{Ports}
use Rattle.proxy_spec.specs.declared.Stage.{Stage}
use Rattle.proxy_spec.specs.declared.Stage.TheVariants.{Awaiting, Asked, Open, Failed}
use Rattle.proxy_spec.specs.Reads.{Seen, short, wrong, unknown, whole, text_in}
use Rattle.proxy_spec.specs.End.{Setup, chosen, offers, reply_to, status_to, success}
use Rattle.proxy_spec.specs.Side.{once, test, read_text, read_name, reads, EndTalk, EndSession, target_of, at_address, is_known, at_head, at_password, at_user, at_methods, ports_of, ip_of, unless_other4, at_name, at_user_id, at_request, talk_at, server}
use Rattle.proxy_spec.proofs.Side.{held_most}
use Rattle.proxy_spec.proofs.Fits.{feed_target}
use Rattle.proxy_delivery.specs.piece.Pieces.{holds_of, stage_of, bound_after}
use Rattle.proxy_decisions.specs.decision.Due.{session_at}
use Rattle.proxy_replies.specs.stages.Answers.{sends, refused, answer_at}
use Rattle.proxy_session.specs.declared.Server.{Server}
use Rattle.proxy_session.specs.declared.SetUp.{SetUp}
use Rattle.proxy_session.specs.Server.{setup_of, side_of, held_bytes, view, packed, at_stage, fresh, credential_of}
use Rattle.proxy_session.specs.Calls.{Call, refusal, too_long, set_up, takes, deliver, answer, end}
use Rattle.proxy.specs.Turns.{Untouched}
use Rattle.proxy.proofs.Tunnels.{view_packed}
use Rattle.raw_errors.specs.Errors.{error_among, errors, error_of}
use Rattle.lent_numbers.proofs.bytes.Laws.{number_below}
use Rattle.lent_proxy.specs.Fits.{PortsFit, FieldFits, StageFits, Fits}
use Rattle.lent_proxy.specs.State as lent
use Rattle.lent_proxy.specs.State.{kept_at, stage_at, server_at, state_of}
use Rattle.lent_proxy.specs.Calls.{left_by}
use Rattle.lent_proxy.proofs.Codes.{field_fits}
use Rattle.talk.specs.Decision.{Decision, undecided, decided, good, bad}
use Rattle.talk.specs.Talk.{done, failed, stop, send, await, waiting, ended, deciding, feed, onward, is_over}

bytes_from : (n : ℕ) (bs : List ℕ) → Bytes bs → Bytes (drop n bs)
bytes_from n bs y = bytes_right (take n bs) (drop n bs) (rw (take-append-drop n bs) y)

two_below : (bs : List ℕ) → Bytes bs → two_of bs < 65536
two_below bs y = let a = y 0 in let b = y 1 in omega arith

below : {n : ℕ} → n ≤ 255 → n < 256
below h = omega arith

-- ---- errors of which number and status are bytes

abbrev pub Small : SocksError → Type 0
Small e = (number e < 256) × (status e < 256)

-- what a field's bytes are decided to be wrong with
abbrev Judges : Decision SocksError → Type 0
Judges undecided = Unit {0}
Judges (decided n good) = Unit {0}
Judges (decided n (bad e)) = Small e

judges_cond : (b : Bool) (d e : Decision SocksError) → Judges d → Judges e → Judges (cond b d e)
judges_cond true d e x y = x
judges_cond false d e x y = y

judges_once : (n : ℕ) (bs : List ℕ) (d : Decision SocksError) → Judges d → Judges (once n bs d)
judges_once n bs d x = judges_cond (leb n (length bs)) d undecided x tt

judges_test : (b : Bool) (n : ℕ) (d : Decision SocksError) → Judges d → Judges (test b n d)
judges_test b n d x = judges_cond b d (decided n (bad Malformed)) x (lit< tt, lit< tt)

judges_size : (n : ℕ) (bs : List ℕ) → Judges (once n bs (decided n good))
judges_size n bs = judges_once n bs (decided n good) tt

judges_counted : (k : ℕ) (bs : List ℕ) → Judges (once 1 bs (test (leb 1 (byte bs 0)) 1 (once (k + byte bs 0) bs (decided (k + byte bs 0) good))))
judges_counted k bs = judges_once 1 bs _ (judges_test (leb 1 (byte bs 0)) 1 _ (judges_size (k + byte bs 0) bs))

judges_text : (s : Seen ℕ) → Judges (read_text s)
judges_text short = tt
judges_text (wrong n) = (lit< tt, lit< tt)
judges_text (unknown n) = (lit< tt, lit< tt)
judges_text (whole n m) = tt

judges_name : (s : Seen ℕ) → Judges (read_name s)
judges_name short = tt
judges_name (wrong n) = (lit< tt, lit< tt)
judges_name (unknown n) = (lit< tt, lit< tt)
judges_name (whole n zero) = (lit< tt, lit< tt)
judges_name (whole n (suc m)) = tt

judges : (f : Field) (bs : List ℕ) → Judges (reads f bs)
unfolding reads
judges First bs = judges_once 1 bs _ (judges_test (eqb (byte bs 0) 0x05 || eqb (byte bs 0) 0x04) 1 (decided 1 good) tt)
judges Methods bs = judges_counted 1 bs
judges User bs = judges_once 1 bs _ (judges_test (eqb (byte bs 0) 0x01) 1 _ (judges_once 2 bs _ (judges_size (2 + byte bs 1) bs)))
judges (Password right) bs = judges_once 1 bs _ (judges_size (1 + byte bs 0) bs)
judges Head bs = judges_once 1 bs _ (judges_test (eqb (byte bs 0) 0x05) 1 _ (judges_once 3 bs _ (judges_test (eqb (byte bs 2) 0x00) 3 _ (judges_size 4 bs))))
judges (Address command type) bs = judges_cond (eqb type 0x01) _ _ (judges_size 6 bs) (judges_cond (eqb type 0x04) _ _ (judges_size 18 bs) (judges_counted 3 bs))
judges Request bs = judges_size 7 bs
judges (UserId p) bs = judges_text (text_in 255 bs)
judges (Name p) bs = judges_name (text_in 1014 bs)

-- ---- what a talk awaits and ends with, whatever bytes it is told

abbrev Sounds : EndTalk → Type 0
Sounds (stop (done x)) = x.target.port < 65536
Sounds (stop (failed e)) = Small e
Sounds (send q t) = Sounds t
Sounds (await f k) = FieldFits f × ((m : List ℕ) → Bytes m → Sounds (k m))

sounds_cond : (b : Bool) (t u : EndTalk) → Sounds t → Sounds u → Sounds (cond b t u)
sounds_cond true t u x y = x
sounds_cond false t u x y = y

port_small : (type : ℕ) (m : List ℕ) → Bytes m → (target_of type m).port < 65536
port_small type m y = go (eqb type 0x01) (eqb type 0x04)
  where
    go : (a b : Bool) → (cond a (target_of 0x01 m) (cond b (target_of 0x04 m) (target_of 0x03 m))).port < 65536
    go true b = two_below (drop 4 m) (bytes_from 4 m y)
    go false true = two_below (drop 16 m) (bytes_from 16 m y)
    go false false = two_below (drop (1 + byte m 0) m) (bytes_from (1 + byte m 0) m y)

ports_fit : (m : List ℕ) → Bytes m → PortsFit (ports_of m)
ports_fit m y =
    record {
      command = below (y 0);
      port = two_below (drop 1 m) (bytes_from 1 m y);
      first = below (y 3);
      second = below (y 4);
      third = below (y 5);
      fourth = below (y 6);
    }

sounds_address : (command type : ℕ) → command < 256 → type < 256 → Sounds (at_address command type)
sounds_address command type h i = ((h, i), λ m y. sounds_cond (eqb command 1) _ _ (port_small type m y) (lit< tt, lit< tt))

sounds_head : Sounds at_head
sounds_head = (tt, λ m y. sounds_cond (is_known (byte m 3)) _ _ (sounds_address (byte m 1) (byte m 3) (below (y 1)) (below (y 3))) (lit< tt, lit< tt))

module _ (c : Setup) where
  sounds_password : (right : Bool) → Sounds (at_password c right)
  sounds_password right = (tt, λ m y. sounds_cond (right && same (drop 1 m) c.password) _ _ sounds_head (lit< tt, lit< tt))

  sounds_user : Sounds (at_user c)
  sounds_user = (tt, λ m y. sounds_password (same (drop 2 m) c.user))

  sounds_methods : Sounds (at_methods c)
  sounds_methods = (tt, λ m y. sounds_cond (offers (chosen c.authenticates) (drop 1 m)) _ _ (sounds_cond c.authenticates (at_user c) at_head sounds_user sounds_head) (lit< tt, lit< tt))

  sounds_other : (p : Ports) → PortsFit p → (d : Destination) → Sounds (unless_other4 c p d)
  sounds_other p f d = sounds_cond c.authenticates _ _ (lit< tt, lit< tt) (sounds_cond (eqb p.command 1) _ _ f.port (lit< tt, lit< tt))

  sounds_name : (p : Ports) → PortsFit p → Sounds (at_name c p)
  sounds_name p f = (f, λ m y. sounds_other p f _)

  sounds_id : (p : Ports) → PortsFit p → Sounds (at_user_id c p)
  sounds_id p f = (f, λ m y. sounds_cond (announces (ip_of p)) _ _ (sounds_name p f) (sounds_other p f (ipv4 (ip_of p))))

  sounds_request : Sounds (at_request c)
  sounds_request = (tt, λ m y. sounds_id (ports_of m) (ports_fit m y))

  sounds_at : (f : Field) → FieldFits f → Sounds (talk_at c f)
  sounds_at First h = (tt, λ m y. sounds_cond (eqb (byte m 0) 0x05) _ _ sounds_methods sounds_request)
  sounds_at Methods h = sounds_methods
  sounds_at User h = sounds_user
  sounds_at (Password right) h = sounds_password right
  sounds_at Head h = sounds_head
  sounds_at (Address command type) (i, j) = sounds_address command type i j
  sounds_at Request h = sounds_request
  sounds_at (UserId p) h = sounds_id p h
  sounds_at (Name p) h = sounds_name p h

-- ---- a side's session that lent bytes can hold

abbrev pub Holds : EndSession → Type 0
Holds (waiting f h) = FieldFits f × (length h ≤ 1014) × Bytes h
Holds (ended (done x)) = (length (bytes_in x.target.address) ≤ 1014) × (x.target.port < 65536)
Holds (ended (failed e)) = Small e

-- but for the length of what is asked for
abbrev Nearly : EndSession → Type 0
Nearly (waiting f h) = Holds (waiting f h)
Nearly (ended (done x)) = x.target.port < 65536
Nearly (ended (failed e)) = Small e

module _ (c : Setup) where
  feed_nearly : (t : EndTalk) → Sounds t → (bs : List ℕ) → Bytes bs → Nearly (feed (server c) t bs).session
  unfolding feed
  feed_nearly (stop (done x)) s bs y = s
  feed_nearly (stop (failed e)) s bs y = s
  feed_nearly (send q t) s bs y = feed_nearly t s bs y
  feed_nearly (await f k) s bs y =
      go (reads f bs) refl (judges f bs) (λ n. feed_nearly (k (take n bs)) (s.1 (take n bs) (bytes_part bs 0 n y)) (drop n bs) (bytes_from n bs y))
    where
      go : (d : Decision SocksError) → reads f bs ≡ d → Judges d → ((n : ℕ) → Nearly (feed (server c) (k (take n bs)) (drop n bs)).session)
          → Nearly (deciding d (waiting f bs) (λ n. feed (server c) (k (take n bs)) (drop n bs))).session
      go undecided q j ih = (s.0, held_most f bs y q, y)
      go (decided n good) q j ih = ih n
      go (decided n (bad e)) q j ih = j

  feed_holds : (f : Field) → FieldFits f → (bs : List ℕ) → Bytes bs → Holds (feed (server c) (talk_at c f) bs).session
  feed_holds f h bs y = go (feed (server c) (talk_at c f) bs).session refl (feed_nearly (talk_at c f) (sounds_at c f h) bs y)
    where
      go : (m : EndSession) → (feed (server c) (talk_at c f) bs).session ≡ m → Nearly m → Holds m
      go (waiting g held) q s = s
      go (ended (done x)) q s = (feed_target c f bs y x q, s)
      go (ended (failed e)) q s = s

  -- bytes more
  pub onward_holds : (m : EndSession) → Holds m → (piece : List ℕ) → Bytes piece → Holds (onward (server c) m piece).session
  unfolding onward
  onward_holds (waiting f h) (s, l, z) piece y = feed_holds f s (h ++ piece) (bytes_join h piece z y)
  onward_holds (ended (done x)) s piece y = s
  onward_holds (ended (failed e)) s piece y = s

holds_few : (m : EndSession) → Holds m → length (holds_of m) ≤ 1014
holds_few (waiting f h) (s, l, z) = l
holds_few (ended (done x)) s = s.0
holds_few (ended (failed e)) s = zero-le

-- ---- an end

pub record Whole (x : Server) : Type 0 where
  pub fits : Fits x
  pub holds : Holds (view x)

stage_fits : (m : EndSession) → Holds m → StageFits (stage_of m)
stage_fits (waiting f h) (s, l, z) = s
stage_fits (ended (done x)) s = tt
stage_fits (ended (failed e)) s = s

port_fits : (m : EndSession) → Holds m → (x : Server) → Fits x → (bound_after m x.bound).port < 65536
port_fits (waiting f h) s x w = w.port
port_fits (ended (done y)) s x w = s.1
port_fits (ended (failed e)) s x w = w.port

pub hold_long : (n : ℕ) (h hold : List ℕ) → length hold ≡ n → length h ≤ n → length (h ++ drop (length h) hold) ≡ n
hold_long n h hold l f = simp (length-append, length-drop) (omega arith)

packed_whole : (x : Server) → Fits x → (m : EndSession) → Holds m → Whole (packed x m)
packed_whole x w m s =
    let k = holds_few m s in
    record {
      fits = record { stage = stage_fits m s; held = omega arith; port = port_fits m s x w; hold = hold_long 1014 (holds_of m) x.hold w.hold k; user = w.user };
      holds = subst Holds (sym (view_packed x m)) s;
    }

takes_whole : (x : Server) → Whole x → (piece out : List ℕ) → Bytes piece → Whole (takes x piece out).session
takes_whole x w [] out y = w
takes_whole x w (b ∷ bs) out y = packed_whole x w.fits (onward (side_of x) (view x) (b ∷ bs)).session (onward_holds (setup_of x) (view x) w.holds (b ∷ bs) y)

pub deliver_whole : (x : Server) → Whole x → (piece out : List ℕ) → Bytes piece → Whole (deliver x piece out).session
unfolding deliver
deliver_whole x w piece out y = go (is_over (view x)) (leb 262 (length out))
  where
    go : (a b : Bool) → Whole (cond a (refusal Settled x out) (cond b (takes x piece out) (refusal ShortOutput x out))).session
    go true b = w
    go false true = takes_whole x w piece out y
    go false false = w

pub end_whole : (x : Server) → Whole x → Whole (end x).session
unfolding end
end_whole x w = go (is_over (view x))
  where
    go : (a : Bool) → Whole (cond a (refusal Settled x []) (record { answer = Accepted; session = packed x (ended (failed UnexpectedEof)); used = 0; sent = 0; output = [] })).session
    go true = w
    go false = packed_whole x w.fits (ended (failed UnexpectedEof)) (lit< tt, lit< tt)

-- the caller's answer

status_small : (v : Version) (s : ℕ) → status_to v s < 256
status_small V4 s = go (leb 90 s) (leb s 93) refl
  where
    go : (a b : Bool) → leb s 93 ≡ b → cond (a && b) s 91 < 256
    go true true q = omega (arith, leb-true s 93 q)
    go true false q = lit< tt
    go false b q = lit< tt
status_small V5 s = go (leb s 8) refl
  where
    go : (b : Bool) → leb s 8 ≡ b → cond b s 1 < 256
    go true q = omega (arith, leb-true s 8 q)
    go false q = lit< tt

at_stage_lem : (t : Stage) (x : Server) → Fits x → StageFits t → Holds (view (at_stage t x)) → Whole (at_stage t x)
at_stage_lem t x w f h = record { fits = record { stage = f; held = w.held; port = w.port; hold = w.hold; user = w.user }; holds = h }

pub answer_whole : (x : Server) → Whole x → (status : ℕ) (e : Endpoint) (out : List ℕ) → Whole (answer x status e out).session
unfolding answer
answer_whole x w status e out = go x.stage w
  where
    after : (v : Version) (a b : Bool) → Whole (at_stage (Asked v) x)
        → Whole (at_stage (cond a (sends (reply_to v status e) (cond b (Open v) (Failed (Command (status_to v status)))) out) (refused ShortOutput (Asked v) out)).said.stage x)
    after v true true k = at_stage_lem (Open v) x w.fits tt k.holds
    after v true false k = let s : Small (Command (status_to v status)) = (lit< tt, status_small v status) in at_stage_lem (Failed (Command (status_to v status))) x w.fits s s
    after v false b k = k

    go : (t : Stage) → Whole (at_stage t x) → Whole (at_stage (answer_at t status e out).said.stage x)
    go (Awaiting f) w = w
    go (Asked v) w = after v (leb 262 (length out)) (eqb (status_to v status) (success v)) w
    go (Open v) w = w
    go (Failed d) w = w

-- ---- what a set-up leaves

or_left : (a b : Bool) → (a || b) ≡ false → a ≡ false
or_left true b q = q
or_left false b q = refl

text_short : (a : Bool) (user password : List ℕ) → too_long a user password ≡ false → length (cond a user []) ≤ 255
text_short true user password q = ltb-false 255 (length user) (or_left _ _ q)
text_short false user password q = zero-le

fresh_whole : (t : Stage) (a : Bool) (user password : List ℕ) → length user ≤ 255 → StageFits t → Holds (view (fresh t a (credential_of user) (credential_of password))) → Whole (fresh t a (credential_of user) (credential_of password))
fresh_whole t a user password h f k =
    record {
      fits = record { stage = f; held = lit< tt; port = lit< tt; hold = length-replicate {A = ℕ} 1014 0; user = simp (length-append, length-replicate) (omega arith) };
      holds = k;
    }

pub set_up_whole : (a : Bool) (user password : List ℕ) → Whole (set_up a user password).server
unfolding set_up
set_up_whole a user password = go (too_long a user password) refl
  where
    go : (b : Bool) → too_long a user password ≡ b
        → Whole (cond {A = SetUp} b (record { answer = Refused CredentialTooLong; server = fresh (Failed CredentialTooLong) false (credential_of []) (credential_of []) })
        (record { answer = Accepted; server = fresh (Awaiting First) a (credential_of (cond a user [])) (credential_of (cond a password [])) })).server
    go true q = fresh_whole (Failed CredentialTooLong) false [] [] zero-le (lit< tt, lit< tt) (lit< tt, lit< tt)
    go false q = fresh_whole (Awaiting First) a (cond a user []) (cond a password []) (text_short a user password q) tt (tt, zero-le, λ i. zero-le)

-- ---- what any bytes mean

abbrev all_small : List SocksError → Bool
all_small [] = true
all_small (e ∷ es) = (ltb (number e) 256 && ltb (status e) 256) && all_small es

among_small : (es : List SocksError) → all_small es ≡ true → (n : ℕ) → Small (error_among es n)
unfolding error_among
among_small [] q n = (lit< tt, lit< tt)
among_small (e ∷ es) q n =
    let (a, r) = both_true _ (all_small es) q in
    let (b, c) = both_true _ (ltb (status e) 256) a in
    go (eqb n (number e)) (ltb-true (number e) 256 b, ltb-true (status e) 256 c) (among_small es r n)
  where
    go : (b : Bool) → Small e → Small (error_among es n) → Small (cond b e (error_among es n))
    go true s h = s
    go false s h = h

error_small : (n s : ℕ) → s < 256 → Small (error_of n s)
unfolding error_of
error_small n s h = among_small (errors s) (rw (lt-ltb s 256 h)) n

stage_cond : (b : Bool) (t u : Stage) → (b ≡ true → StageFits t) → StageFits u → StageFits (cond b t u)
stage_cond true t u f g = f refl
stage_cond false t u f g = g

stage_any : (n m : ℕ) → StageFits (lent.stage_of n m)
unfolding lent.stage_of
stage_any n m =
    let e = error_small (m % 256) (m / 256 % 256) (omega arith) in
    stage_cond (eqb n 0) _ _ (λ q. e)
    (stage_cond (leb n 10) _ _ (λ q. field_fits n m (leb-true n 10 q))
    (stage_cond (eqb n 11) _ _ (λ q. tt) (stage_cond (eqb n 12) _ _ (λ q. tt) (stage_cond (eqb n 13) _ _ (λ q. tt) (stage_cond (eqb n 14) _ _ (λ q. tt) e)))))

asked_few : (k : AddressKind) (h : List ℕ) → length h ≤ 1014 → length (bytes_in (kind_of k h)) ≤ 1014
asked_few Ipv4 h l = l
asked_few Ipv6 h l = l
asked_few Domain h l = l

view_holds : (t : Stage) → StageFits t → (k : AddressKind) (port : ℕ) (h : List ℕ) → port < 65536 → length h ≤ 1014 → Bytes h → Holds (session_at t (endpoint (kind_of k h) port) h)
view_holds (Awaiting f) s k port h p l y = (s, l, y)
view_holds (Asked v) s k port h p l y = (asked_few k h l, p)
view_holds (Open v) s k port h p l y = (asked_few k h l, p)
view_holds (Failed e) s k port h p l y = s

module _ (s : List ℕ) (y : Bytes s) (l : length s ≡ 1539) where
  two_small : (at : ℕ) → at + 2 ≤ 1539 → lent.two_at s at < 65536
  two_small at h =
      let n : length (take 2 (drop at s)) ≡ 2 = simp (length-take, length-drop) (omega arith) in
      rw n at (number_below (take 2 (drop at s)) (bytes_part s at 2 y))

  any_fits : Fits (server_at s)
  any_fits =
      record {
        stage = stage_any (stage_at (byte s 4) (kept_at s)) (kept_at s);
        held = two_small 0 (omega arith);
        port = two_small 2 (omega arith);
        hold = simp (length-take, length-drop) (omega arith);
        user = simp (length-take, length-drop) (omega arith);
      }

  pub any_whole : Whole (server_at s)
  any_whole =
      let x = server_at s in
      let f = any_fits in
      let h = f.hold in
      let k : length (held_bytes x) ≤ 1014 = omega (arith, length-take x.held x.hold) in
      record { fits = f; holds = view_holds x.stage f.stage x.bound.kind x.bound.port (held_bytes x) f.port k (bytes_part x.hold 0 x.held (bytes_part s 15 1014 y)) }

-- ---- lent bytes are the one writing of an end

pub record Written (s : List ℕ) (x : Server) : Type 0 where
  pub is : s ≡ state_of x
  pub whole : Whole x

pub left : (c : Call) (s out : List ℕ) (x : Server) → Written s x → Whole c.session → Untouched c x out → Written (left_by c.answer c.session s) c.session
left c s out x w f h = go c.answer refl
  where
    go : (a : Answer) → c.answer ≡ a → Written (left_by a c.session s) c.session
    go Accepted q = record { is = refl; whole = f }
    go (Refused e) q = record { is = w.is ∙ ap state_of (sym (ap (λ (d : Call). d.session) (h e q))); whole = f }
