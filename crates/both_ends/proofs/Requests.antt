-- F-3: what the end makes of bytes that begin with an opening's requests.
use Prim.Native.Nat.{ℕ, suc, ◌+◌, ◌≤◌}
use native.Mathlib.Omega.{arith}
use mathlib.Core.Path.{◌≡◌, refl, ap, sym, ◌∙◌}
use mathlib.Core.Bool.{Bool, true, false, cond, ◌&&◌}
use mathlib.Core.List.Memᴰ
use mathlib.Core.List.{List, [], ◌∷◌, ◌++◌, append_assoc}
use lib.ListN.{length, take, drop, length-append}
use lib.Seq.{take_at, drop_at, drop-drop, get_or-drop, get_or_at}
use lib.Dec.{eqb, lit≤}
use borrow.Author.Tests.{le-leb, eq-eqb}
use Rattle.protocol.proofs.Bytes.{same_self}
use Rattle.protocol.specs.declared.SocksError.TheVariants.{Command, WrongCredentials}
use Rattle.protocol.specs.declared.Version.TheVariants.{V4, V5}
use Rattle.protocol.specs.Bytes.{byte, two, two_of, same}
use Rattle.protocol.specs.AddressReading.{Destination, ipv4, ipv6, domain}
use Rattle.protocol.specs.Bound.{Endpoint, endpoint}
use Rattle.protocol.specs.Requests.{Destination4, address, name, request, address_field, negotiation_req, authentication_req, proxy_req}
use Rattle.protocol.specs.Opening.{Opening, v5, v4, no_auth, user_pass, announces}
use Rattle.proxy_spec.specs.Reads.{Seen, short, wrong, unknown, whole, login_in, connect_in, request_in, text_in}
use Rattle.proxy_spec.specs.End.{Setup, End, asks, fails, asked, has, chosen, method_reply, login_reply, own_reply5, offers, reads, connected, connecting, judged, signing, machine}
use Rattle.proxy_spec.proofs.Words.{drop_same, greeting_whole, login_whole, connect_head, four_whole, six_whole, named_whole}
use Rattle.proxy_spec.proofs.Texts.{text_of_lem}
use Rattle.proxy_spec.proofs.Requests.{request_user, behind_plain, behind_name, announces_not}
use Rattle.talk.specs.Lawful.{Begins}
use Rattle.both_ends.specs.Ends.{Sized, Sized4, Sendable, SameCredentials, version_of, wanted_by, own_replies, all_requests}
use Rattle.both_ends.proofs.Begins.{begins_all, begins_then}

pub port_back : (n : ℕ) → two_of (two n) ≡ n
port_back n = omega arith

-- ---- each request, with any bytes behind it, is whole

-- an address or a name of k bytes, its port, and any bytes
record Field (a : List ℕ) (port k : ℕ) (r : List ℕ) : Type 0 where
  first : take k ((a ++ two port) ++ r) ≡ a
  second : two_of (drop k ((a ++ two port) ++ r)) ≡ port
  count : length (a ++ two port) ≡ k + 2
  there : k + 2 ≤ length ((a ++ two port) ++ r)

field : (a : List ℕ) (port k : ℕ) (r : List ℕ) → length a ≡ k → Field a port k r
field a port k r l =
    let n : length (a ++ two port) ≡ k + 2 = omega (arith, length-append a (two port)) in
    record {
      first = rw (append_assoc a (two port) r) (take_at a (two port ++ r) k l);
      second = rw (append_assoc a (two port) r, drop_at a (two port ++ r) k l) (port_back port);
      count = n;
      there = omega (arith, length-append (a ++ two port) r);
    }

connect_in_lem : (d : Destination) (port : ℕ) (r : List ℕ) → Sized d → connect_in (proxy_req d port ++ r) ≡ whole (length (proxy_req d port)) (1, endpoint d port)
unfolding proxy_req address_field
connect_in_lem (ipv4 a) port r l =
    let p : List ℕ = 5 ∷ 1 ∷ 0 ∷ 1 ∷ ((a ++ two port) ++ r) in
    let f = field a port 4 r l in
    connect_head p refl refl (omega arith) ∙ four_whole 1 p refl (omega (arith, f.there)) ∙ rw (f.first, f.second, f.count)
connect_in_lem (ipv6 a) port r l =
    let p : List ℕ = 5 ∷ 1 ∷ 0 ∷ 4 ∷ ((a ++ two port) ++ r) in
    let f = field a port 16 r l in
    connect_head p refl refl (omega arith) ∙ six_whole 1 p refl (omega (arith, f.there)) ∙ rw (f.first, f.second, f.count)
connect_in_lem (domain s) port r h =
    let p : List ℕ = 5 ∷ 1 ∷ 0 ∷ 3 ∷ length s ∷ ((s ++ two port) ++ r) in
    let f = field s port (length s) r refl in
    connect_head p refl refl (omega arith) ∙ named_whole 1 p refl h (omega (arith, f.there)) ∙ rw (f.first, sym (drop-drop (length s) 5 p), f.second) (ap (λ (i : ℕ). whole i (1, endpoint (domain s) port)) (omega (arith, f.count)))

login_in_lem : (u p r : List ℕ) → login_in (authentication_req u p ++ r) ≡ whole (length (authentication_req u p)) (u, p)
unfolding authentication_req
login_in_lem u p r =
    let n = length u in
    let l : List ℕ = length p ∷ (p ++ r) in
    let q : List ℕ = 1 ∷ n ∷ (u ++ l) in
    let e : byte q (2 + n) ≡ length p = sym (get_or-drop 2 q n 0) ∙ get_or_at u (length p) (p ++ r) 0 n refl in
    let d : drop (2 + n + 1) q ≡ p ++ r = drop_same (2 + n + 1) (2 + (n + 1)) q (omega arith) ∙ sym (drop-drop (n + 1) 2 q) ∙ sym (drop-drop 1 n (u ++ l)) ∙ ap (drop 1) (drop_at u l n refl) in
    rw (append_assoc u (length p ∷ p) r)
    (login_whole q refl (omega (arith, e, length-append u l, length-append p r))
    ∙ rw (e, d, take_at u l n refl, take_at p r (length p) refl) (ap (λ (i : ℕ). whole i (u, p)) (omega (arith, length-append u (length p ∷ p)))))

-- no user id: its 00 is the first byte behind the address
user_in : (r : List ℕ) → text_in 255 (0 ∷ r) ≡ whole 1 0
user_in r = text_of_lem 255 [] r (lit≤ tt) (λ m. Memᴰ.not-nil m)

request_in_lem : (d : Destination4) (port : ℕ) (r : List ℕ) → Sized4 d → request_in (request d port ++ r) ≡ whole (length (request d port)) (1, wanted_by (v4 d port))
unfolding request announces
request_in_lem (address a) port r (l, n) =
    let q : List ℕ = 4 ∷ 1 ∷ (two port ++ (a ++ (0 ∷ r))) in
    let t : take 4 (drop 4 q) ≡ a = take_at a (0 ∷ r) 4 l in
    let d : drop 8 q ≡ 0 ∷ r = drop_at a (0 ∷ r) 4 l in
    let k : length (a ++ (0 ∷ [])) ≡ 5 = omega (arith, length-append a (0 ∷ [])) in
    rw (append_assoc a (0 ∷ []) r)
    (request_user q 1 0 refl (omega (arith, length-append a (0 ∷ r))) (rw d (user_in r))
    ∙ behind_plain q 9 (rw t (announces_not a n)) ∙ rw (t, k, port_back port))
request_in_lem (name s) port r (h, k, u) =
    let q : List ℕ = 4 ∷ 1 ∷ (two port ++ (0 ∷ 0 ∷ 0 ∷ 0xFF ∷ 0 ∷ (s ++ (0 ∷ r)))) in
    rw (append_assoc s (0 ∷ []) r)
    (request_user q 1 0 refl (omega arith) (user_in (s ++ (0 ∷ r)))
    ∙ behind_name q 9 (suc (length s)) (length s) refl (text_of_lem 1014 s r k u) h ∙ rw (take_at s (0 ∷ r) (length s) refl, port_back port, length-append s (0 ∷ [])) (ap (λ (i : ℕ). whole i (1, endpoint (domain s) port)) (omega arith)))

-- ---- the end's machine goes on

pub greeted : (c : Setup) (b : Bool) (r : List ℕ) → c.authenticates ≡ b
    → let bs : List ℕ = 5 ∷ 1 ∷ chosen b ∷ r in machine c bs ≡ cond b (signing c (method_reply 0x02) 3 bs) (connecting (method_reply 0x00) 3 bs)
unfolding machine offers
greeted c b r e = rw (le-leb 1 (length (5 ∷ 1 ∷ chosen b ∷ r)) (omega arith), greeting_whole (5 ∷ 1 ∷ chosen b ∷ r) refl (lit≤ tt) (omega arith), e, eq-eqb (chosen b) (chosen b) refl)

signed : (c : Setup) (sent : List ℕ) (place : ℕ) (bs u p r : List ℕ) → drop place bs ≡ authentication_req u p ++ r → c.user ≡ u → c.password ≡ p
    → signing c sent place bs ≡ connecting (sent ++ login_reply 0x00) (place + length (authentication_req u p)) bs
unfolding signing
signed c sent place bs u p r e f g = rw (e, login_in_lem u p r, f, g, same_self u, same_self p)

connects : (sent : List ℕ) (place : ℕ) (bs : List ℕ) (d : Destination) (port : ℕ) (r : List ℕ) → drop place bs ≡ proxy_req d port ++ r → Sized d
    → connecting sent place bs ≡ has sent (asks (asked V5 (endpoint d port))) (place + length (proxy_req d port))
unfolding connecting
connects sent place bs d port r e z = rw (e, connect_in_lem d port r z)

requests4 : (c : Setup) (d : Destination4) (port : ℕ) (r : List ℕ) → c.authenticates ≡ false → Sized4 d
    → machine c (request d port ++ r) ≡ has [] (asks (asked V4 (wanted_by (v4 d port)))) (length (request d port))
unfolding machine request
requests4 c d port r e z = rw (le-leb 1 (length (request d port ++ r)) (begun d).0, (begun d).1, request_in_lem d port r z, e)
  where
    begun : (d : Destination4) → (1 ≤ length (request d port ++ r)) × (byte (request d port ++ r) 0 ≡ 0x04)
    begun (address a) = (omega arith, refl)
    begun (name s) = (omega arith, refl)

-- what it has sent stays sent
read_sends : {A : Type 0} (d : Seen A) (sent : List ℕ) (place : ℕ) (on : ℕ → A → End) → ((n : ℕ) (a : A) → Begins sent (on n a).sent) → Begins sent (reads d sent place on).sent
read_sends short sent place on f = begins_all sent
read_sends (wrong n) sent place on f = begins_all sent
read_sends (unknown n) sent place on f = (own_reply5 8, refl)
read_sends (whole n a) sent place on f = f n a

pub connecting_sends : (sent : List ℕ) (place : ℕ) (bs : List ℕ) → Begins sent (connecting sent place bs).sent
unfolding connecting
connecting_sends sent place bs = read_sends (connect_in (drop place bs)) sent place (λ n r. connected sent (place + n) r.0 r.1) (λ n r. go (eqb r.0 1) (place + n) r.1)
  where
    go : (b : Bool) (n : ℕ) (x : Endpoint) → Begins sent (cond b (has sent (asks (asked V5 x)) n) (has (sent ++ own_reply5 7) (fails (Command 7)) n)).sent
    go true n x = begins_all sent
    go false n x = (own_reply5 7, refl)

pub signing_sends : (c : Setup) (sent : List ℕ) (place : ℕ) (bs : List ℕ) → Begins sent (signing c sent place bs).sent
unfolding signing
signing_sends c sent place bs =
    read_sends (login_in (drop place bs)) sent place (λ n r. judged c sent (place + n) r.0 r.1 bs)
    (λ n r. go (same r.0 c.user && same r.1 c.password) (place + n))
  where
    go : (b : Bool) (n : ℕ) → Begins sent (cond b (connecting (sent ++ login_reply 0x00) n bs) (has (sent ++ login_reply 0x01) (fails WrongCredentials) n)).sent
    go true n = begins_then sent (sent ++ login_reply 0x00) _ (login_reply 0x00, refl) (connecting_sends (sent ++ login_reply 0x00) n bs)
    go false n = (login_reply 0x01, refl)

-- ---- all requests of an opening

-- greeted, and signed in
pub signs : (c : Setup) (u p : List ℕ) → c.authenticates ≡ true → c.user ≡ u → c.password ≡ p → (r : List ℕ)
    → let bs : List ℕ = 5 ∷ 1 ∷ 2 ∷ (authentication_req u p ++ r) in machine c bs ≡ connecting (method_reply 0x02 ++ login_reply 0x00) (3 + length (authentication_req u p)) bs
signs c u p a e f r = let l = authentication_req u p in greeted c true (l ++ r) a ∙ signed c (method_reply 0x02) 3 (5 ∷ 1 ∷ 2 ∷ (l ++ r)) u p r refl e f

pub asks_all : (o : Opening) (c : Setup) → Sendable o → SameCredentials o c → (r : List ℕ)
    → machine c (all_requests o ++ r) ≡ has (own_replies o) (asks (asked (version_of o) (wanted_by o))) (length (all_requests o))
unfolding negotiation_req
asks_all (v5 no_auth d port o) c y a r =
    let q = proxy_req d port in
    greeted c false (q ++ r) a ∙ connects (method_reply 0x00) 3 (5 ∷ 1 ∷ 0 ∷ (q ++ r)) d port r refl y ∙ ap (has (method_reply 0x00) (asks (asked V5 (endpoint d port)))) (omega arith)
asks_all (v5 (user_pass u p) d port o) c y (a, (e, f)) r =
    let q = proxy_req d port in
    let l = authentication_req u p in
    let n = length l in
    let bs : List ℕ = 5 ∷ 1 ∷ 2 ∷ (l ++ (q ++ r)) in
    let g : drop (3 + n) bs ≡ q ++ r = sym (drop-drop n 3 bs) ∙ drop_at l (q ++ r) n refl in
    rw (append_assoc l q r)
    (signs c u p a e f (q ++ r) ∙ connects (method_reply 0x02 ++ login_reply 0x00) (3 + n) bs d port r g y
    ∙ ap (has (method_reply 0x02 ++ login_reply 0x00) (asks (asked V5 (endpoint d port)))) (omega (arith, length-append l q)))
asks_all (v4 d port) c z a r = requests4 c d port r a z
