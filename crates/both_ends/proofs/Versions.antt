-- F-3: an end that asks does so in the version of the first request that reached it.
use Prim.Native.Nat.{ℕ, ◌+◌}
use native.Mathlib.Omega.{arith}
use mathlib.Core.Path.{◌≡◌, refl}
use mathlib.Core.Bool.{Bool, true, false, cond, ◌&&◌}
use mathlib.Core.List.{List, [], ◌∷◌, ◌++◌}
use lib.ListN.{length, take, drop}
use lib.Dec.{eqb}
use borrow.Author.Tests.{le-leb}
use Rattle.protocol.specs.declared.SocksError.TheVariants.{Unsupported, Command, WrongCredentials}
use Rattle.protocol.specs.declared.Version.{Version}
use Rattle.protocol.specs.declared.Version.TheVariants.{V4, V5}
use Rattle.protocol.specs.Bound.{Endpoint}
use Rattle.protocol.specs.Requests.{address, name, request, negotiation_req}
use Rattle.protocol.specs.Opening.{Opening, v5, v4, no_auth, user_pass, requests}
use Rattle.protocol.specs.Machine as client
use Rattle.protocol.specs.Bytes.{same}
use Rattle.proxy_spec.specs.Reads.{Seen, short, wrong, unknown, whole, greeting_in, login_in, connect_in, request_in}
use Rattle.proxy_spec.specs.End.{Setup, End, Standing, waits, asks, fails, asked, has, chosen, method_reply, login_reply, own_reply5, own_reply4, offers, reads, connected, connecting, judged, signing, greeted, requested, machine}
use Rattle.talk.specs.Lawful.{Begins}
use Rattle.both_ends.specs.Ends.{version_of}

-- if it asks, then in this version
abbrev pub In : Version → Standing → Type 0
In v waits = Unit {0}
In v (asks a) = a.version ≡ v
In v (fails e) = Unit {0}

read_in : {A : Type 0} (v : Version) (d : Seen A) (sent : List ℕ) (place : ℕ) (on : ℕ → A → End) → ((n : ℕ) (a : A) → In v (on n a).standing) → In v (reads d sent place on).standing
read_in v short sent place on f = tt
read_in v (wrong n) sent place on f = tt
read_in v (unknown n) sent place on f = tt
read_in v (whole n a) sent place on f = f n a

connecting_in : (sent : List ℕ) (place : ℕ) (bs : List ℕ) → In V5 (connecting sent place bs).standing
unfolding connecting
connecting_in sent place bs = read_in V5 (connect_in (drop place bs)) sent place (λ n r. connected sent (place + n) r.0 r.1) (λ n r. go (eqb r.0 1) (place + n) r.1)
  where
    go : (b : Bool) (n : ℕ) (x : Endpoint) → In V5 (cond b (has sent (asks (asked V5 x)) n) (has (sent ++ own_reply5 7) (fails (Command 7)) n)).standing
    go true n x = refl
    go false n x = tt

signing_in : (c : Setup) (sent : List ℕ) (place : ℕ) (bs : List ℕ) → In V5 (signing c sent place bs).standing
unfolding signing
signing_in c sent place bs =
    read_in V5 (login_in (drop place bs)) sent place (λ n r. judged c sent (place + n) r.0 r.1 bs) (λ n r. go (same r.0 c.user && same r.1 c.password) (place + n))
  where
    go : (b : Bool) (n : ℕ) → In V5 (cond b (connecting (sent ++ login_reply 0x00) n bs) (has (sent ++ login_reply 0x01) (fails WrongCredentials) n)).standing
    go true n = connecting_in (sent ++ login_reply 0x00) n bs
    go false n = tt

greeted_in : (c : Setup) (place : ℕ) (methods bs : List ℕ) → In V5 (greeted c place methods bs).standing
greeted_in c place methods bs = go (offers (chosen c.authenticates) methods) c.authenticates
  where
    go : (a b : Bool) → In V5 (cond a (cond b (signing c (method_reply 0x02) place bs) (connecting (method_reply 0x00) place bs)) (has (method_reply 0xFF) (fails Unsupported) place)).standing
    go true true = signing_in c (method_reply 0x02) place bs
    go true false = connecting_in (method_reply 0x00) place bs
    go false b = tt

requested_in : (c : Setup) (place command : ℕ) (x : Endpoint) → In V4 (requested c place command x).standing
requested_in c place command x = go c.authenticates (eqb command 1)
  where
    go : (a b : Bool)
        → In V4 (cond a (has (own_reply4 91) (fails WrongCredentials) place) (cond b (has [] (asks (asked V4 x)) place) (has (own_reply4 91) (fails (Command 91)) place))).standing
    go true b = tt
    go false true = refl
    go false false = tt

-- the first byte says it
begun5 : (c : Setup) (r : List ℕ) → In V5 (machine c (0x05 ∷ r)).standing
unfolding machine
begun5 c r =
    let bs : List ℕ = 0x05 ∷ r in
    rw (le-leb 1 (length bs) (omega arith)) (read_in V5 (greeting_in bs) [] 0 (λ n methods. greeted c n methods bs) (λ n methods. greeted_in c n methods bs))

begun4 : (c : Setup) (r : List ℕ) → In V4 (machine c (0x04 ∷ r)).standing
unfolding machine
begun4 c r =
    let bs : List ℕ = 0x04 ∷ r in
    rw (le-leb 1 (length bs) (omega arith)) (read_in V4 (request_in bs) [] 0 (λ n q. requested c n q.0 q.1) (λ n q. requested_in c n q.0 q.1))

pub asks_in : (o : Opening) (c : Setup) (bs : List ℕ) → Begins (client.sends (take 1 (requests o)) []) bs → In (version_of o) (machine c bs).standing
unfolding negotiation_req request
asks_in (v5 no_auth d port b) c bs (r, e) = rw e (begun5 c (1 ∷ 0 ∷ r))
asks_in (v5 (user_pass u p) d port b) c bs (r, e) = rw e (begun5 c (1 ∷ 2 ∷ r))
asks_in (v4 (address a) port) c bs (r, e) = rw e (begun4 c _)
asks_in (v4 (name s) port) c bs (r, e) = rw e (begun4 c _)
