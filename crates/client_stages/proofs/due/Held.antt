-- F-11: whatever bytes a client's talk is fed with, its session then holds at most 261, which are bytes, and a port of two bytes.
use Prim.Native.Nat.{ℕ, ◌≤◌, ◌<◌}
use native.Mathlib.Omega.{arith}
use mathlib.Core.Path.{◌≡◌, refl}
use mathlib.Core.Bool.{Bool, true, false, cond}
use mathlib.Core.List.{List, ◌++◌}
use lib.ListN.{length, take, drop, length-take, take-append-drop}
use lib.Dec.{eqb}
use Rattle.protocol.specs.declared.AuthMethod.{AuthMethod}
use Rattle.protocol.specs.declared.AuthMethod.TheVariants.{NoAuth, UserPass, NoneAcceptable}
use Rattle.protocol.specs.declared.Reply.{Reply}
use Rattle.protocol.specs.declared.Reply.TheVariants.{NegotiationRes, AuthenticationRes, ProxyRes, Response}
use Rattle.protocol.specs.Answers.{Good, Bad, Decision, Undecided, Decided}
use Rattle.protocol.specs.Bytes.{Bytes, byte, two_of}
use Rattle.protocol.specs.AddressReading.{ipv4, ipv6, domain}
use Rattle.protocol.specs.Bound.{Endpoint, endpoint, proxy_bound, response_bound, bytes_in}
use Rattle.protocol.specs.Opening.{Opening, v5, v4, no_auth, user_pass}
use Rattle.protocol.specs.Replies.{decide}
use Rattle.protocol.specs.Client.{Kept, ClientTalk, due, at_proxy_res, at_authentication_res, after_method, talk_at, told, client, kept, begun, side}
use Rattle.protocol.proofs.Bytes.{bytes_join, bytes_left, bytes_right, bytes_part}
use Rattle.protocol.proofs.Replies.{undecided_261}
use Rattle.client_stages.specs.due.Stages.{SideSession, holds_of}
use Rattle.talk.specs.Talk.{done, failed, stop, send, await, waiting, ended, deciding, feed, onward}

-- an address of at most 261 bytes with its port
pub record Sound (x : Endpoint) : Type 0 where
  pub few : length (bytes_in x.address) ≤ 261
  pub bytes : Bytes (bytes_in x.address)
  pub port : x.port < 65536

-- what a talk is done with
abbrev Sounds : ClientTalk → Type 0
Sounds (stop (done x)) = Sound x
Sounds (stop (failed e)) = Unit {0}
Sounds (send q t) = Sounds t
Sounds (await e k) = (m : List ℕ) → Bytes m → Sounds (k m)

-- what a session holds
abbrev pub Holds : SideSession → Type 0
Holds (waiting e h) = (length h ≤ 261) × Bytes h
Holds (ended (done x)) = Sound x
Holds (ended (failed e)) = Unit {0}

two_below : (bs : List ℕ) → Bytes bs → two_of bs < 65536
two_below bs y = let a = y 0 in let b = y 1 in omega arith

bytes_from : (n : ℕ) (bs : List ℕ) → Bytes bs → Bytes (drop n bs)
bytes_from n bs y = bytes_right (take n bs) (drop n bs) (rw (take-append-drop n bs) y)

bytes_first : (n : ℕ) (bs : List ℕ) → Bytes bs → Bytes (take n bs)
bytes_first n bs y = bytes_left (take n bs) (drop n bs) (rw (take-append-drop n bs) y)

proxy_sound : (m : List ℕ) → Bytes m → Sound (proxy_bound m)
unfolding proxy_bound
proxy_sound m y = go (eqb (byte m 3) 0x01) (eqb (byte m 3) 0x04)
  where
    go : (a b : Bool)
        → Sound (cond a (endpoint (ipv4 (take 4 (drop 4 m))) (two_of (drop 8 m)))
        (cond b (endpoint (ipv6 (take 16 (drop 4 m))) (two_of (drop 20 m))) (endpoint (domain (take (byte m 4) (drop 5 m))) (two_of (drop (byte m 4) (drop 5 m))))))
    go true b = record { few = omega (arith, length-take 4 (drop 4 m)); bytes = bytes_part m 4 4 y; port = two_below (drop 8 m) (bytes_from 8 m y) }
    go false true = record { few = omega (arith, length-take 16 (drop 4 m)); bytes = bytes_part m 4 16 y; port = two_below (drop 20 m) (bytes_from 20 m y) }
    go false false =
        record {
          few = omega (arith, length-take (byte m 4) (drop 5 m), y 4);
          bytes = bytes_part m 5 (byte m 4) y;
          port = two_below (drop (byte m 4) (drop 5 m)) (bytes_from (byte m 4) (drop 5 m) (bytes_from 5 m y));
        }

response_sound : (m : List ℕ) → Bytes m → Sound (response_bound m)
unfolding response_bound
response_sound m y = record { few = omega (arith, length-take 4 (drop 4 m)); bytes = bytes_part m 4 4 y; port = two_below (drop 2 m) (bytes_from 2 m y) }

due_sound : (o : Bool) (q : List ℕ) (t : ClientTalk) → Sounds t → Sounds (due o q t)
due_sound true q t s = s
due_sound false q t s = s

authentication_sound : (c : Kept) → Sounds (at_authentication_res c)
authentication_sound c m y = due_sound c.optimistic c.proxy at_proxy_res proxy_sound

method_sound : (c : Kept) (m : AuthMethod) → Sounds (after_method m c)
method_sound c NoAuth = due_sound c.optimistic c.proxy at_proxy_res proxy_sound
method_sound c UserPass = due_sound c.optimistic c.authentication (at_authentication_res c) (authentication_sound c)
method_sound c NoneAcceptable = tt

talk_sound : (c : Kept) (e : Reply) → Sounds (talk_at c e)
talk_sound c (NegotiationRes m) = λ r y. method_sound c m
talk_sound c AuthenticationRes = authentication_sound c
talk_sound c ProxyRes = proxy_sound
talk_sound c Response = response_sound

begun_sound : (o : Opening) → Sounds (begun o)
begun_sound (v5 no_auth d port true) = λ m y. method_sound (kept (v5 no_auth d port true)) NoAuth
begun_sound (v5 no_auth d port false) = λ m y. method_sound (kept (v5 no_auth d port false)) NoAuth
begun_sound (v5 (user_pass u p) d port true) = λ m y. method_sound (kept (v5 (user_pass u p) d port true)) UserPass
begun_sound (v5 (user_pass u p) d port false) = λ m y. method_sound (kept (v5 (user_pass u p) d port false)) UserPass
begun_sound (v4 d port) = response_sound

feed_holds : (c : Kept) (t : ClientTalk) → Sounds t → (bs : List ℕ) → Bytes bs → Holds (feed (client c) t bs).session
unfolding feed
feed_holds c (stop (done x)) s bs y = s
feed_holds c (stop (failed e)) s bs y = tt
feed_holds c (send q t) s bs y = feed_holds c t s bs y
feed_holds c (await e k) s bs y =
    go (decide e bs) refl (λ n. feed_holds c (k (take n bs)) (s (take n bs) (bytes_first n bs y)) (drop n bs) (bytes_from n bs y))
  where
    go : (d : Decision) → decide e bs ≡ d → ((n : ℕ) → Holds (feed (client c) (k (take n bs)) (drop n bs)).session)
        → Holds (deciding (told d) (waiting e bs) (λ n. feed (client c) (k (take n bs)) (drop n bs))).session
    go Undecided q ih = (undecided_261 e bs y q, y)
    go (Decided n Good) q ih = ih n
    go (Decided n (Bad x)) q ih = tt

-- bytes more
pub onward_holds : (c : Kept) (m : SideSession) → Holds m → (piece : List ℕ) → Bytes piece → Holds (onward (client c) m piece).session
unfolding onward
onward_holds c (waiting e h) s piece y = feed_holds c (talk_at c e) (talk_sound c e) (h ++ piece) (bytes_join h piece s.1 y)
onward_holds c (ended (done x)) s piece y = s
onward_holds c (ended (failed e)) s piece y = tt

pub holds_few : (m : SideSession) → Holds m → length (holds_of m) ≤ 261
holds_few (waiting e h) s = s.0
holds_few (ended (done x)) s = s.few
holds_few (ended (failed e)) s = omega arith

pub holds_bytes : (m : SideSession) → Holds m → Bytes (holds_of m)
holds_bytes (waiting e h) s = s.1
holds_bytes (ended (done x)) s = s.bytes
holds_bytes (ended (failed e)) s = λ i. omega arith

pub begun_held : (o : Opening) (bs : List ℕ) → Bytes bs → length (holds_of (feed (side o) (begun o) bs).session) ≤ 261
begun_held o bs y = holds_few (feed (side o) (begun o) bs).session (feed_holds (kept o) (begun o) (begun_sound o) bs y)
