-- F-3: what the client makes of bytes that begin with the end's replies.
use Prim.Native.Nat.{ℕ, suc, ◌+◌, ◌≤◌}
use native.Mathlib.Omega.{arith}
use mathlib.Core.Path.{◌≡◌, refl, ap, ◌∙◌}
use mathlib.Core.Bool.{Bool}
use mathlib.Core.List.{List, [], ◌∷◌, ◌++◌}
use lib.ListN.{length, take, drop}
use lib.Seq.{take_at}
use Rattle.protocol.specs.declared.Reply.{Reply}
use Rattle.protocol.specs.declared.Reply.TheVariants.{NegotiationRes, AuthenticationRes, ProxyRes, Response}
use Rattle.protocol.specs.Answers.{Good, Bad, Decision, Undecided, Decided}
use Rattle.protocol.specs.declared.AuthMethod.TheVariants.{NoAuth, UserPass}
use Rattle.protocol.specs.declared.Outcome.TheVariants.{Open}
use Rattle.protocol.specs.declared.Version.TheVariants.{V4}
use Rattle.protocol.specs.Bytes.{two}
use Rattle.protocol.specs.AddressReading.{Destination, ipv4, ipv6, domain}
use Rattle.protocol.specs.Bound.{Endpoint, endpoint, unbound, bound_by}
use Rattle.protocol.specs.Opening.{Opening, v5, v4, no_auth, user_pass, requests, replies, optimistic, later, at_opening}
use Rattle.protocol.specs.Replies.{decide}
use Rattle.protocol.specs.Grammar.{four, six, Word, method_00, method_02, accepted, connected, granted}
use Rattle.protocol.specs.Machine.{Machine, has, sends, reads, run, machine}
use Rattle.protocol.proofs.Words.{word_good, word_names}
use Rattle.proxy_spec.specs.End.{method_reply, login_reply, reply5, reply4, dst_ip}
use Rattle.proxy.specs.Turns.{Given}
use Rattle.talk.specs.Lawful.{Begins}
use Rattle.both_ends.specs.Ends.{seen_of, version_of, all_replies, all_requests}
use Rattle.both_ends.proofs.Begins.{begins_all, begins_then, sends_on, sends_next, drop_next, gone, gone_so_far, gone_all}
use Rattle.both_ends.proofs.Requests.{port_back}

-- ---- the caller's answer of success is a good reply, and names what is bound

answers5 : (d : Destination) (port : ℕ) → Given (endpoint d port) → Word ProxyRes (reply5 0 (endpoint d port)) (endpoint d port)
answers5 (ipv4 a) port l = connected (rw port_back at (four a (two port) l refl))
answers5 (ipv6 a) port l = connected (rw port_back at (six a (two port) l refl))
answers5 (domain s) port l = absurd l

answers4 : (d : Destination) (port : ℕ) → Given (endpoint d port) → Word Response (reply4 90 (endpoint d port)) (seen_of V4 (endpoint d port))
answers4 (ipv4 a) port l = rw port_back at (granted (two port) a refl l)
answers4 (ipv6 a) port l = rw port_back at (granted (two port) (dst_ip (ipv6 a)) refl refl)
answers4 (domain s) port l = absurd l

-- ---- the client's machine

-- what it has sent stays sent
read_sends : (d : Decision) (sent : List ℕ) (place : ℕ) (on : ℕ → Machine) → ((n : ℕ) → Begins sent (on n).sent) → Begins sent (reads d sent place on).sent
read_sends Undecided sent place on f = begins_all sent
read_sends (Decided n Good) sent place on f = f n
read_sends (Decided n (Bad e)) sent place on f = begins_all sent

run_sends : (es : List Reply) (left : List (List ℕ)) (sent : List ℕ) (x : Endpoint) (place : ℕ) (bs : List ℕ) → Begins sent (run es left sent x place bs).sent
unfolding run
run_sends [] left sent x place bs = begins_all sent
run_sends (e ∷ es) left sent x place bs =
    read_sends (decide e (drop place bs)) sent place (λ n. run es (drop 1 left) (sends (take 1 left) sent) (bound_by e (take n (drop place bs))) (place + n) bs)
    (λ n. begins_then sent (sends (take 1 left) sent) _ (sends_on (take 1 left) sent) (run_sends es (drop 1 left) (sends (take 1 left) sent) (bound_by e (take n (drop place bs))) (place + n) bs))

-- when n replies are in
abbrev pub heard : Opening → ℕ → List Reply → Endpoint → ℕ → List ℕ → Machine
heard o n es x place bs = run es (drop n (later o)) (gone (optimistic o) (requests o) n) x place bs

heard_none : (o : Opening) (bs : List ℕ) → machine o bs ≡ heard o 0 (replies o) unbound 0 bs
unfolding machine
heard_none o bs = refl

-- the requests up to the next reply have gone
pub heard_sends : (o : Opening) (n : ℕ) (es : List Reply) (x : Endpoint) (place : ℕ) (bs : List ℕ) → Begins (sends (take (suc n) (requests o)) []) (heard o n es x place bs).sent
heard_sends o n es x place bs =
    let sent = gone (optimistic o) (requests o) n in
    begins_then (sends (take (suc n) (requests o)) []) sent _ (gone_so_far (optimistic o) (requests o) n) (run_sends es (drop n (later o)) sent x place bs)

-- the first request has gone before anything came
pub first_sent : (o : Opening) (bs : List ℕ) → Begins (sends (take 1 (requests o)) []) (machine o bs).sent
first_sent o bs = rw (heard_none o bs) (heard_sends o 0 (replies o) unbound 0 bs)

-- a good reply
heard_word : (o : Opening) (n : ℕ) (e : Reply) (es : List Reply) (x y : Endpoint) (place : ℕ) (bs w r : List ℕ) → Word e w y → drop place bs ≡ w ++ r
    → heard o n (e ∷ es) x place bs ≡ heard o (suc n) es y (place + length w) bs
unfolding run
heard_word o n e es x y place bs w r v q = rw (q, word_good e w r v, take_at w r (length w) refl, word_names e w y v, drop_next n (later o), sends_next n (later o) (sends (at_opening o) []))

-- the last good reply
heard_last : (o : Opening) (n : ℕ) (e : Reply) (y : Endpoint) (place : ℕ) (bs w r : List ℕ) → Word e w y → drop place bs ≡ w ++ r → length (requests o) ≤ suc (suc n)
    → heard o n (e ∷ []) unbound place bs ≡ has (all_requests o) Open y (place + length w)
unfolding run
heard_last o n e y place bs w r v q h = heard_word o n e [] unbound y place bs w r v q ∙ rw (gone_all (optimistic o) (requests o) (suc n) h)

-- the first one
pub heard_first : (o : Opening) (e : Reply) (es : List Reply) (y : Endpoint) (w r : List ℕ) → replies o ≡ e ∷ es → Word e w y → machine o (w ++ r) ≡ heard o 1 es y (0 + length w) (w ++ r)
heard_first o e es y w r q v = heard_none o (w ++ r) ∙ rw q (heard_word o 0 e es unbound y 0 (w ++ r) w r v refl)

-- the method reply and the credential reply
pub heard_login : (u p : List ℕ) (d : Destination) (port : ℕ) (b : Bool) (r : List ℕ)
    → let o = v5 (user_pass u p) d port b in let bs = method_reply 0x02 ++ (login_reply 0x00 ++ r) in machine o bs ≡ heard o 2 (ProxyRes ∷ []) unbound 4 bs
heard_login u p d port b r =
    let o = v5 (user_pass u p) d port b in
    let bs = method_reply 0x02 ++ (login_reply 0x00 ++ r) in
    heard_first o (NegotiationRes UserPass) (AuthenticationRes ∷ ProxyRes ∷ []) unbound (method_reply 0x02) (login_reply 0x00 ++ r) refl method_02
    ∙ heard_word o 1 AuthenticationRes (ProxyRes ∷ []) unbound unbound 2 bs (login_reply 0x00) r accepted refl

-- ---- all replies

pub opens_all : (o : Opening) (x : Endpoint) → Given x → (r : List ℕ)
    → machine o (all_replies o x ++ r) ≡ has (all_requests o) Open (seen_of (version_of o) x) (length (all_replies o x))
opens_all (v5 no_auth d port b) x g r =
    let o = v5 no_auth d port b in
    let w = reply5 0 x in
    heard_first o (NegotiationRes NoAuth) (ProxyRes ∷ []) unbound (method_reply 0x00) (w ++ r) refl method_00
    ∙ heard_last o 1 ProxyRes x 2 (all_replies o x ++ r) w r (answers5 x.address x.port g) refl (omega arith) ∙ ap (has (all_requests o) Open x) (omega arith)
opens_all (v5 (user_pass u p) d port b) x g r =
    let o = v5 (user_pass u p) d port b in
    let w = reply5 0 x in
    heard_login u p d port b (w ++ r)
    ∙ heard_last o 2 ProxyRes x 4 (all_replies o x ++ r) w r (answers5 x.address x.port g) refl (omega arith) ∙ ap (has (all_requests o) Open x) (omega arith)
opens_all (v4 d port) x g r =
    let o = v4 d port in
    let bs = all_replies o x ++ r in
    let w = reply4 90 x in
    heard_none o bs ∙ heard_last o 0 Response (seen_of V4 x) 0 bs w r (answers4 x.address x.port g) refl (omega arith) ∙ ap (has (all_requests o) Open (seen_of V4 x)) (omega arith)
