-- F-4: all waits of a talk ask for the output of one version, so a session asks for its opening's as long as it waits; and sends no more.
use Prim.Native.Nat.{ℕ, ◌+◌, ◌-◌, ◌≤◌}
use native.Mathlib.Omega.{arith}
use mathlib.Core.Path.{◌≡◌, refl}
use mathlib.Core.Bool.{Bool, true, false, cond}
use mathlib.Core.List.{List}
use lib.ListN.{length, take, drop}
use Rattle.protocol.specs.declared.AuthMethod.{AuthMethod}
use Rattle.protocol.specs.declared.AuthMethod.TheVariants.{NoAuth, UserPass, NoneAcceptable}
use Rattle.protocol.specs.declared.Reply.{Reply}
use Rattle.protocol.specs.declared.Reply.TheVariants.{NegotiationRes, AuthenticationRes, ProxyRes, Response}
use Rattle.protocol.specs.declared.SocksError.{SocksError}
use Rattle.protocol.specs.Opening.{Opening, v5, v4, no_auth, user_pass, delivery_room}
use Rattle.protocol.specs.Replies.{decide}
use Rattle.protocol.specs.Client.{Kept, ClientTalk, due, at_proxy_res, at_authentication_res, after_method, talk_at, told, client, kept, begun, side, room, Waits}
use Rattle.talk.specs.Decision.{Decision, undecided, decided, good, bad}
use Rattle.talk.specs.Talk.{waiting, stop, send, await, deciding, feed}
use Rattle.talk.proofs.Sends.{Sends, sends_more, sends_fed}

abbrev Asks : ℕ → ClientTalk → Type 0
Asks r (stop e) = Unit {0}
Asks r (send q t) = Asks r t
Asks r (await e k) = (room e ≡ r) × ((m : List ℕ) → Asks r (k m))

due_asks : (r : ℕ) (o : Bool) (q : List ℕ) (t : ClientTalk) → Asks r t → Asks r (due o q t)
due_asks r true q t a = a
due_asks r false q t a = a

method_asks : (c : Kept) (m : AuthMethod) → Asks 778 (after_method m c)
method_asks c NoAuth = due_asks 778 c.optimistic c.proxy _ (refl, λ m. tt)
method_asks c UserPass = due_asks 778 c.optimistic c.authentication _ (refl, λ m. due_asks 778 c.optimistic c.proxy _ (refl, λ m. tt))
method_asks c NoneAcceptable = tt

talk_asks : (c : Kept) (e : Reply) → Asks (room e) (talk_at c e)
talk_asks c (NegotiationRes m) = (refl, λ r. method_asks c m)
talk_asks c AuthenticationRes = (refl, λ m. due_asks 778 c.optimistic c.proxy _ (refl, λ m. tt))
talk_asks c ProxyRes = (refl, λ m. tt)
talk_asks c Response = (refl, λ m. tt)

begun_asks : (o : Opening) → Asks (delivery_room o) (begun o)
begun_asks (v5 no_auth d port true) = talk_asks (kept (v5 no_auth d port true)) (NegotiationRes NoAuth)
begun_asks (v5 no_auth d port false) = talk_asks (kept (v5 no_auth d port false)) (NegotiationRes NoAuth)
begun_asks (v5 (user_pass u p) d port true) = talk_asks (kept (v5 (user_pass u p) d port true)) (NegotiationRes UserPass)
begun_asks (v5 (user_pass u p) d port false) = talk_asks (kept (v5 (user_pass u p) d port false)) (NegotiationRes UserPass)
begun_asks (v4 d port) = talk_asks (kept (v4 d port)) Response

feed_waits : (c : Kept) (r : ℕ) (t : ClientTalk) → Asks r t → (bs : List ℕ) → Waits r (feed (client c) t bs).session
unfolding feed
feed_waits c r (stop x) a bs = tt
feed_waits c r (send q t) a bs = feed_waits c r t a bs
feed_waits c r (await s k) (p, f) bs = go (told (decide s bs)) (λ n. feed_waits c r (k (take n bs)) (f (take n bs)) (drop n bs))
  where
    go : (d : Decision SocksError) → ((n : ℕ) → Waits r (feed (client c) (k (take n bs)) (drop n bs)).session)
        → Waits r (deciding d (waiting s bs) (λ n. feed (client c) (k (take n bs)) (drop n bs))).session
    go undecided ih = p
    go (decided n good) ih = ih n
    go (decided n (bad x)) ih = tt

pub begun_waits : (o : Opening) (bs : List ℕ) → Waits (delivery_room o) (feed (side o) (begun o) bs).session
begun_waits o bs = feed_waits (kept o) (delivery_room o) (begun o) (begun_asks o) bs

pub onward_waits : (c : Kept) (r : ℕ) (e : Reply) → room e ≡ r → (bs : List ℕ) → Waits r (feed (client c) (talk_at c e) bs).session
onward_waits c r e q bs = rw (← q) (feed_waits c (room e) (talk_at c e) (talk_asks c e) bs)

-- what a session may still send, if what is kept is within its limits: optimistically nothing, and nothing over v4
abbrev pub sends_most : Bool → Reply → ℕ
sends_most o (NegotiationRes m) = cond o 0 775
sends_most o AuthenticationRes = cond o 0 775
sends_most o ProxyRes = cond o 0 775
sends_most o Response = 0

-- that is no more than it asks
pub asks_more : (o : Bool) (e : Reply) → sends_most o e ≤ room e
asks_more true (NegotiationRes m) = omega arith
asks_more true AuthenticationRes = omega arith
asks_more true ProxyRes = omega arith
asks_more false (NegotiationRes m) = omega arith
asks_more false AuthenticationRes = omega arith
asks_more false ProxyRes = omega arith
asks_more o Response = omega arith

-- a request of n bytes, and k behind it
due_sends : (n k : ℕ) (o : Bool) (q : List ℕ) (t : ClientTalk) → length q ≤ n → Sends (cond o 0 k) t → Sends (cond o 0 (n + k)) (due o q t)
due_sends n k true q t h p = p
due_sends n k false q t h p = (omega arith, sends_more k (n + k - length q) t (omega arith) p)

none_sends : (o : Bool) (n : ℕ) (t : ClientTalk) → Sends 0 t → Sends (cond o 0 n) t
none_sends o n t p = sends_more 0 (cond o 0 n) t (omega arith) p

few_sends : (o : Bool) (n k : ℕ) (t : ClientTalk) → n ≤ k → Sends (cond o 0 n) t → Sends (cond o 0 k) t
few_sends true n k t h p = p
few_sends false n k t h p = sends_more n k t h p

module _ (c : Kept) (a : length c.authentication ≤ 513) (p : length c.proxy ≤ 262) where
  proxy_sends : Sends (cond c.optimistic 0 (262 + 0)) (due c.optimistic c.proxy at_proxy_res)
  proxy_sends = due_sends 262 0 c.optimistic c.proxy at_proxy_res p (none_sends c.optimistic 0 at_proxy_res (λ m. tt))

  method_sends : (m : AuthMethod) → Sends (cond c.optimistic 0 775) (after_method m c)
  method_sends NoAuth = few_sends c.optimistic (262 + 0) 775 (after_method NoAuth c) (omega arith) proxy_sends
  method_sends UserPass = due_sends 513 262 c.optimistic c.authentication (at_authentication_res c) a (λ m. proxy_sends)
  method_sends NoneAcceptable = tt

  talk_sends : (e : Reply) → Sends (sends_most c.optimistic e) (talk_at c e)
  talk_sends (NegotiationRes m) = λ r. method_sends m
  talk_sends AuthenticationRes = λ m. few_sends c.optimistic (262 + 0) 775 (due c.optimistic c.proxy at_proxy_res) (omega arith) proxy_sends
  talk_sends ProxyRes = λ m. tt
  talk_sends Response = λ m. tt

  pub onward_sends : (e : Reply) (bs : List ℕ) → length (feed (client c) (talk_at c e) bs).sent ≤ sends_most c.optimistic e
  onward_sends e bs = sends_fed (client c) (sends_most c.optimistic e) (talk_at c e) (talk_sends e) bs
