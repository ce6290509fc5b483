-- Two talks alike but for sent bytes at some positions, and what the same bytes do to them.
use Prim.Native.Nat.{ℕ, suc, ◌+◌, ◌≤◌}
use native.Mathlib.Nat.{add-zero}
use native.Mathlib.Omega.{arith}
use mathlib.Core.Path.{◌≡◌, refl, ap, sym, ◌∙◌, subst}
use mathlib.Core.Bool.{Bool, true, false}
use mathlib.Core.List.{List, [], ◌++◌}
use lib.ListN.{length, take, drop, length-append}
use Rattle.protocol.specs.declared.AuthMethod.TheVariants.{NoAuth, UserPass, NoneAcceptable}
use Rattle.protocol.specs.declared.Reply.{Reply}
use Rattle.protocol.specs.declared.Reply.TheVariants.{NegotiationRes, AuthenticationRes, ProxyRes, Response}
use Rattle.protocol.specs.declared.SocksError.{SocksError}
use Rattle.protocol.specs.Answers.{Good, Bad, Decision, Undecided, Decided}
use Rattle.protocol.specs.Bound.{Endpoint}
use Rattle.protocol.specs.Replies.{decide}
use Rattle.protocol.specs.Client.{Kept, ClientTalk, due, at_proxy_res, at_authentication_res, talk_at, told, client}
use Rattle.client_stages.specs.declared.due.Lengths.{Lengths}
use Rattle.client_stages.specs.due.Parts.{negotiation_size, authentication_size, proxy_size, requests_of}
use Rattle.client_stages.specs.due.Stages.{SideSession, SideFed}
use Rattle.talk.specs.Talk.{Ending, stop, send, await, waiting, ended, feed, deciding}
use Rattle.talk.specs.Attempts.{decided_in, counting}
use Rattle.noninterference.specs.Places.{Agree}
use Rattle.noninterference.proofs.Bytes.{part_long, agree_all, agree_join, agree_part}

-- how many bytes were sent by a session that waits for a reply, where more may follow
abbrev pub Place : Lengths → Reply → ℕ → Type 0
Place l (NegotiationRes NoAuth) n = n ≡ negotiation_size l + authentication_size l
Place l (NegotiationRes UserPass) n = n ≡ negotiation_size l
Place l (NegotiationRes NoneAcceptable) n = Unit {0}
Place l AuthenticationRes n = n ≡ negotiation_size l + authentication_size l
Place l ProxyRes n = Unit {0}
Place l Response n = Unit {0}

-- optimistically nothing follows
abbrev pub Stands : Lengths → Reply → ℕ → Type 0
Stands l e n = l.optimistic ≡ false → Place l e n

abbrev pub SideStands : Lengths → SideSession → ℕ → Type 0
SideStands l (waiting e h) n = Stands l e n
SideStands l (ended x) n = Unit {0}

-- two talks, where so many bytes were sent before
pub data Like (S : ℕ → Type 0) (l : Lengths) : ℕ → ClientTalk → ClientTalk → Type 0 where
  stops : {n : ℕ} (x : Ending Endpoint SocksError) → Like S l n (stop x) (stop x)
  sends : {n : ℕ} {q r : List ℕ} {t u : ClientTalk} → Agree S n q r → Like S l (n + length q) t u → Like S l n (send q t) (send r u)
  awaits : {n : ℕ} (e : Reply) {j k : List ℕ → ClientTalk} → Stands l e n → ((m : List ℕ) → Like S l n (j m) (k m)) → Like S l n (await e j) (await e k)

-- what bytes did to them
pub record Feeds (S : ℕ → Type 0) (l : Lengths) (n : ℕ) (f g : SideFed) : Type 0 where
  pub session : f.session ≡ g.session
  pub place : f.place ≡ g.place
  pub sent : Agree S n f.sent g.sent
  pub stands : SideStands l f.session (n + length f.sent)

module _ (S : ℕ → Type 0) (l : Lengths) where
  pub feed_like : (c d : Kept) (n : ℕ) (t u : ClientTalk) → Like S l n t u → (bs : List ℕ) → Feeds S l n (feed (client c) t bs) (feed (client d) u bs)
  unfolding feed
  feed_like c d n _ _ (stops x) bs = record { session = refl; place = refl; sent = agree_all S n []; stands = tt }
  feed_like c d n _ _ (sends {q = q} {r = r} {t = t} {u = u} a k) bs =
      let f = feed_like c d (n + length q) t u k bs in
      let z : n + length q + length (feed (client c) t bs).sent ≡ n + length (q ++ (feed (client c) t bs).sent) = omega (arith, length-append q (feed (client c) t bs).sent) in
      record {
        session = f.session;
        place = f.place;
        sent = agree_join S n q r (feed (client c) t bs).sent (feed (client d) u bs).sent a f.sent;
        stands = subst (λ (m : ℕ). SideStands l (feed (client c) t bs).session m) z f.stands;
      }
  feed_like c d n _ _ (awaits e {j = j} {k = k} s like) bs = go (decide e bs) (λ m. feed_like c d n (j (take m bs)) (k (take m bs)) (like (take m bs)) (drop m bs))
    where
      go : (v : Decision) → ((m : ℕ) → Feeds S l n (feed (client c) (j (take m bs)) (drop m bs)) (feed (client d) (k (take m bs)) (drop m bs)))
          → Feeds S l n (deciding (told v) (waiting e bs) (λ m. feed (client c) (j (take m bs)) (drop m bs))) (deciding (told v) (waiting e bs) (λ m. feed (client d) (k (take m bs)) (drop m bs)))
      go Undecided ih = record { session = refl; place = refl; sent = agree_all S n []; stands = subst (λ (m : ℕ). Stands l e m) (sym (add-zero n)) s }
      go (Decided m Good) ih = record { session = (ih m).session; place = ap (λ (p : ℕ). m + p) (ih m).place; sent = (ih m).sent; stands = (ih m).stands }
      go (Decided m (Bad x)) ih = record { session = refl; place = refl; sent = agree_all S n []; stands = tt }

  pub decided_like : (c d : Kept) (n : ℕ) (t u : ClientTalk) → Like S l n t u → (bs : List ℕ) → decided_in (client c) t bs ≡ decided_in (client d) u bs
  unfolding decided_in
  decided_like c d n _ _ (stops x) bs = refl
  decided_like c d n _ _ (sends {q = q} {t = t} {u = u} a k) bs = decided_like c d (n + length q) t u k bs
  decided_like c d n _ _ (awaits e {j = j} {k = k} s like) bs = go (decide e bs) (λ m. decided_like c d n (j (take m bs)) (k (take m bs)) (like (take m bs)) (drop m bs))
    where
      go : (v : Decision) → ((m : ℕ) → decided_in (client c) (j (take m bs)) (drop m bs) ≡ decided_in (client d) (k (take m bs)) (drop m bs))
          → counting (told v) (λ m. decided_in (client c) (j (take m bs)) (drop m bs)) ≡ counting (told v) (λ m. decided_in (client d) (k (take m bs)) (drop m bs))
      go Undecided ih = refl
      go (Decided m Good) ih = ap suc (ih m)
      go (Decided m (Bad x)) ih = refl

  -- ---- the talks of requests that agree

  due_like : (o : Bool) (n : ℕ) (q r : List ℕ) (t u : ClientTalk) → (o ≡ false → Agree S n q r) → (o ≡ true → Like S l n t u) → (o ≡ false → Like S l (n + length q) t u)
      → Like S l n (due o q t) (due o r u)
  due_like true n q r t u a x y = x refl
  due_like false n q r t u a x y = sends (a refl) (y refl)

  proxy_like : (n : ℕ) → Like S l n at_proxy_res at_proxy_res
  proxy_like n = awaits ProxyRes (λ o. tt) (λ m. stops _)

  module _ (bs cs : List ℕ) (a : Agree S 0 bs cs) (long : 778 ≤ length bs) where
    abbrev one : Kept
    one = requests_of (record { lengths = l; bytes = bs })

    abbrev other : Kept
    other = requests_of (record { lengths = l; bytes = cs })

    proxy_due : (n : ℕ) → (l.optimistic ≡ false → n ≡ negotiation_size l + authentication_size l)
        → Like S l n (due l.optimistic one.proxy at_proxy_res) (due l.optimistic other.proxy at_proxy_res)
    proxy_due n s =
        due_like l.optimistic n one.proxy other.proxy at_proxy_res at_proxy_res
        (λ o. subst (λ (k : ℕ). Agree S k one.proxy other.proxy) (sym (s o)) (agree_part S bs cs a (negotiation_size l + authentication_size l) (proxy_size l)))
        (λ o. proxy_like n) (λ o. proxy_like (n + length one.proxy))

    authentication_like : (n : ℕ) → Stands l AuthenticationRes n → Like S l n (at_authentication_res one) (at_authentication_res other)
    authentication_like n s = awaits AuthenticationRes s (λ m. proxy_due n s)

    gone : {o : Bool} → o ≡ true → o ≡ false → (n m : ℕ) → n ≡ m
    gone p q n m = let z : true ≡ false = sym p ∙ q in cc

    authentication_due : (n : ℕ) → (l.optimistic ≡ false → n ≡ negotiation_size l)
        → Like S l n (due l.optimistic one.authentication (at_authentication_res one)) (due l.optimistic other.authentication (at_authentication_res other))
    authentication_due n s =
        let k : length one.authentication ≡ authentication_size l = part_long bs (negotiation_size l) (authentication_size l) (omega arith) in
        due_like l.optimistic n one.authentication other.authentication (at_authentication_res one) (at_authentication_res other)
        (λ o. subst (λ (k : ℕ). Agree S k one.authentication other.authentication) (sym (s o)) (agree_part S bs cs a (negotiation_size l) (authentication_size l)))
        (λ o. authentication_like n (λ p. gone o p n (negotiation_size l + authentication_size l)))
        (λ o. authentication_like (n + length one.authentication) (λ p. ap (λ (m : ℕ). m + length one.authentication) (s o) ∙ ap (λ (m : ℕ). negotiation_size l + m) k))

    pub talk_like : (e : Reply) (n : ℕ) → Stands l e n → Like S l n (talk_at one e) (talk_at other e)
    talk_like (NegotiationRes NoAuth) n s = awaits (NegotiationRes NoAuth) s (λ m. proxy_due n s)
    talk_like (NegotiationRes UserPass) n s = awaits (NegotiationRes UserPass) s (λ m. authentication_due n s)
    talk_like (NegotiationRes NoneAcceptable) n s = awaits (NegotiationRes NoneAcceptable) s (λ m. stops _)
    talk_like AuthenticationRes n s = authentication_like n s
    talk_like ProxyRes n s = proxy_like n
    talk_like Response n s = awaits Response s (λ m. stops _)
