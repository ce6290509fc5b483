-- What the client's talk lacks at a stage, of which so much is held.
use Prim.Native.Nat.{ℕ, ◌+◌, ◌-◌, ◌≤◌}
use native.Mathlib.Omega.{arith}
use mathlib.Core.Path.{◌≡◌, refl, ap, sym, ◌∙◌}
use mathlib.Core.Bool.{Bool, true, false, cond, true≢false}
use mathlib.Core.List.{List, [], ◌++◌}
use lib.ListN.{length, length-append}
use lib.Dec.{ltb}
use borrow.Author.Tests.{ltb-true}
use Rattle.protocol.specs.declared.AuthMethod.TheVariants.{NoAuth, UserPass, NoneAcceptable}
use Rattle.protocol.specs.declared.Reply.{Reply}
use Rattle.protocol.specs.declared.Reply.TheVariants.{NegotiationRes, AuthenticationRes, ProxyRes, Response}
use Rattle.protocol.specs.Answers.{Good, Bad, Decision, Undecided, Decided}
use Rattle.protocol.specs.Bound.{proxy_bound, response_bound}
use Rattle.protocol.specs.Client.{Kept, ClientTalk, due, at_proxy_res, at_authentication_res, after_method, talk_at, told, client}
use Rattle.protocol.specs.Replies.{proxy_at, decide}
use Rattle.protocol.specs.Wants.{Least}
use Rattle.protocol.proofs.Client.{client_lawful}
use Rattle.protocol.proofs.Sequences.{untold}
use Rattle.protocol.proofs.Wants.{DecidedBehind, Turn, Rest, Lacks, lacks_await, least_done}
use Rattle.talk.specs.Decision as talk
use Rattle.talk.specs.Talk.{done, stop, await}
use Rattle.client_delivery.specs.wants.Wants.{begins_with, may_connect, proxy_least, least_size, lacking, wants_for}
use Rattle.client_delivery.specs.wants.Still.{proxy_still, good_still}
use Rattle.client_delivery.proofs.wants.Laws.{lacks_some}
use Rattle.client_delivery.proofs.wants.Short.{Facts, no_auth, user_pass, none_acceptable, authentication, response}
use Rattle.client_delivery.proofs.wants.Connect.{connect}

pub undecided_is : (d : Decision) → told d ≡ talk.undecided → d ≡ Undecided
undecided_is Undecided q = refl
undecided_is (Decided n Good) q = let z : ◌≡◌ {A = ℕ} 0 1 = cc in absurd (omega arith)
undecided_is (Decided n (Bad e)) q = let z : ◌≡◌ {A = ℕ} 0 1 = cc in absurd (omega arith)

facts : (e : Reply) (h : List ℕ) → decide e h ≡ Undecided → Facts e h (least_size e h) (good_still e h)
facts (NegotiationRes NoAuth) h u = no_auth h u
facts (NegotiationRes UserPass) h u = user_pass h u
facts (NegotiationRes NoneAcceptable) h u = none_acceptable h u
facts AuthenticationRes h u = authentication h u
facts ProxyRes h u = connect h u
facts Response h u = response h u

nothing : (b : Bool) → ◌≡◌ {A = ℕ} (cond b 0 0) 0
nothing true = refl
nothing false = refl

module _ (c : Kept) where
  turn : (e : Reply) (h : List ℕ) (n : ℕ) (b : Bool) → Facts e h n b → Turn (client c) (client_lawful c) e h (lacking n (length h)) b
  turn e h n b f =
      let l : n - length h ≡ lacking n (length h) = (lacks_some n (length h) f.more).0 in
      let m = f.more in
      record {
        goods = λ q.
            let (s, y, k, g) = f.good q in
            record {
              stream = s;
              bytes = y;
              is = ap told g ∙ ap (λ (z : ℕ). talk.decided z talk.good) (sym k ∙ sym (length-append h s));
              long = omega arith;
              none_shorter = λ bs y r. omega (arith, f.far q bs (length (h ++ bs)) (untold (decide e (h ++ bs)) (length (h ++ bs)) r), length-append h bs);
            };
        none = λ q (bs, y, r). f.none q bs (length (h ++ bs)) (untold (decide e (h ++ bs)) (length (h ++ bs)) r);
        decides = λ q.
            let (s, y, k, g) = f.some q in
            record {
              stream = s;
              bytes = y;
              is = λ r. g (undecided_is (decide e (h ++ s)) r);
              long = omega arith;
              none_shorter = λ bs y r. omega (arith, at_least q bs r, length-append h bs);
            };
      }
    where
      at_least : b ≡ false → (bs : List ℕ) → DecidedBehind (client c) (client_lawful c) e h bs → n ≤ length (h ++ bs)
      at_least q bs r = go (decide e (h ++ bs)) refl
        where
          go : (d : Decision) → decide e (h ++ bs) ≡ d → n ≤ length (h ++ bs)
          go Undecided p = absurd (r (ap told p))
          go (Decided k v) p = f.late q bs k v p

  -- at a wait, with so much behind it
  lacks_at : (e : Reply) (k : List ℕ → ClientTalk) (j : ℕ) (h : List ℕ) → decide e h ≡ Undecided
      → (good_still e h ≡ true → (m : List ℕ) → Least (Rest (client c) (client_lawful c) (k m) []) j)
      → Lacks (client c) (client_lawful c) (await e k) h (lacking (least_size e h) (length h) + cond (good_still e h) j 0) (good_still e h)
  lacks_at e k j h u f = lacks_await (client c) (client_lawful c) e k h (ap told u) (lacking (least_size e h) (length h)) j (good_still e h) (turn e h (least_size e h) (good_still e h) (facts e h u)) f

  -- a request that is due changes nothing of it
  least_due : (o : Bool) (q : List ℕ) (t : ClientTalk) (n : ℕ) → Least (Rest (client c) (client_lawful c) t []) n → Least (Rest (client c) (client_lawful c) (due o q t) []) n
  least_due true q t n l = l
  least_due false q t n l = l

  done_behind : (h : List ℕ) → good_still ProxyRes h ≡ true → (m : List ℕ) → Least (Rest (client c) (client_lawful c) (stop (done (proxy_bound m))) []) 0
  done_behind h q m = least_done (client c) (client_lawful c) (proxy_bound m)

  at_proxy : Least (Rest (client c) (client_lawful c) at_proxy_res []) 8
  unfolding decide proxy_at proxy_least proxy_still lacking may_connect begins_with
  at_proxy = (lacks_at ProxyRes (λ m. stop (done (proxy_bound m))) 0 [] refl (done_behind [])).completes refl

  after_proxy : Least (Rest (client c) (client_lawful c) (due c.optimistic c.proxy at_proxy_res) []) 8
  after_proxy = least_due c.optimistic c.proxy at_proxy_res 8 at_proxy

  at_authentication : Least (Rest (client c) (client_lawful c) (at_authentication_res c) []) 10
  unfolding decide lacking begins_with
  at_authentication = (lacks_at AuthenticationRes (λ m. due c.optimistic c.proxy at_proxy_res) 8 [] refl (λ q m. after_proxy)).completes refl

  -- whatever is held at a stage
  pub lacks : (e : Reply) (h : List ℕ) → decide e h ≡ Undecided → Lacks (client c) (client_lawful c) (talk_at c e) h (wants_for e h) (good_still e h)
  lacks (NegotiationRes NoAuth) h u = lacks_at (NegotiationRes NoAuth) (λ r. after_method NoAuth c) 8 h u (λ q m. after_proxy)
  lacks (NegotiationRes UserPass) h u =
      lacks_at (NegotiationRes UserPass) (λ r. after_method UserPass c) 10 h u
      (λ q m. least_due c.optimistic c.authentication (at_authentication_res c) 10 at_authentication)
  lacks (NegotiationRes NoneAcceptable) h u =
      rw (nothing (begins_with 0x05 h)) (lacks_at (NegotiationRes NoneAcceptable) (λ r. after_method NoneAcceptable c) 0 h u (λ q m. absurd (true≢false (sym q))))
  lacks AuthenticationRes h u = lacks_at AuthenticationRes (λ m. due c.optimistic c.proxy at_proxy_res) 8 h u (λ q m. after_proxy)
  lacks ProxyRes h u = rw nothing at (lacks_at ProxyRes (λ m. stop (done (proxy_bound m))) 0 h u (done_behind h))
  lacks Response h u = rw nothing at (lacks_at Response (λ m. stop (done (response_bound m))) 0 h u (λ q m. least_done (client c) (client_lawful c) (response_bound m)))

-- a session value that is started and waits wants at least one byte
lacking_some : (size held : ℕ) → 1 ≤ lacking size held
unfolding lacking
lacking_some size held = go (ltb held size) refl
  where
    go : (b : Bool) → ltb held size ≡ b → 1 ≤ cond b (size - held) 1
    go true q = let k = ltb-true held size q in omega arith
    go false q = omega arith

pub wants_some : (e : Reply) (h : List ℕ) → 1 ≤ wants_for e h
wants_some e h = omega (arith, lacking_some (least_size e h) (length h))
