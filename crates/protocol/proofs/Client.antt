-- The client's side is lawful, and fed with bytes it does what the plain machine does.
use Prim.Native.Nat.{ℕ, suc, ◌+◌, ◌≤◌}
use native.Mathlib.Nat.{add-zero, zero-add}
use native.Mathlib.Omega.{arith}
use mathlib.Core.Path.{◌≡◌, refl, ap, sym, ◌∙◌}
use mathlib.Core.Bool.{Bool, true, false}
use mathlib.Core.List.{List, [], ◌∷◌, ◌++◌, append_assoc, append-nil}
use lib.ListN.{length, take, drop}
use lib.Seq.{drop-drop}
use Rattle.protocol.specs.declared.AuthMethod.{AuthMethod}
use Rattle.protocol.specs.declared.AuthMethod.TheVariants.{NoAuth, UserPass, NoneAcceptable}
use Rattle.protocol.specs.declared.SocksError.{SocksError}
use Rattle.protocol.specs.declared.Reply.{Reply}
use Rattle.protocol.specs.declared.Reply.TheVariants.{NegotiationRes, AuthenticationRes, ProxyRes, Response}
use Rattle.protocol.specs.Answers.{Good, Bad, Decision, Undecided, Decided}
use Rattle.protocol.specs.Bound.{Endpoint, unbound, proxy_bound, response_bound, bound_by}
use Rattle.protocol.specs.Opening.{no_auth, user_pass, Opening, v5, v4, replies, at_opening, later}
use Rattle.protocol.specs.Replies.{decide}
use Rattle.protocol.specs.Machine.{Machine, has, sends, reads, run, machine, used_by, used, decides, decisions, decided_on}
use Rattle.protocol.specs.Agreement.{as_machine}
use Rattle.protocol.specs.Client.{Kept, ClientTalk, due, at_proxy_res, at_authentication_res, after_method, talk_at, told, client, kept, begun, side, outcome_of, bound_in}
use Rattle.protocol.proofs.Replies.{extends}
use Rattle.talk.specs.Talk.{done, failed, stop, send, await, Session, waiting, ended, Fed, deciding, feed, is_over, reached}
use Rattle.talk.specs.Lawful.{Shaped, Lawful}
use Rattle.talk.specs.Attempts.{counting, decided_in}
use Rattle.talk.proofs.Feed.{feed_exact}

-- ---- lawful

shaped_due : (c : Kept) (o : Bool) (q : List ℕ) (t : ClientTalk) → Shaped (client c) t → Shaped (client c) (due o q t)
shaped_due c true q t w = w
shaped_due c false q t w = w

shaped_proxy : (c : Kept) → Shaped (client c) at_proxy_res
shaped_proxy c = (refl, λ m. tt)

shaped_authentication : (c : Kept) → Shaped (client c) (at_authentication_res c)
shaped_authentication c = (refl, λ m. shaped_due c c.optimistic c.proxy at_proxy_res (shaped_proxy c))

shaped_method : (c : Kept) (m : AuthMethod) → Shaped (client c) (after_method m c)
shaped_method c NoAuth = shaped_due c c.optimistic c.proxy at_proxy_res (shaped_proxy c)
shaped_method c UserPass = shaped_due c c.optimistic c.authentication (at_authentication_res c) (shaped_authentication c)
shaped_method c NoneAcceptable = tt

shaped_at : (c : Kept) (s : Reply) → Shaped (client c) (talk_at c s)
shaped_at c (NegotiationRes m) = (refl, λ r. shaped_method c m)
shaped_at c AuthenticationRes = shaped_authentication c
shaped_at c ProxyRes = shaped_proxy c
shaped_at c Response = (refl, λ m. tt)

pub client_lawful : (c : Kept) → Lawful (client c)
client_lawful c = record { stable = extends; shaped = shaped_at c }

-- ---- the plain machine

abbrev ClientFed : Type 0
ClientFed = Fed Reply Endpoint SocksError

same_machine : (m n : Machine) → m.sent ≡ n.sent → m.outcome ≡ n.outcome → m.bound ≡ n.bound → m.place ≡ n.place → m ≡ n
same_machine m n p q b r = λ i. record { sent = p i; outcome = q i; bound = b i; place = r i }

-- what a machine has that had sent bytes and stood at a place, and then was fed
abbrev machine_after : List ℕ → ℕ → ClientFed → Machine
machine_after sent place f = has (sent ++ f.sent) (outcome_of f.session) (bound_in f.session) (place + f.place)

-- requests go, and then a talk
abbrev goes : List (List ℕ) → ClientTalk → ClientTalk
goes [] t = t
goes (q ∷ qs) t = send q (goes qs t)

-- a talk follows the replies that are expected and the requests that are left
abbrev Follows : List Reply → List (List ℕ) → Endpoint → ClientTalk → Type 0
Follows [] left x t = t ≡ stop (done x)
Follows (e ∷ es) left x t =
    (k : List ℕ → ClientTalk) × (u : List ℕ → ClientTalk) × (t ≡ await e k)
    × ((m : List ℕ) → (k m ≡ goes (take 1 left) (u m)) × Follows es (drop 1 left) (bound_by e m) (u m))

module _ (c : Kept) where
  sends_feed : (qs : List (List ℕ)) (sent : List ℕ) (place : ℕ) (bs : List ℕ) (t : ClientTalk)
      → machine_after (sends qs sent) place (feed (client c) t bs) ≡ machine_after sent place (feed (client c) (goes qs t) bs)
  unfolding feed
  sends_feed [] sent place bs t = refl
  sends_feed (q ∷ qs) sent place bs t = sends_feed qs (sent ++ q) place bs t ∙ same_machine _ _ (append_assoc sent q _) refl refl refl

  reads_feed : (place : ℕ) (sent : List ℕ) (d : Decision) (s : Reply) (bs : List ℕ) (on : ℕ → ClientFed) (next : ℕ → Machine)
      → ((n : ℕ) → d ≡ Decided n Good → next n ≡ machine_after sent (place + n) (on n))
      → reads d sent place next ≡ machine_after sent place (deciding (told d) (waiting s bs) on)
  reads_feed place sent Undecided s bs on next h = same_machine _ _ (sym (append-nil sent)) refl refl (sym (add-zero place))
  reads_feed place sent (Decided n Good) s bs on next h = h n refl ∙ same_machine _ _ refl refl refl (omega arith)
  reads_feed place sent (Decided n (Bad e)) s bs on next h = same_machine _ _ (sym (append-nil sent)) refl refl (omega arith)

  run_feed : (es : List Reply) (left : List (List ℕ)) (x : Endpoint) (t : ClientTalk) (sent : List ℕ) (place : ℕ) (bs : List ℕ)
      → Follows es left x t → run es left sent x place bs ≡ machine_after sent place (feed (client c) t (drop place bs))
  unfolding run feed
  run_feed [] left x t sent place bs e = rw e (same_machine _ _ (sym (append-nil sent)) refl refl (sym (add-zero place)))
  run_feed (e ∷ es) left x t sent place bs (k, u, w, f) =
      rw w
      (reads_feed place sent (decide e (drop place bs)) e (drop place bs)
      (λ n. feed (client c) (k (take n (drop place bs))) (drop n (drop place bs)))
      (λ n. run es (drop 1 left) (sends (take 1 left) sent) (bound_by e (take n (drop place bs))) (place + n) bs)
      (λ n i.
      let m = take n (drop place bs) in
      rw ((f m).0, drop-drop n place bs)
      (run_feed es (drop 1 left) (bound_by e m) (u m) (sends (take 1 left) sent) (place + n) bs (f m).1
      ∙ sends_feed (take 1 left) sent (place + n) (drop (place + n) bs) (u m))))

  -- F-11: and decides as many replies
  counts_feed : (d : Decision) (on next : ℕ → ℕ) → ((n : ℕ) → d ≡ Decided n Good → next n ≡ on n) → decides d next ≡ counting (told d) on
  counts_feed Undecided on next h = refl
  counts_feed (Decided n Good) on next h = ap suc (h n refl)
  counts_feed (Decided n (Bad e)) on next h = refl

  goes_decides : (qs : List (List ℕ)) (t : ClientTalk) (bs : List ℕ) → decided_in (client c) (goes qs t) bs ≡ decided_in (client c) t bs
  unfolding decided_in
  goes_decides [] t bs = refl
  goes_decides (q ∷ qs) t bs = goes_decides qs t bs

  run_decides : (es : List Reply) (left : List (List ℕ)) (x : Endpoint) (t : ClientTalk) (place : ℕ) (bs : List ℕ)
      → Follows es left x t → decisions es place bs ≡ decided_in (client c) t (drop place bs)
  unfolding decisions decided_in
  run_decides [] left x t place bs e = rw e
  run_decides (e ∷ es) left x t place bs (k, u, w, f) =
      rw w
      (counts_feed (decide e (drop place bs)) (λ n. decided_in (client c) (k (take n (drop place bs))) (drop n (drop place bs))) (λ n. decisions es (place + n) bs)
      (λ n i.
      let m = take n (drop place bs) in
      rw ((f m).0, drop-drop n place bs) (run_decides es (drop 1 left) (bound_by e m) (u m) (place + n) bs (f m).1 ∙ sym (goes_decides (take 1 left) (u m) (drop (place + n) bs)))))

-- ---- the openings' talks follow their replies and requests

first_reply : Opening → Reply
first_reply (v5 no_auth d port o) = NegotiationRes NoAuth
first_reply (v5 (user_pass u p) d port o) = NegotiationRes UserPass
first_reply (v4 d port) = Response

at_last : Follows (ProxyRes ∷ []) [] unbound at_proxy_res
at_last = (_, (λ m. stop (done (proxy_bound m))), refl, λ m. (refl, refl))

follows : (o : Opening) → Follows (replies o) (later o) unbound (talk_at (kept o) (first_reply o))
unfolding first_reply
follows (v5 no_auth d port true) = (_, (λ m. at_proxy_res), refl, λ m. (refl, at_last))
follows (v5 no_auth d port false) = (_, (λ m. at_proxy_res), refl, λ m. (refl, at_last))
follows (v5 (user_pass u p) d port true) =
    (_, (λ m. at_authentication_res (kept (v5 (user_pass u p) d port true))), refl, λ m. (refl, (_, (λ m. at_proxy_res), refl, λ m. (refl, at_last))))
follows (v5 (user_pass u p) d port false) =
    (_, (λ m. at_authentication_res (kept (v5 (user_pass u p) d port false))), refl, λ m. (refl, (_, (λ m. at_proxy_res), refl, λ m. (refl, at_last))))
follows (v4 d port) = (_, (λ m. stop (done (response_bound m))), refl, λ m. (refl, refl))

begun_goes : (o : Opening) → begun o ≡ goes (at_opening o) (talk_at (kept o) (first_reply o))
unfolding first_reply
begun_goes (v5 no_auth d port true) = refl
begun_goes (v5 no_auth d port false) = refl
begun_goes (v5 (user_pass u p) d port true) = refl
begun_goes (v5 (user_pass u p) d port false) = refl
begun_goes (v4 d port) = refl

shaped_goes : (c : Kept) (qs : List (List ℕ)) (t : ClientTalk) → Shaped (client c) t → Shaped (client c) (goes qs t)
shaped_goes c [] t w = w
shaped_goes c (q ∷ qs) t w = shaped_goes c qs t w

pub begun_shaped : (o : Opening) → Shaped (side o) (begun o)
begun_shaped o = rw (begun_goes o) (shaped_goes (kept o) (at_opening o) (talk_at (kept o) (first_reply o)) (shaped_at (kept o) (first_reply o)))

-- the client's side equals the plain machine
machine_after_lem : (o : Opening) (bs : List ℕ) → machine o bs ≡ machine_after [] 0 (feed (side o) (begun o) bs)
unfolding machine
machine_after_lem o bs =
    rw (begun_goes o)
    (run_feed (kept o) (replies o) (later o) unbound (talk_at (kept o) (first_reply o)) (sends (at_opening o) []) 0 bs (follows o)
    ∙ sends_feed (kept o) (at_opening o) [] 0 bs (talk_at (kept o) (first_reply o)))

pub machine_feed : (o : Opening) (bs : List ℕ) → machine o bs ≡ as_machine (feed (side o) (begun o) bs)
machine_feed o bs = let f = feed (side o) (begun o) bs in machine_after_lem o bs ∙ same_machine (machine_after [] 0 f) (as_machine f) refl refl refl (zero-add f.place)

used_reached : (f : ClientFed) (bs : List ℕ) → (is_over f.session ≡ false → reached f ≡ length bs) → used_by (outcome_of f.session) f.place bs ≡ reached f
used_reached f bs h = go f.session refl
  where
    go : (s : Session Reply Endpoint SocksError) → f.session ≡ s → used_by (outcome_of s) f.place bs ≡ reached f
    go (waiting s held) e = sym (h (rw e))
    go (ended (done x)) e = rw e (omega arith)
    go (ended (failed x)) e = rw e (omega arith)

pub used_feed : (o : Opening) (bs : List ℕ) → used o bs ≡ reached (feed (side o) (begun o) bs)
unfolding used
used_feed o bs =
    rw (machine_feed o bs) (used_reached (feed (side o) (begun o) bs) bs (feed_exact (side o) (client_lawful (kept o)) (begun o) bs))

pub decided_feed : (o : Opening) (bs : List ℕ) → decided_on o bs ≡ decided_in (side o) (begun o) bs
unfolding decided_on
decided_feed o bs =
    rw (begun_goes o)
    (run_decides (kept o) (replies o) (later o) unbound (talk_at (kept o) (first_reply o)) 0 bs (follows o) ∙ sym (goes_decides (kept o) (at_opening o) (talk_at (kept o) (first_reply o)) bs))

-- no more than it expects
decides_most : (d : Decision) (on : ℕ → ℕ) (k : ℕ) → ((n : ℕ) → on n ≤ k) → decides d on ≤ suc k
decides_most Undecided on k h = omega arith
decides_most (Decided n Good) on k h = omega (arith, h n)
decides_most (Decided n (Bad e)) on k h = omega arith

decisions_most : (es : List Reply) (place : ℕ) (bs : List ℕ) → decisions es place bs ≤ length es
unfolding decisions
decisions_most [] place bs = omega arith
decisions_most (e ∷ es) place bs = decides_most (decide e (drop place bs)) (λ n. decisions es (place + n) bs) (length es) (λ n. decisions_most es (place + n) bs)

pub decided_three : (o : Opening) (bs : List ℕ) → decided_on o bs ≤ 3
unfolding decided_on
decided_three (v5 no_auth d port o) bs = omega (arith, decisions_most (replies (v5 no_auth d port o)) 0 bs)
decided_three (v5 (user_pass u p) d port o) bs = decisions_most (replies (v5 (user_pass u p) d port o)) 0 bs
decided_three (v4 d port) bs = omega (arith, decisions_most (replies (v4 d port)) 0 bs)
