-- What a turn does is what the talk does with the same bytes.
use Prim.Native.Nat.{ℕ, suc, ◌+◌, ◌<◌}
use native.Mathlib.Omega.{arith}
use mathlib.Core.Path.{◌≡◌, refl, ap}
use mathlib.Core.Bool.{Bool, true, false}
use mathlib.Core.List.{List}
use lib.ListN.{drop}
use Rattle.protocol.specs.declared.AuthMethod.TheVariants.{NoAuth, UserPass, NoneAcceptable}
use Rattle.protocol.specs.declared.Reply.{Reply}
use Rattle.protocol.specs.declared.Reply.TheVariants.{NegotiationRes, AuthenticationRes, ProxyRes, Response}
use Rattle.protocol.specs.declared.SocksError.{SocksError}
use Rattle.protocol.specs.Answers.{Good, Bad, Undecided, Decided}
use Rattle.protocol.specs.Bound.{Endpoint, bound_by}
use Rattle.protocol.specs.Replies.{decide}
use Rattle.protocol.proofs.Named.{bound_first}
use Rattle.protocol.specs.Client.{Kept, ClientTalk, due, talk_at, client}
use Rattle.client_stages.specs.declared.due.Lengths.{Lengths}
use Rattle.client_stages.specs.declared.due.Stage.{Stage}
use Rattle.client_stages.specs.declared.due.Stage.TheVariants.{Awaiting, Open, Failed}
use Rattle.client_stages.specs.due.Stages.{SideFed, session_at, rank}
use Rattle.client_stages.specs.due.Parts.{part, negotiation_size, authentication_size, proxy_size}
use Rattle.client_stages.specs.due.Due.{unless_gone, due_after, due_from}
use Rattle.client_delivery.specs.bound_address.Named.{last_of}
use Rattle.client_delivery.specs.turns.Turns.{kept_in, on_stage, decided_at, Rests}
use Rattle.talk.specs.Attempts.{decided_in}
use Rattle.talk.specs.Talk.{done, failed, ended, waiting, unmoved, sending, moving, feed}

-- ---- what a good reply makes due, the talk sends

module _ (c : Kept) (e : Reply) (bs b : List ℕ) where
  -- a part, sent unless it went at the start; what stands before it is passed unless that went too
  part_due : (o : Bool) (from n m : ℕ) → feed (client c) (due o (part b (from + m) n) (talk_at c e)) bs ≡ sending (part b (from + unless_gone o m) (unless_gone o n)) (feed (client c) (talk_at c e) bs)
  unfolding feed
  part_due true from n m = refl
  part_due false from n m = refl

  first_due : (o : Bool) (from n : ℕ) → feed (client c) (due o (part b from n) (talk_at c e)) bs ≡ sending (part b from (unless_gone o n)) (feed (client c) (talk_at c e) bs)
  unfolding feed
  first_due true from n = refl
  first_due false from n = refl

opened : (n : ℕ) {x y : Endpoint} → x ≡ y → ◌≡◌ {A = SideFed} (moving n (unmoved (ended (done x)))) (moving n (unmoved (ended (done y))))
opened n q = ap (λ (z : Endpoint). moving n (unmoved (ended (done z)))) q

module _ (l : Lengths) (b : List ℕ) where
  -- a stage that waits, on bytes that decide its reply
  pub stage_good : (e : Reply) (x : Endpoint) (bs : List ℕ) (n : ℕ) → decide e bs ≡ Decided n Good
      → on_stage (kept_in l b) (Awaiting e) x bs ≡ moving n (sending (part b (due_from l e) (due_after l e).len) (on_stage (kept_in l b) (due_after l e).stage (bound_by (last_of e) bs) (drop n bs)))
  unfolding feed
  stage_good (NegotiationRes NoAuth) x bs n q = rw q (ap (moving n) (part_due (kept_in l b) ProxyRes (drop n bs) b l.optimistic (negotiation_size l) (proxy_size l) (authentication_size l)))
  stage_good (NegotiationRes UserPass) x bs n q = rw q (ap (moving n) (first_due (kept_in l b) AuthenticationRes (drop n bs) b l.optimistic (negotiation_size l) (authentication_size l)))
  stage_good (NegotiationRes NoneAcceptable) x bs n q = rw q
  stage_good AuthenticationRes x bs n q = rw q (ap (moving n) (part_due (kept_in l b) ProxyRes (drop n bs) b l.optimistic (negotiation_size l) (proxy_size l) (authentication_size l)))
  stage_good ProxyRes x bs n q = rw q (opened n (bound_first ProxyRes bs n q))
  stage_good Response x bs n q = rw q (opened n (bound_first Response bs n q))

module _ (c : Kept) where
  pub stage_bad : (e : Reply) (bs : List ℕ) (n : ℕ) (x : SocksError) → decide e bs ≡ Decided n (Bad x) → (y : Endpoint) → on_stage c (Awaiting e) y bs ≡ moving n (unmoved (ended (failed x)))
  unfolding feed
  stage_bad (NegotiationRes m) bs n x q y = rw q
  stage_bad AuthenticationRes bs n x q y = rw q
  stage_bad ProxyRes bs n x q y = rw q
  stage_bad Response bs n x q y = rw q

  stage_waits : (e : Reply) (x : Endpoint) (bs : List ℕ) → decide e bs ≡ Undecided → on_stage c (Awaiting e) x bs ≡ unmoved (waiting e bs)
  unfolding feed
  stage_waits (NegotiationRes m) x bs q = rw q
  stage_waits AuthenticationRes x bs q = rw q
  stage_waits ProxyRes x bs q = rw q
  stage_waits Response x bs q = rw q

  -- where nothing is left to do, nothing is done
  pub stage_rests : (stage : Stage) (x : Endpoint) (bs : List ℕ) → Rests stage bs → on_stage c stage x bs ≡ unmoved (session_at stage x bs)
  stage_rests (Awaiting e) x bs r = stage_waits e x bs r.0
  stage_rests Open x bs r = refl
  stage_rests (Failed y) x bs r = refl

-- ---- F-11: a reply decided, and those decided behind it

module _ (l : Lengths) (b : List ℕ) where
  due_decides : (c : Kept) (o : Bool) (q : List ℕ) (t : ClientTalk) (bs : List ℕ) → decided_in (client c) (due o q t) bs ≡ decided_in (client c) t bs
  unfolding decided_in
  due_decides c true q t bs = refl
  due_decides c false q t bs = refl

  pub decides_good : (e : Reply) (bs : List ℕ) (n : ℕ) → decide e bs ≡ Decided n Good → decided_at (kept_in l b) (Awaiting e) bs ≡ suc (decided_at (kept_in l b) (due_after l e).stage (drop n bs))
  unfolding decided_in
  decides_good (NegotiationRes NoAuth) bs n q = rw q (ap suc (due_decides (kept_in l b) l.optimistic (kept_in l b).proxy (talk_at (kept_in l b) ProxyRes) (drop n bs)))
  decides_good (NegotiationRes UserPass) bs n q = rw q (ap suc (due_decides (kept_in l b) l.optimistic (kept_in l b).authentication (talk_at (kept_in l b) AuthenticationRes) (drop n bs)))
  decides_good (NegotiationRes NoneAcceptable) bs n q = rw q
  decides_good AuthenticationRes bs n q = rw q (ap suc (due_decides (kept_in l b) l.optimistic (kept_in l b).proxy (talk_at (kept_in l b) ProxyRes) (drop n bs)))
  decides_good ProxyRes bs n q = rw q
  decides_good Response bs n q = rw q

module _ (c : Kept) where
  pub decides_bad : (e : Reply) (bs : List ℕ) (n : ℕ) (x : SocksError) → decide e bs ≡ Decided n (Bad x) → decided_at c (Awaiting e) bs ≡ 1
  unfolding decided_in
  decides_bad (NegotiationRes m) bs n x q = rw q
  decides_bad AuthenticationRes bs n x q = rw q
  decides_bad ProxyRes bs n x q = rw q
  decides_bad Response bs n x q = rw q

  decides_none : (e : Reply) (bs : List ℕ) → decide e bs ≡ Undecided → decided_at c (Awaiting e) bs ≡ 0
  unfolding decided_in
  decides_none (NegotiationRes m) bs q = rw q
  decides_none AuthenticationRes bs q = rw q
  decides_none ProxyRes bs q = rw q
  decides_none Response bs q = rw q

  pub rests_decided : (stage : Stage) (bs : List ℕ) → Rests stage bs → decided_at c stage bs ≡ 0
  rests_decided (Awaiting e) bs r = decides_none e bs r.0
  rests_decided Open bs r = refl
  rests_decided (Failed y) bs r = refl

-- ---- the loop ends

pub rank_falls : (l : Lengths) (e : Reply) → rank (due_after l e).stage < rank (Awaiting e)
rank_falls l (NegotiationRes NoAuth) = omega arith
rank_falls l (NegotiationRes UserPass) = omega arith
rank_falls l (NegotiationRes NoneAcceptable) = omega arith
rank_falls l AuthenticationRes = omega arith
rank_falls l ProxyRes = omega arith
rank_falls l Response = omega arith
