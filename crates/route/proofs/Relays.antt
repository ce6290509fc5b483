-- What a piece does to a route's proxies, from the one that is spoken to on, is what its bytes do to the route's side.
use Prim.Native.Nat.{ℕ, zero, suc, ◌+◌, ◌-◌, ◌≤◌, zero-le}
use native.Mathlib.Nat.{le_refl}
use native.Mathlib.Omega.{arith}
use mathlib.Core.Path.{◌≡◌, refl, ap, sym, subst, ◌∙◌}
use mathlib.Core.Bool.{Bool, true, false, cond, not}
use mathlib.Core.List.{List, [], ◌∷◌, ◌++◌, append-nil}
use lib.ListN.{length, take, drop, replicate, length-replicate}
use lib.Seq.{take-append_seam, drop-append-add}
use lib.Dec.{leb}
use borrow.Author.Tests.{le-leb}
use Rattle.protocol.specs.declared.Reply.{Reply}
use Rattle.protocol.specs.declared.Reply.TheVariants.{NegotiationRes, AuthenticationRes, ProxyRes, Response}
use Rattle.protocol.specs.declared.Bound.{Bound}
use Rattle.protocol.specs.declared.SocksError.{SocksError}
use Rattle.protocol.specs.declared.Outcome.TheVariants as Out
use Rattle.protocol.specs.Bound.{Endpoint}
use Rattle.protocol.specs.Client.{Kept, client, outcome_of}
use Rattle.protocol.proofs.Client.{client_lawful}
use Rattle.client_stages.specs.declared.due.Stage.{Stage}
use Rattle.client_stages.specs.declared.due.Stage.TheVariants.{Awaiting, Open, Failed}
use Rattle.client_stages.specs.due.Stages.{SideSession, SideFed, view_at, stage_of}
use Rattle.client_stages.specs.due.Parts.{requests_of}
use Rattle.client_session.specs.declared.Session.{Session}
use Rattle.client_session.specs.Session.{side_of, view, outcome, room_at}
use Rattle.client_session.specs.Calls.{Call, takes, deliver}
use Rattle.socks.proofs.Tunnels.{view_packed}
use Rattle.route_delivery.specs.declared.Hop as relaying
use Rattle.route_delivery.specs.Relay.{hop_at, requests_at, goes_at, begun_at, Relay, handed, alone, handing_on, relayed}
use Rattle.route_spec.specs.Hops.{Hop, at, on_through, route_at, route_side, RouteSession, RouteFed}
use Rattle.route_spec.proofs.Lawful.{at_feed, through_next, through_none}
use Rattle.route_spec.proofs.Steps.{at_still}
use Rattle.talk.specs.Talk.{done, failed, waiting, ended, sending, feed, onward, held_by, is_over, reached}
use Rattle.talk.specs.Tunnel.{given}
use Rattle.talk.specs.Graft.{then_on}
use Rattle.talk.proofs.Feed.{Ready, onward_ready}

-- ---- a proxy's own delivery, lent 1,024 bytes: what the bytes do to its side

pub record Took (c : Call) (f : SideFed) (before : ℕ) : Type 0 where
  pub seen : view c.session ≡ f.session
  pub used : c.used ≡ reached f - before
  pub sent : take c.sent c.output ≡ f.sent

took_takes : (s : Session) (p out : List ℕ) → Took (takes s p out) (given (side_of s) (view s) p) (length (held_by (view s)))
took_takes s [] out = record { seen = refl; used = omega arith; sent = refl }
took_takes s (b ∷ bs) out = record { seen = view_packed s _; used = refl; sent = take-append_seam _ _ }

chosen : (b g l : Bool) → b ≡ false → g ≡ true → l ≡ true → (x y z k : Call) → cond b x (cond (not g) y (cond l k z)) ≡ k
chosen b g l p q r x y z k = rw (p, q, r)

pub room_small : (x : Stage) → room_at x ≤ 1024
room_small (Awaiting (NegotiationRes m)) = omega arith
room_small (Awaiting AuthenticationRes) = omega arith
room_small (Awaiting ProxyRes) = omega arith
room_small (Awaiting Response) = omega arith
room_small Open = omega arith
room_small (Failed e) = omega arith

abbrev lent : List ℕ
lent = replicate 1024 0

pub handed_takes : (s : Session) (p : List ℕ) → s.started ≡ true → is_over (view s) ≡ false → handed s p ≡ takes s p lent
unfolding deliver
handed_takes s p g v =
    chosen (is_over (view s)) s.started (leb (room_at s.stage) (length lent)) v g
    (le-leb (room_at s.stage) (length lent) (rw (length-replicate {A = ℕ} 1024 0) (room_small s.stage))) _ _ _ _

pub took : (s : Session) (k : Kept) (e : Reply) (h p : List ℕ) → s.started ≡ true → requests_of s.requests ≡ k → view s ≡ waiting e h
    → Took (handed s p) (given (client k) (waiting e h) p) (length h)
took s k e h p g q v =
    subst (λ (c : Call). Took c (given (client k) (waiting e h) p) (length h)) (sym (handed_takes s p g (ap is_over v)))
    (subst (λ (j : Kept). Took (takes s p lent) (given (client j) (waiting e h) p) (length h)) q
    (subst (λ (m : SideSession). Took (takes s p lent) (given (side_of s) m p) (length (held_by m))) v (took_takes s p lent)))

stage_of_lem : (x : Stage) (b : Bound) (h : List ℕ) → stage_of (view_at x b h) ≡ x
stage_of_lem (Awaiting e) b h = refl
stage_of_lem Open b h = refl
stage_of_lem (Failed e) b h = refl

pub stage_seen : (s : Session) (m : SideSession) → view s ≡ m → s.stage ≡ stage_of m
stage_seen s m v = sym (stage_of_lem s.stage s.bound _) ∙ ap (λ (n : SideSession). stage_of n) v

module _ (k : Kept) (e : Reply) (h : List ℕ) (r : Ready (client k) (waiting e h)) where
  given_ready : (p : List ℕ) → Ready (client k) (given (client k) (waiting e h) p).session
  given_ready [] = r
  given_ready (b ∷ bs) = onward_ready (client k) (client_lawful k) (waiting e h) (b ∷ bs)

  given_reaches : (p : List ℕ) → length h ≤ reached (given (client k) (waiting e h) p)
  given_reaches [] = omega arith
  given_reaches (b ∷ bs) = r (b ∷ bs)

-- ---- the route's side: the proxy that is spoken to takes the piece, and what it leaves goes on

given_at : (k : Kept) (hs : List Hop) (e : Reply) (h p : List ℕ)
    → (let f = given (client k) (waiting e h) p in
    given route_side (waiting (at k hs e) h) p ≡ then_on (at k hs) f.session f.sent f.place (λ x. feed route_side (on_through hs x) (drop f.place (h ++ p))))
unfolding onward
given_at k hs e h [] = refl
given_at k hs e h (b ∷ bs) = at_feed k hs e (h ++ b ∷ bs)

given_begun : (k : Kept) (hs : List Hop) (e : Reply) (p : List ℕ) → given route_side (waiting (at k hs e) []) p ≡ feed route_side (route_at (at k hs e)) p
unfolding onward
given_begun k hs e [] = sym (at_still k hs e)
given_begun k hs e (b ∷ bs) = refl

pub waits_open : Out.Waiting ≡ Out.Open → ⊥
waits_open q = let z : ◌≡◌ {A = ℕ} 0 1 = cc in omega arith

pub fails_open : {e : SocksError} → Out.Failed e ≡ Out.Open → ⊥
fails_open q = let z : ◌≡◌ {A = ℕ} 0 1 = cc in omega arith

-- ---- what a route keeps, as the side has it

module _ (hops : List relaying.Hop) (bytes : List ℕ) where
  abbrev pub kept_at : ℕ → Kept
  kept_at n = requests_of (requests_at hops bytes n)

  abbrev pub hop_on : ℕ → Hop
  hop_on n = record { goes = goes_at hops bytes n; first = (hop_at hops n).first; kept = kept_at n }

  -- the proxies behind so many
  unfoldable pub ahead_of : ℕ → List Hop
  ahead_of zero = []
  ahead_of (suc n) = hop_on n ∷ ahead_of n

  -- what the proxy with an index stands for, with those behind it
  abbrev pub stands_at : ℕ → SideSession → RouteSession
  stands_at n (waiting e h) = waiting (at (kept_at n) (ahead_of n) e) h
  stands_at n (ended (done x)) = ended (done x)
  stands_at n (ended (failed e)) = ended (failed e)

  -- the one with an index is begun
  abbrev begun : ℕ → RouteSession
  begun n = waiting (at (kept_at n) (ahead_of n) (hop_at hops n).first) []

  -- a relay from the proxy with an index on is what the bytes do to the route's side
  pub record Onward (n : ℕ) (f : RouteFed) (before : ℕ) (q : Relay) : Type 0 where
    pub within : q.behind ≤ n
    pub session : stands_at q.behind (view q.session) ≡ f.session
    pub ready : Ready (client (kept_at q.behind)) (view q.session)
    pub last : outcome q.session ≡ Out.Open → q.behind ≡ 0
    pub used : q.used ≡ reached f - before
    pub sent : q.sent ≡ f.sent

  stays : (n before : ℕ) (c : Call) (f : SideFed) (g : RouteFed) → Took c f before → Ready (client (kept_at n)) f.session → (outcome_of f.session ≡ Out.Open → n ≡ 0)
      → stands_at n f.session ≡ g.session → f.sent ≡ g.sent → reached f ≡ reached g → Onward n g before (alone n c)
  stays n before c f g t r l v x y =
      record {
        within = le_refl n;
        session = ap (stands_at n) t.seen ∙ v;
        ready = subst (λ (m : SideSession). Ready (client (kept_at n)) m) (sym t.seen) r;
        last = λ o. l (sym (ap outcome_of t.seen) ∙ o);
        used = t.used ∙ ap (λ (k : ℕ). k - before) y;
        sent = t.sent ∙ x;
      }

  -- by the session behind what the proxy takes: it waits, or is open, or has failed
  module _ (h p : List ℕ) (c : Call) (sent : List ℕ) (place : ℕ) where
    abbrev here : SideSession → SideFed
    here v = record { session = v; sent = sent; place = place }

    abbrev there : ℕ → SideSession → RouteFed
    there n v = then_on (at (kept_at n) (ahead_of n)) v sent place (λ x. feed route_side (on_through (ahead_of n) x) (drop place (h ++ p)))

    the_last : (v : SideSession) → Took c (here v) (length h) → Ready (client (kept_at 0)) v → Onward 0 (there 0 v) (length h) (alone 0 c)
    unfolding ahead_of
    the_last (waiting e g) t r = stays 0 (length h) c (here (waiting e g)) (there 0 (waiting e g)) t r (λ o. refl) refl refl refl
    the_last (ended (done x)) t r =
        let z = through_none x (drop place (h ++ p)) in
        stays 0 (length h) c (here (ended (done x))) (there 0 (ended (done x))) t r (λ o. refl) (rw z) (rw z (sym (append-nil sent))) (rw z (omega arith))
    the_last (ended (failed e)) t r = stays 0 (length h) c (here (ended (failed e))) (there 0 (ended (failed e))) t r (λ o. refl) refl refl refl

    module _ (n : ℕ) (next : Relay) where
      abbrev on : SideSession → Relay
      on v = handing_on (stage_of v) (alone (suc n) c) (goes_at hops bytes n) next

      -- what it leaves, the next takes
      passes : (x : Endpoint) → place ≡ length h + c.used
          → feed route_side (on_through (ahead_of (suc n)) x) (drop place (h ++ p)) ≡ sending (goes_at hops bytes n) (given route_side (begun n) (drop c.used p))
      unfolding ahead_of
      passes x q =
          let d : drop place (h ++ p) ≡ drop c.used p = ap (λ (k : ℕ). drop k (h ++ p)) q ∙ drop-append-add h p c.used in
          ap (λ (bs : List ℕ). feed route_side (on_through (hop_on n ∷ ahead_of n) x) bs) d ∙ through_next (hop_on n) (ahead_of n) x (drop c.used p)
          ∙ ap (λ (f : RouteFed). sending (goes_at hops bytes n) f) (sym (given_begun (kept_at n) (ahead_of n) (hop_at hops n).first (drop c.used p)))

      one_more : (v : SideSession) → Took c (here v) (length h) → Ready (client (kept_at (suc n))) v → length h ≤ reached (here v)
          → Onward n (given route_side (begun n) (drop c.used p)) 0 next
          → Onward (suc n) (there (suc n) v) (length h) (on v)
      one_more (waiting e g) t r far w = stays (suc n) (length h) c (here (waiting e g)) (there (suc n) (waiting e g)) t r (λ o. absurd (waits_open o)) refl refl refl
      one_more (ended (failed e)) t r far w = stays (suc n) (length h) c (here (ended (failed e))) (there (suc n) (ended (failed e))) t r (λ o. absurd (fails_open o)) refl refl refl
      one_more (ended (done x)) t r far w =
          let z = passes x (omega (arith, t.used)) in
          record {
            within = omega (arith, w.within);
            session = w.session ∙ ap (λ (f : RouteFed). f.session) (sym z);
            ready = w.ready;
            last = w.last;
            used = rw z (omega (arith, t.used, w.used));
            sent = rw (z, t.sent, w.sent);
          }

  module _ (n : ℕ) (s : Session) (e : Reply) (h p : List ℕ) (g : s.started ≡ true) (q : s.requests ≡ requests_at hops bytes n) (v : view s ≡ waiting e h)
      (r : Ready (client (kept_at n)) (waiting e h)) where
    abbrev own : SideFed
    own = given (client (kept_at n)) (waiting e h) p

    own_took : Took (handed s p) own (length h)
    own_took = took s (kept_at n) e h p g (ap requests_of q) v

    side_as : there h p (handed s p) own.sent own.place n own.session ≡ given route_side (stands_at n (waiting e h)) p
    side_as = sym (given_at (kept_at n) (ahead_of n) e h p)

  pub relayed_onward : (n : ℕ) (s : Session) (e : Reply) (h p : List ℕ) → s.started ≡ true → s.requests ≡ requests_at hops bytes n → view s ≡ waiting e h
      → Ready (client (kept_at n)) (waiting e h) → Onward n (given route_side (stands_at n (waiting e h)) p) (length h) (relayed hops bytes n s p)
  unfolding relayed
  relayed_onward zero s e h p g q v r =
      let f = own 0 s e h p g q v r in
      subst (λ (x : RouteFed). Onward 0 x (length h) (alone 0 (handed s p))) (side_as 0 s e h p g q v r)
      (the_last h p (handed s p) f.sent f.place f.session (own_took 0 s e h p g q v r) (given_ready (kept_at 0) e h r p))
  relayed_onward (suc n) s e h p g q v r =
      let c = handed s p in
      let f = own (suc n) s e h p g q v r in
      let t = own_took (suc n) s e h p g q v r in
      let next = relayed hops bytes n (begun_at hops bytes n c.session) (drop c.used p) in
      subst (λ (x : RouteFed). Onward (suc n) x (length h) (handing_on c.session.stage (alone (suc n) c) (goes_at hops bytes n) next)) (side_as (suc n) s e h p g q v r)
      (subst (λ (x : Stage). Onward (suc n) (there h p c f.sent f.place (suc n) f.session) (length h) (handing_on x (alone (suc n) c) (goes_at hops bytes n) next)) (sym (stage_seen c.session f.session t.seen))
      (one_more h p c f.sent f.place n next f.session t (given_ready (kept_at (suc n)) e h r p) (given_reaches (kept_at (suc n)) e h r p)
      (relayed_onward n (begun_at hops bytes n c.session) (hop_at hops n).first [] (drop c.used p) refl refl refl (λ more. zero-le))))
