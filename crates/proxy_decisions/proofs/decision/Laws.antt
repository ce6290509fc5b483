-- A field that is read and judged, and the talk: it goes on by what is due. The fields come to an end.
use Prim.Native.Nat.{ℕ, ◌-◌, ◌≤◌, ◌<◌}
use native.Mathlib.Omega.{arith}
use mathlib.Core.Path.{◌≡◌, refl, ap, ◌∙◌}
use mathlib.Core.Bool.{Bool, true, false, cond, ◌&&◌}
use mathlib.Core.List.{List, []}
use lib.ListN.{length, take, drop}
use lib.Dec.{eqb}
use Rattle.protocol.specs.declared.SocksError.{SocksError}
use Rattle.protocol.specs.declared.Version.{Version}
use Rattle.protocol.specs.Bytes.{byte, same}
use Rattle.protocol.specs.Bound.{Endpoint, endpoint}
use Rattle.protocol.specs.AddressReading.{Destination, ipv4, domain}
use Rattle.protocol.specs.Opening.{announces}
use Rattle.proxy_spec.specs.declared.Ports.{Ports}
use Rattle.proxy_spec.specs.declared.Field.{Field}
use Rattle.proxy_spec.specs.declared.Field.TheVariants.{First, Methods, User, Password, Head, Address, Request, UserId, Name}
use Rattle.proxy_spec.specs.declared.Stage.{Stage}
use Rattle.proxy_spec.specs.declared.Stage.TheVariants.{Awaiting, Asked, Open, Failed}
use Rattle.proxy_spec.specs.End.{Setup, chosen, offers, said_by}
use Rattle.proxy_spec.specs.Side.{EndTalk, is_known, ip_of, at_user, at_head, unless_other4, reads, talk_at, server}
use Rattle.proxy_decisions.specs.declared.decision.Due.{Due}
use Rattle.proxy_decisions.specs.decision.Due.{behind_greeting, due_request, due_at, asks_at, session_at, talk_from, due_talk, rank}
use Rattle.talk.specs.Decision.{undecided, decided, good, bad}
use Rattle.talk.specs.Talk.{failed, stop, send, await, waiting, ended, unmoved, sending, moving, deciding, feed}

-- ---- what is due behind a field is what its talk goes on with

-- what a talk that awaits goes on with
abbrev next : EndTalk → List ℕ → EndTalk
next (stop e) m = stop e
next (send q t) m = send q t
next (await s k) m = k m

-- a stage at which no field is awaited
abbrev pub Over : Stage → Type 0
Over (Awaiting f) = ⊥
Over (Asked v) = Unit {0}
Over (Open v) = Unit {0}
Over (Failed e) = Unit {0}

either : {P : Type 0} (b : Bool) → (b ≡ true → P) → (b ≡ false → P) → P
either true p q = p refl
either false p q = q refl

module _ (c : Setup) where
  awaits : (f : Field) (bs : List ℕ) → feed (server c) (talk_at c f) bs ≡ deciding (reads f bs) (waiting f bs) (λ n. feed (server c) (next (talk_at c f) (take n bs)) (drop n bs))
  unfolding feed
  awaits First bs = refl
  awaits Methods bs = refl
  awaits User bs = refl
  awaits (Password right) bs = refl
  awaits Head bs = refl
  awaits (Address command type) bs = refl
  awaits Request bs = refl
  awaits (UserId p) bs = refl
  awaits (Name p) bs = refl

  -- a talk is what is due
  abbrev Meets : EndTalk → Due → Endpoint → List ℕ → Type 0
  Meets t d x r = feed (server c) t r ≡ feed (server c) (due_talk c d x) r

  behind : (a : Bool) → talk_at c (behind_greeting a) ≡ cond a (at_user c) at_head
  behind true = refl
  behind false = refl

  requests : (p : Ports) (d : Destination) (r : List ℕ) → Meets (unless_other4 c p d) (due_request c.authenticates p.command) (endpoint d p.port) r
  unfolding feed
  requests p d r = either c.authenticates (λ e. rw e) (λ e. either (eqb p.command 1) (λ g. rw (e, g)) (λ g. rw (e, g)))

  goes_on : (f : Field) (m r : List ℕ) → Meets (next (talk_at c f) m) (due_at c f m) (asks_at f m) r
  unfolding feed due_at
  goes_on First m r = either (eqb (byte m 0) 0x05) (λ e. rw e) (λ e. rw e)
  goes_on Methods m r = either (offers (chosen c.authenticates) (drop 1 m)) (λ e. rw (e, behind c.authenticates)) (λ e. rw e)
  goes_on User m r = refl
  goes_on (Password right) m r = either (right && same (drop 1 m) c.password) (λ e. rw e) (λ e. rw e)
  goes_on Head m r = either (is_known (byte m 3)) (λ e. rw e) (λ e. rw e)
  goes_on (Address command type) m r = either (eqb command 1) (λ e. rw e) (λ e. rw e)
  goes_on Request m r = refl
  goes_on (UserId p) m r = either (announces (ip_of p)) (λ e. rw e) (λ e. rw e (requests p (ipv4 (ip_of p)) r))
  goes_on (Name p) m r = requests p (domain (take (length m - 1) m)) r

  module _ (f : Field) (bs : List ℕ) where
    pub feed_undecided : reads f bs ≡ undecided → feed (server c) (talk_at c f) bs ≡ unmoved (waiting f bs)
    feed_undecided e = awaits f bs ∙ rw e

    module _ (n : ℕ) where
      pub feed_bad : (x : SocksError) → reads f bs ≡ decided n (bad x) → feed (server c) (talk_at c f) bs ≡ moving n (unmoved (ended (failed x)))
      feed_bad x e = awaits f bs ∙ rw e

      pub talk_due : reads f bs ≡ decided n good → feed (server c) (talk_at c f) bs ≡ moving n (feed (server c) (due_talk c (due_at c f (take n bs)) (asks_at f (take n bs))) (drop n bs))
      talk_due e = awaits f bs ∙ rw e (ap (moving n) (goes_on f (take n bs) (drop n bs)))

  -- what is due says its bytes, and goes on from its stage
  pub feed_due : (d : Due) (x : Endpoint) (bs : List ℕ) → feed (server c) (due_talk c d x) bs ≡ sending (said_by d.says) (feed (server c) (talk_from c d.stage x) bs)
  unfolding feed
  feed_due d x bs = refl

  -- such a stage stays
  pub feed_over : (s : Stage) (x : Endpoint) (bs : List ℕ) → Over s → feed (server c) (talk_from c s x) bs ≡ unmoved (session_at s x [])
  unfolding feed
  feed_over (Awaiting f) x bs o = absurd o
  feed_over (Asked v) x bs o = refl
  feed_over (Open v) x bs o = refl
  feed_over (Failed e) x bs o = refl

-- ---- the fields come to an end, and none opens

abbrev rank_of : Stage → ℕ
rank_of (Awaiting f) = rank f
rank_of (Asked v) = 0
rank_of (Open v) = 7
rank_of (Failed e) = 0

pub rank_bounds : (f : Field) → (1 ≤ rank f) × (rank f ≤ 6)
rank_bounds First = (omega arith, omega arith)
rank_bounds Methods = (omega arith, omega arith)
rank_bounds User = (omega arith, omega arith)
rank_bounds (Password right) = (omega arith, omega arith)
rank_bounds Head = (omega arith, omega arith)
rank_bounds (Address command type) = (omega arith, omega arith)
rank_bounds Request = (omega arith, omega arith)
rank_bounds (UserId p) = (omega arith, omega arith)
rank_bounds (Name p) = (omega arith, omega arith)

module _ (c : Setup) where
  falls_request : (command : ℕ) → rank_of (due_request c.authenticates command).stage ≡ 0
  falls_request command = either c.authenticates (λ e. rw e) (λ e. either (eqb command 1) (λ g. rw (e, g)) (λ g. rw (e, g)))

  falls : (f : Field) (m : List ℕ) → rank_of (due_at c f m).stage < rank f
  unfolding due_at
  falls First m = either (eqb (byte m 0) 0x05) (λ e. rw e (omega arith)) (λ e. rw e (omega arith))
  falls Methods m = either (offers (chosen c.authenticates) (drop 1 m)) (λ e. rw e (either c.authenticates (λ g. rw g (omega arith)) (λ g. rw g (omega arith)))) (λ e. rw e (omega arith))
  falls User m = omega arith
  falls (Password right) m = either (right && same (drop 1 m) c.password) (λ e. rw e (omega arith)) (λ e. rw e (omega arith))
  falls Head m = either (is_known (byte m 3)) (λ e. rw e (omega arith)) (λ e. rw e (omega arith))
  falls (Address command type) m = either (eqb command 1) (λ e. rw e (omega arith)) (λ e. rw e (omega arith))
  falls Request m = omega arith
  falls (UserId p) m = either (announces (ip_of p)) (λ e. rw e (omega arith)) (λ e. rw e (rw (falls_request p.command) (omega arith)))
  falls (Name p) m = rw (falls_request p.command) (omega arith)

  pub rank_falls : (f f' : Field) (m : List ℕ) → (due_at c f m).stage ≡ Awaiting f' → rank f' < rank f
  rank_falls f f' m e = rw e at (falls f m)

  pub never_open : (f : Field) (m : List ℕ) (v : Version) → (due_at c f m).stage ≡ Open v → ⊥
  never_open f m v e = let h = rw e at (falls f m) in let k = rank_bounds f in absurd (omega arith)
