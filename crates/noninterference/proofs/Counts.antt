-- How many bytes a session has sent by its stage: once it is open, all its requests have gone.
use Prim.Native.Nat.{ℕ, ◌+◌, ◌≤◌}
use native.Mathlib.Nat.{add-zero}
use native.Mathlib.Omega.{arith}
use mathlib.Core.Path.{◌≡◌, refl, ap, sym, ◌∙◌, subst}
use mathlib.Core.Bool.{Bool, true, false, cond}
use mathlib.Core.List.{List, [], ◌∷◌, ◌++◌}
use lib.ListN.{length, take, drop, length-append}
use lib.Seq.{take-append_seam}
use lib.Dec.{leb}
use Rattle.protocol.specs.declared.AuthMethod.TheVariants.{NoAuth, UserPass, NoneAcceptable}
use Rattle.protocol.specs.declared.Reply.{Reply}
use Rattle.protocol.specs.declared.Reply.TheVariants.{NegotiationRes, AuthenticationRes, ProxyRes, Response}
use Rattle.protocol.specs.declared.SocksError.{SocksError}
use Rattle.protocol.specs.declared.SocksError.TheVariants.{ShortOutput}
use Rattle.protocol.specs.Answers.{Good, Bad, Decision, Undecided, Decided}
use Rattle.protocol.specs.Bound.{Endpoint}
use Rattle.protocol.specs.Replies.{decide}
use Rattle.protocol.specs.Client.{Kept, ClientTalk, due, at_proxy_res, at_authentication_res, talk_at, told, client, room}
use Rattle.client_stages.specs.declared.due.Lengths.{Lengths}
use Rattle.client_stages.specs.declared.due.Stage.{Stage}
use Rattle.client_stages.specs.declared.due.Stage.TheVariants.{Awaiting, Open, Failed}
use Rattle.client_stages.specs.due.Parts.{negotiation_size, authentication_size, proxy_size, requests_of}
use Rattle.client_stages.specs.due.Stages.{SideSession, SideFed, stage_of}
use Rattle.client_session.specs.declared.Session.{Session}
use Rattle.client_session.specs.Session.{held_bytes}
use Rattle.client_session.specs.Calls.{Call, refusal, moves, takes, deliver, end}
use Rattle.talk.specs.Talk.{done, failed, stop, send, await, waiting, ended, onward, feed, deciding}
use Rattle.talk.specs.Attempts.{attempts_by}
use Rattle.noninterference.proofs.Bytes.{part_long}

-- of so many in all, what may still follow is due at a reply; optimistically nothing is
abbrev pub Left : Lengths → ℕ → Reply → ℕ → Type 0
Left l t (NegotiationRes NoAuth) n = n + cond l.optimistic 0 (proxy_size l) ≡ t
Left l t (NegotiationRes UserPass) n = n + cond l.optimistic 0 (authentication_size l + proxy_size l) ≡ t
Left l t (NegotiationRes NoneAcceptable) n = Unit {0}
Left l t AuthenticationRes n = n + cond l.optimistic 0 (proxy_size l) ≡ t
Left l t ProxyRes n = n ≡ t
Left l t Response n = n ≡ t

abbrev pub SideLeft : Lengths → ℕ → SideSession → ℕ → Type 0
SideLeft l t (waiting e h) n = Left l t e n
SideLeft l t (ended (done x)) n = n ≡ t
SideLeft l t (ended (failed x)) n = Unit {0}

abbrev pub LeftAt : Lengths → ℕ → Stage → ℕ → Type 0
LeftAt l t (Awaiting e) n = Left l t e n
LeftAt l t Open n = n ≡ t
LeftAt l t (Failed x) n = Unit {0}

data Whole (l : Lengths) (t : ℕ) : ℕ → ClientTalk → Type 0 where
  fails : {n : ℕ} (x : SocksError) → Whole l t n (stop (failed x))
  opens : {n : ℕ} (x : Endpoint) → n ≡ t → Whole l t n (stop (done x))
  sends : {n : ℕ} {q : List ℕ} {u : ClientTalk} → Whole l t (n + length q) u → Whole l t n (send q u)
  awaits : {n : ℕ} (e : Reply) {k : List ℕ → ClientTalk} → Left l t e n → ((m : List ℕ) → Whole l t n (k m)) → Whole l t n (await e k)

module _ (l : Lengths) (t : ℕ) where
  abbrev Fits : ℕ → SideFed → Type 0
  Fits n f = SideLeft l t f.session (n + length f.sent)

  feed_whole : (c : Kept) (n : ℕ) (u : ClientTalk) → Whole l t n u → (bs : List ℕ) → Fits n (feed (client c) u bs)
  unfolding feed
  feed_whole c n _ (fails x) bs = tt
  feed_whole c n _ (opens x e) bs = add-zero n ∙ e
  feed_whole c n _ (sends {q = q} {u = u} w) bs =
      let z : n + length q + length (feed (client c) u bs).sent ≡ n + length (q ++ (feed (client c) u bs).sent) = omega (arith, length-append q (feed (client c) u bs).sent) in
      subst (λ (m : ℕ). SideLeft l t (feed (client c) u bs).session m) z (feed_whole c (n + length q) u w bs)
  feed_whole c n _ (awaits e {k = k} s w) bs = go (decide e bs) (λ m. feed_whole c n (k (take m bs)) (w (take m bs)) (drop m bs))
    where
      go : (v : Decision) → ((m : ℕ) → Fits n (feed (client c) (k (take m bs)) (drop m bs)))
          → Fits n (deciding (told v) (waiting e bs) (λ m. feed (client c) (k (take m bs)) (drop m bs)))
      go Undecided ih = subst (λ (m : ℕ). Left l t e m) (sym (add-zero n)) s
      go (Decided m Good) ih = ih m
      go (Decided m (Bad x)) ih = tt

  -- ---- the talks of requests

  proxy_whole : (n : ℕ) → n ≡ t → Whole l t n at_proxy_res
  proxy_whole n e = awaits ProxyRes e (λ m. opens _ e)

  due_proxy : (o : Bool) (n : ℕ) (q : List ℕ) → length q ≡ proxy_size l → n + cond o 0 (proxy_size l) ≡ t → Whole l t n (due o q at_proxy_res)
  due_proxy true n q k e = proxy_whole n (sym (add-zero n) ∙ e)
  due_proxy false n q k e = sends (proxy_whole (n + length q) (ap (λ (m : ℕ). n + m) k ∙ e))

  module _ (bs : List ℕ) (long : 778 ≤ length bs) where
    abbrev kept : Kept
    kept = requests_of (record { lengths = l; bytes = bs })

    proxy_long : length kept.proxy ≡ proxy_size l
    proxy_long = part_long bs (negotiation_size l + authentication_size l) (proxy_size l) (omega arith)

    authentication_long : length kept.authentication ≡ authentication_size l
    authentication_long = part_long bs (negotiation_size l) (authentication_size l) (omega arith)

    authentication_whole : (n : ℕ) → Left l t AuthenticationRes n → Whole l t n (at_authentication_res kept)
    authentication_whole n e = awaits AuthenticationRes e (λ m. due_proxy l.optimistic n kept.proxy proxy_long e)

    due_authentication : (o : Bool) → l.optimistic ≡ o → (n : ℕ) → n + cond o 0 (authentication_size l + proxy_size l) ≡ t → Whole l t n (due o kept.authentication (at_authentication_res kept))
    due_authentication true p n e = authentication_whole n (ap (λ (o : Bool). n + cond o 0 (proxy_size l)) p ∙ e)
    due_authentication false p n e =
        sends (authentication_whole (n + length kept.authentication) (ap (λ (o : Bool). n + length kept.authentication + cond o 0 (proxy_size l)) p ∙ omega (arith, authentication_long, e)))

    talk_whole : (e : Reply) (n : ℕ) → Left l t e n → Whole l t n (talk_at kept e)
    talk_whole (NegotiationRes NoAuth) n s = awaits (NegotiationRes NoAuth) s (λ m. due_proxy l.optimistic n kept.proxy proxy_long s)
    talk_whole (NegotiationRes UserPass) n s = awaits (NegotiationRes UserPass) s (λ m. due_authentication l.optimistic refl n s)
    talk_whole (NegotiationRes NoneAcceptable) n s = awaits (NegotiationRes NoneAcceptable) s (λ m. fails _)
    talk_whole AuthenticationRes n s = authentication_whole n s
    talk_whole ProxyRes n s = proxy_whole n s
    talk_whole Response n s = awaits Response s (λ m. opens _ s)

-- ---- a delivery

abbrev at : Stage → Bool → Session → Session
at stage b s = record { stage = stage; started = b; held = s.held; hold = s.hold; bound = s.bound; attempts = s.attempts; requests = s.requests }

-- the requests stay, and so many bytes have gone
pub record Counts (t n : ℕ) (s : Session) (c : Call) : Type 0 where
  pub started : c.session.started ≡ s.started
  pub requests : c.session.requests ≡ s.requests
  pub left : LeftAt s.requests.lengths t c.session.stage (n + length (take c.sent c.output))

-- and at the end of the stream, which sends nothing
pub record EndCounts (t n : ℕ) (s : Session) (c : Call) : Type 0 where
  pub started : c.session.started ≡ s.started
  pub requests : c.session.requests ≡ s.requests
  pub left : LeftAt s.requests.lengths t c.session.stage (n + 0)

module _ (t n : ℕ) where
  left_on : (l : Lengths) (m : SideSession) (k : ℕ) → SideLeft l t m k → LeftAt l t (stage_of m) k
  left_on l (waiting e h) k s = s
  left_on l (ended (done x)) k s = s
  left_on l (ended (failed x)) k s = tt

  abbrev Has : Session → Type 0
  Has s = LeftAt s.requests.lengths t s.stage n

  still : (s : Session) → Has s → LeftAt s.requests.lengths t s.stage (n + 0)
  still s g = subst (λ (k : ℕ). LeftAt s.requests.lengths t s.stage k) (sym (add-zero n)) g

  moves_counts : (s : Session) (e : Reply) (f : SideFed) (i : ℕ) (out : List ℕ) → SideLeft s.requests.lengths t f.session (n + length f.sent)
      → Counts t n (at (Awaiting e) true s) (moves (at (Awaiting e) true s) f i out)
  moves_counts s e f i out w =
      let l = s.requests.lengths in
      let z : n + length f.sent ≡ n + length (take (length f.sent) (f.sent ++ drop (length f.sent) out)) = ap (λ (q : List ℕ). n + length q) (sym (take-append_seam f.sent (drop (length f.sent) out))) in
      record { started = refl; requests = refl; left = subst (λ (k : ℕ). LeftAt l t (stage_of f.session) k) z (left_on l f.session (n + length f.sent) w) }

  takes_counts : (s : Session) (e : Reply) → 778 ≤ length s.requests.bytes → Has (at (Awaiting e) true s) → (piece out : List ℕ)
      → Counts t n (at (Awaiting e) true s) (takes (at (Awaiting e) true s) piece out)
  unfolding onward
  takes_counts s e long g [] out = record { started = refl; requests = refl; left = still (at (Awaiting e) true s) g }
  takes_counts s e long g (b ∷ more) out =
      let l = s.requests.lengths in
      let k = requests_of s.requests in
      moves_counts s e (feed (client k) (talk_at k e) (held_bytes s ++ (b ∷ more))) (attempts_by (client k) (waiting e (held_bytes s)) (b ∷ more)) out
      (feed_whole l t k n (talk_at k e) (talk_whole l t s.requests.bytes long e n g) (held_bytes s ++ (b ∷ more)))

  deliver_at : (s : Session) (stage : Stage) (b : Bool) → 778 ≤ length s.requests.bytes → Has (at stage b s) → (piece out : List ℕ)
      → Counts t n (at stage b s) (deliver (at stage b s) piece out)
  unfolding deliver
  deliver_at s (Awaiting e) false long g piece out = record { started = refl; requests = refl; left = still (at (Awaiting e) false s) g }
  deliver_at s (Awaiting e) true long g piece out = go (leb (room e) (length out))
    where
      go : (k : Bool) → Counts t n (at (Awaiting e) true s) (cond k (takes (at (Awaiting e) true s) piece out) (refusal ShortOutput (at (Awaiting e) true s) out))
      go true = takes_counts s e long g piece out
      go false = record { started = refl; requests = refl; left = still (at (Awaiting e) true s) g }
  deliver_at s Open b long g piece out = record { started = refl; requests = refl; left = still (at Open b s) g }
  deliver_at s (Failed x) b long g piece out = record { started = refl; requests = refl; left = tt }

  pub deliver_counts : (s : Session) → 778 ≤ length s.requests.bytes → Has s → (piece out : List ℕ) → Counts t n s (deliver s piece out)
  deliver_counts s long g piece out = deliver_at s s.stage s.started long g piece out

  -- ---- end of stream

  end_at : (s : Session) (stage : Stage) (b : Bool) → Has (at stage b s) → EndCounts t n (at stage b s) (end (at stage b s))
  unfolding end
  end_at s (Awaiting e) true g = record { started = refl; requests = refl; left = tt }
  end_at s (Awaiting e) false g = record { started = refl; requests = refl; left = still (at (Awaiting e) false s) g }
  end_at s Open b g = record { started = refl; requests = refl; left = still (at Open b s) g }
  end_at s (Failed x) b g = record { started = refl; requests = refl; left = tt }

  pub end_counts : (s : Session) → Has s → EndCounts t n s (end s)
  end_counts s g = end_at s s.stage s.started g
