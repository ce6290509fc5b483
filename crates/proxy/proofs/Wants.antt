-- What the end wants after deliveries, by the plain machine; that a piece of no more is used up at the question; and what any end wants.
use Prim.Native.Nat.{ℕ, ◌+◌, ◌≤◌}
use native.Mathlib.Omega.{arith}
use mathlib.Core.Path.{◌≡◌, refl, ap, sym, subst, ◌∙◌}
use mathlib.Core.Bool.{Bool, true, false, true≢false, cond}
use mathlib.Core.List.{List, [], ◌∷◌}
use lib.ListN.{length}
use lib.Dec.{leb, ltb, lit≤}
use borrow.Author.Tests.{ltb-false}
use Rattle.std.proofs.lemmas.Bool.{or_parts}
use Rattle.protocol.specs.Answers.{Accepted}
use Rattle.protocol.specs.declared.SocksError.TheVariants.{ShortOutput, Settled}
use Rattle.protocol.specs.Bytes.{Bytes}
use Rattle.protocol.specs.Bound.{Endpoint}
use Rattle.protocol.proofs.Openings.{clash}
use Rattle.proxy_spec.specs.declared.Field.TheVariants.{First}
use Rattle.proxy_spec.specs.declared.Stage.{Stage}
use Rattle.proxy_spec.specs.declared.Stage.TheVariants as stage
use Rattle.proxy_spec.specs.End as plain
use Rattle.proxy_spec.specs.End.{Setup, machine}
use Rattle.proxy_spec.specs.Side.{EndSession, talk_at, server}
use Rattle.proxy_spec.specs.Wants.{WantedBy}
use Rattle.proxy_spec.specs.Shortest.{wants_by}
use Rattle.proxy_spec.proofs.WantingLogin.{Sendable}
use Rattle.proxy_spec.proofs.Wants as side
use Rattle.proxy_spec.proofs.Wants.{wanted_alike, wants_some}
use Rattle.proxy_spec.proofs.Open.{zeros}
use Rattle.proxy_decisions.specs.decision.Due.{session_at}
use Rattle.proxy_replies.specs.declared.stages.Outcome.TheVariants.{Asked, Open, Failed}
use Rattle.proxy_replies.specs.stages.Told.{outcome_at}
use Rattle.proxy_delivery.specs.piece.Pieces.{stage_of}
use Rattle.proxy_session.specs.declared.Server.{Server}
use Rattle.proxy_session.specs.Server.{setup_of, side_of, held_bytes, asked_for, view, outcome, wants}
use Rattle.proxy_session.specs.Calls.{refusal, too_long, set_up, takes, deliver}
use Rattle.proxy.specs.Served.{setup_for, tunnel_of, joined_of}
use Rattle.proxy.specs.Wants.{Wanting, WantsSome, AllWanting}
use Rattle.proxy.proofs.Tunnels.{stands_fed, machine_without, kept, new, kept_back, set_up_lem}
use Rattle.talk.specs.Talk.{done, failed, waiting, ended, feed, onward, held_by, is_over, reached}
use Rattle.talk.specs.Tunnel.{Delivery}

-- ---- of any end

pub any_wants : (s : Server) → WantsSome s
any_wants s = go s.stage
  where
    go : (t : Stage) → WantsSome (record { stage = t; held = s.held; hold = s.hold; bound = s.bound; authenticates = s.authenticates; user = s.user; password = s.password })
    go (stage.Awaiting f) = record { none = λ n. absurd (n refl); some = λ q. wants_some (setup_of s) f (held_bytes s) }
    go (stage.Asked v) = record { none = λ n. refl; some = λ q. let z : ◌≡◌ {A = ℕ} 0 1 = cc in absurd (omega arith) }
    go (stage.Open v) = record { none = λ n. refl; some = λ q. let z : ◌≡◌ {A = ℕ} 0 1 = cc in absurd (omega arith) }
    go (stage.Failed e) = record { none = λ n. refl; some = λ q. let z : ◌≡◌ {A = ℕ} 0 1 = cc in absurd (omega arith) }

-- ---- of one that stands for the talk fed with bytes

asked_of : (m : EndSession) → outcome_at (stage_of m) ≡ Asked → (x : plain.Asked) × (m ≡ ended (done x))
asked_of (waiting f h) q = let z : ◌≡◌ {A = ℕ} 0 1 = cc in absurd (omega arith)
asked_of (ended (done x)) q = (x, refl)
asked_of (ended (failed e)) q = let z : ◌≡◌ {A = ℕ} 0 1 = cc in absurd (omega arith)

unasked : (t : Stage) (x : Endpoint) (h : List ℕ) → is_over (session_at t x h) ≡ false → outcome_at t ≡ Asked → ⊥
unasked (stage.Awaiting f) x h o q = let z : ◌≡◌ {A = ℕ} 0 1 = cc in omega arith
unasked (stage.Asked v) x h o q = true≢false o
unasked (stage.Open v) x h o q = true≢false o
unasked (stage.Failed e) x h o q = true≢false o

over_none : (c : Setup) (m : EndSession) → is_over m ≡ true → wants_by c m ≡ 0
over_none c (waiting f h) o = absurd (true≢false (sym o))
over_none c (ended e) o = refl

module _ (e : Server) (J : List ℕ) (k : Sendable (setup_of e)) (q : view e ≡ (feed (side_of e) (talk_at (setup_of e) First) J).session) where
  wanted_here : WantedBy (setup_of e) J (wants e)
  wanted_here = subst (λ (m : EndSession). WantedBy (setup_of e) J (wants_by (setup_of e) m)) (sym q) (side.wanted (setup_of e) k J)

  piece_used : (piece : List ℕ) → Bytes piece → (m : EndSession) → view e ≡ m → length piece ≤ wants_by (setup_of e) m → is_over m ≡ false
      → (x : plain.Asked) → (onward (side_of e) m piece).session ≡ ended (done x) → reached (onward (side_of e) m piece) ≡ length (held_by m) + length piece
  piece_used piece y (waiting f h) v l o x d = side.never_past (setup_of e) k J f h (sym q ∙ v) piece y l x d
  piece_used piece y (ended r) v l o x d = absurd (true≢false o)

  takes_used : (piece out : List ℕ) → Bytes piece → length piece ≤ wants e → is_over (view e) ≡ false → outcome (takes e piece out).session ≡ Asked → (takes e piece out).used ≡ length piece
  takes_used [] out y l o z = refl
  takes_used (b ∷ bs) out y l o z =
      let (x, d) = asked_of (onward (side_of e) (view e) (b ∷ bs)).session z in
      omega (arith, piece_used (b ∷ bs) y (view e) refl l o x d)

  never_past : (piece out : List ℕ) → Bytes piece → length piece ≤ wants e → outcome (deliver e piece out).session ≡ Asked → (deliver e piece out).used ≡ length piece
  unfolding deliver
  never_past piece out y l = go (is_over (view e)) (leb 262 (length out)) refl
    where
      go : (a b : Bool) → is_over (view e) ≡ a → outcome (cond a (refusal Settled e out) (cond b (takes e piece out) (refusal ShortOutput e out))).session ≡ Asked
          → (cond a (refusal Settled e out) (cond b (takes e piece out) (refusal ShortOutput e out))).used ≡ length piece
      go true b o z = omega (arith, over_none (setup_of e) (view e) o)
      go false true o z = takes_used piece out y l o z
      go false false o z = absurd (unasked e.stage (asked_for e) (held_bytes e) o z)

-- ---- of what set-up returned

kept_sendable : (authenticates : Bool) (user password : List ℕ) → Bytes user → Bytes password → too_long authenticates user password ≡ false → Sendable (kept authenticates user password)
kept_sendable true user password u p q =
    let (a, b) = or_parts (ltb 255 (length user)) (ltb 255 (length password)) q in
    record { user = u; password = p; user_fits = ltb-false 255 (length user) a; password_fits = ltb-false 255 (length password) b }
kept_sendable false user password u p q = record { user = zeros 0; password = zeros 0; user_fits = lit≤ tt; password_fits = lit≤ tt }

module _ (authenticates : Bool) (user password : List ℕ) (u : Bytes user) (p : Bytes password) where
  wanting : too_long authenticates user password ≡ false → (ds : List Delivery) → Wanting (setup_for authenticates user password) (new authenticates user password) ds
  wanting f ds =
      let c = kept authenticates user password in
      let s = new authenticates user password in
      let J = joined_of ds in
      let e = (tunnel_of s ds).session in
      let a = stands_fed c s (record { set = kept_back authenticates user password; seen = refl; staged = refl }) ds in
      let k : Sendable (setup_of e) = subst Sendable (sym a.set) (kept_sendable authenticates user password u p f) in
      let q : view e ≡ (feed (side_of e) (talk_at (setup_of e) First) J).session = subst (λ (d : Setup). view e ≡ (feed (server d) (talk_at d First) J).session) (sym a.set) a.seen in
      record {
        wanted = wanted_alike (setup_of e) (setup_for authenticates user password) (λ bs. ap (λ (d : Setup). machine d bs) a.set ∙ machine_without authenticates user password bs) J (wants e) (wanted_here e J k q);
        never_past = never_past e J k q;
      }

  accepted : (b : Bool) → too_long authenticates user password ≡ b → (set_up_lem authenticates user password b).answer ≡ Accepted → (ds : List Delivery)
      → Wanting (setup_for authenticates user password) (set_up_lem authenticates user password b).server ds
  accepted true f q ds = absurd (clash (sym q))
  accepted false f q ds = wanting f ds

pub all_wanting : AllWanting
unfolding set_up
all_wanting authenticates user password u p q ds = accepted authenticates user password u p (too_long authenticates user password) refl q ds
