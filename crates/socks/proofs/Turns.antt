-- Demand 1 and F-7: which call is in turn, what a refused one leaves, and what an accepted one does, of any session.
use Prim.Native.Nat.{ℕ, ◌+◌, ◌≤◌, ◌<◌}
use native.Mathlib.Omega.{arith}
use mathlib.Core.Path.{◌≡◌, refl, ap, sym, subst, ◌∙◌}
use mathlib.Core.Logic.{◌↔◌, ◌⊎◌, inl, inr}
use mathlib.Core.Bool.{Bool, true, false, cond, not, true≢false}
use mathlib.Core.List.{List, [], ◌∷◌, ◌++◌}
use lib.ListN.{length, drop, length-append, length-drop, length-take}
use lib.Seq.{drop-append_seam}
use lib.Dec.{leb, lit<}
use borrow.Author.Tests.{leb-true, not-true}
use Rattle.protocol.specs.Answers.{Accepted, Refused}
use Rattle.protocol.specs.declared.Bound.{Bound}
use Rattle.protocol.specs.declared.Outcome.TheVariants as outcomes
use Rattle.protocol.specs.declared.Reply.{Reply}
use Rattle.protocol.specs.declared.Reply.TheVariants.{NegotiationRes, AuthenticationRes, ProxyRes, Response}
use Rattle.protocol.specs.declared.SocksError.{SocksError}
use Rattle.protocol.specs.declared.SocksError.TheVariants.{ShortOutput, UnexpectedEof, Settled, NotOpen, ShortText, OutOfOrder}
use Rattle.protocol.specs.Numbers.{answer_number}
use Rattle.protocol.specs.Opening.{◌↣◌, Answers, refuse}
use Rattle.protocol.specs.Client.{client, outcome_of}
use Rattle.protocol.proofs.Openings.{clash, same_error, not_long, all_passed, checked}
use Rattle.protocol.proofs.Judged.{judged, refuses, accepts, answered, stays}
use Rattle.protocol.proofs.Rooms.{sends_most, asks_more, onward_sends}
use Rattle.address_format.specs.endpoint.Text.{bound_text}
use Rattle.address_format.specs.endpoint.Written.{TextCall, unwritten, write_text}
use Rattle.client_stages.specs.declared.due.Requests.{Requests}
use Rattle.client_stages.specs.declared.due.Stage.{Stage}
use Rattle.client_stages.specs.declared.due.Stage.TheVariants.{Awaiting, Open, Failed}
use Rattle.client_stages.specs.declared.due.Lengths.{Lengths}
use Rattle.client_stages.specs.due.Parts.{negotiation_size, authentication_size, proxy_size, requests_of, first_of}
use Rattle.client_stages.specs.due.Stages.{SideSession, view_at, rank}
use Rattle.client_stages.proofs.due.Sending.{kept_limits}
use Rattle.client_stages.specs.start.Starting.{first_size5, first_size}
use Rattle.client_stages.proofs.start.Laws.{first_part, first_fits}
use Rattle.client_stages.specs.outcome.Told.{is_open}
use Rattle.client_session.specs.declared.Session.{Session}
use Rattle.client_session.specs.Session.{side_of, view, held_bytes, packed, outcome, bound, write_bound, first_room_at, first_at, room_at}
use Rattle.client_session.proofs.Named as named
use Rattle.client_session.proofs.Deliveries.{is_over_lem}
use Rattle.client_session.specs.Calls.{Call, starts, start, takes, deliver, end}
use Rattle.socks.specs.Turns.{Tells, no_address, Untouched, InTurn, AnyInTurn}
use Rattle.talk.specs.Talk.{waiting, ended, done, failed, onward, is_over}
use Rattle.talk.specs.Tunnel.{Behind}
use Rattle.talk.proofs.Sends.{stand_at, none_sent}

-- ---- what is told of a session, by the side's session that it stands for

pub over_just : (m : SideSession) → is_over m ≡ true ↔ (outcome_of m ≡ outcomes.Waiting → ⊥)
over_just (waiting e h) = (λ q. absurd (true≢false (sym q)), λ f. absurd (f refl))
over_just (ended (done x)) = (λ q r. let z : ◌≡◌ {A = ℕ} 0 1 = cc in absurd (omega arith), λ f. refl)
over_just (ended (failed e)) = (λ q r. let z : ◌≡◌ {A = ℕ} 0 1 = cc in absurd (omega arith), λ f. refl)

not_just : (b : Bool) → not b ≡ true ↔ (b ≡ false)
not_just true = (λ q. absurd (true≢false (sym q)), λ q. absurd (true≢false q))
not_just false = (λ q. refl, λ q. refl)

not_open : (s : Session) → not (is_open s.stage) ≡ true ↔ (outcome s ≡ outcomes.Open → ⊥)
not_open s =
    let o = named.open_just s in
    (λ q r. true≢false (sym (o.1 r) ∙ not-true (is_open s.stage) q), λ f. go (is_open s.stage) (λ q. f (o.0 q)))
  where
    go : (b : Bool) → (b ≡ true → ⊥) → not b ≡ true
    go true f = absurd (f refl)
    go false f = refl

-- ---- what a session value may still send is no more than it asks

abbrev pub sends_at : Stage → Requests → ℕ
sends_at (Awaiting e) r = sends_most r.lengths.optimistic e
sends_at Open r = 0
sends_at (Failed x) r = 0

sends_room : (stage : Stage) (r : Requests) → sends_at stage r ≤ room_at stage
sends_room (Awaiting e) r = asks_more r.lengths.optimistic e
sends_room Open r = omega arith
sends_room (Failed x) r = omega arith

-- what goes first and what may then still be sent have room in 1,024 bytes
first5_room : (l : Lengths) → first_size5 l + cond l.optimistic 0 775 ≤ 1024
first5_room l = go l.optimistic
  where
    go : (o : Bool) → cond o (negotiation_size l + authentication_size l + proxy_size l) (negotiation_size l) + cond o 0 775 ≤ 1024
    go true = omega arith
    go false = omega arith

pub first_room_lem : (e : Reply) (r : Requests) → length (first_of e r) + sends_most r.lengths.optimistic e ≤ 1024
first_room_lem e r = rw (first_part e r) (omega (arith, length-take (first_size r.lengths e) r.bytes, go e))
  where
    go : (e : Reply) → first_size r.lengths e + sends_most r.lengths.optimistic e ≤ 1024
    go (NegotiationRes m) = first5_room r.lengths
    go AuthenticationRes = first5_room r.lengths
    go ProxyRes = first5_room r.lengths
    go Response = omega arith

-- 16, 22, 1 in this order
ordered : (a b : Bool) (P Q : Type 0) (m n : ℕ) → a ≡ true ↔ P → b ≡ true ↔ Q
    → Answers (answer_number (refuse a Settled (refuse b OutOfOrder (refuse (not (leb m n)) ShortOutput Accepted)))) ((P ↣ 16) ∷ (Q ↣ 22) ∷ ((n < m) ↣ 1) ∷ [])
ordered a b P Q m n p q =
    checked a P Settled 16 _ _ refl (lit< tt) p
    (checked b Q OutOfOrder 22 _ _ refl (lit< tt) q (checked (not (leb m n)) (n < m) ShortOutput 1 Accepted [] refl (lit< tt) (not_long m n) all_passed))

module _ (s : Session) where
  abbrev over : is_over (view s) ≡ true ↔ (outcome s ≡ outcomes.Waiting → ⊥)
  over = over_just (view s)

  -- ---- a start

  module _ (out : List ℕ) where
    abbrev begun : Call
    begun = starts s (first_at s.stage s.requests) out

    pub start_number : (first : ℕ) → (is_over (view s) ≡ false → s.started ≡ false → first_room_at s.stage ≡ first)
        → Answers (answer_number (start s out).answer) (((outcome s ≡ outcomes.Waiting → ⊥) ↣ 16) ∷ ((s.started ≡ true) ↣ 22) ∷ ((length out < first) ↣ 1) ∷ [])
    unfolding start
    start_number first f =
        rw (answered s out begun refl (is_over (view s)) s.started (leb (first_room_at s.stage) (length out)) (leb first (length out)) (λ p q. ap (λ (n : ℕ). leb n (length out)) (f p q)))
        (ordered (is_over (view s)) s.started _ _ first (length out) over (λ q. q, λ q. q))

    pub start_answers : (start s out).answer ≡ refuse (is_over (view s)) Settled (refuse s.started OutOfOrder (refuse (not (leb (first_room_at s.stage) (length out))) ShortOutput Accepted))
    unfolding start
    start_answers = answered s out begun refl (is_over (view s)) s.started (leb (first_room_at s.stage) (length out)) _ (λ p q. refl)

    pub start_untouched : Untouched (start s out) s out
    unfolding start
    start_untouched = refuses s out begun refl (is_over (view s)) s.started (leb (first_room_at s.stage) (length out))

    pub start_accepts : (start s out).answer ≡ Accepted → start s out ≡ begun
    unfolding start
    start_accepts p = (accepts s out begun refl (is_over (view s)) s.started (leb (first_room_at s.stage) (length out)) p).1

    pub start_behind : Behind (start s out) out
    unfolding start
    start_behind =
        stays s out begun refl (is_over (view s)) s.started (leb (first_room_at s.stage) (length out))
        (λ q. stand_at Accepted _ 0 (first_at s.stage s.requests) out (omega (arith, fits s.stage s.requests, leb-true (first_room_at s.stage) (length out) q)))
      where
        fits : (stage : Stage) (r : Requests) → length (first_at stage r) ≤ first_room_at stage
        fits (Awaiting e) r = rw (first_part e r) (omega (arith, length-take (first_size r.lengths e) r.bytes, first_fits r.lengths e))
        fits Open r = omega arith
        fits (Failed x) r = omega arith

  -- ---- a delivery

  taken : (p out : List ℕ) → (takes s p out).answer ≡ Accepted
  taken [] out = refl
  taken (b ∷ bs) out = refl

  sends_few : (stage : Stage) (b : Bound) (h more : List ℕ) → length (onward (client (requests_of s.requests)) (view_at stage b h) more).sent ≤ sends_at stage s.requests
  unfolding onward
  sends_few (Awaiting e) b h more = let l = kept_limits s.requests in onward_sends (requests_of s.requests) l.authentication l.proxy e (h ++ more)
  sends_few Open b h more = omega arith
  sends_few (Failed x) b h more = omega arith

  taken_few : (p out : List ℕ) → (takes s p out).sent ≤ sends_at s.stage s.requests
  taken_few [] out = omega arith
  taken_few (b ∷ bs) out = sends_few s.stage s.bound (held_bytes s) (b ∷ bs)

  module _ (piece out : List ℕ) where
    pub deliver_number : (next : ℕ) → (is_over (view s) ≡ false → room_at s.stage ≡ next)
        → Answers (answer_number (deliver s piece out).answer) (((outcome s ≡ outcomes.Waiting → ⊥) ↣ 16) ∷ ((s.started ≡ false) ↣ 22) ∷ ((length out < next) ↣ 1) ∷ [])
    unfolding deliver
    deliver_number next f =
        rw (answered s out (takes s piece out) (taken piece out) (is_over (view s)) (not s.started) (leb (room_at s.stage) (length out)) (leb next (length out)) (λ p q. ap (λ (n : ℕ). leb n (length out)) (f p)))
        (ordered (is_over (view s)) (not s.started) _ _ next (length out) over (not_just s.started))

    pub deliver_answers : (deliver s piece out).answer ≡ refuse (is_over (view s)) Settled (refuse (not s.started) OutOfOrder (refuse (not (leb (room_at s.stage) (length out))) ShortOutput Accepted))
    unfolding deliver
    deliver_answers = answered s out (takes s piece out) (taken piece out) (is_over (view s)) (not s.started) (leb (room_at s.stage) (length out)) _ (λ p q. refl)

    pub deliver_untouched : Untouched (deliver s piece out) s out
    unfolding deliver
    deliver_untouched = refuses s out (takes s piece out) (taken piece out) (is_over (view s)) (not s.started) (leb (room_at s.stage) (length out))

    pub deliver_accepts : (deliver s piece out).answer ≡ Accepted → deliver s piece out ≡ takes s piece out
    unfolding deliver
    deliver_accepts p = (accepts s out (takes s piece out) (taken piece out) (is_over (view s)) (not s.started) (leb (room_at s.stage) (length out)) p).1

    pub deliver_behind : Behind (deliver s piece out) out
    unfolding deliver
    deliver_behind =
        stays s out (takes s piece out) (taken piece out) (is_over (view s)) (not s.started) (leb (room_at s.stage) (length out))
        (λ q. go piece (leb-true (room_at s.stage) (length out) q))
      where
        go : (p : List ℕ) → room_at s.stage ≤ length out → Behind (takes s p out) out
        go [] h = none_sent _ s 0 out
        go (b ∷ bs) h = stand_at Accepted _ _ (onward (side_of s) (view s) (b ∷ bs)).sent out (omega (arith, sends_few s.stage s.bound (held_bytes s) (b ∷ bs), sends_room s.stage s.requests))

    pub deliver_sends : (deliver s piece out).sent ≤ sends_at s.stage s.requests
    unfolding deliver
    deliver_sends = go (is_over (view s)) (not s.started) (leb (room_at s.stage) (length out))
      where
        go : (a b c : Bool) → (judged s out (takes s piece out) (taken piece out) a b c).sent ≤ sends_at s.stage s.requests
        go true b c = omega arith
        go false true c = omega arith
        go false false true = taken_few piece out
        go false false false = omega arith

    deliver_keeps : (deliver s piece out).session.started ≡ s.started
    unfolding deliver
    deliver_keeps = go (is_over (view s)) (not s.started) (leb (room_at s.stage) (length out)) piece
      where
        go : (a b c : Bool) (p : List ℕ) → (judged s out (takes s p out) (taken p out) a b c).session.started ≡ s.started
        go true b c p = refl
        go false true c p = refl
        go false false true [] = refl
        go false false true (b ∷ bs) = refl
        go false false false p = refl

  -- ---- an end

  abbrev ending : Call
  ending = record { answer = Accepted; session = packed s (ended (failed UnexpectedEof)); used = 0; sent = 0; output = [] }

  pub end_number : Answers (answer_number (end s).answer) (((outcome s ≡ outcomes.Waiting → ⊥) ↣ 16) ∷ ((s.started ≡ false) ↣ 22) ∷ [])
  unfolding end
  end_number =
      rw (answered s [] ending refl (is_over (view s)) (not s.started) true true (λ p q. refl))
      (checked (is_over (view s)) _ Settled 16 _ _ refl (lit< tt) over (checked (not s.started) _ OutOfOrder 22 Accepted [] refl (lit< tt) (not_just s.started) all_passed))

  pub end_answers : (end s).answer ≡ refuse (is_over (view s)) Settled (refuse (not s.started) OutOfOrder Accepted)
  unfolding end
  end_answers = answered s [] ending refl (is_over (view s)) (not s.started) true true (λ p q. refl)

  pub end_untouched : Untouched (end s) s []
  unfolding end
  end_untouched = refuses s [] ending refl (is_over (view s)) (not s.started) true

  pub end_accepts : (end s).answer ≡ Accepted → end s ≡ ending
  unfolding end
  end_accepts p = (accepts s [] ending refl (is_over (view s)) (not s.started) true p).1

  -- ---- F-1: a bound address's text

  module _ (buffer : List ℕ) where
    abbrev texted : Bool → Bool → TextCall
    texted a b =
        cond a (cond b (record { answer = Accepted; len = length (bound_text (bound s)); buffer = bound_text (bound s) ++ drop (length (bound_text (bound s))) buffer }) (unwritten ShortText buffer))
        (unwritten NotOpen buffer)

    pub text_number : Answers (answer_number (write_bound s buffer).answer) (((outcome s ≡ outcomes.Open → ⊥) ↣ 17) ∷ ((length buffer < length (bound_text (bound s))) ↣ 18) ∷ [])
    unfolding write_bound
    text_number =
        rw (go (is_open s.stage) (leb (length (bound_text (bound s))) (length buffer)))
        (checked (not (is_open s.stage)) _ NotOpen 17 _ _ refl (lit< tt) (not_open s)
        (checked (not (leb (length (bound_text (bound s))) (length buffer))) _ ShortText 18 Accepted [] refl (lit< tt) (not_long (length (bound_text (bound s))) (length buffer)) all_passed))
      where
        go : (a b : Bool) → (texted a b).answer ≡ refuse (not a) NotOpen (refuse (not b) ShortText Accepted)
        go true true = refl
        go true false = refl
        go false b = refl

    text_untouched : (e : SocksError) → (write_bound s buffer).answer ≡ Refused e → write_bound s buffer ≡ unwritten e buffer
    unfolding write_bound
    text_untouched e = go (is_open s.stage) (leb (length (bound_text (bound s))) (length buffer))
      where
        go : (a b : Bool) → (texted a b).answer ≡ Refused e → texted a b ≡ unwritten e buffer
        go true true p = absurd (clash p)
        go true false p = rw (same_error p)
        go false b p = rw (same_error p)

    text_writes : (write_bound s buffer).answer ≡ Accepted → write_bound s buffer ≡ write_text (bound_text (bound s)) buffer
    unfolding write_bound
    text_writes = go (is_open s.stage)
      where
        go : (a : Bool) → (cond a (write_text (bound_text (bound s)) buffer) (unwritten NotOpen buffer)).answer ≡ Accepted
            → cond a (write_text (bound_text (bound s)) buffer) (unwritten NotOpen buffer) ≡ write_text (bound_text (bound s)) buffer
        go true p = refl
        go false p = absurd (clash (sym p))

    text_leaves : (drop (write_bound s buffer).len (write_bound s buffer).buffer ≡ drop (write_bound s buffer).len buffer) × (length (write_bound s buffer).buffer ≡ length buffer)
    unfolding write_bound
    text_leaves = go (is_open s.stage) (leb (length (bound_text (bound s))) (length buffer)) refl
      where
        go : (a b : Bool) → leb (length (bound_text (bound s))) (length buffer) ≡ b
            → (drop (texted a b).len (texted a b).buffer ≡ drop (texted a b).len buffer) × (length (texted a b).buffer ≡ length buffer)
        go true true q =
            let t = bound_text (bound s) in
            let h = leb-true (length t) (length buffer) q in
            (drop-append_seam t (drop (length t) buffer), omega (arith, length-append t (drop (length t) buffer), length-drop (length t) buffer))
        go true false q = (refl, refl)
        go false b q = (refl, refl)

-- ---- together

pub in_turn : (first next : ℕ) (s : Session) → (is_over (view s) ≡ false → s.started ≡ false → first_room_at s.stage ≡ first) → (is_over (view s) ≡ false → room_at s.stage ≡ next) → InTurn first next s
in_turn first next s f g =
    record {
      start_number = λ out. start_number s out first f;
      deliver_number = λ piece out. deliver_number s piece out next g;
      end_number = end_number s;
      start_untouched = start_untouched s;
      deliver_untouched = deliver_untouched s;
      end_untouched = end_untouched s;
      start_marks = λ out p. ap (λ (c : Call). c.session.started) (start_accepts s out p);
      start_keeps = λ out p. subst (λ (c : Call). Tells c.session (outcome s) (bound s) s.attempts s.held) (sym (start_accepts s out p)) (record { outcomes = refl; bounds = refl; attempts = refl; holds = refl });
      deliver_keeps = deliver_keeps s;
      nothing = λ out p. deliver_accepts s [] out p;
      end_fails = λ p. subst (λ (c : Call). Tells c.session (outcomes.Failed UnexpectedEof) no_address s.attempts 0) (sym (end_accepts s p)) (record { outcomes = refl; bounds = refl; attempts = refl; holds = refl });
      end_nine = λ p. rw (end_accepts s p);
      start_behind = start_behind s;
      deliver_behind = deliver_behind s;
      text_number = text_number s;
      text_untouched = text_untouched s;
      text_writes = text_writes s;
      text_behind = λ buffer. (text_leaves s buffer).0;
      text_size = λ buffer. (text_leaves s buffer).1;
    }

-- every session value asks as one of v5 or one of v4 does
over_stage : (s : Session) → rank s.stage ≡ 0 → is_over (view s) ≡ false → ⊥
over_stage s z v = true≢false (sym (is_over_lem s.stage s.bound (held_bytes s) z) ∙ v)

pub any_in_turn : AnyInTurn
any_in_turn s = go s.stage refl
  where
    go : (stage : Stage) → s.stage ≡ stage → InTurn 778 778 s ⊎ InTurn 1024 262 s
    go (Awaiting (NegotiationRes m)) q = inl (in_turn 778 778 s (λ v g. ap first_room_at q) (λ v. ap room_at q))
    go (Awaiting AuthenticationRes) q = inl (in_turn 778 778 s (λ v g. ap first_room_at q) (λ v. ap room_at q))
    go (Awaiting ProxyRes) q = inl (in_turn 778 778 s (λ v g. ap first_room_at q) (λ v. ap room_at q))
    go (Awaiting Response) q = inr (in_turn 1024 262 s (λ v g. ap first_room_at q) (λ v. ap room_at q))
    go Open q = inl (in_turn 778 778 s (λ v g. absurd (over_stage s (ap rank q) v)) (λ v. absurd (over_stage s (ap rank q) v)))
    go (Failed x) q = inl (in_turn 778 778 s (λ v g. absurd (over_stage s (ap rank q) v)) (λ v. absurd (over_stage s (ap rank q) v)))
