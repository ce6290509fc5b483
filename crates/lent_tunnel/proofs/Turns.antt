-- The numbers that the calls on lent bytes answer, and what refused ones leave.
use Prim.Native.Nat.{ℕ}
use native.Mathlib.Omega.{arith}
use mathlib.Core.Path.{◌≡◌, refl, ap, sym, subst, ◌∙◌}
use mathlib.Core.Logic.{◌↔◌, ◌⊎◌, inl, inr}
use mathlib.Core.Bool.{Bool, true, false, true≢false, not}
use mathlib.Core.List.{List, [], ◌∷◌}
use lib.ListN.{length}
use lib.Dec.{leb, lit<}
use Rattle.protocol.specs.Answers.{Answer, Accepted, Refused}
use Rattle.protocol.specs.declared.Address.{Address}
use Rattle.protocol.specs.declared.Outcome.{Outcome}
use Rattle.protocol.specs.declared.Outcome.TheVariants as outcomes
use Rattle.protocol.specs.declared.Reply.TheVariants.{NegotiationRes, AuthenticationRes, ProxyRes, Response}
use Rattle.protocol.specs.declared.SocksError.{SocksError}
use Rattle.protocol.specs.declared.SocksError.TheVariants.{ShortOutput, Settled, OutOfOrder}
use Rattle.protocol.specs.Client as client
use Rattle.protocol.specs.Numbers.{answer_number}
use Rattle.protocol.specs.Opening.{Condition, ◌↣◌, conditions5, conditions4, First, Answers, refuse}
use Rattle.protocol.proofs.Openings.{all_passed, checked}
use Rattle.protocol.proofs.Limits.{number_accepted}
use Rattle.client_stages.specs.declared.due.Stage.{Stage}
use Rattle.client_stages.specs.declared.due.Stage.TheVariants.{Awaiting, Open, Failed}
use Rattle.client_stages.specs.due.Stages.{SideSession}
use Rattle.client_session.specs.declared.Session.{Session}
use Rattle.client_session.specs.declared.Prepared.{Prepared}
use Rattle.client_session.specs.Session.{view, outcome, bound, first_room_at, room_at, write_bound}
use Rattle.client_session.specs.Calls.{Call, refusal, prepare5, prepare4, start, deliver, end}
use Rattle.socks.specs.Turns.{Tells, Preparing, InTurn}
use Rattle.socks.proofs.Refusals.{preparing5, preparing4}
use Rattle.socks.proofs.Turns.{start_answers, start_untouched, start_accepts, deliver_answers, end_answers, end_untouched, end_accepts, any_in_turn}
use Rattle.lent_numbers.specs.told.Told.{outcome_of}
use Rattle.lent_session.specs.Fits.{Fits}
use Rattle.raw_errors.specs.Errors.{error_of, error_among}
use Rattle.lent_numbers.specs.bytes.Numbers.{number}
use Rattle.lent_session.proofs.Writing.{state_back}
use Rattle.lent_session.proofs.delivery.Leaving.{fits_at}
use Rattle.lent_session.specs.State.{stage_of, stage_at, session_at, state_of}
use Rattle.lent_session.specs.Given.{given5, given4}
use Rattle.lent_session.specs.Calls.{left_by, address_of}
use Rattle.lent_tunnel.specs.Demand3.{returned}
use Rattle.lent_tunnel.specs.Turns.{LentTells, Untouched, LentInTurn, LentTurns, LentPreparing, LentPrepares, Zeros}
use Rattle.raw_records.proofs.Sixteen.{sixteen}
use Rattle.lent_tunnel.proofs.Kept.{start_fits, end_fits}
use Rattle.lent_tunnel.proofs.Openings.{fits5, fits4}
use Rattle.talk.specs.Talk.{waiting, ended, done, failed, is_over}

-- ---- the conditions, in numbers

pub over_just : (m : SideSession) → is_over m ≡ true ↔ ((outcome_of (client.outcome_of m)).state ≡ 0 → ⊥)
over_just (waiting e h) = (λ q. absurd (true≢false (sym q)), λ n. absurd (n refl))
over_just (ended (done x)) = (λ q e. omega arith, λ n. refl)
over_just (ended (failed e)) = (λ q e. omega arith, λ n. refl)

pub truth_just : (b : Bool) → not b ≡ true ↔ (b ≡ false)
truth_just true = (λ q. sym q, λ q. sym q)
truth_just false = (λ q. refl, λ q. refl)

-- a condition told in other words
pub same_first : {n m : ℕ} {P Q : Type 0} {cs : List Condition} → P ↔ Q → Answers n ((Q ↣ m) ∷ cs) → Answers n ((P ↣ m) ∷ cs)
same_first {n} {m} {P} {Q} {cs} e a =
    record {
      accepts = (λ q. let z = a.accepts.0 q in (λ x. z.0 (e.0 x), z.1), λ z. a.accepts.1 (λ y. z.0 (e.1 y), z.1));
      refuses = λ k h. (λ q. to k ((a.refuses k h).0 q), λ f. (a.refuses k h).1 (back k f));
    }
  where
    to : (k : ℕ) → First k ((Q ↣ m) ∷ cs) → First k ((P ↣ m) ∷ cs)
    to k (inl (y, q)) = inl (e.1 y, q)
    to k (inr (f, r)) = inr (λ x. f (e.0 x), r)

    back : (k : ℕ) → First k ((P ↣ m) ∷ cs) → First k ((Q ↣ m) ∷ cs)
    back k (inl (x, q)) = inl (e.0 x, q)
    back k (inr (f, r)) = inr (λ y. f (e.1 y), r)

pub same_conditions : {n m : ℕ} {P Q : Type 0} {cs : List Condition} → P ↔ Q → Answers n (((Q → ⊥) ↣ m) ∷ cs) → Answers n (((P → ⊥) ↣ m) ∷ cs)
same_conditions e = same_first (λ f y. f (e.1 y), λ f x. f (e.0 x))

-- one behind it that does not hold
pub drop_last : {n m : ℕ} {c : Condition} {P : Type 0} → Answers n (c ∷ (P ↣ m) ∷ []) → (P → ⊥) → Answers n (c ∷ [])
drop_last {n} {m} {c} {P} a f =
    record {
      accepts = (λ q. let z = a.accepts.0 q in (z.0, tt), λ z. a.accepts.1 (z.0, (f, tt)));
      refuses = λ k h. (λ q. to k ((a.refuses k h).0 q), λ r. (a.refuses k h).1 (back k r));
    }
  where
    to : (k : ℕ) → First k (c ∷ (P ↣ m) ∷ []) → First k (c ∷ [])
    to k (inl x) = inl x
    to k (inr (g, inl (p, q))) = absurd (f p)
    to k (inr (g, inr (h, z))) = absurd z

    back : (k : ℕ) → First k (c ∷ []) → First k (c ∷ (P ↣ m) ∷ [])
    back k (inl x) = inl x
    back k (inr (g, z)) = absurd z

-- ---- 1,024 bytes are enough for every start and delivery

pub enough : (t : Stage) → (leb (first_room_at t) 1024 ≡ true) × (leb (room_at t) 1024 ≡ true)
enough (Awaiting (NegotiationRes m)) = (refl, refl)
enough (Awaiting AuthenticationRes) = (refl, refl)
enough (Awaiting ProxyRes) = (refl, refl)
enough (Awaiting Response) = (refl, refl)
enough Open = (refl, refl)
enough (Failed e) = (refl, refl)

-- ---- 16, then 22

in_order : {P Q : Type 0} (a b c : Bool) → c ≡ true → a ≡ true ↔ P → b ≡ true ↔ Q
    → Answers (answer_number (refuse a Settled (refuse b OutOfOrder (refuse (not c) ShortOutput Accepted)))) ((P ↣ 16) ∷ (Q ↣ 22) ∷ [])
in_order a b c e p q = rw e (checked a _ Settled 16 _ _ refl (lit< tt) p (checked b _ OutOfOrder 22 Accepted [] refl (lit< tt) q all_passed))

-- ---- what a refused call leaves

untouched : (c : Call) (s out : List ℕ) → ((e : SocksError) → c.answer ≡ Refused e → c ≡ refusal e (session_at s) out) → Untouched (returned s c) s out
untouched c s out h n = go c.answer refl
  where
    go : (x : Answer) → c.answer ≡ x
        → returned s c ≡ record { answer = answer_number c.answer; session = s; used = 0; sent = 0; output = out }
    go Accepted q = absurd (n (ap answer_number q))
    go (Refused e) q =
        let z = h e q in
        λ i. record { answer = answer_number c.answer; session = left_by (q i) c.session s; used = (z i).used; sent = (z i).sent; output = (z i).output }

-- a refused call uses and sends nothing, an accepted start or end neither uses
pub start_used : (s : Session) (out : List ℕ) → (start s out).used ≡ 0
start_used s out = go (start s out).answer refl
  where
    go : (x : Answer) → (start s out).answer ≡ x → (start s out).used ≡ 0
    go Accepted q = ap (λ (c : Call). c.used) (start_accepts s out q)
    go (Refused e) q = ap (λ (c : Call). c.used) (start_untouched s out e q)

pub end_counts : (s : Session) → ((end s).used ≡ 0) × ((end s).sent ≡ 0)
end_counts s = go (end s).answer refl
  where
    go : (x : Answer) → (end s).answer ≡ x → ((end s).used ≡ 0) × ((end s).sent ≡ 0)
    go Accepted q = let c = end_accepts s q in (ap (λ (c : Call). c.used) c, ap (λ (c : Call). c.sent) c)
    go (Refused e) q = let c = end_untouched s e q in (ap (λ (c : Call). c.used) c, ap (λ (c : Call). c.sent) c)

pub open_number : (x : Outcome) → (outcome_of x).state ≡ 1 ↔ (x ≡ outcomes.Open)
open_number outcomes.Waiting = (λ q. absurd (omega arith), λ q. ap (λ (x : Outcome). (outcome_of x).state) q)
open_number outcomes.Open = (λ q. refl, λ q. refl)
open_number (outcomes.Failed e) = (λ q. absurd (omega arith), λ q. ap (λ (x : Outcome). (outcome_of x).state) q)

-- ---- what is told of the bytes that an accepted call leaves

told : (x : Session) → Fits x → {how : Outcome} {at : Address} {tries held : ℕ} → Tells x how at tries held → LentTells (state_of x) (outcome_of how) (address_of at) tries
told x f w =
    let b = state_back x f in
    record {
      outcomes = ap (λ (t : Session). outcome_of (outcome t)) b ∙ ap outcome_of w.outcomes;
      bounds = ap (λ (t : Session). address_of (bound t)) b ∙ ap address_of w.bounds;
      attempts = ap (λ (t : Session). t.attempts) b ∙ w.attempts;
    }

told_left : (c : Call) (s : List ℕ) → c.answer ≡ Accepted → Fits c.session → {how : Outcome} {at : Address} {tries held : ℕ} → Tells c.session how at tries held
    → LentTells (left_by c.answer c.session s) (outcome_of how) (address_of at) tries
told_left c s q f w = rw q (told c.session f w)

turns : (s : List ℕ) → Fits (session_at s) → (out : List ℕ) → length out ≡ 1024 → (first next : ℕ) → InTurn first next (session_at s) → LentInTurn s out
turns s f out l first next t =
    let x = session_at s in
    let over = over_just (view x) in
    record {
      start_number = rw (start_answers x out, l) (in_order _ _ _ (enough x.stage).0 over (λ q. q, λ q. q));
      deliver_number = λ piece. rw (deliver_answers x piece out, l) (in_order _ _ _ (enough x.stage).1 over (truth_just x.started));
      end_number = rw (end_answers x) (in_order _ _ true refl over (truth_just x.started));
      start_untouched = untouched (start x out) s out (t.start_untouched out);
      deliver_untouched = λ piece. untouched (deliver x piece out) s out (t.deliver_untouched piece out);
      end_untouched = untouched (end x) s [] t.end_untouched;
      start_used = start_used x out;
      end_used = (end_counts x).0;
      end_sent = (end_counts x).1;
      start_marks = λ q.
          let a = number_accepted _ q in
          subst (λ (y : Answer). (session_at (left_by y (start x out).session s)).started ≡ true) (sym a) (ap (λ (y : Session). y.started) (state_back _ (start_fits x f out)) ∙ t.start_marks out a);
      start_keeps = λ q. let a = number_accepted _ q in told_left (start x out) s a (start_fits x f out) (t.start_keeps out a);
      end_fails = λ q. let a = number_accepted _ q in told_left (end x) s a (end_fits x f) (t.end_fails a);
      start_behind = let b = t.start_behind out in record { bytes = b.bytes; size = b.size };
      deliver_behind = λ piece. let b = t.deliver_behind piece out in record { bytes = b.bytes; size = b.size };
      text_number = λ buffer. same_conditions (open_number (outcome x)) (t.text_number buffer);
      text_behind = t.text_behind;
    }

pub lent_turns : LentTurns
lent_turns s y n out l = go (any_in_turn (session_at s))
  where
    go : InTurn 778 778 (session_at s) ⊎ InTurn 1024 262 (session_at s) → LentInTurn s out
    go (inl t) = turns s (fits_at s y n) out l 778 778 t
    go (inr t) = turns s (fits_at s y n) out l 1024 262 t

-- ---- preparing

pub lent_prepares_as : (p : Prepared) (cs : List Condition) → Fits p.session → Preparing p cs → LentPreparing p cs
lent_prepares_as p cs f t =
    record {
      answers = t.number;
      unstarted = λ q. ap (λ (y : Session). y.started) (state_back p.session f) ∙ t.unstarted q;
      waits = λ q. told p.session f (t.waits q);
      fails = λ e q. told p.session f (t.fails e q);
    }

pub zeros : Zeros
unfolding stage_of stage_at error_of error_among number start deliver end write_bound
zeros = record { stands = refl; start = λ out. refl; deliver = λ piece out. refl; end = refl; text = λ buffer. refl }

pub lent_prepares : LentPrepares
lent_prepares = (
  λ c host port user password records.
      let a = given5 c host port user password records in
      lent_prepares_as (prepare5 a) (conditions5 a) (fits5 a (sixteen records)) (preparing5 a),
  λ local_dns host port records.
      let a = given4 local_dns host port records in
      lent_prepares_as (prepare4 a) (conditions4 a) (fits4 a) (preparing4 a),
)
