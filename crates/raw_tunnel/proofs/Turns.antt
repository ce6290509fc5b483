-- The numbers that a raw session's calls answer, and what refused ones leave.
use Prim.Native.Nat.{ℕ, zero, suc}
use native.Mathlib.Omega.{arith}
use mathlib.Core.Path.{◌≡◌, refl, ap, sym, ◌∙◌}
use mathlib.Core.Logic.{◌↔◌, ◌⊎◌, inl, inr}
use mathlib.Core.Bool.{Bool, true, true≢false, not}
use mathlib.Core.List.{List, [], ◌∷◌}
use lib.ListN.{length}
use lib.Dec.{leb, lit<}
use borrow.Author.Tests.{ne_eqb}
use Rattle.protocol.specs.Answers.{Answer, Accepted, Refused}
use Rattle.protocol.specs.declared.Address.{Address}
use Rattle.protocol.specs.declared.Outcome.{Outcome}
use Rattle.protocol.specs.declared.Outcome.TheVariants as outcomes
use Rattle.protocol.specs.declared.Reply.TheVariants.{NegotiationRes, AuthenticationRes, ProxyRes, Response}
use Rattle.protocol.specs.declared.SocksError.{SocksError}
use Rattle.protocol.specs.declared.SocksError.TheVariants.{ShortOutput, Settled, OutOfOrder}
use Rattle.protocol.specs.Client as client
use Rattle.protocol.specs.Numbers.{answer_number}
use Rattle.protocol.specs.Opening.{Condition, ◌↣◌, conditions5, conditions4, First, Answers, refuse}
use Rattle.protocol.proofs.Openings.{all_passed, checked}
use Rattle.protocol.proofs.Limits.{number_accepted}
use Rattle.client_stages.specs.declared.due.Stage.{Stage}
use Rattle.client_stages.specs.declared.due.Stage.TheVariants.{Awaiting, Open, Failed}
use Rattle.client_stages.specs.due.Stages.{SideSession}
use Rattle.client_session.specs.declared.Session.{Session}
use Rattle.client_session.specs.declared.Prepared.{Prepared}
use Rattle.client_session.specs.Session.{view, outcome, bound, first_room_at, room_at, write_bound}
use Rattle.client_session.specs.Calls.{Call, refusal, prepare5, prepare4, start, deliver, end}
use Rattle.socks.specs.Turns.{Tells, Preparing, InTurn}
use Rattle.socks.proofs.Refusals.{preparing5, preparing4}
use Rattle.socks.proofs.Turns.{start_answers, start_untouched, start_accepts, deliver_answers, end_answers, end_untouched, end_accepts, any_in_turn}
use Rattle.raw_numbers.specs.Numbers.{truth, bit}
use Rattle.raw_errors.specs.Errors.{error_of, error_among}
use Rattle.raw_session.specs.declared.RawSession.{RawSession}
use Rattle.raw_session.specs.Raw.{session_of, raw_of, outcome_of, stage_of}
use Rattle.raw_session.proofs.Back.{session_back}
use Rattle.raw_told.specs.Told.{address_of}
use Rattle.raw_tunnel.specs.Demand3.{returned}
use Rattle.raw_tunnel.specs.Turns.{RawTells, Untouched, RawInTurn, RawTurns, StepsTold, RawPreparing, RawPrepares, Zeros}
use Rattle.talk.specs.Talk.{waiting, ended, done, failed, is_over}

-- ---- the conditions, in numbers

over_just : (m : SideSession) → is_over m ≡ true ↔ ((outcome_of (client.outcome_of m)).state ≡ 0 → ⊥)
over_just (waiting e h) = (λ q. absurd (true≢false (sym q)), λ n. absurd (n refl))
over_just (ended (done x)) = (λ q e. omega arith, λ n. refl)
over_just (ended (failed e)) = (λ q e. omega arith, λ n. refl)

pub started_just : (n : ℕ) → truth n ≡ true ↔ (n ≡ 0 → ⊥)
unfolding truth
started_just zero = (λ q. absurd (true≢false (sym q)), λ n. absurd (n refl))
started_just (suc n) = rw (ne_eqb (suc n) 0 (λ e. omega arith)) (λ q e. omega arith, λ q. refl)

unstarted_just : (n : ℕ) → not (truth n) ≡ true ↔ (n ≡ 0)
unfolding truth
unstarted_just zero = (λ q. refl, λ q. refl)
unstarted_just (suc n) = rw (ne_eqb (suc n) 0 (λ e. omega arith)) (λ q. absurd (true≢false (sym q)), λ e. absurd (omega arith))

-- a condition told in other words
pub same_first : {n m : ℕ} {P Q : Type 0} {cs : List Condition} → P ↔ Q → Answers n ((Q ↣ m) ∷ cs) → Answers n ((P ↣ m) ∷ cs)
same_first {n} {m} {P} {Q} {cs} e a =
    record {
      accepts = (λ q. let z = a.accepts.0 q in (λ x. z.0 (e.0 x), z.1), λ z. a.accepts.1 (λ y. z.0 (e.1 y), z.1));
      refuses = λ k h. (λ q. to k ((a.refuses k h).0 q), λ f. (a.refuses k h).1 (back k f));
    }
  where
    to : (k : ℕ) → First k ((Q ↣ m) ∷ cs) → First k ((P ↣ m) ∷ cs)
    to k (inl (y, q)) = inl (e.1 y, q)
    to k (inr (f, r)) = inr (λ x. f (e.0 x), r)

    back : (k : ℕ) → First k ((P ↣ m) ∷ cs) → First k ((Q ↣ m) ∷ cs)
    back k (inl (x, q)) = inl (e.0 x, q)
    back k (inr (f, r)) = inr (λ y. f (e.1 y), r)

pub same_conditions : {n m : ℕ} {P Q : Type 0} {cs : List Condition} → P ↔ Q → Answers n (((Q → ⊥) ↣ m) ∷ cs) → Answers n (((P → ⊥) ↣ m) ∷ cs)
same_conditions e = same_first (λ f y. f (e.1 y), λ f x. f (e.0 x))

-- one behind it that does not hold
pub drop_last : {n m : ℕ} {c : Condition} {P : Type 0} → Answers n (c ∷ (P ↣ m) ∷ []) → (P → ⊥) → Answers n (c ∷ [])
drop_last {n} {m} {c} {P} a f =
    record {
      accepts = (λ q. let z = a.accepts.0 q in (z.0, tt), λ z. a.accepts.1 (z.0, (f, tt)));
      refuses = λ k h. (λ q. to k ((a.refuses k h).0 q), λ r. (a.refuses k h).1 (back k r));
    }
  where
    to : (k : ℕ) → First k (c ∷ (P ↣ m) ∷ []) → First k (c ∷ [])
    to k (inl x) = inl x
    to k (inr (g, inl (p, q))) = absurd (f p)
    to k (inr (g, inr (h, z))) = absurd z

    back : (k : ℕ) → First k (c ∷ []) → First k (c ∷ (P ↣ m) ∷ [])
    back k (inl x) = inl x
    back k (inr (g, z)) = absurd z

-- ---- 1,024 bytes are enough for every start and delivery

pub enough : (t : Stage) → (leb (first_room_at t) 1024 ≡ true) × (leb (room_at t) 1024 ≡ true)
enough (Awaiting (NegotiationRes m)) = (refl, refl)
enough (Awaiting AuthenticationRes) = (refl, refl)
enough (Awaiting ProxyRes) = (refl, refl)
enough (Awaiting Response) = (refl, refl)
enough Open = (refl, refl)
enough (Failed e) = (refl, refl)

-- ---- 16, then 22

in_order : {P Q : Type 0} (a b c : Bool) → c ≡ true → a ≡ true ↔ P → b ≡ true ↔ Q
    → Answers (answer_number (refuse a Settled (refuse b OutOfOrder (refuse (not c) ShortOutput Accepted)))) ((P ↣ 16) ∷ (Q ↣ 22) ∷ [])
in_order a b c e p q = rw e (checked a _ Settled 16 _ _ refl (lit< tt) p (checked b _ OutOfOrder 22 Accepted [] refl (lit< tt) q all_passed))

-- ---- what a refused call leaves

untouched : (c : Call) (r : RawSession) (out : List ℕ) → ((e : SocksError) → c.answer ≡ Refused e → c ≡ refusal e (session_of r) out) → Untouched (returned c) r out
untouched c r out h n = go c.answer refl
  where
    go : (x : Answer) → c.answer ≡ x
        → returned c ≡ record { answer = answer_number c.answer; session = raw_of (session_of r); used = 0; sent = 0; output = out }
    go Accepted q = absurd (n (ap answer_number q))
    go (Refused e) q =
        let z = h e q in λ i. record { answer = answer_number c.answer; session = raw_of (z i).session; used = (z i).used; sent = (z i).sent; output = (z i).output }

-- ---- what is told of the session that a call returns

told : (s : Session) {how : Outcome} {at : Address} {tries held : ℕ} → Tells s how at tries held → RawTells (raw_of s) (outcome_of how) (address_of at) tries
told s w =
    let b = session_back s in
    record {
      outcomes = ap (λ (t : Session). outcome_of (outcome t)) b ∙ ap outcome_of w.outcomes;
      bounds = ap (λ (t : Session). address_of (bound t)) b ∙ ap address_of w.bounds;
      attempts = ap (λ (t : Session). t.attempts) b ∙ w.attempts;
    }

pub steps_told : StepsTold
steps_told c = sym (ap (λ (t : Session). outcome_of (outcome t)) (session_back c.session))

-- a refused call uses and sends nothing, an accepted start or end neither uses
start_used : (s : Session) (out : List ℕ) → (start s out).used ≡ 0
start_used s out = go (start s out).answer refl
  where
    go : (x : Answer) → (start s out).answer ≡ x → (start s out).used ≡ 0
    go Accepted q = ap (λ (c : Call). c.used) (start_accepts s out q)
    go (Refused e) q = ap (λ (c : Call). c.used) (start_untouched s out e q)

end_counts : (s : Session) → ((end s).used ≡ 0) × ((end s).sent ≡ 0)
end_counts s = go (end s).answer refl
  where
    go : (x : Answer) → (end s).answer ≡ x → ((end s).used ≡ 0) × ((end s).sent ≡ 0)
    go Accepted q = let c = end_accepts s q in (ap (λ (c : Call). c.used) c, ap (λ (c : Call). c.sent) c)
    go (Refused e) q = let c = end_untouched s e q in (ap (λ (c : Call). c.used) c, ap (λ (c : Call). c.sent) c)

open_number : (x : Outcome) → (outcome_of x).state ≡ 1 ↔ (x ≡ outcomes.Open)
open_number outcomes.Waiting = (λ q. absurd (omega arith), λ q. ap (λ (x : Outcome). (outcome_of x).state) q)
open_number outcomes.Open = (λ q. refl, λ q. refl)
open_number (outcomes.Failed e) = (λ q. absurd (omega arith), λ q. ap (λ (x : Outcome). (outcome_of x).state) q)

turns : (r : RawSession) (out : List ℕ) → length out ≡ 1024 → (first next : ℕ) → InTurn first next (session_of r) → RawInTurn r out
turns r out l first next t =
    let s = session_of r in
    let over = over_just (view s) in
    record {
      start_number = rw (start_answers s out, l) (in_order _ _ _ (enough s.stage).0 over (started_just r.started));
      deliver_number = λ piece. rw (deliver_answers s piece out, l) (in_order _ _ _ (enough s.stage).1 over (unstarted_just r.started));
      end_number = rw (end_answers s) (in_order _ _ true refl over (unstarted_just r.started));
      start_untouched = untouched (start s out) r out (t.start_untouched out);
      deliver_untouched = λ piece. untouched (deliver s piece out) r out (t.deliver_untouched piece out);
      end_untouched = untouched (end s) r [] t.end_untouched;
      start_used = start_used s out;
      end_used = (end_counts s).0;
      end_sent = (end_counts s).1;
      start_marks = λ q. ap bit (t.start_marks out (number_accepted _ q));
      start_keeps = λ q. told (start s out).session (t.start_keeps out (number_accepted _ q));
      end_fails = λ q. told (end s).session (t.end_fails (number_accepted _ q));
      start_behind = let b = t.start_behind out in record { bytes = b.bytes; size = b.size };
      deliver_behind = λ piece. let b = t.deliver_behind piece out in record { bytes = b.bytes; size = b.size };
      text_number = λ buffer. same_conditions (open_number (outcome s)) (t.text_number buffer);
      text_behind = t.text_behind;
    }

pub raw_turns : RawTurns
raw_turns r out l = go (any_in_turn (session_of r))
  where
    go : InTurn 778 778 (session_of r) ⊎ InTurn 1024 262 (session_of r) → RawInTurn r out
    go (inl t) = turns r out l 778 778 t
    go (inr t) = turns r out l 1024 262 t

-- ---- preparing

raw_prepares_as : (p : Prepared) (cs : List Condition) → Preparing p cs → RawPreparing p cs
raw_prepares_as p cs t =
    record {
      answers = t.number;
      used = refl;
      sent = refl;
      unstarted = λ q. ap bit (t.unstarted (number_accepted _ q));
      waits = λ q. told p.session (t.waits (number_accepted _ q));
      fails = λ e q. told p.session (t.fails e q);
    }

pub raw_prepares : RawPrepares
raw_prepares = (λ a. raw_prepares_as (prepare5 a) (conditions5 a) (preparing5 a), λ a. raw_prepares_as (prepare4 a) (conditions4 a) (preparing4 a))

pub zeros : Zeros
unfolding stage_of error_of error_among start deliver end write_bound
zeros = record { stands = refl; start = λ out. refl; deliver = λ piece out. refl; end = refl; text = λ buffer. refl }
