-- F-3: the numbers that the calls on a proxy's end in lent bytes answer, and what they leave: as of the end that they mean.
use Prim.Native.Nat.{ℕ, zero, suc, ◌≤◌}
use native.Mathlib.Omega.{arith}
use mathlib.Core.Path.{◌≡◌, refl, ap, sym, ◌∙◌}
use mathlib.Core.Logic.{◌↔◌}
use mathlib.Core.Bool.{true, true≢false}
use mathlib.Core.List.{List, []}
use lib.ListN.{length}
use borrow.Author.Tests.{ne_eqb}
use Rattle.protocol.specs.Answers.{Answer, Accepted, Refused}
use Rattle.protocol.specs.Bytes.{Bytes}
use Rattle.protocol.specs.Numbers.{answer_number}
use Rattle.protocol.specs.Bound.{Endpoint}
use Rattle.protocol.proofs.Limits.{number_accepted}
use Rattle.proxy_spec.specs.declared.Stage.{Stage}
use Rattle.proxy_spec.specs.declared.Stage.TheVariants.{Awaiting, Asked, Open, Failed}
use Rattle.proxy_replies.specs.declared.stages.Outcome.{Outcome}
use Rattle.proxy_replies.specs.declared.stages.Outcome.TheVariants as outcome
use Rattle.proxy_replies.specs.stages.Told.{outcome_at}
use Rattle.proxy_decisions.specs.declared.destination.Target.{Target}
use Rattle.proxy_session.specs.declared.Server.{Server}
use Rattle.proxy_session.specs.Server.{destination}
use Rattle.proxy_session.specs.Calls.{Call, set_up, deliver, answer, end}
use Rattle.proxy.specs.Turns as plain
use Rattle.proxy.specs.Turns.{Tells, nowhere}
use Rattle.proxy.proofs.Turns.{in_turn, answer_used, end_counts}
use Rattle.proxy.proofs.Tunnels.{setting_up}
use Rattle.proxy.proofs.Answering.{all_answering}
use Rattle.raw_numbers.specs.Numbers.{truth}
use Rattle.lent_numbers.specs.declared.told.RawOutcome.{RawOutcome}
use Rattle.lent_proxy.specs.State.{server_at, state_of}
use Rattle.lent_proxy.specs.Calls.{standing_of, left_by, target_of}
use Rattle.lent_proxy.proofs.Writing.{state_back}
use Rattle.lent_tunnel.specs.Turns.{Untouched}
use Rattle.lent_tunnel.specs.Served.{returned, lent_deliver, lent_answer, lent_end}
use Rattle.lent_tunnel.specs.ServedTurns.{LentTells, stands, LentTurns, LentSettingUp}
use Rattle.lent_tunnel.proofs.Turns.{same_first, same_conditions, drop_last}
use Rattle.lent_tunnel.proofs.ServedKept.{Whole, deliver_whole, answer_whole, end_whole, set_up_whole, any_whole}
use Rattle.lent_tunnel.proofs.Served.{waiting_told, failed_told}

-- ---- how an end stands, in numbers

state_0 : (t : Stage) → (standing_of t).state ≡ 0 ↔ (outcome_at t ≡ outcome.Waiting)
state_0 (Awaiting f) = (λ q. refl, λ q. refl)
state_0 (Asked v) = (λ q. absurd (omega arith), λ q. let z : ◌≡◌ {A = ℕ} 0 1 = cc in absurd (omega arith))
state_0 (Open v) = (λ q. absurd (omega arith), λ q. let z : ◌≡◌ {A = ℕ} 0 1 = cc in absurd (omega arith))
state_0 (Failed e) = (λ q. absurd (omega arith), λ q. let z : ◌≡◌ {A = ℕ} 0 1 = cc in absurd (omega arith))

state_3 : (t : Stage) → (standing_of t).state ≡ 3 ↔ (outcome_at t ≡ outcome.Asked)
state_3 (Awaiting f) = (λ q. absurd (omega arith), λ q. let z : ◌≡◌ {A = ℕ} 0 1 = cc in absurd (omega arith))
state_3 (Asked v) = (λ q. refl, λ q. refl)
state_3 (Open v) = (λ q. absurd (omega arith), λ q. let z : ◌≡◌ {A = ℕ} 0 1 = cc in absurd (omega arith))
state_3 (Failed e) = (λ q. absurd (omega arith), λ q. let z : ◌≡◌ {A = ℕ} 0 1 = cc in absurd (omega arith))

open_told_lem : (t : Stage) → outcome_at t ≡ outcome.Open → standing_of t ≡ stands 1 0 0
open_told_lem (Awaiting f) q = let z : ◌≡◌ {A = ℕ} 0 1 = cc in absurd (omega arith)
open_told_lem (Asked v) q = let z : ◌≡◌ {A = ℕ} 0 1 = cc in absurd (omega arith)
open_told_lem (Open v) q = refl
open_told_lem (Failed e) q = let z : ◌≡◌ {A = ℕ} 0 1 = cc in absurd (omega arith)

-- ---- what a call leaves means its end

module _ (c : Call) (s out : List ℕ) (h : plain.Untouched c (server_at s) out) where
  untouched : Untouched (returned s c) s out
  untouched n = go c.answer refl
    where
      go : (x : Answer) → c.answer ≡ x → returned s c ≡ record { answer = answer_number c.answer; session = s; used = 0; sent = 0; output = out }
      go Accepted q = absurd (n (ap answer_number q))
      go (Refused e) q =
          let z = h e q in λ i. record { answer = answer_number c.answer; session = left_by (q i) c.session s; used = (z i).used; sent = (z i).sent; output = (z i).output }

  left_means : Whole c.session → server_at (left_by c.answer c.session s) ≡ c.session
  left_means w = go c.answer refl
    where
      go : (x : Answer) → c.answer ≡ x → server_at (left_by x c.session s) ≡ c.session
      go Accepted q = state_back c.session w.fits
      go (Refused e) q = sym (ap (λ (d : Call). d.session) (h e q))

told : (s : List ℕ) (x : Server) → server_at s ≡ x → (how : Outcome) (to : Target) (z : RawOutcome) → Tells x how to → (outcome_at x.stage ≡ how → standing_of x.stage ≡ z) → LentTells s z (target_of to)
told s x b how to z w f =
    record {
      standings = ap (λ (t : Server). standing_of t.stage) b ∙ f w.outcomes;
      targets = ap (λ (t : Server). target_of (destination t)) b ∙ ap target_of w.destinations;
    }

module _ (s : List ℕ) (y : Bytes s) (n : length s ≡ 1539) where
  abbrev x : Server
  x = server_at s

  delivers : (piece out : List ℕ) → Bytes piece → server_at (lent_deliver s piece out).session ≡ (deliver x piece out).session
  delivers piece out z = left_means (deliver x piece out) s out ((in_turn x).deliver_untouched piece out) (deliver_whole x (any_whole s y n) piece out z)

  answers : (status : ℕ) (e : Endpoint) (out : List ℕ) → server_at (lent_answer s status e out).session ≡ (answer x status e out).session
  answers status e out = left_means (answer x status e out) s out ((in_turn x).answer_untouched status e out) (answer_whole x (any_whole s y n) status e out)

  ends : server_at (lent_end s).session ≡ (end x).session
  ends = left_means (end x) s [] (in_turn x).end_untouched (end_whole x (any_whole s y n))

pub lent_served_turns : LentTurns
lent_served_turns s y n out l =
    let x = server_at s in
    let t = in_turn x in
    let w = state_0 x.stage in
    let a = state_3 x.stage in
    let roomy : 262 ≤ length out = omega arith in
    record {
      deliver_number = λ piece. same_conditions w (drop_last (t.deliver_number piece out) (λ h. omega arith));
      answering_number = λ status e. same_conditions a (drop_last (t.answering_number status e out) (λ h. omega arith));
      end_number = same_conditions w t.end_number;
      deliver_untouched = λ piece. untouched (deliver x piece out) s out (t.deliver_untouched piece out);
      answer_untouched = λ status e. untouched (answer x status e out) s out (t.answer_untouched status e out);
      end_untouched = untouched (end x) s [] t.end_untouched;
      answer_used = λ status e. answer_used x status e out;
      end_used = (end_counts x).0;
      end_sent = (end_counts x).1;
      deliver_behind = λ piece. let b = t.deliver_behind piece out in record { bytes = b.bytes; size = b.size };
      answer_behind = λ status e g. let b = t.answer_behind status e out g in record { bytes = b.bytes; size = b.size };
      deliver_stands = λ piece z. sym (ap (λ (t : Server). standing_of t.stage) (delivers s y n piece out z));
      answer_stands = λ status e. sym (ap (λ (t : Server). standing_of t.stage) (answers s y n status e out));
      end_stands = sym (ap (λ (t : Server). standing_of t.stage) (ends s y n));
      end_fails = λ q. told _ _ (ends s y n) _ _ _ (t.end_fails (number_accepted _ q)) (failed_told (end x).session.stage _);
      answer_sends = λ v q status e. (all_answering x v q status e out roomy).sends;
      answer_opens = λ v q status e z. told _ _ (answers s y n status e out) _ _ _ ((all_answering x v q status e out roomy).opens z) (open_told_lem (answer x status e out).session.stage);
      answer_fails = λ v q status e z. told _ _ (answers s y n status e out) _ _ _ ((all_answering x v q status e out roomy).fails z) (failed_told (answer x status e out).session.stage _);
    }

-- ---- set-up

truth_just : (n : ℕ) → truth n ≡ true ↔ (n ≡ 0 → ⊥)
unfolding truth
truth_just zero = (λ q. absurd (true≢false (sym q)), λ n. absurd (n refl))
truth_just (suc n) = rw (ne_eqb (suc n) 0 (λ e. omega arith)) (λ q e. omega arith, λ q. refl)

pub lent_setting_up : (authenticates : ℕ) (user password : List ℕ) → LentSettingUp authenticates user password
lent_setting_up a user password =
    let t = setting_up (truth a) user password in
    let u = set_up (truth a) user password in
    record {
      number = same_first (λ (n, h). ((truth_just a).1 n, h), λ (q, h). ((truth_just a).0 q, h)) t.number;
      waits = λ q. told _ _ back _ _ _ (t.accepted (number_accepted _ q)) (waiting_told u.server.stage);
      fails = λ n. go u.answer refl n;
    }
  where
    back : server_at (state_of (set_up (truth a) user password).server) ≡ (set_up (truth a) user password).server
    back = state_back (set_up (truth a) user password).server (set_up_whole (truth a) user password).fits

    go : (x : Answer) → (set_up (truth a) user password).answer ≡ x → (answer_number (set_up (truth a) user password).answer ≡ 0 → ⊥) → LentTells (state_of (set_up (truth a) user password).server) (stands 2 5 0) (target_of nowhere)
    go Accepted q n = absurd (n (ap answer_number q))
    go (Refused e) q n = told _ _ back _ _ _ ((setting_up (truth a) user password).refused e q) (failed_told (set_up (truth a) user password).server.stage _)
