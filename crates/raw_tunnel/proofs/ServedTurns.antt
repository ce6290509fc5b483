-- The numbers that the calls of an end in numbers answer, and what they leave: as of the end that they mean.
use Prim.Native.Nat.{ℕ, ◌≤◌}
use native.Mathlib.Omega.{arith}
use mathlib.Core.Path.{◌≡◌, refl, ap, sym, ◌∙◌}
use mathlib.Core.Logic.{◌↔◌}
use mathlib.Core.List.{List, []}
use lib.ListN.{length}
use Rattle.protocol.specs.Answers.{Answer, Accepted, Refused}
use Rattle.protocol.specs.declared.SocksError.{SocksError}
use Rattle.protocol.specs.Numbers.{answer_number}
use Rattle.protocol.proofs.Limits.{number_accepted}
use Rattle.proxy_spec.specs.declared.Stage.{Stage}
use Rattle.proxy_spec.specs.declared.Stage.TheVariants.{Awaiting, Asked, Open, Failed}
use Rattle.proxy_replies.specs.declared.stages.Outcome.{Outcome}
use Rattle.proxy_replies.specs.declared.stages.Outcome.TheVariants as outcome
use Rattle.proxy_replies.specs.stages.Told.{outcome_at}
use Rattle.proxy_decisions.specs.declared.destination.Target.{Target}
use Rattle.proxy_session.specs.declared.Server.{Server}
use Rattle.proxy_session.specs.Server.{destination}
use Rattle.proxy_session.specs.Calls.{Call, refusal, set_up, deliver, answer, end}
use Rattle.proxy.specs.Turns.{Tells, nowhere}
use Rattle.proxy.proofs.Turns.{in_turn, answer_used, end_counts}
use Rattle.proxy.proofs.Tunnels.{setting_up}
use Rattle.proxy.proofs.Answering.{all_answering}
use Rattle.raw_numbers.specs.Numbers.{truth}
use Rattle.raw_session.specs.declared.RawOutcome.{RawOutcome}
use Rattle.raw_server.specs.declared.RawServer.{RawServer}
use Rattle.raw_server.specs.Raw.{server_of, raw_of, standing_of}
use Rattle.raw_server.proofs.Back.{server_back}
use Rattle.raw_asked.specs.Asked.{target_of}
use Rattle.raw_tunnel.specs.Served.{returned}
use Rattle.raw_tunnel.specs.ServedTurns.{RawTells, stands, Untouched, RawTurns, StandsTold, RawSettingUp}
use Rattle.raw_tunnel.proofs.Turns.{same_first, same_conditions, drop_last, started_just}
use Rattle.raw_tunnel.proofs.Served.{waiting_told, failed_told}

-- ---- how an end stands, in numbers

state_0 : (t : Stage) → (standing_of t).state ≡ 0 ↔ (outcome_at t ≡ outcome.Waiting)
state_0 (Awaiting f) = (λ q. refl, λ q. refl)
state_0 (Asked v) = (λ q. absurd (omega arith), λ q. let z : ◌≡◌ {A = ℕ} 0 1 = cc in absurd (omega arith))
state_0 (Open v) = (λ q. absurd (omega arith), λ q. let z : ◌≡◌ {A = ℕ} 0 1 = cc in absurd (omega arith))
state_0 (Failed e) = (λ q. absurd (omega arith), λ q. let z : ◌≡◌ {A = ℕ} 0 1 = cc in absurd (omega arith))

state_3 : (t : Stage) → (standing_of t).state ≡ 3 ↔ (outcome_at t ≡ outcome.Asked)
state_3 (Awaiting f) = (λ q. absurd (omega arith), λ q. let z : ◌≡◌ {A = ℕ} 0 1 = cc in absurd (omega arith))
state_3 (Asked v) = (λ q. refl, λ q. refl)
state_3 (Open v) = (λ q. absurd (omega arith), λ q. let z : ◌≡◌ {A = ℕ} 0 1 = cc in absurd (omega arith))
state_3 (Failed e) = (λ q. absurd (omega arith), λ q. let z : ◌≡◌ {A = ℕ} 0 1 = cc in absurd (omega arith))

open_told_lem : (t : Stage) → outcome_at t ≡ outcome.Open → standing_of t ≡ stands 1 0 0
open_told_lem (Awaiting f) q = let z : ◌≡◌ {A = ℕ} 0 1 = cc in absurd (omega arith)
open_told_lem (Asked v) q = let z : ◌≡◌ {A = ℕ} 0 1 = cc in absurd (omega arith)
open_told_lem (Open v) q = refl
open_told_lem (Failed e) q = let z : ◌≡◌ {A = ℕ} 0 1 = cc in absurd (omega arith)

told : (s : Server) (how : Outcome) (to : Target) (x : RawOutcome) → Tells s how to → (outcome_at s.stage ≡ how → standing_of s.stage ≡ x) → RawTells (raw_of s) x (target_of to)
told s how to x w f =
    record {
      standings = ap (λ (t : Server). standing_of t.stage) (server_back s) ∙ f w.outcomes;
      targets = ap (λ (t : Server). target_of (destination t)) (server_back s) ∙ ap target_of w.destinations;
    }

pub stands_told : StandsTold
stands_told c = sym (ap (λ (t : Server). standing_of t.stage) (server_back c.session))

untouched : (c : Call) (r : RawServer) (out : List ℕ) → ((e : SocksError) → c.answer ≡ Refused e → c ≡ refusal e (server_of r) out) → Untouched (returned c) r out
untouched c r out h n = go c.answer refl
  where
    go : (x : Answer) → c.answer ≡ x → returned c ≡ record { answer = answer_number c.answer; session = raw_of (server_of r); used = 0; sent = 0; output = out }
    go Accepted q = absurd (n (ap answer_number q))
    go (Refused e) q =
        let z = h e q in λ i. record { answer = answer_number c.answer; session = raw_of (z i).session; used = (z i).used; sent = (z i).sent; output = (z i).output }

pub raw_served_turns : RawTurns
raw_served_turns r out l =
    let s = server_of r in
    let t = in_turn s in
    let w = state_0 s.stage in
    let a = state_3 s.stage in
    let roomy : 262 ≤ length out = omega arith in
    record {
      deliver_number = λ piece. same_conditions w (drop_last (t.deliver_number piece out) (λ h. omega arith));
      answering_number = λ status x. same_conditions a (drop_last (t.answering_number status x out) (λ h. omega arith));
      end_number = same_conditions w t.end_number;
      deliver_untouched = λ piece. untouched (deliver s piece out) r out (t.deliver_untouched piece out);
      answer_untouched = λ status x. untouched (answer s status x out) r out (t.answer_untouched status x out);
      end_untouched = untouched (end s) r [] t.end_untouched;
      answer_used = λ status x. answer_used s status x out;
      end_used = (end_counts s).0;
      end_sent = (end_counts s).1;
      deliver_behind = λ piece. let b = t.deliver_behind piece out in record { bytes = b.bytes; size = b.size };
      answer_behind = λ status x g. let b = t.answer_behind status x out g in record { bytes = b.bytes; size = b.size };
      end_fails = λ q. told (end s).session _ _ _ (t.end_fails (number_accepted _ q)) (failed_told (end s).session.stage _);
      answer_sends = λ v q status x. (all_answering s v q status x out roomy).sends;
      answer_opens = λ v q status x z. told (answer s status x out).session _ _ _ ((all_answering s v q status x out roomy).opens z) (open_told_lem (answer s status x out).session.stage);
      answer_fails = λ v q status x z. told (answer s status x out).session _ _ _ ((all_answering s v q status x out roomy).fails z) (failed_told (answer s status x out).session.stage _);
    }

-- ---- set-up

pub raw_setting_up : (authenticates : ℕ) (user password : List ℕ) → RawSettingUp authenticates user password
raw_setting_up a user password =
    let t = setting_up (truth a) user password in
    let u = set_up (truth a) user password in
    record {
      number = same_first (λ (n, h). ((started_just a).1 n, h), λ (q, h). ((started_just a).0 q, h)) t.number;
      used = refl;
      sent = refl;
      waits = λ q. told u.server _ _ _ (t.accepted (number_accepted _ q)) (waiting_told u.server.stage);
      fails = λ n. go u.answer refl n;
    }
  where
    go : (x : Answer) → (set_up (truth a) user password).answer ≡ x → (answer_number (set_up (truth a) user password).answer ≡ 0 → ⊥) → RawTells (raw_of (set_up (truth a) user password).server) (stands 2 5 0) (target_of nowhere)
    go Accepted q n = absurd (n (ap answer_number q))
    go (Refused e) q n = told (set_up (truth a) user password).server _ _ _ ((setting_up (truth a) user password).refused e q) (failed_told (set_up (truth a) user password).server.stage _)
