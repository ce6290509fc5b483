-- Demand 3 over sessions in lent bytes: that over the sessions that they mean.
use Prim.Native.Nat.{ℕ, ◌≤◌}
use native.Mathlib.Omega.{arith}
use mathlib.Core.Path.{◌≡◌, refl, ap, sym, subst, ◌∙◌}
use mathlib.Core.Logic.{◌↔◌}
use mathlib.Core.Bool.{true}
use mathlib.Core.List.{List}
use lib.ListN.{length, take, drop}
use lib.Dec.{leb}
use Rattle.protocol.specs.Answers.{Answer, Accepted, Refused}
use Rattle.protocol.specs.declared.Outcome.{Outcome}
use Rattle.protocol.specs.declared.Outcome.TheVariants.{Waiting, Open, Failed}
use Rattle.protocol.specs.Bytes.{Bytes, BytePieces}
use Rattle.protocol.specs.Numbers.{answer_number}
use Rattle.protocol.specs.Opening.{Opening, v5, v4, opening5, opening4, check5, check4, start_room, delivery_room}
use Rattle.protocol.specs.Grammar.{Replied}
use Rattle.protocol.specs.Wants.{WantedBy}
use Rattle.protocol.proofs.Limits.{number_is}
use Rattle.client_session.specs.declared.Session.{Session}
use Rattle.client_session.specs.Session.{outcome, bound, wants}
use Rattle.client_session.specs.Calls.{Call, prepared_for, prepared_by, prepare5, prepare4, start, deliver}
use Rattle.socks.specs.Demand3.{receiver, Demand3, Tunnelled}
use Rattle.socks.specs.Attempts.{Effort, Tried}
use Rattle.socks.specs.Turns.{Asking}
use Rattle.socks.proofs.Openings.{demand3_v5, demand3_v4, asking_v5, asking_v4}
use Rattle.socks.proofs.Attempts.{attempts_v5, attempts_v4}
use Rattle.socks.specs.Wants.{Reads, Read}
use Rattle.socks.proofs.Wants.{read_v5, read_v4}
use Rattle.socks.proofs.Claims.{starts_0}
use Rattle.socks.proofs.Turns.{start_untouched, deliver_untouched}
use Rattle.lent_numbers.specs.declared.told.RawOutcome.{RawOutcome}
use Rattle.lent_numbers.specs.told.Told.{outcome_of}
use Rattle.raw_records.proofs.Sixteen.{sixteen}
use Rattle.lent_session.proofs.Writing.{state_back}
use Rattle.lent_session.specs.State.{session_at, state_of}
use Rattle.lent_session.specs.Given.{given5, given4}
use Rattle.lent_session.specs.Calls.{left_by, address_of, bound_at, wiped}
use Rattle.lent_tunnel.specs.Demand3 as lent
use Rattle.lent_tunnel.specs.Demand3.{returned, outcome_at, Lent, LentDemand3, LentTunnelled, LentTunnelled5, LentTunnelled4}
use Rattle.lent_tunnel.proofs.Kept.{Whole, start_whole, deliver_whole, Written, means, left}
use Rattle.lent_tunnel.proofs.Carried.{Carried, carries, lends_as}
use Rattle.lent_tunnel.proofs.Openings.{wipes, whole5, whole4}
use Rattle.talk.specs.Tunnel.{Delivery, answer_to, after, joined}
use Rattle.talk.specs.Follow.{Alike}

open_just : (x : Outcome) → (outcome_of x).state ≡ 1 ↔ (x ≡ Open)
open_just Waiting = (λ q. absurd (omega arith), λ q. ap (λ (x : Outcome). (outcome_of x).state) q)
open_just Open = (λ q. refl, λ q. refl)
open_just (Failed e) = (λ q. absurd (omega arith), λ q. ap (λ (x : Outcome). (outcome_of x).state) q)

enough_for : (o : Opening) → leb (delivery_room o) 1024 ≡ true
enough_for (v5 c d port b) = refl
enough_for (v4 d port) = refl

-- 1,024 bytes are enough to start with
roomy : (o : Opening) (out : List ℕ) → length out ≡ 1024 → start_room o ≤ length out
roomy (v5 c d port b) out l = omega arith
roomy (v4 d port) out l = omega arith

step : (n : ℕ) (s : List ℕ) (x : Session) → Written s x → (d : Delivery) → Bytes d.piece → Alike Written (answer_to lent.receiver s d) (answer_to (receiver n) x d)
step n s x w d y =
    subst (λ (y : Session). Alike Written (returned s (deliver y d.piece d.output)) (deliver x d.piece d.output)) (sym (means s x w))
    (record {
      session = left (deliver x d.piece d.output) s x w (deliver_whole x w.whole d.piece d.output y) (λ e q. ap (λ (c : Call). c.session) (deliver_untouched x d.piece d.output e q));
      used = refl;
      sent = refl;
    })

module _ (o : Opening) (s : List ℕ) (x : Session) (w : Written s x) where
  abbrev n : ℕ
  n = delivery_room o

  module _ (ds : List Delivery) (y : BytePieces ds) (l : Lent ds) where
    carried : Carried Written lent.receiver (receiver n) s x ds
    carried = carries Written lent.receiver (receiver n) (step n) ds y (λ d m. lends_as n (enough_for o) d (l d m)) s x w

    same : session_at (after lent.receiver s ds) ≡ after (receiver n) x ds
    same = means _ _ carried.follows.session

    outcomes : outcome_at (after lent.receiver s ds) ≡ outcome_of (outcome (after (receiver n) x ds))
    outcomes = ap (λ (t : Session). outcome_of (outcome t)) same

    bounds : bound_at (after lent.receiver s ds) ≡ address_of (bound (after (receiver n) x ds))
    bounds = ap (λ (t : Session). address_of (bound t)) same

  past : (ds : List Delivery) (y : BytePieces ds) (l : Lent ds) → Reads o (after (receiver n) x ds) (joined (receiver n) ds) → (piece out : List ℕ) → Bytes piece → length piece ≤ lent.wants_at (after lent.receiver s ds)
      → (outcome_at (lent.lent_deliver (after lent.receiver s ds) piece out).session).state ≡ 1 → (lent.lent_deliver (after lent.receiver s ds) piece out).used ≡ length piece
  past ds y l v piece out b few q =
      let z = same ds y l in
      let t : List ℕ = after lent.receiver s ds in
      let u : Session = after (receiver n) x ds in
      let w' = left (deliver u piece out) t u (carried ds y l).follows.session (deliver_whole u (carried ds y l).follows.session.whole piece out b) (λ e r. ap (λ (c : Call). c.session) (deliver_untouched u piece out e r)) in
      let o' : (outcome_of (outcome (session_at (left_by (deliver u piece out).answer (deliver u piece out).session t)))).state ≡ 1 = subst (λ (k : Session). (outcome_of (outcome (session_at (left_by (deliver k piece out).answer (deliver k piece out).session t)))).state ≡ 1) z q in
      let e : (outcome_of (outcome (deliver u piece out).session)).state ≡ 1 = ap (λ (k : Session). (outcome_of (outcome k)).state) (sym (means _ _ w')) ∙ o' in
      rw z (v.never_past piece out b (subst (λ (k : Session). length piece ≤ wants k) z few) ((open_just (outcome (deliver u piece out).session)).0 e))

  lent_demand3 : (sent : List ℕ) (ds : List Delivery) → BytePieces ds → Lent ds → Demand3 o x sent ds → Effort o x ds → Reads o (after (receiver n) x ds) (joined (receiver n) ds) → LentDemand3 o s sent ds
  lent_demand3 sent ds b l h a v =
      let k = carried ds b l in
      let f = k.follows in
      let y = outcome (after (receiver n) x ds) in
      let e = ap (λ (y : RawOutcome). y.state) (outcomes ds b l) in
      record {
        opens_just = (λ q. rw k.joins (h.opens_just.0 ((open_just y).0 (sym e ∙ q))), λ q. e ∙ (open_just y).1 (h.opens_just.1 (subst (Replied o) k.joins q)));
        just_one = λ q. rw (k.joins, f.count) (h.just_one ((open_just y).0 (sym e ∙ q)));
        bound_as = bounds ds b l ∙ ap address_of h.bound_as ∙ rw k.joins;
        rests_are = f.rest ∙ h.rests_are ∙ (λ i. drop (sym f.count i) (sym k.joins i));
        sent_as = rw (k.joins, f.sent) h.sent_as;
        outcome_as = outcomes ds b l ∙ ap outcome_of h.outcome_as ∙ rw k.joins;
        count_as = rw (k.joins, f.count) h.count_as;
        attempts_are = ap (λ (t : Session). t.attempts) (same ds b l) ∙ a.attempts_are;
        wanted =
            subst (λ (bs : List ℕ). WantedBy o bs (wants (session_at (after lent.receiver s ds)))) (sym k.joins)
            (subst (λ (z : Session). WantedBy o (joined (receiver n) ds) (wants z)) (sym (same ds b l)) v.wanted);
        never_past = past ds b l v;
        written = f.session.is ∙ ap state_of (sym (same ds b l));
        wiped_all = ap wiped f.session.is ∙ wipes (after (receiver n) x ds) f.session.whole;
        alike = λ ds' b' l' q.
            let k' = carried ds' b' l' in
            let f' = k'.follows in
            let a = h.alike ds' (sym k'.joins ∙ q ∙ k.joins) in
            record {
              outcomes = outcomes ds' b' l' ∙ ap outcome_of a.outcomes ∙ sym (outcomes ds b l);
              bounds = bounds ds' b' l' ∙ ap address_of a.bounds ∙ sym (bounds ds b l);
              sent = rw (f'.sent, f.sent) a.sent;
              count = f'.count ∙ a.count ∙ sym f.count;
              rest = f'.rest ∙ a.rest ∙ sym f.rest;
            };
      }

-- ---- openings

started : (x : Session) → Whole x → (out : List ℕ) → Written (lent.lent_start (state_of x) out).session (start x out).session
started x w out =
    subst (λ (y : Session). Written (returned (state_of x) (start y out)).session (start x out).session) (sym (state_back x w.fits))
    (left (start x out) (state_of x) x (record { is = refl; whole = w }) (start_whole x w out) (λ e q. ap (λ (c : Call). c.session) (start_untouched x out e q)))

by_answer : (a : Answer) (o : Opening) → ((prepared_by a o).answer ≡ Accepted → Whole (prepared_by a o).session) → Tunnelled (prepared_by a o) o → Tried (prepared_by a o) o → Read (prepared_by a o) o → Asking (prepared_by a o) o → LentTunnelled (prepared_by a o) o
by_answer Accepted o wh h t v k p out l =
    let w = wh refl in
    let x = prepared_for o in
    let z = starts_0 (prepared_by Accepted o) o k refl refl out (roomy o out l) in
    let e = sym (state_back x w.fits) in
    let s = started x w out in (
      subst (λ (y : Session). (returned (state_of x) (start y out)).answer ≡ 0) e (ap answer_number z),
      λ ds y m.
          subst (λ (v : Session). LentDemand3 o (lent.lent_start (state_of x) out).session (take (returned (state_of x) (start v out)).sent (returned (state_of x) (start v out)).output) ds) e
          (lent_demand3 o (lent.lent_start (state_of x) out).session (start x out).session s _ ds y m (h out refl z ds y) (t out refl z ds y) (v out refl z ds y)),
    )
by_answer (Refused e) o w h t v k p out l = let n = (number_is e).0 in absurd (omega arith)

pub lent_demand3_v5 : LentTunnelled5
unfolding prepare5
lent_demand3_v5 c host port user password records =
    let a = given5 c host port user password records in
    let x = sixteen records in
    by_answer (check5 a) (opening5 a) (λ q. whole5 a x q) (demand3_v5 a x) (attempts_v5 a x) (read_v5 a x) (asking_v5 a)

pub lent_demand3_v4 : LentTunnelled4
unfolding prepare4
lent_demand3_v4 local_dns host port records =
    let a = given4 local_dns host port records in
    by_answer (check4 a) (opening4 a) (λ q. whole4 a q) (demand3_v4 a) (attempts_v4 a) (read_v4 a) (asking_v4 a)
