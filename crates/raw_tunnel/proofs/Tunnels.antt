-- Demand 3 over raw sessions: that over the sessions that they mean.
use Prim.Native.Nat.{ℕ, ◌≤◌}
use native.Mathlib.Omega.{arith}
use mathlib.Core.Path.{◌≡◌, refl, ap, sym, subst, ◌∙◌}
use mathlib.Core.Logic.{◌↔◌}
use mathlib.Core.Bool.{true}
use mathlib.Core.List.{List}
use lib.ListN.{length, take, drop}
use lib.Dec.{leb}
use Rattle.protocol.specs.Answers.{Answer, Accepted, Refused}
use Rattle.protocol.specs.declared.Outcome.{Outcome}
use Rattle.protocol.specs.declared.Outcome.TheVariants.{Waiting, Open, Failed}
use Rattle.protocol.specs.Bytes.{BytePieces}
use Rattle.protocol.specs.Numbers.{answer_number}
use Rattle.protocol.specs.Opening.{Opening, v5, v4, opening5, opening4, check5, check4, start_room, delivery_room}
use Rattle.protocol.specs.Grammar.{Replied}
use Rattle.protocol.proofs.Limits.{number_is}
use Rattle.client_session.specs.declared.Session.{Session}
use Rattle.client_session.specs.Session.{outcome, bound}
use Rattle.client_session.specs.Calls.{prepared_for, prepared_by, prepare5, prepare4, start, deliver}
use Rattle.socks.specs.Demand3.{receiver, Demand3, Tunnelled}
use Rattle.socks.specs.Attempts.{Effort, Tried}
use Rattle.socks.specs.Turns.{Asking}
use Rattle.socks.proofs.Openings.{demand3_v5, demand3_v4, asking_v5, asking_v4}
use Rattle.socks.proofs.Attempts.{attempts_v5, attempts_v4}
use Rattle.socks.proofs.Claims.{starts_0}
use Rattle.raw_session.specs.declared.RawOutcome.{RawOutcome}
use Rattle.raw_session.specs.Raw.{raw_of, outcome_of}
use Rattle.raw_session.proofs.Back.{session_back}
use Rattle.raw_records.proofs.Sixteen.{sixteen}
use Rattle.raw_openings.specs.Given.{given5, given4, prepared_step}
use Rattle.raw_told.specs.Told.{raw_outcome, address_of, raw_bound, raw_attempts}
use Rattle.raw_tunnel.specs.Demand3 as raw
use Rattle.raw_tunnel.specs.Demand3.{returned, Lent, RawDemand3, RawTunnelled, RawTunnelled5, RawTunnelled4}
use Rattle.raw_tunnel.proofs.Carried.{Carried, carries, lends_as}
use Rattle.talk.specs.Tunnel.{Delivery, answer_to, after}

open_just : (x : Outcome) → (outcome_of x).state ≡ 1 ↔ (x ≡ Open)
open_just Waiting = (λ q. absurd (omega arith), λ q. ap (λ (x : Outcome). (outcome_of x).state) q)
open_just Open = (λ q. refl, λ q. refl)
open_just (Failed e) = (λ q. absurd (omega arith), λ q. ap (λ (x : Outcome). (outcome_of x).state) q)

-- ---- deliveries

same : (n : ℕ) (s : Session) (d : Delivery) → answer_to raw.receiver (raw_of s) d ≡ returned (answer_to (receiver n) s d)
same n s d = ap (λ (t : Session). returned (deliver t d.piece d.output)) (session_back s)

enough_for : (o : Opening) → leb (delivery_room o) 1024 ≡ true
enough_for (v5 c d port b) = refl
enough_for (v4 d port) = refl

module _ (o : Opening) (s : Session) where
  abbrev n : ℕ
  n = delivery_room o

  module _ (ds : List Delivery) (l : Lent ds) where
    carried : Carried raw_of (receiver n) raw.receiver s ds
    carried = carries raw_of answer_number (receiver n) raw.receiver (same n) ds (λ d m. lends_as n (enough_for o) d (l d m)) s

    outcomes : raw_outcome (after raw.receiver (raw_of s) ds) ≡ outcome_of (outcome (after (receiver n) s ds))
    outcomes = ap raw_outcome carried.session ∙ ap (λ (t : Session). outcome_of (outcome t)) (session_back (after (receiver n) s ds))

    bounds : raw_bound (after raw.receiver (raw_of s) ds) ≡ address_of (bound (after (receiver n) s ds))
    bounds = ap raw_bound carried.session ∙ ap (λ (t : Session). address_of (bound t)) (session_back (after (receiver n) s ds))

  raw_demand3 : (sent : List ℕ) (ds : List Delivery) → Lent ds → Demand3 o s sent ds → Effort o s ds → RawDemand3 o (raw_of s) sent ds
  raw_demand3 sent ds l h a =
      let w = carried ds l in
      let x = outcome (after (receiver n) s ds) in
      let e = ap (λ (y : RawOutcome). y.state) (outcomes ds l) in
      record {
        opens_just = (λ q. rw w.joins (h.opens_just.0 ((open_just x).0 (sym e ∙ q))), λ q. e ∙ (open_just x).1 (h.opens_just.1 (subst (Replied o) w.joins q)));
        just_one = λ q. rw (w.joins, w.count) (h.just_one ((open_just x).0 (sym e ∙ q)));
        bound_as = bounds ds l ∙ ap address_of h.bound_as ∙ rw w.joins;
        rests_are = w.rest ∙ h.rests_are ∙ (λ i. drop (sym w.count i) (sym w.joins i));
        sent_as = rw (w.joins, w.sent) h.sent_as;
        outcome_as = outcomes ds l ∙ ap outcome_of h.outcome_as ∙ rw w.joins;
        count_as = rw (w.joins, w.count) h.count_as;
        attempts_are = ap raw_attempts w.session ∙ ap (λ (t : Session). t.attempts) (session_back (after (receiver n) s ds)) ∙ a.attempts_are;
        alike = λ ds' l' q.
            let w' = carried ds' l' in
            let a = h.alike ds' (sym w'.joins ∙ q ∙ w.joins) in
            record {
              outcomes = outcomes ds' l' ∙ ap outcome_of a.outcomes ∙ sym (outcomes ds l);
              bounds = bounds ds' l' ∙ ap address_of a.bounds ∙ sym (bounds ds l);
              sent = rw (w'.sent, w.sent) a.sent;
              count = w'.count ∙ a.count ∙ sym w.count;
              rest = w'.rest ∙ a.rest ∙ sym w.rest;
            };
      }

-- ---- openings

-- 1,024 bytes are enough to start with
roomy : (o : Opening) (out : List ℕ) → length out ≡ 1024 → start_room o ≤ length out
roomy (v5 c d port b) out l = omega arith
roomy (v4 d port) out l = omega arith

raw_tunnelled : (x : Answer) (o : Opening) → Tunnelled (prepared_by x o) o → Tried (prepared_by x o) o → Asking (prepared_by x o) o → RawTunnelled (prepared_step (prepared_by x o)) o
raw_tunnelled Accepted o h t k p out l =
    let s = prepared_for o in
    let z = starts_0 (prepared_by Accepted o) o k refl refl out (roomy o out l) in
    subst (λ (t : Session). ((returned (start t out)).answer ≡ 0)
    × ((ds : List Delivery) → BytePieces ds → Lent ds
    → RawDemand3 o (returned (start t out)).session (take (returned (start t out)).sent (returned (start t out)).output) ds))
    (sym (session_back s))
    (ap answer_number z, λ ds y m. raw_demand3 o (start s out).session _ ds m (h out refl z ds y) (t out refl z ds y))
raw_tunnelled (Refused e) o h t k p out l = let n = (number_is e).0 in absurd (omega arith)

pub raw_demand3_v5 : RawTunnelled5
unfolding prepare5
raw_demand3_v5 c host port user password records =
    let a = given5 c host port user password records in
    raw_tunnelled (check5 a) (opening5 a) (demand3_v5 a (sixteen records)) (attempts_v5 a (sixteen records)) (asking_v5 a)

pub raw_demand3_v4 : RawTunnelled4
unfolding prepare4
raw_demand3_v4 local_dns host port records =
    let a = given4 local_dns host port records in
    raw_tunnelled (check4 a) (opening4 a) (demand3_v4 a) (attempts_v4 a) (asking_v4 a)
