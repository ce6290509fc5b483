-- The session that a start returns stands for the opening's talk; demand 3 of it; and what it asks behind every list of deliveries.
use Prim.Native.Nat.{ℕ}
use mathlib.Core.Path.{◌≡◌, refl, ap, sym, subst, ◌∙◌}
use mathlib.Core.Bool.{true≢false}
use mathlib.Core.List.{List, [], ◌∷◌}
use lib.ListN.{length, take}
use lib.Seq.{take-append_seam}
use Rattle.protocol.specs.Answers.{Answer, Accepted, Refused}
use Rattle.protocol.specs.declared.SocksError.{SocksError}
use Rattle.protocol.specs.declared.SocksError.TheVariants.{Settled}
use Rattle.protocol.specs.Opening.{V5, V4, check5, check4, Opening, v5, v4, no_auth, user_pass, opening5, opening4, first_reply, start_room, delivery_room, Limits, Sixteen}
use Rattle.protocol.specs.Client as client
use Rattle.protocol.specs.Machine.{Machine, machine}
use Rattle.protocol.proofs.Client.{machine_feed}
use Rattle.protocol.proofs.Limits.{limits5, limits4}
use Rattle.protocol.proofs.Rooms.{begun_waits}
use Rattle.client_session.specs.declared.Session.{Session}
use Rattle.client_session.specs.Session.{view, held_bytes}
use Rattle.client_session.specs.Calls.{Call, prepared_for, empty_session, prepared_by, prepare5, prepare4, start}
use Rattle.client_opening.proofs.common.KeptBy.{kept_by_lem}
use Rattle.client_stages.specs.due.Stages.{SideSession, SideFed, holds_of}
use Rattle.socks.specs.InTwo.{begins}
use Rattle.socks.specs.Demand3.{receiver, Tunnelled}
use Rattle.socks.specs.Turns.{InTurn, Asking}
use Rattle.protocol.proofs.Openings.{clash}
use Rattle.socks.proofs.InTwo.{begun_fed, start_begins}
use Rattle.socks.proofs.Turns.{start_accepts, in_turn}
use Rattle.socks.proofs.Tunnels.{Stands, asks_same, step, Begun, demand3}
use Rattle.talk.specs.Talk.{waiting}
use Rattle.talk.specs.Tunnel.{Delivery, after}

pub begins_stands : (o : Opening) → Limits o → (out : List ℕ) → Begun o (begins o out).session (take (begins o out).sent (begins o out).output)
begins_stands o l out =
    let q = ap (λ (f : SideFed). f.session) (begun_fed o l) in
    record {
      stands = record {
        going = refl;
        kept = kept_by_lem o l;
        seen = sym q;
        waits = begun_waits o [];
        exact = ap (λ (m : SideSession). length (holds_of m)) (sym q);
      };
      sends = take-append_seam (machine o []).sent _ ∙ ap (λ (m : Machine). m.sent) (machine_feed o []);
    }

tunnelled : (x : Answer) (o : Opening) → (x ≡ Accepted → Limits o) → Tunnelled (prepared_by x o) o
tunnelled Accepted o l out p q ds y =
    demand3 o _ _ (subst (λ (c : Call). Begun o c.session (take c.sent c.output)) (sym (start_begins o out q (l refl))) (begins_stands o (l refl) out)) ds y
tunnelled (Refused e) o l out p q ds y = absurd (clash (sym p))

-- for every preparing that v5 accepts, with records of sixteen address bytes as their arrays have
pub demand3_v5 : (a : V5) → Sixteen a.records → Tunnelled (prepare5 a) (opening5 a)
unfolding prepare5
demand3_v5 a x = tunnelled (check5 a) (opening5 a) (limits5 a x)

-- and for every one that v4 accepts
pub demand3_v4 : (a : V4) → Tunnelled (prepare4 a) (opening4 a)
unfolding prepare4
demand3_v4 a = tunnelled (check4 a) (opening4 a) (limits4 a)

-- ---- what a prepared session asks at its start and at a delivery, and so does every session behind them

prepared_asks : (o : Opening) → InTurn (start_room o) (delivery_room o) (prepared_for o)
prepared_asks (v5 no_auth d port o) = in_turn 778 778 _ (λ v g. refl) (λ v. refl)
prepared_asks (v5 (user_pass u p) d port o) = in_turn 778 778 _ (λ v g. refl) (λ v. refl)
prepared_asks (v4 d port) = in_turn 1024 262 _ (λ v g. refl) (λ v. refl)

first_waits : (o : Opening) → client.Waits (delivery_room o) (waiting (first_reply o) [])
first_waits (v5 no_auth d port o) = refl
first_waits (v5 (user_pass u p) d port o) = refl
first_waits (v4 d port) = refl

-- a session that stands somewhere of this version
pub stands_asks : (first next : ℕ) (k : client.Kept) (s : Session) (m : SideSession) → Stands next k s m → InTurn first next s
stands_asks first next k s m t =
    let w : client.Waits next (view s) = rw t.seen t.waits in
    let x : s.held ≡ length (holds_of (view s)) = rw t.seen t.exact in
    in_turn first next s (λ v g. absurd (true≢false (sym t.going ∙ g))) (asks_same next s t.going w x s.stage s.bound (held_bytes s) w)

going_on : (first next : ℕ) (k : client.Kept) (ds : List Delivery) (s : Session) (m : SideSession) → Stands next k s m → InTurn first next (after (receiver next) s ds)
unfolding after
going_on first next k [] s m t = stands_asks first next k s m t
going_on first next k (d ∷ ds) s m t = going_on first next k ds _ _ (step next k s m t d).session

empty_settled : (e : SocksError) (out : List ℕ) → (start (empty_session e) out).answer ≡ Refused Settled
unfolding start
empty_settled e out = refl

asking : (x : Answer) (o : Opening) → Asking (prepared_by x o) o
asking Accepted o =
    record {
      prepared = prepared_asks o;
      begun = λ out p ds.
          subst (λ (c : Call). InTurn (start_room o) (delivery_room o) (after (receiver (delivery_room o)) c.session ds)) (sym (start_accepts (prepared_for o) out p))
          (going_on (start_room o) (delivery_room o) _ ds _ (waiting (first_reply o) []) (record { going = refl; kept = refl; seen = refl; waits = first_waits o; exact = refl }));
    }
asking (Refused e) o =
    record {
      prepared = in_turn (start_room o) (delivery_room o) _ (λ v g. absurd (true≢false v)) (λ v. absurd (true≢false v));
      begun = λ out p ds. absurd (clash (sym p ∙ empty_settled e out));
    }

pub asking_v5 : (a : V5) → Asking (prepare5 a) (opening5 a)
unfolding prepare5
asking_v5 a = asking (check5 a) (opening5 a)

pub asking_v4 : (a : V4) → Asking (prepare4 a) (opening4 a)
unfolding prepare4
asking_v4 a = asking (check4 a) (opening4 a)
