-- Demand 1: what preparing answers and returns; and 11 is met by no call.
use Prim.Native.Nat.{ℕ}
use mathlib.Core.Path.{◌≡◌, refl, ap, sym}
use mathlib.Core.Bool.{true, false}
use mathlib.Core.List.{List}
use Rattle.protocol.specs.declared.SocksError.{SocksError}
use Rattle.protocol.specs.Answers.{Answer, Accepted, Refused}
use Rattle.protocol.specs.declared.Outcome.TheVariants.{Waiting, Failed}
use Rattle.protocol.specs.declared.Record.{Record}
use Rattle.protocol.specs.Host.{strip}
use Rattle.protocol.specs.AddressText.{Name}
use Rattle.protocol.specs.Numbers.{answer_number, outcome_number}
use Rattle.protocol.specs.Opening.{V5, V4, Condition, conditions5, conditions4, Answers, check5, check4, Opening, opening5, opening4}
use Rattle.protocol.proofs.Limits.{answer_not_11, outcome_not_11}
use Rattle.protocol.proofs.Openings.{clash, same_error, check5_just, check4_just, lookup5, lookup4}
use Rattle.client_session.specs.declared.Session.{Session}
use Rattle.client_session.specs.declared.Prepared.{Prepared}
use Rattle.client_session.specs.Session.{outcome}
use Rattle.client_session.specs.Calls.{Call, Without, empty_session, prepared_by, prepare5, prepare4, start, deliver, end}
use Rattle.socks.specs.Turns.{Tells, no_address, Preparing}

-- ---- preparing: it answers as its checks do, and returns a session that waits, or the empty one, failed with the error

prepared_answers : (x : Answer) (o : Opening) → (prepared_by x o).answer ≡ x
prepared_answers Accepted o = refl
prepared_answers (Refused e) o = refl

prepares : (x : Answer) (o : Opening) (cs : List Condition) → Answers (answer_number x) cs → Preparing (prepared_by x o) cs
prepares x o cs a =
    record {
      number = rw (prepared_answers x o) a;
      unstarted = unstarted x;
      waits = waits x;
      empty = empty x;
      fails = fails x;
    }
  where
    unstarted : (y : Answer) → (prepared_by y o).answer ≡ Accepted → (prepared_by y o).session.started ≡ false
    unstarted Accepted p = refl
    unstarted (Refused e) p = refl

    waits : (y : Answer) → (prepared_by y o).answer ≡ Accepted → Tells (prepared_by y o).session Waiting no_address 0 0
    waits Accepted p = record { outcomes = refl; bounds = refl; attempts = refl; holds = refl }
    waits (Refused e) p = absurd (clash (sym p))

    empty : (y : Answer) (e : SocksError) → (prepared_by y o).answer ≡ Refused e → (prepared_by y o).session ≡ empty_session e
    empty Accepted e p = absurd (clash p)
    empty (Refused d) e p = ap empty_session (same_error p)

    fails : (y : Answer) (e : SocksError) → (prepared_by y o).answer ≡ Refused e → Tells (prepared_by y o).session (Failed e) no_address 0 0
    fails Accepted e p = absurd (clash p)
    fails (Refused d) e p = record { outcomes = ap Failed (same_error p); bounds = refl; attempts = refl; holds = refl }

pub preparing5 : (a : V5) → Preparing (prepare5 a) (conditions5 a)
unfolding prepare5
preparing5 a = prepares (check5 a) (opening5 a) (conditions5 a) (check5_just a)

pub preparing4 : (a : V4) → Preparing (prepare4 a) (conditions4 a)
unfolding prepare4
preparing4 a = prepares (check4 a) (opening4 a) (conditions4 a) (check4_just a)

-- the lookup's list changes nothing unless local lookup is on and the host is a name
pub prepare5_lookup : (a : V5) (rs : List Record) → ((a.config.local_dns ≡ true) × Name (strip a.host) → ⊥)
    → prepare5 (record { config = a.config; host = a.host; port = a.port; user = a.user; password = a.password; records = rs }) ≡ prepare5 a
unfolding prepare5
prepare5_lookup a rs n = let l = lookup5 a rs n in rw (l.0, l.1)

pub prepare4_lookup : (a : V4) (rs : List Record) → ((a.local_dns ≡ true) × Name (strip a.host) → ⊥)
    → prepare4 (record { local_dns = a.local_dns; host = a.host; port = a.port; records = rs }) ≡ prepare4 a
unfolding prepare4
prepare4_lookup a rs n = let l = lookup4 a rs n in rw (l.0, l.1)

-- F-4: 11 is not met by any preparing, start, delivery or end, for any arguments and any session value
without_11 : (c : Call) → Without 11 c
without_11 c = (answer_not_11 c.answer, outcome_not_11 (outcome c.session))

pub prepared_never_11 : (p : Prepared) → (answer_number p.answer ≡ 11 → ⊥) × (outcome_number (outcome p.session) ≡ 11 → ⊥)
prepared_never_11 p = (answer_not_11 p.answer, outcome_not_11 (outcome p.session))

pub never_11 : (s : Session) (piece out : List ℕ) → Without 11 (start s out) × Without 11 (deliver s piece out) × Without 11 (end s)
never_11 s piece out = (without_11 (start s out), without_11 (deliver s piece out), without_11 (end s))
