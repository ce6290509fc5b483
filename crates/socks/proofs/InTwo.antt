-- F-7: preparing and then starting is the opening in one call, but that 1 comes last.
use Prim.Native.Nat.{ℕ, ◌≤◌, ◌<◌}
use mathlib.Core.Path.{◌≡◌, refl, ap, sym, ◌∙◌}
use mathlib.Core.Bool.{Bool, true, false, cond, not}
use mathlib.Core.List.{List, [], ◌∷◌, ◌++◌, append-nil}
use lib.ListN.{length}
use lib.Dec.{leb, ltb, lit<}
use borrow.Author.Tests.{le-leb, le-ltb, leb-true}
use Rattle.protocol.specs.declared.AuthMethod.TheVariants.{NoAuth, UserPass}
use Rattle.protocol.specs.Answers.{Answer, Accepted, Refused}
use Rattle.protocol.specs.declared.SocksError.{SocksError}
use Rattle.protocol.specs.declared.SocksError.TheVariants.{ShortOutput}
use Rattle.protocol.specs.Numbers.{answer_number}
use Rattle.protocol.specs.Requests.{negotiation_req, authentication_req, proxy_req, request}
use Rattle.protocol.specs.Replies.{decide}
use Rattle.protocol.specs.Opening.{V5, V4, Condition, ◌↣◌, conditions5, conditions4, Answers, refuse, check5, check4, Opening, v5, v4, no_auth, user_pass, opening5, opening4, first_reply, start_room, Limits, Sixteen}
use Rattle.protocol.specs.Client as client
use Rattle.protocol.specs.Machine.{Machine, machine}
use Rattle.protocol.proofs.Client.{machine_feed}
use Rattle.protocol.proofs.Openings.{clash, same_error, not_long, all_passed, checked, less_just, check5_just, check4_just}
use Rattle.protocol.proofs.Limits.{limits5, limits4, number_is}
use Rattle.protocol.proofs.Claims.{answers_behind, answers_before}
use Rattle.client_stages.specs.due.Parts.{first_of}
use Rattle.client_stages.specs.due.Stages.{SideFed}
use Rattle.client_session.specs.Calls.{Call, refusal, kept_by, prepared_for, empty_session, prepared_by, prepare5, prepare4, starts, start}
use Rattle.client_opening.proofs.common.KeptBy.{kept_parts}
use Rattle.socks.specs.InTwo.{begins, open_by, open5, open4, in_two, InTwo}
use Rattle.talk.specs.Talk.{feed, waiting}
use Rattle.talk.proofs.Feed.{same_fed}

-- ---- what a start sends of what preparing keeps is what the opening's talk sends ahead of any byte

abbrev fed_by : Opening → SideFed
fed_by o = record { session = waiting (first_reply o) []; sent = first_of (first_reply o) (kept_by o); place = 0 }

pub begun_fed : (o : Opening) → Limits o → feed (client.side o) (client.begun o) [] ≡ fed_by o
unfolding feed decide
begun_fed (v5 no_auth d port false) l = let k = kept_parts (v5 no_auth d port false) l in same_fed _ _ refl (append-nil (negotiation_req NoAuth) ∙ sym k.0) refl
begun_fed (v5 no_auth d port true) l =
    let k = kept_parts (v5 no_auth d port true) l in
    same_fed _ _ refl (ap (λ (x : List ℕ). negotiation_req NoAuth ++ x) (append-nil (proxy_req d port)) ∙ (λ i. sym k.0 i ++ (sym k.1 i ++ sym k.2 i))) refl
begun_fed (v5 (user_pass u p) d port false) l = let k = kept_parts (v5 (user_pass u p) d port false) l in same_fed _ _ refl (append-nil (negotiation_req UserPass) ∙ sym k.0) refl
begun_fed (v5 (user_pass u p) d port true) l =
    let k = kept_parts (v5 (user_pass u p) d port true) l in
    same_fed _ _ refl
    (ap (λ (x : List ℕ). negotiation_req UserPass ++ (authentication_req u p ++ x)) (append-nil (proxy_req d port)) ∙ (λ i. sym k.0 i ++ (sym k.1 i ++ sym k.2 i)))
    refl
begun_fed (v4 d port) l = same_fed _ _ refl (append-nil (request d port) ∙ sym (kept_parts (v4 d port) l)) refl

first_sent : (o : Opening) → Limits o → first_of (first_reply o) (kept_by o) ≡ (machine o []).sent
first_sent o l = sym (ap (λ (m : Machine). m.sent) (machine_feed o []) ∙ ap (λ (f : SideFed). f.sent) (begun_fed o l))

-- ---- both accepted

-- a start of what is prepared, by whether the output is long enough
abbrev started : Opening → List ℕ → Bool → Call
started o out b = cond b (starts (prepared_for o) (first_of (first_reply o) (kept_by o)) out) (refusal ShortOutput (prepared_for o) out)

start_prepared : (o : Opening) (out : List ℕ) → start (prepared_for o) out ≡ started o out (leb (start_room o) (length out))
unfolding start
start_prepared (v5 no_auth d port o) out = refl
start_prepared (v5 (user_pass u p) d port o) out = refl
start_prepared (v4 d port) out = refl

module _ (o : Opening) (out : List ℕ) (p : (start (prepared_for o) out).answer ≡ Accepted) where
  answered : (started o out (leb (start_room o) (length out))).answer ≡ Accepted
  answered = ap (λ (c : Call). c.answer) (sym (start_prepared o out)) ∙ p

  long_enough : start_room o ≤ length out
  long_enough = leb-true (start_room o) (length out) (go (leb (start_room o) (length out)) answered)
    where
      go : (b : Bool) → (started o out b).answer ≡ Accepted → b ≡ true
      go true q = refl
      go false q = absurd (clash (sym q))

  pub start_begins : Limits o → start (prepared_for o) out ≡ begins o out
  start_begins l = start_prepared o out ∙ rw (le-leb (start_room o) (length out) long_enough) (ap (λ (first : List ℕ). starts (prepared_for o) first out) (first_sent o l))

module _ (o : Opening) where
  abbrev old : Answer → List ℕ → Call
  old x out = open_by (refuse (ltb (length out) (start_room o)) ShortOutput x) o out

  -- 1 where the output is too short
  abbrev short : List ℕ → Condition
  short out = (length out < start_room o) ↣ 1

  accepts : Limits o → (out : List ℕ) → (start (prepared_for o) out).answer ≡ Accepted → start (prepared_for o) out ≡ old Accepted out
  accepts l out p =
      let h = long_enough o out p in
      start_begins o out p l ∙ rw (le-ltb (length out) (start_room o) h)

  both : (x : Answer) → (x ≡ Accepted → Limits o) → (out : List ℕ) → (prepared_by x o).answer ≡ Accepted → (start (prepared_by x o).session out).answer ≡ Accepted
      → start (prepared_by x o).session out ≡ old x out
  both Accepted l out p = accepts (l refl) out
  both (Refused e) l out p = absurd (clash (sym p))

  refuses : (x : Answer) (e : SocksError) → (prepared_by x o).answer ≡ Refused e → (out : List ℕ) → start_room o ≤ length out → old x out ≡ refusal e (prepared_by x o).session out
  refuses Accepted e p out h = absurd (clash p)
  refuses (Refused d) e p out h = rw (le-ltb (length out) (start_room o) h) (ap (λ (x : SocksError). refusal x (empty_session d) out) (same_error p))

  -- ---- the order

  opened_answers : (x : Answer) (out : List ℕ) → (open_by x o out).answer ≡ x
  opened_answers Accepted out = refl
  opened_answers (Refused e) out = refl

  old_order : (x : Answer) (cs : List Condition) → Answers (answer_number x) cs → (out : List ℕ) → Answers (answer_number (old x out).answer) (short out ∷ cs)
  old_order x cs a out = rw (opened_answers (refuse (ltb (length out) (start_room o)) ShortOutput x) out) (checked _ _ _ _ _ _ refl (lit< tt) (less_just (length out) (start_room o)) a)

  start_order : (out : List ℕ) → Answers (answer_number (start (prepared_for o) out).answer) (short out ∷ [])
  start_order out = rw (start_prepared o out, same (leb (start_room o) (length out))) (checked (not (leb (start_room o) (length out))) _ ShortOutput 1 Accepted [] refl (lit< tt) (not_long (start_room o) (length out)) all_passed)
    where
      same : (b : Bool) → (started o out b).answer ≡ refuse (not b) ShortOutput Accepted
      same true = refl
      same false = refl

  new_order : (x : Answer) (cs : List Condition) → Answers (answer_number x) cs → (out : List ℕ) → Answers (answer_number (in_two (prepared_by x o) out).answer) (cs ++ (short out ∷ []))
  new_order Accepted cs a out = answers_behind (answer_number (start (prepared_for o) out).answer) cs (short out ∷ []) a (start_order out)
  new_order (Refused e) cs a out = answers_before (answer_number (Refused e)) cs (short out ∷ []) (number_is e).0 a

  in_two_lem : (x : Answer) (cs : List Condition) → (x ≡ Accepted → Limits o) → Answers (answer_number x) cs → InTwo (prepared_by x o) (old x) (start_room o) cs
  in_two_lem x cs l a = record { accepted = both x l; refused = refuses x; first = old_order x cs a; last = new_order x cs a }

-- for every preparing over v5, with records of sixteen address bytes as their arrays have
pub in_two_v5 : (a : V5) → Sixteen a.records → InTwo (prepare5 a) (open5 a) 778 (conditions5 a)
unfolding prepare5 open5 opening5
in_two_v5 a x = in_two_lem (opening5 a) (check5 a) (conditions5 a) (limits5 a x) (check5_just a)

-- and over v4
pub in_two_v4 : (a : V4) → InTwo (prepare4 a) (open4 a) 1024 (conditions4 a)
unfolding prepare4 open4 opening4
in_two_v4 a = in_two_lem (opening4 a) (check4 a) (conditions4 a) (limits4 a) (check4_just a)
