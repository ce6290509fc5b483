-- F-11: the attempts of openings in turn, by one delivery more: those of the first one, and where it opens those of the next on what it left.
use Prim.Native.Nat.{ℕ, ◌+◌, ◌-◌, ◌≤◌}
use native.Mathlib.Nat.{add-zero}
use native.Mathlib.Omega.{arith}
use mathlib.Core.Path.{◌≡◌, refl, ap, sym, ◌∙◌}
use mathlib.Core.Bool.{Bool, true, false, cond, ◌&&◌, true≢false}
use mathlib.Core.List.{List, [], ◌∷◌, ◌++◌}
use lib.ListN.{length, drop}
use lib.Seq.{drop-nil}
use Rattle.protocol.specs.declared.SocksError.{SocksError}
use Rattle.protocol.specs.declared.Outcome.{Outcome}
use Rattle.protocol.specs.declared.Outcome.TheVariants.{Waiting, Open, Failed}
use Rattle.protocol.specs.Opening.{Opening}
use Rattle.protocol.specs.Machine.{Machine, machine}
use Rattle.protocol.specs.Client.{begun, side, outcome_of}
use Rattle.protocol.specs.Client as client
use Rattle.protocol.proofs.Client.{client_lawful, begun_shaped, machine_feed}
use Rattle.client_stages.specs.due.Stages.{SideSession, SideFed}
use Rattle.socks.specs.Attempts.{is_waiting, has_byte, lends_for, attempts_at, attempts_of}
use Rattle.route.specs.Routed.{left_by, handed_on, attempts_in_turn}
use Rattle.talk.specs.Talk.{feed, waiting, ended, is_over}
use Rattle.talk.specs.Tunnel.{Delivery}
use Rattle.talk.proofs.Feed.{and_then, feed_append, feed_within, onward_over}

-- ---- an opening's machine on bytes and on more

module _ (o : Opening) where
  abbrev pub fed : List ℕ → SideFed
  fed bs = feed (side o) (begun o) bs

  pub outcome_fed : (bs : List ℕ) → (machine o bs).outcome ≡ outcome_of (fed bs).session
  outcome_fed bs = ap (λ (m : Machine). m.outcome) (machine_feed o bs)

  pub place_fed : (bs : List ℕ) → (machine o bs).place ≡ (fed bs).place
  place_fed bs = ap (λ (m : Machine). m.place) (machine_feed o bs)

  pub fed_append : (before p : List ℕ) → fed (before ++ p) ≡ and_then (side o) (fed before) p
  fed_append before p = feed_append (side o) (client_lawful (client.kept o)) (begun o) (begun_shaped o) before p

  pub fed_over : (before p : List ℕ) → is_over (fed before).session ≡ true → ((fed (before ++ p)).session ≡ (fed before).session) × ((fed (before ++ p)).place ≡ (fed before).place)
  fed_over before p v =
      let u = onward_over (side o) (client_lawful (client.kept o)) (fed before).session p v in (
        ap (λ (f : SideFed). f.session) (fed_append before p) ∙ ap (λ (f : SideFed). f.session) u,
        ap (λ (f : SideFed). f.place) (fed_append before p) ∙ ap (λ (f : SideFed). (fed before).place + f.place) u ∙ add-zero (fed before).place,
      )

  -- one that is over stays so, with its outcome and place
  over_stays : (before p : List ℕ) → is_waiting (machine o before).outcome ≡ false → ((machine o (before ++ p)).outcome ≡ (machine o before).outcome) × ((machine o (before ++ p)).place ≡ (machine o before).place)
  over_stays before p v =
      let w = fed_over before p (waits_over (fed before).session (ap is_waiting (sym (outcome_fed before)) ∙ v)) in
      (outcome_fed (before ++ p) ∙ ap outcome_of w.0 ∙ sym (outcome_fed before), place_fed (before ++ p) ∙ w.1 ∙ sym (place_fed before))
    where
      waits_over : (m : SideSession) → is_waiting (outcome_of m) ≡ false → is_over m ≡ true
      waits_over (waiting e h) q = sym q
      waits_over (ended x) q = refl

  place_within : (before : List ℕ) → (machine o before).place ≤ length before
  place_within before = omega (arith, place_fed before, feed_within (side o) (client_lawful (client.kept o)) (begun o) before)

  -- ---- what it leaves of a piece

  abbrev pub left : List ℕ → List ℕ → List ℕ
  left before p = let m = machine o (before ++ p) in left_by m.outcome m.place before p

  -- once over it has no attempts
  none_over : (ds : List Delivery) (before : List ℕ) → is_waiting (machine o before).outcome ≡ false → attempts_of o before ds ≡ 0
  unfolding attempts_of
  none_over [] before v = refl
  none_over (d ∷ ds) before v =
      let p = cond (lends_for o d) d.piece [] in
      let n : attempts_at o before d ≡ 0 = rw v (uncounted (lends_for o d) (has_byte d) _) in
      omega (arith, n, none_over ds (before ++ p) (ap is_waiting (over_stays before p v).0 ∙ v))
    where
      uncounted : (a b : Bool) (n : ℕ) → cond (a && (b && false)) n 0 ≡ 0
      uncounted true true n = refl
      uncounted true false n = refl
      uncounted false b n = refl

  -- open, it leaves all
  all_left : (ds : List Delivery) (before : List ℕ) → (machine o before).outcome ≡ Open → handed_on o before ds ≡ ds
  unfolding handed_on
  all_left [] before v = refl
  all_left (d ∷ ds) before v =
      let w = over_stays before d.piece (ap is_waiting v) in
      let z : (machine o (before ++ d.piece)).place - length before ≡ 0 = omega (arith, w.1, place_within before) in
      let e : left before d.piece ≡ d.piece = rw (w.0, v) (ap (λ (n : ℕ). drop n d.piece) z) in
      λ i. record { piece = e i; output = d.output } ∷ all_left ds (before ++ d.piece) (w.0 ∙ v) i

-- ---- an empty piece adds nothing

abbrev nothing : List ℕ → Delivery
nothing out = record { piece = []; output = out }

left_nothing : (x : Outcome) (place : ℕ) (before : List ℕ) → left_by x place before [] ≡ []
left_nothing Waiting place before = refl
left_nothing Open place before = drop-nil (place - length before)
left_nothing (Failed e) place before = refl

own_nothing : (o : Opening) (out : List ℕ) (ds : List Delivery) → attempts_of o [] (nothing out ∷ ds) ≡ attempts_of o [] ds
unfolding attempts_of
own_nothing o out ds = go (lends_for o (nothing out)) _
  where
    go : (b : Bool) (n : ℕ) → cond (b && (false && is_waiting (machine o []).outcome)) n 0 + attempts_of o (cond b [] []) ds ≡ attempts_of o [] ds
    go true n = omega arith
    go false n = omega arith

row_nothing : (os : List Opening) (out : List ℕ) (ds : List Delivery) → attempts_in_turn os (nothing out ∷ ds) ≡ attempts_in_turn os ds
unfolding attempts_in_turn handed_on
row_nothing [] out ds = refl
row_nothing (o ∷ os) out ds =
    let e : left o [] [] ≡ [] = left_nothing (machine o []).outcome (machine o []).place [] in
    let h : attempts_in_turn os (record { piece = left o [] []; output = out } ∷ handed_on o [] ds) ≡ attempts_in_turn os (handed_on o [] ds) = rw e (row_nothing os out (handed_on o [] ds)) in
    omega (arith, own_nothing o out ds, h)

row_none : (os : List Opening) → attempts_in_turn os [] ≡ 0
unfolding attempts_in_turn handed_on attempts_of
row_none [] = refl
row_none (o ∷ os) = omega (arith, row_none os)

-- behind one that has failed
row_failed : (o : Opening) (os : List Opening) (e : SocksError) (ds : List Delivery) (before : List ℕ) → (machine o before).outcome ≡ Failed e → attempts_in_turn os (handed_on o before ds) ≡ 0
unfolding handed_on
row_failed o os e [] before v = row_none os
row_failed o os e (d ∷ ds) before v =
    let w : (machine o (before ++ d.piece)).outcome ≡ Failed e = (over_stays o before d.piece (ap is_waiting v)).0 ∙ v in
    rw w (row_nothing os d.output (handed_on o (before ++ d.piece) ds) ∙ row_failed o os e ds (before ++ d.piece) w)

-- ---- the attempts from an opening on that was handed bytes, those behind it none

abbrev pub tries : Opening → List ℕ → List Opening → List Delivery → ℕ
tries o before os ds = attempts_of o before ds + attempts_in_turn os (handed_on o before ds)

pub tries_first : (o : Opening) (os : List Opening) (ds : List Delivery) → attempts_in_turn (o ∷ os) ds ≡ tries o [] os ds
unfolding attempts_in_turn
tries_first o os ds = refl

pub tries_none : (o : Opening) (before : List ℕ) (os : List Opening) → tries o before os [] ≡ 0
unfolding attempts_of handed_on
tries_none o before os = omega (arith, row_none os)

-- it is over, and none is begun behind it
pub tries_over : (o : Opening) (before : List ℕ) (os : List Opening) (ds : List Delivery) → is_waiting (machine o before).outcome ≡ false → ((machine o before).outcome ≡ Open → os ≡ [])
    → tries o before os ds ≡ 0
unfolding attempts_in_turn
tries_over o before os ds v l = omega (arith, none_over o ds before v, go (machine o before).outcome refl)
  where
    go : (x : Outcome) → (machine o before).outcome ≡ x → attempts_in_turn os (handed_on o before ds) ≡ 0
    go Waiting q = absurd (true≢false (ap is_waiting (sym q) ∙ v))
    go Open q = rw (l q)
    go (Failed e) q = row_failed o os e ds before q

module _ (o : Opening) (before : List ℕ) (d : Delivery) (h : lends_for o d ≡ true) (ds : List Delivery) where
  own_more : attempts_of o before (d ∷ ds) ≡ attempts_at o before d + attempts_of o (before ++ d.piece) ds
  unfolding attempts_of
  own_more = ap (λ (b : Bool). attempts_at o before d + attempts_of o (before ++ cond b d.piece []) ds) h

  -- it leaves nothing of a delivery
  pub tries_stays : (os : List Opening) → left o before d.piece ≡ [] → tries o before os (d ∷ ds) ≡ attempts_at o before d + tries o (before ++ d.piece) os ds
  unfolding handed_on
  tries_stays os e =
      let w : attempts_in_turn os (record { piece = left o before d.piece; output = d.output } ∷ handed_on o (before ++ d.piece) ds) ≡ attempts_in_turn os (handed_on o (before ++ d.piece) ds) =
      rw e (row_nothing os d.output (handed_on o (before ++ d.piece) ds)) in
      omega (arith, own_more, w)

  -- it is the last
  pub tries_last : tries o before [] (d ∷ ds) ≡ attempts_at o before d + tries o (before ++ d.piece) [] ds
  unfolding attempts_in_turn
  tries_last = omega (arith, own_more)

  -- it is open then: the next takes what it left
  pub tries_opens : (p : Opening) (os : List Opening) → (machine o (before ++ d.piece)).outcome ≡ Open
      → tries o before (p ∷ os) (d ∷ ds) ≡ attempts_at o before d + tries p [] os (record { piece = left o before d.piece; output = d.output } ∷ ds)
  unfolding handed_on
  tries_opens p os v =
      let n = none_over o ds (before ++ d.piece) (ap is_waiting v) in
      let w : attempts_in_turn (p ∷ os) (record { piece = left o before d.piece; output = d.output } ∷ handed_on o (before ++ d.piece) ds) ≡ tries p [] os (record { piece = left o before d.piece; output = d.output } ∷ ds) =
      ap (λ (l : List Delivery). attempts_in_turn (p ∷ os) (record { piece = left o before d.piece; output = d.output } ∷ l)) (all_left o ds (before ++ d.piece) v)
      ∙ tries_first p os (record { piece = left o before d.piece; output = d.output } ∷ ds) in
      omega (arith, own_more, n, w)
