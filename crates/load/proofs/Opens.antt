-- F-13: every handshake of the load opens, whatever the seed, and uses all of its replies.
use Rattle.std.proofs.Common.{◌≡◌, ℕ, ◌+◌, ◌%◌, ◌≤◌, Bool, true, false, ◌⊎◌, List, [], ◌++◌, length, take, sym, refl, ap, ◌∙◌, subst, inl, inr, append-nil, arith, length-append, length-take, le-leb}
use mathlib.Core.List.Memᴰ
use mathlib.Core.List.{Memᴰ}
use Rattle.protocol.specs.Answers.{Accepted}
use Rattle.protocol.specs.declared.Outcome.{Outcome}
use Rattle.protocol.specs.declared.Outcome.TheVariants.{Waiting, Open, Failed}
use Rattle.protocol.specs.Bytes.{Bytes, BytePieces}
use Rattle.protocol.specs.Opening.{Opening, v5, v4, opening5, opening4, start_room, delivery_room}
use Rattle.protocol.specs.Machine.{machine, used}
use Rattle.protocol.proofs.Bytes.{bytes_left, bytes_right, bytes_part}
use Rattle.protocol.proofs.Limits.{number_is}
use Rattle.protocol.proofs.Sequences.{open_one, settled_same}
use Rattle.client_session.specs.declared.Prepared.{Prepared}
use Rattle.client_session.specs.Calls.{prepare5, prepare4, start}
use Rattle.socks.specs.Demand3.{joined_of, Tunnelled}
use Rattle.socks.proofs.Openings.{demand3_v5, demand3_v4, asking_v5, asking_v4}
use Rattle.socks.proofs.Refusals.{preparing5, preparing4}
use Rattle.socks.proofs.Claims.{starts_0}
use Rattle.endings_spec.specs.declared.OutcomeStatus.{OutcomeStatus}
use Rattle.endings_spec.specs.Endings.{ending_of, Leads, Wanted}
use Rattle.load_spec.specs.Load as load
use Rattle.load_spec.specs.Load.{Handshake, arguments5, arguments4, opening_of, opens, Chosen}
use Rattle.load_spec.specs.Cutting.{whole}
use Rattle.load_spec.proofs.Cutting.{cut_whole, bytewise_whole}
use Rattle.load.specs.Runs as runs
use Rattle.load.specs.Runs.{prepared_for, One}
use Rattle.load.specs.Opens.{Lent, none, more, started_with, EveryOpens}
use Rattle.load.proofs.Names.{accepted5, accepted4}
use Rattle.talk.specs.Tunnel.{Delivery, joined}

-- ---- the shortest replies that open are all used: a shorter beginning would open too

is_open : (x : Outcome) → ending_of x ≡ opens → x ≡ Open
is_open Waiting e = let z : ◌≡◌ {A = ℕ} 9 0 = ap (λ (w : OutcomeStatus). w.number) e in absurd (omega arith)
is_open Open e = refl
is_open (Failed x) e = absurd (omega (arith, (number_is x).0, ap (λ (w : OutcomeStatus). w.number) e))

not_waiting : Open ≡ Waiting → ⊥
not_waiting q = let z : ◌≡◌ {A = ℕ} 0 1 = cc in absurd (omega arith)

all_used : (o : Opening) (bs : List ℕ) → Wanted (Leads o opens) bs → used o bs ≡ length bs
all_used o bs w =
    let q = is_open (machine o bs).outcome w.leads in
    let u = used o bs in
    let same : machine o (take u bs) ≡ machine o bs = subst (λ (x : List ℕ). machine o x ≡ machine o bs) (append-nil (take u bs)) (settled_same o bs [] (λ r. not_waiting (sym q ∙ r))) in
    let few = w.shortest (take u bs) (bytes_part bs 0 u w.bytes) (ap (λ m. ending_of m.outcome) same ∙ w.leads) in
    let j = open_one o bs w.bytes q in
    let (f, b) = j.begins in
    let l : length bs ≡ length j.begin + length f = ap length b ∙ length-append j.begin f in
    omega (arith, few, length-take u bs, j.long, l)

-- ---- what is delivered

lent_joined : (o : Opening) → delivery_room o ≤ 1024 → {ps : List (List ℕ)} {ds : List Delivery} → Lent ps ds → joined_of o ds ≡ whole ps
unfolding joined whole
lent_joined o h none = refl
lent_joined o h (more {p = p} {out = out} l later) = rw (le-leb (delivery_room o) (length out) (omega arith)) (ap (λ (x : List ℕ). p ++ x) (lent_joined o h later))

lent_bytes : {ps : List (List ℕ)} {ds : List Delivery} → Lent ps ds → Bytes (whole ps) → BytePieces ds
unfolding whole
lent_bytes none y d m = absurd (Memᴰ.not-nil m)
lent_bytes (more {p = p} {out = out} {ps = ps} l later) y d m = go (Memᴰ.cases_cons m) (λ n. lent_bytes later (bytes_right p (whole ps) y) d n)
  where
    go : {xs : List Delivery} → (d ≡ record { piece = p; output = out }) ⊎ Memᴰ d xs → (Memᴰ d xs → Bytes d.piece) → Bytes d.piece
    go (inl e) later = rw e (bytes_left p (whole ps) y)
    go (inr n) later = later n

one_whole : (single : Bool) (s s' : ℕ) (h : Handshake) → One single s h s' → whole h.pieces ≡ h.replies
one_whole true s s' h (k, p, q) = rw p (bytewise_whole h.replies)
one_whole false s s' h (k, c) = cut_whole c

one_chosen : (single : Bool) (s s' : ℕ) (h : Handshake) → One single s h s' → Chosen s h
one_chosen true s s' h k = k.0
one_chosen false s s' h k = k.0

-- ---- an accepted opening

rooms : (o : Opening) → (start_room o ≤ 1024) × (delivery_room o ≤ 1024)
rooms (v5 c d port o) = (omega arith, omega arith)
rooms (v4 d port) = (omega arith, omega arith)

pub record Ready (p : Prepared) (o : Opening) : Type 0 where
  pub answer : p.answer ≡ Accepted
  pub starts : (out : List ℕ) → start_room o ≤ length out → (start p.session out).answer ≡ Accepted
  pub tunnelled : Tunnelled p o

accepts5 : (credentials : Bool) (n : ℕ) → 1 ≤ n → n ≤ 200 → (prepare5 (arguments5 credentials n)).answer ≡ Accepted
unfolding prepare5
accepts5 credentials n l h = rw (accepted5 credentials n l h) refl

accepts4 : (n : ℕ) → 1 ≤ n → n ≤ 200 → (prepare4 (arguments4 n)).answer ≡ Accepted
unfolding prepare4
accepts4 n l h = rw (accepted4 n l h) refl

ready : (v5 credentials : Bool) (n : ℕ) → 1 ≤ n → n ≤ 200 → Ready (runs.prepared_by v5 credentials n) (opening_of v5 credentials n)
ready true credentials n l h =
    let a = arguments5 credentials n in
    let t = preparing5 a in
    let e : (prepare5 a).answer ≡ Accepted = accepts5 credentials n l h in
    record { answer = e; starts = λ out k. starts_0 (prepare5 a) (opening5 a) (asking_v5 a) (t.waits e).outcomes (t.unstarted e) out k; tunnelled = demand3_v5 a (λ r m. absurd (Memᴰ.not-nil m)) }
ready false credentials n l h =
    let a = arguments4 n in
    let t = preparing4 a in
    let e : (prepare4 a).answer ≡ Accepted = accepts4 n l h in
    record { answer = e; starts = λ out k. starts_0 (prepare4 a) (opening4 a) (asking_v4 a) (t.waits e).outcomes (t.unstarted e) out k; tunnelled = demand3_v4 a }

-- ---- the claim

within : (h : Handshake) (s : ℕ) → Chosen s h → (1 ≤ h.name) × (h.name ≤ 200)
within h s k = go (load.drawn (load.next_state (load.next_state s))) h.name k.name
  where
    go : (x n : ℕ) → n ≡ 1 + x % 200 → (1 ≤ n) × (n ≤ 200)
    go x n e = (omega arith, omega arith)

pub every_opens : EveryOpens
every_opens single s s' h k out room ds l =
    let c = one_chosen single s s' h k in
    let o = opening_of h.v5 h.credentials h.name in
    let w = within h s c in
    let r = ready h.v5 h.credentials h.name w.0 w.1 in
    let p = prepared_for h in
    let b = one_whole single s s' h k in
    let room-o = rooms o in
    let a : (started_with h out).answer ≡ Accepted = r.starts out (omega arith) in
    let y : BytePieces ds = lent_bytes l (rw b c.replies.bytes) in
    let d = r.tunnelled out r.answer a ds y in
    let j : joined_of o ds ≡ h.replies = lent_joined o room-o.1 l ∙ b in
    record {
      prepared = r.answer;
      started = a;
      opens = d.outcome_as ∙ ap (λ (x : List ℕ). (machine o x).outcome) j ∙ is_open (machine o h.replies).outcome c.replies.leads;
      uses = d.count_as ∙ ap (λ (x : List ℕ). used o x) j ∙ all_used o h.replies c.replies;
    }
