-- F-13: that every handshake opens, used: each one that is run counts as opened, and so do all of the load.
use Rattle.std.proofs.Common.{◌≡◌, ℕ, suc, ◌+◌, ◌%◌, ◌^◌, ◌≤◌, Bool, cond, ◌⊎◌, List, [], ◌∷◌, length, replicate, sym, refl, ap, ◌∙◌, inl, inr, arith}
use lib.ListN.{length-replicate}
use Rattle.protocol.specs.declared.Outcome.{Outcome}
use Rattle.protocol.specs.Opening.{delivery_room}
use Rattle.client_session.specs.declared.Session.{Session}
use Rattle.client_session.specs.Session.{outcome}
use Rattle.client_session.specs.Calls.{start, deliver}
use Rattle.socks.specs.Demand3.{receiver}
use Rattle.socks.specs.Turns.{InTurn}
use Rattle.socks.proofs.Turns.{any_in_turn}
use Rattle.load_spec.specs.Load.{Handshake, opening_of, Load, done, next}
use Rattle.load.specs.declared.Tally.{Tally}
use Rattle.load.specs.Tally.{Counts, no_counts, with_sent, is_open}
use Rattle.load.specs.Runs.{sent_by, fed_with, prepared_for, ran_over, ran_all, One, RanLoad}
use Rattle.load.specs.Opens.{Lent, none, more, started_with}
use Rattle.load.proofs.Opens.{every_opens}
use Rattle.talk.specs.Tunnel.{Delivery, after}

-- no call changes how long its output is
start_size : (s : Session) (out : List ℕ) → length (start s out).output ≡ length out
start_size s out = go (any_in_turn s)
  where
    go : InTurn 778 778 s ⊎ InTurn 1024 262 s → length (start s out).output ≡ length out
    go (inl t) = (t.start_behind out).size
    go (inr t) = (t.start_behind out).size

deliver_size : (s : Session) (p out : List ℕ) → length (deliver s p out).output ≡ length out
deliver_size s p out = go (any_in_turn s)
  where
    go : InTurn 778 778 s ⊎ InTurn 1024 262 s → length (deliver s p out).output ≡ length out
    go (inl t) = (t.deliver_behind p out).size
    go (inr t) = (t.deliver_behind p out).size

-- the deliveries of a run, which lend one output in turn
unfoldable lent_by : Session → List (List ℕ) → List ℕ → List Delivery
lent_by s [] out = []
lent_by s (p ∷ ps) out = let c = deliver s p out in record { piece = p; output = out } ∷ lent_by c.session ps c.output

are_lent : (s : Session) (ps : List (List ℕ)) (out : List ℕ) → 1024 ≤ length out → Lent ps (lent_by s ps out)
unfolding lent_by
are_lent s [] out h = none
are_lent s (p ∷ ps) out h = more h (are_lent (deliver s p out).session ps (deliver s p out).output (rw (deliver_size s p out) h))

abbrev counted : ℕ → Outcome → ℕ
counted n o = cond (is_open o) ((n + 1) % 2 ^ 64) n

fed_opened : (room : ℕ) (s : Session) (ps : List (List ℕ)) (out : List ℕ) (t : Counts) → (fed_with s ps out t).counts.opened ≡ counted t.opened (outcome (after (receiver room) s (lent_by s ps out)))
unfolding fed_with lent_by after
fed_opened room s [] out t = refl
fed_opened room s (p ∷ ps) out t = fed_opened room (deliver s p out).session ps (deliver s p out).output (with_sent t (sent_by (deliver s p out)))

fed_size : (s : Session) (ps : List (List ℕ)) (out : List ℕ) (t : Counts) → length (fed_with s ps out t).output ≡ length out
unfolding fed_with
fed_size s [] out t = refl
fed_size s (p ∷ ps) out t = fed_size (deliver s p out).session ps (deliver s p out).output (with_sent t (sent_by (deliver s p out))) ∙ deliver_size s p out

ran_size : (h : Handshake) (out : List ℕ) (t : Counts) → length (ran_over h out t).output ≡ length out
unfolding ran_over
ran_size h out t = let c = started_with h out in fed_size c.session h.pieces c.output (with_sent t (sent_by c)) ∙ start_size (prepared_for h).session out

-- one more is open
pub one_opened : (single : Bool) (s s' : ℕ) (h : Handshake) → One single s h s' → (out : List ℕ) → 1024 ≤ length out → (t : Counts) → (ran_over h out t).counts.opened ≡ (t.opened + 1) % 2 ^ 64
unfolding ran_over
one_opened single s s' h k out room t =
    let c = started_with h out in
    let o = opening_of h.v5 h.credentials h.name in
    let ds = lent_by c.session h.pieces c.output in
    let e = every_opens single s s' h k out room ds (are_lent c.session h.pieces c.output (rw (start_size (prepared_for h).session out) room)) in
    fed_opened (delivery_room o) c.session h.pieces c.output (with_sent t (sent_by c)) ∙ ap (counted t.opened) e.opens

step : (a n : ℕ) → ((a + 1) % 2 ^ 64 + n) % 2 ^ 64 ≡ (a + suc n) % 2 ^ 64
step a n = omega arith

all_opened : (single : Bool) {s n s' : ℕ} {hs : List Handshake} → Load (One single) s n hs s' → (out : List ℕ) → 1024 ≤ length out → (t : Counts)
    → ((ran_all hs out t).counts.opened % 2 ^ 64) ≡ (t.opened + n) % 2 ^ 64
unfolding ran_all
all_opened single done out room t = omega arith
all_opened single (next {n = n} {h = h} one later) out room t =
    let r = ran_over h out t in
    all_opened single later r.output (rw (ran_size h out t) room) r.counts
    ∙ ap (λ (x : ℕ). (x + n) % 2 ^ 64) (one_opened single _ _ h one out room t) ∙ step t.opened n

-- a run of the load says that all opened
pub load_opened : (single : Bool) (count seed : ℕ) (r : Tally) → RanLoad single count seed r → r.opened % 2 ^ 64 ≡ count % 2 ^ 64
load_opened single count seed r l =
    let e = all_opened single l.load (replicate 1024 0) (rw (length-replicate {A = ℕ} 1024 0) (omega arith)) no_counts in
    let z : 0 + count ≡ count = omega arith in
    ap (λ (x : Counts). x.opened % 2 ^ 64) (sym l.ran) ∙ e ∙ ap (λ (x : ℕ). x % 2 ^ 64) z
