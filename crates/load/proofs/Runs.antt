-- F-13: handshakes run by the session's calls, piece by piece and one after the other.
use Rattle.std.proofs.Common.{◌≡◌, ℕ, zero, suc, ◌+◌, ◌-◌, ◌%◌, ◌^◌, ◌<◌, ◌≤◌, min, Bool, true, false, cond, leb, List, [], ◌∷◌, length, take, drop, replicate, sym, refl, ap, ◌∙◌, subst, arith, length-drop, ne_eqb, leb-false, leb-true}
use Rattle.std.specs.Prelude.{Some}
use Rattle.client_session.specs.declared.Session.{Session}
use Rattle.client_session.specs.declared.Started.{Started}
use Rattle.client_session.specs.declared.Delivered.{Delivered}
use Rattle.client_session.specs.Session.{outcome}
use Rattle.client_session.specs.Calls.{StartResult, DeliverResult, delivered, start, deliver}
use Rattle.protocol.specs.Opening.{opening5, opening4}
use Rattle.endings_spec.specs.Streams.{stream_of, stream_for}
use Rattle.endings_spec.proofs.Streams.{stream_wanted}
use Rattle.load_spec.specs.Load.{Handshake, opening_of, opens, next_state, piece_length, Cut, none, last, more, bytewise, Chosen, Load, done, next}
use Rattle.draws.specs.declared.Choice.{Choice}
use Rattle.draws.specs.declared.Piece.{Piece}
use Rattle.draws.specs.Draws.{choice_of, piece_of}
use Rattle.load.specs.declared.Tally.{Tally}
use Rattle.load.specs.Tally.{Counts, no_counts, with_sent, counts_of, tally_of, added, settled}
use Rattle.load.specs.Runs.{Ran, fed_with, prepared_by, ran_over, ran_all, Pieces, One, Fed, RanOne, RanOn, RanLoad, kind_by}

-- ---- the next piece, and those of what is left

cut_none : {s s' : ℕ} {bs : List ℕ} {ps : List (List ℕ)} → Cut s bs ps s' → length bs ≡ 0 → (ps ≡ []) × (s' ≡ s)
cut_none none e = (refl, refl)
cut_none (last any few) e = absurd (omega arith)
cut_none (more long later) e = absurd (omega arith)

take_all : (bs : List ℕ) → take (length bs) bs ≡ bs
take_all [] = refl
take_all (b ∷ bs) = ap (λ (x : List ℕ). b ∷ x) (take_all bs)

least_left : (a b : ℕ) → b ≤ a → min a b ≡ b
least_left a b h = omega arith

least_drawn : (a b : ℕ) → a < b → min a b ≡ a
least_drawn a b h = omega arith

drawn_more : (s : ℕ) (bs : List ℕ) (ps : List (List ℕ)) (s' : ℕ) → 0 < length bs
    → Cut (next_state s) (drop (min (piece_length s) (length bs)) bs) ps s' → Cut s bs (take (min (piece_length s) (length bs)) bs ∷ ps) s'
drawn_more s bs ps s' any c = go (leb (length bs) (piece_length s)) refl
  where
    n : ℕ
    n = min (piece_length s) (length bs)

    go : (b : Bool) → leb (length bs) (piece_length s) ≡ b → Cut s bs (take n bs ∷ ps) s'
    go true q =
        let l = leb-true (length bs) (piece_length s) q in
        let m = least_left (piece_length s) (length bs) l in
        let z = cut_none c (length-drop n bs ∙ rw m (omega arith)) in
        let t : take n bs ≡ bs = rw m (take_all bs) in
        rw (t, z.0, z.1) (last any l)
    go false q =
        let l = leb-false (length bs) (piece_length s) q in
        let m = least_drawn (piece_length s) (length bs) l in
        subst (λ (k : ℕ). Cut s bs (take k bs ∷ ps) s') (sym m) (more l (subst (λ (k : ℕ). Cut (next_state s) (drop k bs) ps s') m c))

single_more : (bs : List ℕ) (ps : List (List ℕ)) → 0 < length bs → ps ≡ bytewise (drop 1 bs) → take 1 bs ∷ ps ≡ bytewise bs
unfolding bytewise
single_more [] ps any e = absurd (omega arith)
single_more (b ∷ bs) ps any e = ap (λ (x : List (List ℕ)). (b ∷ []) ∷ x) e

pieces_more : (single : Bool) (s : ℕ) (bs : List ℕ) (p : Piece) (ps : List (List ℕ)) (s' : ℕ) → 0 < length bs → p ≡ piece_of s (length bs) single
    → Pieces single p.state (drop p.len bs) ps s' → Pieces single s bs (take p.len bs ∷ ps) s'
pieces_more single s bs p ps s' any e =
    subst (λ (q : Piece). Pieces single q.state (drop q.len bs) ps s' → Pieces single s bs (take q.len bs ∷ ps) s') (sym e)
    (rw (ne_eqb (length bs) 0 (λ q. omega arith)) (go single))
  where
    go : (single : Bool) → (let q : Piece = cond single (record { len = 1; state = s }) (record { len = min (piece_length s) (length bs); state = next_state s }) in
        Pieces single q.state (drop q.len bs) ps s' → Pieces single s bs (take q.len bs ∷ ps) s')
    go true (c, q) = (single_more bs ps any c, q)
    go false c = drawn_more s bs ps s' any c

-- ---- what is counted of no bytes

same_count : (x : ℕ) → x < 2 ^ 64 → x ≡ (x + 0) % 2 ^ 64
same_count x h = omega arith

pub none_added : (t : Tally) (s : List ℕ) {n state : ℕ} → n ≡ 0 → t.sent < 2 ^ 64 → t.sum < 2 ^ 64 → record { state = state; opened = t.opened; sent = t.sent; sum = t.sum } ≡ added t (take n s) state
none_added t s {state = state} e a b = rw e (λ i. record { state = state; opened = t.opened; sent = same_count t.sent a i; sum = same_count t.sum b i })

-- ---- replies fed piece by piece

ran_more : (session : Session) (p : List ℕ) (ps : List (List ℕ)) (out : List ℕ) (t : Counts) (d : Delivered) (out₁ : List ℕ) (x : Ran)
    → d ≡ delivered (deliver session p out) → out₁ ≡ (deliver session p out).output
    → fed_with d.session ps out₁ (with_sent t (take d.sent out₁)) ≡ x → fed_with session (p ∷ ps) out t ≡ x
unfolding fed_with
ran_more session p ps out t d out₁ x e q r =
    (λ i. fed_with (sym e i).session ps (sym q i) (with_sent t (take (sym e i).sent (sym q i)))) ∙ r

module _ (single : Bool) where
  pub fed_more : (session : Session) (out : List ℕ) (t : Tally) (bs : List ℕ) (p : Piece) (d : Delivered) (out₁ : List ℕ) (t₁ r : Tally) (out' : List ℕ) {now later : List ℕ}
      → now ≡ take p.len bs → later ≡ drop p.len bs → 0 < length bs → p ≡ piece_of t.state (length bs) single → DeliverResult (deliver session now out) now d out₁
      → t₁ ≡ added t (take d.sent out₁) p.state → Fed single t₁.state d.session later out₁ (counts_of t₁) r out'
      → Fed single t.state session bs out (counts_of t) r out'
  fed_more session out t bs p d out₁ t₁ r out' n l some e w u f =
      let g : Fed single p.state d.session (drop p.len bs) out₁ (with_sent (counts_of t) (take d.sent out₁)) r out' =
      subst (λ (v : Tally). Fed single v.state d.session (drop p.len bs) out₁ (counts_of v) r out') u
      (subst (λ (x : List ℕ). Fed single t₁.state d.session x out₁ (counts_of t₁) r out') l f) in
      let w' : DeliverResult (deliver session (take p.len bs) out) (take p.len bs) d out₁ = subst (λ (x : List ℕ). DeliverResult (deliver session x out) x d out₁) n w in
      record {
        pieces = take p.len bs ∷ g.pieces;
        cut = pieces_more single t.state bs p g.pieces r.state some e g.cut;
        ran = ran_more session (take p.len bs) g.pieces out (counts_of t) d out₁ _ w'.returned w'.output g.ran;
      }

  no_pieces : (single : Bool) (s : ℕ) → Pieces single s [] [] s
  unfolding bytewise
  no_pieces true s = (refl, refl)
  no_pieces false s = none

  pub fed_end : (session : Session) (out : List ℕ) (t r : Tally) (bs : List ℕ) → length bs ≡ 0 → r ≡ settled t (outcome session)
      → Fed single t.state session bs out (counts_of t) r out
  unfolding fed_with
  fed_end session out t r [] q e = rw e (record { pieces = []; cut = no_pieces single t.state; ran = refl })
  fed_end session out t r (b ∷ bs) q e = absurd (omega arith)

  pub fed_from : (session : Session) (replies out : List ℕ) (from t r : Tally) (sent out' : List ℕ) → t ≡ added from sent from.state
      → Fed single t.state session replies out (counts_of t) r out' → Fed single from.state session replies out (with_sent (counts_of from) sent) r out'
  fed_from session replies out from t r sent out' e f = subst (λ (v : Tally). Fed single v.state session replies out (counts_of v) r out') e f

-- ---- a handshake

pub take_same : (n m a : ℕ) → n ≤ m → take n (replicate m a) ≡ replicate n a
take_same zero m a h = refl
take_same (suc n) zero a h = absurd (omega arith)
take_same (suc n) (suc m) a h = ap (λ (x : List ℕ). a ∷ x) (take_same n m a (omega arith))

pub named : (l : List ℕ) (n : ℕ) → l ≡ replicate 200 0x61 → n ≤ 200 → take n l ≡ replicate n 0x61
named l n e h = rw e (take_same n 200 0x61 h)

stream_by : (v5 credentials : Bool) (name : ℕ) → stream_for (opening_of v5 credentials name) opens ≡ stream_of (kind_by v5 credentials) opens
unfolding opening5 opening4
stream_by true true name = refl
stream_by true false name = refl
stream_by false credentials name = refl

module _ (single : Bool) (t : Tally) (c : Choice) (chosen : c ≡ choice_of t.state) where
  abbrev of : List ℕ → List (List ℕ) → Handshake
  of replies pieces = record { v5 = c.v5; credentials = c.credentials; name = c.name; replies = replies; pieces = pieces }

  is_chosen : (replies : List ℕ) (pieces : List (List ℕ)) → stream_of (kind_by c.v5 c.credentials) opens ≡ Some replies → Chosen t.state (of replies pieces)
  is_chosen replies pieces e =
      record {
        version = ap (λ (x : Choice). x.v5) chosen;
        credentials = ap (λ (x : Choice). x.credentials) chosen;
        name = ap (λ (x : Choice). x.name) chosen;
        replies = stream_wanted (opening_of c.v5 c.credentials c.name) opens replies (stream_by c.v5 c.credentials c.name ∙ e);
      }

  is_drawn : (single : Bool) (h : Handshake) (s' : ℕ) → Chosen t.state h → Pieces single c.state h.replies h.pieces s' → One single t.state h s'
  is_drawn true h s' k (p, q) = (k, p, q ∙ ap (λ (x : Choice). x.state) chosen)
  is_drawn false h s' k p = (k, subst (λ (s : ℕ). Cut s h.replies h.pieces s') (ap (λ (x : Choice). x.state) chosen) p)

  ran_started : (replies : List ℕ) (ps : List (List ℕ)) (out : List ℕ) (d : Started) (out₁ : List ℕ) (x : Ran)
      → StartResult (start (prepared_by c.v5 c.credentials c.name).session out) d out₁
      → fed_with d.session ps out₁ (with_sent (counts_of t) (take d.sent out₁)) ≡ x → ran_over (of replies ps) out (counts_of t) ≡ x
  unfolding ran_over
  ran_started replies ps out d out₁ x w r =
      (λ i. fed_with (sym w.returned i).session ps (sym w.output i) (with_sent (counts_of t) (take (sym w.returned i).sent (sym w.output i)))) ∙ r

  pub ran_one : (replies out : List ℕ) (d : Started) (out₁ : List ℕ) (r : Tally) (out₂ : List ℕ)
      → StartResult (start (prepared_by c.v5 c.credentials c.name).session out) d out₁ → stream_of (kind_by c.v5 c.credentials) opens ≡ Some replies
      → Fed single c.state d.session replies out₁ (with_sent (counts_of t) (take d.sent out₁)) r out₂ → RanOne single t out r out₂
  ran_one replies out d out₁ r out₂ w q f =
      record {
        handshake = of replies f.pieces;
        drawn = is_drawn single (of replies f.pieces) r.state (is_chosen replies f.pieces q) f.cut;
        ran = ran_started replies f.pieces out d out₁ _ w f.ran;
      }

-- ---- handshakes one after the other

pub on_end : (single : Bool) (t : Tally) (left : ℕ) (out : List ℕ) → left ≤ 0 → RanOn single t left out t
unfolding ran_all
on_end single t zero out h = record { handshakes = []; load = done; ran = refl }
on_end single t (suc left) out h = absurd (omega arith)

pub on_next : (single : Bool) (t : Tally) (left : ℕ) (out : List ℕ) (t₁ : Tally) (out₁ : List ℕ) (r : Tally) → 0 < left → RanOne single t out t₁ out₁
    → RanOn single t₁ (left - 1) out₁ r → RanOn single t left out r
unfolding ran_all
on_next single t left out t₁ out₁ r any o f =
    let e : suc (left - 1) ≡ left = omega arith in
    record {
      handshakes = o.handshake ∷ f.handshakes;
      load = subst (λ (n : ℕ). Load (One single) t.state n (o.handshake ∷ f.handshakes) r.state) e (next o.drawn f.load);
      ran = ap (λ (x : Ran). (ran_all f.handshakes x.output x.counts).counts) o.ran ∙ f.ran;
    }

pub loaded : (single : Bool) (count seed : ℕ) (out : List ℕ) (r : Tally) → out ≡ replicate 1024 0 → RanOn single (tally_of no_counts seed) count out r → RanLoad single count seed r
loaded single count seed out r e f =
    record { handshakes = f.handshakes; load = f.load; ran = ap (λ (x : List ℕ). (ran_all f.handshakes x no_counts).counts) (sym e) ∙ f.ran }
