-- F-6 over sessions in lent bytes: that over the sessions that they mean.
use Prim.Native.Nat.{ℕ, ◌+◌}
use native.Mathlib.Nat.{zero-add}
use native.Mathlib.Omega.{arith}
use mathlib.Core.Path.{◌≡◌, refl, ap, sym, subst, ◌∙◌}
use mathlib.Core.Bool.{Bool}
use mathlib.Core.List.Memᴰ
use mathlib.Core.List.{List, [], ◌∷◌, ◌++◌, append_assoc}
use lib.ListN.{length, take, length-append}
use Rattle.protocol.specs.Answers.{Answer, Accepted, Refused}
use Rattle.protocol.specs.declared.Address.{Address}
use Rattle.protocol.specs.declared.Bound.{Bound}
use Rattle.protocol.specs.declared.Outcome.{Outcome}
use Rattle.protocol.specs.Bytes.{Bytes}
use Rattle.protocol.specs.Client as client
use Rattle.protocol.specs.Opening.{V5, Sixteen}
use Rattle.protocol.specs.Numbers.{answer_number}
use Rattle.client_stages.specs.declared.due.Stage.{Stage}
use Rattle.client_stages.specs.declared.due.Stage.TheVariants.{Awaiting, Open, Failed}
use Rattle.client_stages.specs.declared.due.Lengths.{Lengths}
use Rattle.client_stages.specs.due.Stages.{view_at}
use Rattle.client_session.specs.declared.Session.{Session}
use Rattle.client_session.specs.Session as session
use Rattle.client_session.specs.declared.Prepared.{Prepared}
use Rattle.client_session.specs.Calls as calls
use Rattle.client_session.specs.Calls.{prepare5}
use Rattle.socks.proofs.Turns.{start_untouched, deliver_untouched, end_untouched}
use Rattle.noninterference.specs.Places.{Agree}
use Rattle.noninterference.specs.Calls as plain
use Rattle.noninterference.specs.Calls.{Asks, start, deliver, end, outcome, attempts, bound, bound_text, Call, SameCalls, none, more, AlikeBut, SameBut, Hidden}
use Rattle.noninterference.proofs.Prepared.{concealed}
use Rattle.noninterference.proofs.Bytes.{agree_all, agree_join}
use Rattle.lent_numbers.specs.bytes.Numbers.{digits}
use Rattle.lent_numbers.specs.told.Told.{outcome_of}
use Rattle.lent_numbers.proofs.bytes.Laws.{length_digits}
use Rattle.lent_session.specs.Fits.{Fits}
use Rattle.lent_session.specs.State.{state_of, code_of, error_number, status_number}
use Rattle.lent_session.specs.Calls.{step_by, address_of}
use Rattle.lent_tunnel.specs.Concealed.{stepped, stands, tried, named, written, made_by, Stored, ByteCalls, LentHidden, LentConcealed}
use Rattle.lent_tunnel.proofs.Kept.{start_whole, deliver_whole, end_whole, Written, means, left}
use Rattle.lent_tunnel.proofs.Openings.{whole5}
use Rattle.lent_tunnel.proofs.Turns.{start_used, end_counts}

-- ---- the lent bytes of two sessions that are the same but for stored bytes

-- what stands ahead of the requests
abbrev ahead : Stage → Bool → ℕ → List ℕ → Bound → ℕ → Lengths → List ℕ
ahead g b n hold x k l =
    digits 8 k
    ++ (digits 2 n
    ++ (digits 2 l.first
    ++ (digits 2 l.authentication ++ (digits 2 l.proxy ++ (digits 2 x.port ++ (code_of g b l.optimistic x.kind ∷ error_number g ∷ status_number g ∷ hold))))))

ahead_of : Session → List ℕ
ahead_of x = ahead x.stage x.started x.held x.hold x.bound x.attempts x.requests.lengths

split : (x : Session) → state_of x ≡ ahead_of x ++ x.requests.bytes
unfolding ahead_of
split x = simp append_assoc refl

ahead_long : (x : Session) → length x.hold ≡ 261 → length (ahead_of x) ≡ 282
unfolding ahead_of
ahead_long x l = simp (length-append, length_digits) (omega arith)

ahead_same : (S : ℕ → Type 0) (x y : Session) → SameBut S x y → ahead_of x ≡ ahead_of y
unfolding ahead_of
ahead_same S x y s = λ i. ahead (s.stage i) (s.started i) (s.held i) (s.hold i) (s.bound i) (s.attempts i) (s.lengths i)

states_agree : (S : ℕ → Type 0) (x y : Session) → Fits x → SameBut S x y → Agree (Stored S) 0 (state_of x) (state_of y)
states_agree S x y f s =
    let l = ahead_long x f.hold in
    let b : Agree (Stored S) (0 + length (ahead_of x)) x.requests.bytes y.requests.bytes = record {
      long = s.bytes.long;
      same = λ i n. s.bytes.same i (λ q. n (i, ap (λ (k : ℕ). 0 + k + i) l ∙ ap (λ (k : ℕ). k + i) (zero-add 282), subst S (zero-add i) q));
    } in
    rw (split x, split y, sym (ahead_same S x y s)) (agree_join (Stored S) 0 (ahead_of x) (ahead_of x) x.requests.bytes y.requests.bytes (agree_all (Stored S) 0 (ahead_of x)) b)

no_bytes : (bs : List ℕ) {n : ℕ} → n ≡ 0 → take n bs ≡ []
no_bytes bs e = rw e refl

-- ---- a call

same_outcome : (g : Stage) (b c : Bound) (h k : List ℕ) → client.outcome_of (view_at g b h) ≡ client.outcome_of (view_at g c k)
same_outcome (Awaiting e) b c h k = refl
same_outcome Open b c h k = refl
same_outcome (Failed e) b c h k = refl

outcomes : (S : ℕ → Type 0) (x y : Session) → SameBut S x y → session.outcome x ≡ session.outcome y
outcomes S x y s = same_outcome x.stage x.bound y.bound (session.held_bytes x) (session.held_bytes y) ∙ ap (λ (g : Stage). client.outcome_of (view_at g y.bound (session.held_bytes y))) s.stage

same_step : (S : ℕ → Type 0) (c d : calls.Call) → c.answer ≡ d.answer → c.used ≡ d.used → c.sent ≡ d.sent → SameBut S c.session d.session → step_by c ≡ step_by d
same_step S c d a u n s = let o = outcomes S c.session d.session s in λ i. record { used = u i; sent = n i; answer = answer_number (a i); outcome = outcome_of (o i) }

same_now : (S : ℕ → Type 0) (n : ℕ) (x y : Session) (cs ds : List Call) → SameCalls cs ds → Hidden S n x y cs ds → SameBut S x y
unfolding Hidden
same_now S n x y _ _ none h = h
same_now S n x y _ _ (more a l m) h = h.0

abbrev Bytewise : Asks → Type 0
Bytewise q = (piece : List ℕ) → q ≡ deliver piece → Bytes piece

-- what two calls tell, if the sessions behind them are the same but for stored bytes
told : (S : ℕ → Type 0) (s t : List ℕ) (x y : Session) (q : Asks) (u v : List ℕ) → (plain.made x q u).returned ≡ (plain.made y q v).returned → SameBut S (plain.made x q u).session (plain.made y q v).session
    → (made_by s x q u).told ≡ (made_by t y q v).told
told S s t x y start u v r b =
    let a : (calls.start x u).answer ≡ (calls.start y v).answer = cc in
    let n : (calls.start x u).sent ≡ (calls.start y v).sent = cc in
    ap stepped (same_step S (calls.start x u) (calls.start y v) a (start_used x u ∙ sym (start_used y v)) n b)
told S s t x y (deliver piece) u v r b =
    let a : (calls.deliver x piece u).answer ≡ (calls.deliver y piece v).answer = cc in
    let m : (calls.deliver x piece u).used ≡ (calls.deliver y piece v).used = cc in
    let n : (calls.deliver x piece u).sent ≡ (calls.deliver y piece v).sent = cc in
    ap stepped (same_step S (calls.deliver x piece u) (calls.deliver y piece v) a m n b)
told S s t x y end u v r b =
    let a : (calls.end x).answer ≡ (calls.end y).answer = cc in
    ap stepped (same_step S (calls.end x) (calls.end y) a ((end_counts x).0 ∙ sym (end_counts y).0) ((end_counts x).1 ∙ sym (end_counts y).1) b)
told S s t x y outcome u v r b = let o : session.outcome x ≡ session.outcome y = cc in ap (λ (z : Outcome). stands (outcome_of z)) o
told S s t x y attempts u v r b = let o : x.attempts ≡ y.attempts = cc in ap tried o
told S s t x y bound u v r b = let o : session.bound x ≡ session.bound y = cc in ap (λ (z : Address). named (address_of z)) o
told S s t x y bound_text u v r b =
    let a : (session.write_bound x u).answer ≡ (session.write_bound y v).answer = cc in
    let n : (session.write_bound x u).len ≡ (session.write_bound y v).len = cc in
    λ i. written (record { len = n i; answer = answer_number (a i) })

-- a call leaves the one writing of what the session's own leaves, and sends and writes the same
module _ (s : List ℕ) (x : Session) (w : Written s x) where
  leaves : (q : Asks) (u : List ℕ) → Bytewise q → Written (made_by s x q u).state (plain.made x q u).session
  leaves start u y = left (calls.start x u) s x w (start_whole x w.whole u) (λ e r. ap (λ (c : calls.Call). c.session) (start_untouched x u e r))
  leaves (deliver piece) u y = left (calls.deliver x piece u) s x w (deliver_whole x w.whole piece u (y piece refl)) (λ e r. ap (λ (c : calls.Call). c.session) (deliver_untouched x piece u e r))
  leaves end u y = left (calls.end x) s x w (end_whole x w.whole) (λ e r. ap (λ (c : calls.Call). c.session) (end_untouched x e r))
  leaves outcome u y = w
  leaves attempts u y = w
  leaves bound u y = w
  leaves bound_text u y = w

  sends : (q : Asks) (u : List ℕ) → ((made_by s x q u).sent ≡ (plain.made x q u).sent) × ((made_by s x q u).text ≡ (plain.made x q u).text)
  sends start u = (refl, refl)
  sends (deliver piece) u = (refl, refl)
  sends end u = (no_bytes (calls.end x).output (end_counts x).1, refl)
  sends outcome u = (refl, refl)
  sends attempts u = (refl, refl)
  sends bound u = (refl, refl)
  sends bound_text u = (refl, refl)

-- ---- rows of calls

agrees : (S : ℕ → Type 0) (s t : List ℕ) (x y : Session) → Written s x → Written t y → SameBut S x y → Agree (Stored S) 0 s t
agrees S s t x y w v b = rw (w.is, v.is) (states_agree S x y w.whole.fits b)

pub rows : (S : ℕ → Type 0) (n : ℕ) (s t : List ℕ) (x y : Session) → Written s x → Written t y → (cs ds : List Call) → SameCalls cs ds → ByteCalls cs → Hidden S n x y cs ds → LentHidden S n s t cs ds
unfolding Hidden LentHidden
rows S n s t x y w v _ _ none by h = agrees S s t x y w v h
rows S n s t x y w v _ _ (more {c} {d} {cs} {ds} a l m) by h =
    let q : Asks = d.asks in
    let g : List ℕ = c.lent in
    let g' : List ℕ = d.lent in
    let y₁ : Bytewise q = λ piece r. by c (Memᴰ.head refl) piece (a ∙ r) in
    let k : SameBut S x y × ((plain.made x q g).returned ≡ (plain.made y q g').returned) × ((plain.made x q g).text ≡ (plain.made y q g').text) × Agree S n (plain.made x q g).sent (plain.made y q g').sent
    × Hidden S (n + length (plain.made x q g).sent) (plain.made x q g).session (plain.made y q g').session cs ds = rw a at h in
    let p = sends s x w q g in
    let p' = sends t y v q g' in
    let b = same_now S (n + length (plain.made x q g).sent) (plain.made x q g).session (plain.made y q g').session cs ds m k.4 in
    let next = rows S (n + length (plain.made x q g).sent) (made_by s x q g).state (made_by t y q g').state (plain.made x q g).session (plain.made y q g').session
    (leaves s x w q g y₁) (leaves t y v q g' y₁) cs ds m (λ z i. by z (Memᴰ.tail i)) k.4 in
    rw (a, means s x w, means t y v)
    (agrees S s t x y w v k.0, told S s t x y q g g' k.1 b, p.1 ∙ k.2 ∙ sym p'.1, rw (p.0, p'.0) k.3, rw p.0 next)

pub lent_concealed : (a b : V5) → Sixteen a.records → AlikeBut a b → LentConcealed a b
lent_concealed a b x k =
    let c = concealed a b k in
    record {
      answers = ap answer_number c.answers;
      refused = λ n. go (prepare5 a).answer refl n;
      hidden = λ cs ds m by q.
          rows _ 0 (state_of (prepare5 a).session) (state_of (prepare5 b).session) (prepare5 a).session (prepare5 b).session
          (record { is = refl; whole = whole5 a x q }) (record { is = refl; whole = whole5 b (subst Sixteen k.records x) (sym c.answers ∙ q) }) cs ds m by (c.hidden cs ds m q);
    }
  where
    go : (z : Answer) → (prepare5 a).answer ≡ z → (answer_number (prepare5 a).answer ≡ 0 → ⊥) → state_of (prepare5 a).session ≡ state_of (prepare5 b).session
    go Accepted q n = absurd (n (ap answer_number q))
    go (Refused e) q n = ap (λ (p : Prepared). state_of p.session) ((concealed a b k).refused e q)
