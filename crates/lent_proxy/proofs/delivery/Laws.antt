-- What a delivery over lent bytes leaves, each way that it goes.
use Prim.Native.Nat.{ℕ, ◌+◌, ◌-◌, ◌/◌, ◌%◌, ◌≤◌, ◌<◌, min, zero-le}
use native.Mathlib.Omega.{arith}
use mathlib.Core.Path.{◌≡◌, refl, sym, ap, subst, ◌∙◌}
use mathlib.Core.Bool.{Bool, true, false, cond}
use mathlib.Core.List.{List, [], ◌∷◌, ◌++◌, append_assoc}
use lib.ListN.{length, take, drop, length-append, length-take, length-drop}
use lib.Seq.{take-append-add, drop-append-add, take-append-le, drop-append-le, take-take}
use lib.Dec.{eqb}
use borrow.Author.Tests.{ne_eqb, le-leb, lt-leb}
use Rattle.protocol.specs.declared.AddressKind.{AddressKind}
use Rattle.protocol.specs.declared.Bound.{Bound}
use Rattle.protocol.specs.declared.Version.TheVariants.{V4, V5}
use Rattle.raw_errors.specs.Errors.{error_of}
use Rattle.protocol.specs.declared.SocksError.{SocksError}
use Rattle.protocol.specs.declared.SocksError.TheVariants.{Settled}
use Rattle.protocol.specs.Bytes.{Bytes, byte}
use Rattle.protocol.specs.Numbers.{answer_number}
use Rattle.buffers.specs.write.Written.{overwrite, Wrote}
use Rattle.buffers.proofs.write.Laws.{length_overwrite}
use Rattle.proxy_spec.specs.declared.Field.{Field}
use Rattle.proxy_spec.specs.declared.Stage.{Stage}
use Rattle.proxy_spec.specs.declared.Stage.TheVariants.{Awaiting, Asked, Open, Failed}
use Rattle.proxy_spec.specs.Side.{EndSession}
use Rattle.proxy_decisions.proofs.decision.Laws.{feed_undecided}
use Rattle.proxy_decisions.specs.decision.Due.{asks_at}
use Rattle.proxy_delivery.specs.declared.piece.Taken.{Taken}
use Rattle.proxy_delivery.specs.declared.turns.Turn.{Turn}
use Rattle.std.specs.Prelude.{Result}
use Rattle.proxy_delivery.specs.turns.Turns.{Worked, last_in}
use Rattle.proxy_delivery.specs.piece.Pieces.{TakeResult, Keeps, holds_of}
use Rattle.proxy_delivery.specs.delivery.Received.{Waits, ReceiveResult}
use Rattle.proxy_delivery.proofs.piece.Keeping.{Came, takes_worked}
use Rattle.proxy_delivery.proofs.delivery.Ways.{receives_settled, receives_none, receives_taken}
use Rattle.proxy_delivery.proofs.turns.Laws.{wrote_none}
use Rattle.proxy_session.specs.declared.Server.{Server}
use Rattle.proxy_session.specs.declared.Delivered.{Delivered}
use Rattle.proxy_session.specs.Server.{setup_of}
use Rattle.proxy_session.specs.Calls.{DeliverResult, deliver, refusal}
use Rattle.proxy_session.proofs.Laws.{delivers}
use Rattle.talk.specs.Talk.{waiting}
use Rattle.lent_numbers.specs.bytes.Numbers.{digits}
use Rattle.lent_numbers.proofs.bytes.Laws.{number_below}
use Rattle.protocol.proofs.Bytes.{bytes_part}
use Rattle.lent_numbers.specs.declared.told.RawStep.{RawStep}
use Rattle.lent_proxy.specs.State.{two_at, kept_at, stage_at, field_of, stage_of, authenticates_at, server_at, code_of, stage_keeps, state_of}
use Rattle.lent_proxy.specs.Fits.{FieldFits, changed, staged, Rewrites}
use Rattle.lent_proxy.specs.Calls.{standing_of, step_by, left_by, Leaves}
use Rattle.lent_proxy.specs.delivery.Lacking.{Lacks, waiting_step, Settles}
use Rattle.lent_proxy.proofs.Writing.{state_back, state_written, put_held, put_port, put_hold}

-- ---- which stages await

pub awaits_field : (n m : ℕ) → (n ≡ 0 → ⊥) → n ≤ 10 → stage_of n m ≡ Awaiting (field_of n m)
unfolding stage_of
awaits_field n m z h = rw (ne_eqb n 0 z, le-leb n 10 h)

pub failed_over : (n m : ℕ) → n ≡ 0 → Waits (stage_of n m) → ⊥
unfolding stage_of
failed_over n m z w = rw z at w

pub later_over : (n m : ℕ) → 10 < n → Waits (stage_of n m) → ⊥
unfolding stage_of
later_over n m h w =
    let z : n ≡ 0 → ⊥ = λ e. omega arith in
    go (eqb n 11) (eqb n 12) (eqb n 13) (eqb n 14) (rw (ne_eqb n 0 z, lt-leb n 10 h) at w)
  where
    go : (a b c d : Bool) → Waits (cond a (Asked V4) (cond b (Asked V5) (cond c (Open V4) (cond d (Open V5) (Failed (error_of (m % 256) (m / 256 % 256))))))) → ⊥
    go true b c d w = w
    go false true c d w = w
    go false false true d w = w
    go false false false true w = w
    go false false false false w = w

pub awaits_some : (n m : ℕ) (f : Field) → stage_of n m ≡ Awaiting f → n ≡ 0 → ⊥
unfolding stage_of
awaits_some n m f e z = let w : Failed (error_of (m % 256) (m / 256 % 256)) ≡ Awaiting f = rw z at e in not_awaiting (error_of (m % 256) (m / 256 % 256)) f w
  where
    not_awaiting : (x : SocksError) (f : Field) → Failed x ≡ Awaiting f → ⊥
    not_awaiting x f e = let z : ◌≡◌ {A = ℕ} 0 1 = cc in absurd (omega arith)

-- as the code has it: a number that was read, and what is kept
module _ (s : List ℕ) {n k : ℕ} (e : k ≡ kept_at s) (q : n ≡ stage_at (byte s 4) k) where
  pub stage_is : n ≡ stage_at (byte s 4) (kept_at s)
  stage_is = q ∙ ap (stage_at (byte s 4)) e

  pub over_failed : n ≡ 0 → Waits (server_at s).stage → ⊥
  over_failed z = failed_over (stage_at (byte s 4) (kept_at s)) (kept_at s) (sym stage_is ∙ z)

  pub over_later : 10 < n → Waits (server_at s).stage → ⊥
  over_later h = later_over (stage_at (byte s 4) (kept_at s)) (kept_at s) (rw stage_is at h)

  pub awaits_at : (n ≡ 0 → ⊥) → n ≤ 10 → (server_at s).stage ≡ Awaiting (field_of n k)
  awaits_at z h = ap (λ (i : ℕ). stage_of i (kept_at s)) (sym stage_is) ∙ awaits_field n (kept_at s) z h ∙ ap (λ (i : ℕ). Awaiting (field_of n i)) (sym e)

-- ---- writes

one_byte : (p : List ℕ) → length p ≡ 1 → byte p 0 ∷ [] ≡ p
one_byte [] e = absurd (omega arith)
one_byte (b ∷ []) e = refl
one_byte (b ∷ c ∷ p) e = absurd (omega arith)

pub one_put : {s s' : List ℕ} {at r : ℕ} (p : List ℕ) → length p ≡ 1 → Wrote s at (byte p 0 ∷ []) r s' → Wrote s at p r s'
one_put {s} {s'} {at} {r} p e w = subst (λ (t : List ℕ). Wrote s at t r s') (one_byte p e) w

-- how many are held, the port, and then the stage
pub settles_left : {s s₁ s₂ s₃ : List ℕ} (h p : ℕ) (g : Stage) (k : AddressKind) → s₁ ≡ overwrite s 0 (digits 2 h) → s₂ ≡ overwrite s₁ 2 (digits 2 p) → Rewrites (λ x. staged x g k) s₂ s₃
    → Rewrites (λ x. changed x g h x.hold (record { kind = k; port = p })) s s₃
settles_left h p g k a b w x q =
    w (changed x x.stage h x.hold (record { kind = x.bound.kind; port = p })) (b ∙ rw (a, q, put_held x h) (put_port (changed x x.stage h x.hold x.bound) p))

-- ---- a piece behind what is held

module _ (h t : List ℕ) (bs : List ℕ) where
  pub overwrite_behind : (n k : ℕ) → length h ≡ n → overwrite (h ++ t) (n + k) bs ≡ h ++ overwrite t k bs
  unfolding overwrite
  overwrite_behind n k l =
      let a : n + k + length bs ≡ n + (k + length bs) = omega arith in
      rw (a, ← l, take-append-add h t k, drop-append-add h t (k + length bs), append_assoc h (take k t) (bs ++ drop (k + length bs) t))

  pub overwrite_within : (k : ℕ) → k + length bs ≤ length h → overwrite (h ++ t) k bs ≡ overwrite h k bs ++ t
  unfolding overwrite
  overwrite_within k l =
      rw (take-append-le k h t (omega arith), drop-append-le (k + length bs) h t l, append_assoc (take k h) (bs ++ drop (k + length bs) h) t, append_assoc bs (drop (k + length bs) h) t)

abbrev pub header : Server → List ℕ
header x = digits 2 x.held ++ (digits 2 x.bound.port ++ (code_of x.stage x.authenticates x.bound.kind ∷ x.user.len ∷ x.password.len ∷ digits 8 (stage_keeps x.stage)))

module _ (x : Server) (long : length x.hold ≡ 1014) (k : ℕ) (bs : List ℕ) (room : k + length bs ≤ 1014) where
  put_behind : overwrite (state_of x) (15 + k) bs ≡ state_of (changed x x.stage x.held (overwrite x.hold k bs) x.bound)
  unfolding digits
  put_behind =
      overwrite_behind (header x) (x.hold ++ (x.user.bytes ++ x.password.bytes)) bs 15 k refl
      ∙ ap (λ (t : List ℕ). header x ++ t) (overwrite_within x.hold (x.user.bytes ++ x.password.bytes) bs k (rw long room))

module _ (s : List ℕ) (long : length s ≡ 1539) where
  pub hold_long : length (server_at s).hold ≡ 1014
  hold_long = simp (length-take, length-drop) (omega arith)

  pub user_long : length (server_at s).user.bytes ≡ 255
  user_long = simp (length-take, length-drop) (omega arith)

pub two_small : (s : List ℕ) → Bytes s → length s ≡ 1539 → (at : ℕ) → at + 2 ≤ 1539 → two_at s at < 65536
two_small s y long at h =
    let l : length (take 2 (drop at s)) ≡ 2 = simp (length-take, length-drop) (omega arith) in
    rw l at (number_below (take 2 (drop at s)) (bytes_part s at 2 y))

pub least_small : (n : ℕ) {m : ℕ} → m ≡ min n 1014 → m ≤ 1014
least_small n q = omega arith

-- what is held fits the hold
held_few : {m : EndSession} {place : ℕ} {held piece hold hold' : List ℕ} {bound : Bound} {r : Taken} → Keeps m place held piece hold bound r hold' → length hold' ≡ 1014 → r.held ≤ 1014
held_few {m} {hold = hold} k l = omega (arith, k.counts, length-append (holds_of m) (drop (length (holds_of m)) hold), ap length k.holds)

-- ---- what a delivery left

module _ (s piece out : List ℕ) {out' : List ℕ} {d : Delivered} (v : DeliverResult (deliver (server_at s) piece out) piece d out') where
  leaves : {r : RawStep} {s' : List ℕ} → r ≡ record { used = d.used; sent = d.sent; answer = answer_number d.answer; outcome = standing_of d.server.stage } → s' ≡ left_by d.answer d.server s
      → server_at s' ≡ d.server → Leaves (deliver (server_at s) piece out) s r s' out'
  leaves q l m =
      let e = v.returned in
      record {
        returned = q ∙ ap (λ (k : Delivered). record { used = k.used; sent = k.sent; answer = answer_number k.answer; outcome = standing_of k.server.stage }) e;
        left = l ∙ ap (λ (k : Delivered). left_by k.answer k.server s) e;
        means = m ∙ ap (λ (k : Delivered). k.server) e;
        output = v.output;
      }

module _ (s piece out : List ℕ) where
  pub leaves_over : (Waits (server_at s).stage → ⊥) → {r : RawStep} → r ≡ step_by (refusal Settled (server_at s) []) → Leaves (deliver (server_at s) piece out) s r s out
  leaves_over w q =
      let x = server_at s in
      leaves s piece out (delivers x piece out (receives_settled x.held (setup_of x) x.hold piece x.bound out x.stage w)) q refl refl

  -- an end that waits for a field
  module _ (y : Bytes s) (long : length s ≡ 1539) {n : ℕ} (q : n ≡ stage_at (byte s 4) (kept_at s)) (z : n ≡ 0 → ⊥) (f : Field) (g : (server_at s).stage ≡ Awaiting f) (h : length out ≡ 1024) where
    at_field : {r : Result Taken SocksError} {hold' out' : List ℕ} → ReceiveResult (Awaiting f) (server_at s).held (setup_of (server_at s)) (server_at s).hold piece (server_at s).bound out r hold' out'
        → ReceiveResult (server_at s).stage (server_at s).held (setup_of (server_at s)) (server_at s).hold piece (server_at s).bound out r hold' out'
    at_field {r} {hold'} {out'} v = subst (λ (t : Stage). ReceiveResult t (server_at s).held (setup_of (server_at s)) (server_at s).hold piece (server_at s).bound out r hold' out') (sym g) v

    pub leaves_none : length piece ≡ 0 → {r : RawStep} → r ≡ waiting_step 0 → Leaves (deliver (server_at s) piece out) s r s out
    leaves_none e p =
        let x = server_at s in
        leaves s piece out (delivers x piece out (at_field (receives_none x.held (setup_of x) x.hold piece x.bound out f (omega arith) e refl)))
        p (sym (state_written s y long q z) ∙ ap (λ (t : Stage). state_of (changed x t x.held x.hold x.bound)) g) (ap (λ (t : Stage). changed x t x.held x.hold x.bound) g)

    -- one that decides nothing is held
    module _ (w : Lacks f (server_at s).hold (server_at s).held piece) (some : length piece ≡ 0 → ⊥) where
      abbrev x : Server
      x = server_at s

      abbrev held' : ℕ
      held' = x.held + length piece

      abbrev hold' : List ℕ
      hold' = overwrite x.hold x.held piece

      abbrev after : Server
      after = changed x (Awaiting f) held' hold' x.bound

      held_long : length (take x.held x.hold) ≡ x.held
      held_long = length-take x.held x.hold ∙ omega (arith, hold_long s long, w.room)

      keeps : Keeps (waiting f (take x.held x.hold ++ piece)) 0 (take x.held x.hold) piece x.hold x.bound (record { stage = Awaiting f; held = held'; used = length piece; sent = 0; bound = x.bound }) hold'
      unfolding overwrite
      keeps =
          let l = length-append (take x.held x.hold) piece in
          let n : length (take x.held x.hold ++ piece) ≡ held' = omega (arith, l, held_long) in
          record {
            staged = refl;
            bounds = refl;
            counts = sym n;
            holds = sym (append_assoc (take x.held x.hold) piece (drop held' x.hold)) ∙ ap (λ (k : ℕ). (take x.held x.hold ++ piece) ++ drop k x.hold) (sym n);
            uses = omega (arith, l, held_long);
            within = omega arith;
          }

      takes : TakeResult (setup_of x) f (take x.held x.hold) piece x.hold x.bound out (record { stage = Awaiting f; held = held'; used = length piece; sent = 0; bound = x.bound }) hold' out
      takes =
          record {
            session = waiting f (take x.held x.hold ++ piece);
            said = [];
            place = 0;
            whole = feed_undecided (setup_of x) f (take x.held x.hold ++ piece) w.reads;
            keeps = keeps;
            wrote = wrote_none out 0 zero-le;
          }

      pub leaves_held : FieldFits f → (server_at s).bound.port < 65536 → {r : RawStep} {s' : List ℕ} → r ≡ waiting_step (length piece)
          → s' ≡ overwrite (overwrite s (15 + x.held) piece) 0 (digits 2 held') → Leaves (deliver (server_at s) piece out) s r s' out
      leaves_held fits port {s' = s'} p e =
          let v = delivers x piece out (at_field (receives_taken x.held (setup_of x) x.hold piece x.bound out f {m = x.held} (hold_long s long) (omega (arith, w.room)) takes (omega arith) some)) in
          let written = state_written s y long q z in
          let left : s' ≡ state_of after =
          e ∙ ap (λ (t : List ℕ). overwrite (overwrite t (15 + x.held) piece) 0 (digits 2 held')) (sym written)
          ∙ ap (λ (t : List ℕ). overwrite t 0 (digits 2 held')) (put_behind x (hold_long s long) x.held piece w.room)
          ∙ put_held (changed x x.stage x.held hold' x.bound) held'
          ∙ ap (λ (t : Stage). state_of (changed x t held' hold' x.bound)) g in
          let long' : length hold' ≡ 1014 = length_overwrite x.hold x.held piece (omega (arith, hold_long s long, w.room)) ∙ hold_long s long in
          let back = state_back after (record { stage = fits; held = omega (arith, w.room); port = port; hold = long'; user = user_long s long }) in
          leaves s piece out v p left (ap server_at left ∙ back)

    -- as the code has it: the count that was read
    pub leaves_append : FieldFits f → {h : ℕ} {r : RawStep} {s' : List ℕ} → h ≡ (server_at s).held → Lacks f (server_at s).hold h piece → (length piece ≡ 0 → ⊥)
        → (r ≡ waiting_step (length piece)) × (s' ≡ overwrite (overwrite s (15 + h) piece) 0 (digits 2 (h + length piece))) → Leaves (deliver (server_at s) piece out) s r s' out
    leaves_append fits {h} e w some (p, u) =
        leaves_held (subst (λ (i : ℕ). Lacks f (server_at s).hold i piece) e w) some fits (two_small s y long 2 (omega arith)) p (u ∙ ap (λ (i : ℕ). overwrite (overwrite s (15 + i) piece) 0 (digits 2 (i + length piece))) e)

    -- one that decides
    module _ (some : length piece ≡ 0 → ⊥) {m : ℕ} (least : m ≡ min (server_at s).held 1014) {turn : Turn} {out' : List ℕ} (w : Worked (setup_of (server_at s)) f (take m (server_at s).hold ++ piece) 0 out 0 turn out') where
      pub leaves_decided : {t : Taken} {hold' s₂ s₃ : List ℕ} {r : RawStep}
          → Came turn.stage (asks_at turn.last (last_in turn (take m (server_at s).hold ++ piece))) turn.place (take m (server_at s).hold) piece (server_at s).hold (server_at s).bound turn.sent t hold'
          → length hold' ≡ 1014 → s₂ ≡ take 15 s ++ (hold' ++ drop 1014 (drop 15 s)) → Settles t s₂ r s₃ → Leaves (deliver (server_at s) piece out) s r s₃ out'
      leaves_decided {t} {hold'} {s₂} {s₃} k l e b =
          let x = server_at s in
          let hold = hold_long s long in
          let v = delivers x piece out (at_field (receives_taken x.held (setup_of x) x.hold piece x.bound out f {m = m} hold least (takes_worked (setup_of x) f (take m x.hold) piece x.hold x.bound out turn w k) (omega arith) some)) in
          let held : Server = changed x x.stage x.held hold' x.bound in
          let between : s₂ ≡ state_of held = e ∙ ap (λ (u : List ℕ). take 15 u ++ (hold' ++ drop 1014 (drop 15 u))) (sym (state_written s y long q z)) ∙ put_hold x hold hold' in
          let left : s₃ ≡ state_of (changed x t.stage t.held hold' t.bound) = b.left held between in
          let few : t.held ≤ 1014 = held_few k.0 l in
          let back = state_back (changed x t.stage t.held hold' t.bound) (record { stage = b.stage; held = omega arith; port = b.port; hold = l; user = user_long s long }) in
          leaves s piece out v b.returned left (ap server_at left ∙ back)

-- ---- worked through, as the code has it

pub text_part : (s : List ℕ) (at : ℕ) {n b : ℕ} → n ≡ b → take (at + n - at) (drop at s) ≡ take b (drop at s)
text_part s at {n} q = let z : at + n - at ≡ n = omega arith in rw (z, q)

pub worked_at : (s piece out : List ℕ) (f : Field) (held : ℕ) {b : Bool} {u p out' : List ℕ} {r : Turn} → length s ≡ 1539 → Bytes s → held ≤ 1014 → b ≡ authenticates_at (byte s 4) → u ≡ take (byte s 5) (drop 1029 s)
    → p ≡ take (byte s 6) (drop 1284 s) → Worked (record { authenticates = b; user = u; password = p }) f (take (15 + held - 15) (drop 15 s) ++ piece) 0 out 0 r out'
    → Worked (setup_of (server_at s)) f (take held (take 1014 (drop 15 s)) ++ piece) 0 out 0 r out'
worked_at s piece out f held long y few a u p w =
    let z : 15 + held - 15 ≡ held = omega arith in
    let t = take-take held 1014 (drop 15 s) few in
    let v = take-take (byte s 5) 255 (drop 1029 s) (y 5) in
    rw (t, v) (rw (a, u, p, z) at w)
