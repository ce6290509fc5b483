-- What an answer and an end of the stream leave in lent bytes; and a set-up.
use Prim.Native.Nat.{ℕ, ◌+◌, ◌/◌, ◌%◌, ◌-◌, ◌≤◌, min}
use native.Mathlib.Omega.{arith}
use mathlib.Core.Path.{◌≡◌, refl, sym, ap, subst, ◌∙◌}
use mathlib.Core.Bool.{Bool, true, false, cond}
use mathlib.Core.List.{List, []}
use lib.ListN.{length, take, drop, length-take}
use lib.Seq.{take-take}
use lib.Dec.{eqb, leb}
use borrow.Author.Tests.{ne_eqb, le-leb}
use Rattle.protocol.specs.declared.AddressKind.{AddressKind}
use Rattle.protocol.specs.Answers.{Accepted}
use Rattle.protocol.specs.declared.SocksError.{SocksError}
use Rattle.protocol.specs.declared.SocksError.TheVariants.{Settled, UnexpectedEof}
use Rattle.protocol.specs.declared.Version.{Version}
use Rattle.protocol.specs.declared.Version.TheVariants.{V4, V5}
use Rattle.protocol.specs.declared.Bound.{Bound}
use Rattle.protocol.specs.Requests.{kind_of}
use Rattle.protocol.specs.Bound.{Endpoint, endpoint, unbound}
use Rattle.protocol.specs.Bytes.{Bytes, byte}
use Rattle.protocol.specs.Numbers.{answer_number}
use Rattle.buffers.specs.write.Written.{overwrite}
use Rattle.proxy_spec.specs.declared.Field.{Field}
use Rattle.proxy_spec.specs.declared.Stage.{Stage}
use Rattle.proxy_spec.specs.declared.Stage.TheVariants.{Awaiting, Asked, Open, Failed}
use Rattle.proxy_decisions.specs.decision.Due.{session_at}
use Rattle.proxy_replies.specs.declared.stages.Said.{Said}
use Rattle.proxy_replies.specs.stages.Answers.{Reply, refused, answer_asked, answer_at, AnswerResult}
use Rattle.proxy_replies.specs.stages.Told.{has_destination}
use Rattle.proxy_decisions.specs.destination.Last.{target_as}
use Rattle.proxy_delivery.specs.delivery.Received.{Waits}
use Rattle.proxy_session.specs.declared.Server.{Server}
use Rattle.proxy_session.specs.Server.{held_bytes, asked_for, view, packed, at_stage, destination, wants}
use Rattle.proxy_session.specs.Calls.{refusal, answer_by, answer, end}
use Rattle.proxy_session.proofs.Laws.{is_over_lem, destination_is, held_is, wants_is}
use Rattle.proxy_spec.specs.Shortest.{wants_by}
use Rattle.raw_errors.specs.Errors.{error_of}
use Rattle.talk.specs.Talk.{ended, failed, is_over}
use Rattle.lent_numbers.specs.bytes.Numbers.{digits}
use Rattle.lent_numbers.specs.declared.told.RawStep.{RawStep}
use Rattle.lent_proxy.specs.State.{kept_at, stage_at, authenticates_at, field_of, stage_of, kind_at, server_at, state_of}
use Rattle.lent_proxy.specs.Fits.{StageFits, changed, staged, Rewrites}
use Rattle.lent_proxy.specs.Calls.{standing_of, step_by, left_by, Leaves}
use Rattle.lent_proxy.proofs.Writing.{state_back, state_written, put_held}
use Rattle.lent_proxy.proofs.delivery.Laws.{hold_long, user_long, two_small}

-- ---- the caller's answer

pub asked_v4 : (s : List ℕ) {n : ℕ} → n ≡ stage_at (byte s 4) (kept_at s) → n ≡ 11 → (server_at s).stage ≡ Asked V4
unfolding stage_of
asked_v4 s q e = rw (← q, e)

pub asked_v5 : (s : List ℕ) {n : ℕ} → n ≡ stage_at (byte s 4) (kept_at s) → n ≡ 12 → (server_at s).stage ≡ Asked V5
unfolding stage_of
asked_v5 s q e = rw (← q, e)

pub asked_some : (n m : ℕ) {v : Version} → stage_of n m ≡ Asked v → n ≡ 0 → ⊥
unfolding stage_of
asked_some n m {v} e z = let w : Failed (error_of (m % 256) (m / 256 % 256)) ≡ Asked v = rw z at e in not_asked (error_of (m % 256) (m / 256 % 256)) v w
  where
    not_asked : (x : SocksError) (v : Version) → Failed x ≡ Asked v → ⊥
    not_asked x v e = let z : ◌≡◌ {A = ℕ} 0 1 = cc in absurd (omega arith)

-- a stage at which no answer is awaited
abbrev other : ℕ → ℕ → Bool → Bool → Bool → Bool → Stage
other n m a b c d = cond a (Failed (error_of (m % 256) (m / 256 % 256))) (cond b (Awaiting (field_of n m)) (cond c (Open V4) (cond d (Open V5) (Failed (error_of (m % 256) (m / 256 % 256))))))

module _ (status : ℕ) (e : Endpoint) (out : List ℕ) where
  unasked : (n m : ℕ) → (n ≡ 11 → ⊥) → (n ≡ 12 → ⊥) → answer_at (stage_of n m) status e out ≡ refused Settled (stage_of n m) out
  unfolding stage_of
  unasked n m a b = rw (ne_eqb n 11 a, ne_eqb n 12 b) (go (eqb n 0) (leb n 10) (eqb n 13) (eqb n 14))
    where
      go : (a b c d : Bool) → answer_at (other n m a b c d) status e out ≡ refused Settled (other n m a b c d) out
      go true b c d = refl
      go false true c d = refl
      go false false true d = refl
      go false false false true = refl
      go false false false false = refl

  module _ (s : List ℕ) where
    pub leaves_unasked : {n : ℕ} → n ≡ stage_at (byte s 4) (kept_at s) → (n ≡ 11 → ⊥) → (n ≡ 12 → ⊥) → {r : RawStep} → r ≡ step_by (refusal Settled (server_at s) []) → Leaves (answer (server_at s) status e out) s r s out
    unfolding answer
    leaves_unasked {n} q a b {r} p =
        let w : answer_at (server_at s).stage status e out ≡ refused Settled (server_at s).stage out = unasked (stage_at (byte s 4) (kept_at s)) (kept_at s) (λ z. a (q ∙ z)) (λ z. b (q ∙ z)) in
        subst (λ (k : Reply). Leaves (answer_by (server_at s) k) s r s out) (sym w) (record { returned = p; left = refl; means = refl; output = refl })

    module _ (y : Bytes s) (long : length s ≡ 1539) (v : Version) (g : (server_at s).stage ≡ Asked v) (z : stage_at (byte s 4) (kept_at s) ≡ 0 → ⊥) (h : length out ≡ 1024) where
      accepts : (answer_asked v status e out).said.answer ≡ Accepted
      accepts = rw (le-leb 262 (length out) (omega arith))

      pub leaves_answered : {k : AddressKind} {said : Said} {r : RawStep} {s' out' : List ℕ} → AnswerResult (answer_asked v status e out) said out' → k ≡ kind_at (byte s 4)
          → Rewrites (λ x. staged x said.stage k) s s' → StageFits said.stage → r ≡ record { used = 0; sent = said.sent; answer = 0; outcome = standing_of said.stage }
          → Leaves (answer (server_at s) status e out) s r s' out'
      unfolding answer
      leaves_answered {k} {said} {r} {s'} {out'} w kind b fits p =
          let x = server_at s in
          let q : Reply = answer_asked v status e out in
          let t : said ≡ q.said = w.returned in
          let left : s' ≡ state_of (at_stage said.stage x) = b x (sym (state_written s y long refl z)) ∙ ap (λ (a : AddressKind). state_of (staged x said.stage a)) kind in
          let back = state_back (at_stage said.stage x) (record { stage = fits; held = two_small s y long 0 (omega arith); port = two_small s y long 2 (omega arith); hold = hold_long s long; user = user_long s long }) in
          let call : Leaves (answer_by x q) s r s' out' =
          record {
            returned = p ∙ (λ i. record { used = 0; sent = (t i).sent; answer = answer_number (sym accepts i); outcome = standing_of (t i).stage });
            left = left ∙ (λ i. left_by (sym accepts i) (at_stage (t i).stage x) s);
            means = ap server_at left ∙ back ∙ ap (λ (a : Said). at_stage a.stage x) t;
            output = w.output;
          } in
          subst (λ (a : Stage). Leaves (answer_by x (answer_at a status e out)) s r s' out') (sym g) call

-- ---- the end of the stream

module _ (s : List ℕ) where
  pub leaves_unended : (Waits (server_at s).stage → ⊥) → {r : RawStep} → r ≡ step_by (refusal Settled (server_at s) []) → Leaves (end (server_at s)) s r s []
  unfolding end
  leaves_unended w p = rw (is_over_lem (server_at s).stage (asked_for (server_at s)) (held_bytes (server_at s)) w) (record { returned = p; left = refl; means = refl; output = refl })

  module _ (y : Bytes s) (long : length s ≡ 1539) {n : ℕ} (q : n ≡ stage_at (byte s 4) (kept_at s)) (z : n ≡ 0 → ⊥) (f : Field) (g : (server_at s).stage ≡ Awaiting f) where
    pub leaves_ended : {k : AddressKind} {r : RawStep} {s₁ s₂ : List ℕ} → k ≡ kind_at (byte s 4) → s₁ ≡ overwrite s 0 (digits 2 0) → Rewrites (λ x. staged x (Failed UnexpectedEof) k) s₁ s₂ → StageFits (Failed UnexpectedEof)
        → r ≡ record { used = 0; sent = 0; answer = 0; outcome = standing_of (Failed UnexpectedEof) } → Leaves (end (server_at s)) s r s₂ []
    unfolding end
    leaves_ended {k} {r} {s₁} {s₂} kind a b fits p =
        let x = server_at s in
        let after : Server = packed x (ended (failed UnexpectedEof)) in
        let held : s₁ ≡ state_of (changed x x.stage 0 x.hold x.bound) = a ∙ ap (λ (t : List ℕ). overwrite t 0 (digits 2 0)) (sym (state_written s y long q z)) ∙ put_held x 0 in
        let left : s₂ ≡ state_of after = b (changed x x.stage 0 x.hold x.bound) held ∙ ap (λ (t : AddressKind). state_of (staged after (Failed UnexpectedEof) t)) kind in
        let back = state_back after (record { stage = fits; held = omega arith; port = two_small s y long 2 (omega arith); hold = hold_long s long; user = user_long s long }) in
        let over : is_over (view x) ≡ false = ap (λ (t : Stage). is_over (session_at t (asked_for x) (held_bytes x))) g in
        rw over (record { returned = p; left = left; means = ap server_at left ∙ back; output = refl })

-- ---- the destination

module _ (s : List ℕ) where
  pub stage_told : {m n : ℕ} {g : Stage} {b : Bool} → m ≡ kept_at s → n ≡ stage_at (byte s 4) m → g ≡ stage_of n m → b ≡ has_destination g → b ≡ has_destination (server_at s).stage
  stage_told {m} e q w h = h ∙ ap has_destination (w ∙ ap (λ (i : ℕ). stage_of i m) q ∙ ap (λ (k : ℕ). stage_of (stage_at (byte s 4) k) k) e)

  pub text_few : Bytes s → (i at : ℕ) {u : List ℕ} → u ≡ take (byte s i) (drop at s) → length u ≤ 255
  text_few bytes i at e = let b = bytes i in rw (e, length-take (byte s i) (drop at s)) (omega arith)

  pub wants_told : length s ≡ 1539 → Bytes s → {m k n h r : ℕ} {g : Stage} {a : Bool} {user password hold : List ℕ} → m ≡ kept_at s → k ≡ stage_at (byte s 4) m → g ≡ stage_of k m
      → user ≡ take (byte s 5) (drop 1029 s) → password ≡ take (byte s 6) (drop 1284 s) → h ≡ (server_at s).held → n ≡ min h 1014 → a ≡ authenticates_at (byte s 4) → hold ≡ take (15 + n - 15) (drop 15 s)
      → r ≡ wants_by (record { authenticates = a; user = user; password = password }) (session_at g unbound hold) → r ≡ wants (server_at s)
  wants_told long bytes {m} {k} {n} {h} {r} {g} e q w u p x y b z t =
      let d : 15 + n - 15 ≡ n = omega arith in
      let few : n ≤ 1014 = omega arith in
      let stage : g ≡ (server_at s).stage = w ∙ ap (λ (i : ℕ). stage_of i m) q ∙ ap (λ (k : ℕ). stage_of (stage_at (byte s 4) k) k) e in
      let held : take (15 + n - 15) (drop 15 s) ≡ take n (take 1014 (drop 15 s)) = ap (λ (k : ℕ). take k (drop 15 s)) d ∙ sym (take-take n 1014 (drop 15 s) few) in
      let i = bytes 5 in
      let user : take (byte s 5) (drop 1029 s) ≡ take (byte s 5) (take 255 (drop 1029 s)) = sym (take-take (byte s 5) 255 (drop 1029 s) (omega arith)) in
      let whole = held_is (server_at s) (y ∙ ap (λ (k : ℕ). min k 1014) x) (hold_long s long) in
      wants_is (server_at s) (t ∙ (λ j. wants_by (record { authenticates = b j; user = (u ∙ user) j; password = p j }) (session_at (stage j) unbound ((z ∙ held ∙ whole) j))))

  pub destination_told : length s ≡ 1539 → {b : Bool} {n h : ℕ} {x : Bound} → b ≡ has_destination (server_at s).stage → b ≡ true → x ≡ (server_at s).bound → n ≡ min h 1014 → h ≡ (server_at s).held
      → target_as (endpoint (kind_of x.kind (take (15 + n - 15) (drop 15 s))) x.port) ≡ destination (server_at s)
  destination_told long {n = n} e q x w h =
      let z : 15 + n - 15 ≡ n = omega arith in
      let few : n ≤ 1014 = omega arith in
      let t : take (15 + n - 15) (drop 15 s) ≡ take n (take 1014 (drop 15 s)) = ap (λ (k : ℕ). take k (drop 15 s)) z ∙ sym (take-take n 1014 (drop 15 s) few) in
      rw (x, t) (destination_is (server_at s) e q (held_is (server_at s) (w ∙ ap (λ (k : ℕ). min k 1014) h) (hold_long s long)))
