-- Parts of a text, what is asked of the proxy at a place, and openings kept one behind the other.
use Prim.Native.Nat.{ℕ, suc, ◌+◌, ◌-◌, ◌*◌, ◌≤◌, min}
use native.Mathlib.Omega.{arith}
use mathlib.Core.Path.{◌≡◌, refl, ap, sym, subst, ◌∙◌}
use mathlib.Core.List.{List, [], ◌∷◌, ◌++◌, map, append_assoc}
use lib.ListN.{length, set, take, drop, length-drop, length-map}
use lib.Seq.{drop_at, set_split, length-take-le}
use Rattle.std.proofs.lemmas.List.{drop_min}
use Rattle.protocol.specs.Answers as code
use Rattle.protocol.specs.declared.SocksError.{SocksError}
use Rattle.protocol.specs.Opening.{Opening}
use Rattle.client_session.specs.declared.Prepared.{Prepared}
use Rattle.client_session.specs.Calls.{kept_by, prepared_by, prepare5, prepare4}
use Rattle.buffers.specs.write.Written.{overwrite}
use Rattle.buffers.proofs.write.Parts.{take_min}
use Rattle.route_delivery.specs.declared.Hop.{Hop}
use Rattle.route_spec.specs.Route.{Asked, over5, over4, asked_of, opening_for, check_for, unless_refused, check_in_turn}
use Rattle.route_spec.proofs.Asked.{asked_each}
use Rattle.route_session.specs.declared.plan.Proxy.{Proxy}
use Rattle.route_session.specs.plan.Plan.{proxy_of, proxies_of, asked_in_row, prepared_for, kept_hop, hop_for, hops_for, bytes_for, PlanResult}

-- ---- a part of a text

pub part_as : (text : List ℕ) (f l : ℕ) {a n : ℕ} → a ≡ min f (length text) → n ≡ min l (length text - a) → take (a + n - a) (drop a text) ≡ take l (drop f text)
part_as text f l {a} {n} p q =
    let z : a + n - a ≡ min l (length (drop a text)) = rw (length-drop a text) (omega arith) in
    ap (λ (k : ℕ). take k (drop a text)) z ∙ take_min l (drop a text) ∙ ap (take l) (ap (λ (k : ℕ). drop k text) p ∙ drop_min f text)

-- ---- what is kept of an opening

prepared_by_lem : (a : Asked) → prepared_for a ≡ prepared_by (check_for a) (opening_for a)
unfolding prepare5 prepare4
prepared_by_lem (over5 a) = refl
prepared_by_lem (over4 a) = refl

module _ (hops : List Hop) (bytes : List ℕ) (eight : length hops ≡ 8) (whole : length bytes ≡ 8192) (o : Opening) (n : ℕ) (few : n ≤ 7) (b : List ℕ) (long : length b ≡ 1024) (is : b ≡ (kept_by o).bytes) where
  pub hops_from : drop n (set hops n (hop_for o)) ≡ hop_for o ∷ drop (suc n) hops
  hops_from =
      ap (drop n) (set_split hops n (hop_for o) (omega (arith, eight))) ∙ drop_at (take n hops) (hop_for o ∷ drop (suc n) hops) n (length-take-le n hops (omega (arith, eight)))

  pub bytes_from : drop (1024 * n) (overwrite bytes (1024 * n) b) ≡ (kept_by o).bytes ++ drop (1024 * suc n) bytes
  unfolding overwrite
  bytes_from =
      let z : 1024 * n + length b ≡ 1024 * suc n = omega (arith, long) in
      drop_at (take (1024 * n) bytes) (b ++ drop (1024 * n + length b) bytes) (1024 * n) (length-take-le (1024 * n) bytes (omega (arith, whole)))
      ∙ rw z (ap (λ (x : List ℕ). x ++ drop (1024 * suc n) bytes) is)

answer_is : (a : Asked) {r : Prepared} → r ≡ prepared_for a → r.answer ≡ check_for a
answer_is a q = ap (λ (x : Prepared). x.answer) (q ∙ prepared_by_lem a) ∙ go (check_for a)
  where
    go : (x : code.Answer) → (prepared_by x (opening_for a)).answer ≡ x
    go code.Accepted = refl
    go (code.Refused e) = refl

clash : {e : SocksError} → code.Refused e ≡ code.Accepted → ⊥
clash q = let z : ◌≡◌ {A = ℕ} 0 1 = cc in absurd (omega arith)

-- ---- preparing in a row

module _ (hops : List Hop) (bytes : List ℕ) where
  pub plans_none : PlanResult [] hops bytes code.Accepted hops bytes
  unfolding check_in_turn hops_for bytes_for
  plans_none = record { answered = refl; hopped = λ e. refl; filled = λ e. refl }

  pub plans_not : (a : Asked) (later : List Asked) {r : Prepared} {e : SocksError} → r ≡ prepared_for a → r.answer ≡ code.Refused e → PlanResult (a ∷ later) hops bytes (code.Refused e) hops bytes
  unfolding check_in_turn
  plans_not a later q f =
      record {
        answered = ap (λ (x : code.Answer). unless_refused x (check_in_turn later)) (sym f ∙ answer_is a q);
        hopped = λ e. absurd (clash e);
        filled = λ e. absurd (clash e);
      }

module _ (a : Asked) (later : List Asked) (hops : List Hop) (bytes : List ℕ) (eight : length hops ≡ 8) (whole : length bytes ≡ 8192) (n : ℕ) (count : n ≡ length later) (few : n ≤ 7)
    {r : Prepared} (q : r ≡ prepared_for a) (accepted : r.answer ≡ code.Accepted) (long : length r.session.requests.bytes ≡ 1024) {kept : List Hop} {bytes₁ : List ℕ}
    (k : kept ≡ set hops n (kept_hop r.session)) (w : bytes₁ ≡ overwrite bytes (1024 * n) r.session.requests.bytes) where
  kept_is : r ≡ prepared_by code.Accepted (opening_for a)
  kept_is = q ∙ prepared_by_lem a ∙ ap (λ (x : code.Answer). prepared_by x (opening_for a)) (sym (answer_is a q) ∙ accepted)

  hops_as : drop (length later) kept ≡ hop_for (opening_for a) ∷ drop (suc (length later)) hops
  hops_as =
      rw (← count)
      (ap (drop n) (k ∙ ap (λ (x : Prepared). set hops n (kept_hop x.session)) kept_is)
      ∙ hops_from hops bytes eight whole (opening_for a) n few (kept_by (opening_for a)).bytes (sym (ap (λ (x : Prepared). length x.session.requests.bytes) kept_is) ∙ long) refl)

  bytes_as : drop (1024 * length later) bytes₁ ≡ (kept_by (opening_for a)).bytes ++ drop (1024 * suc (length later)) bytes
  bytes_as =
      rw (← count)
      (ap (drop (1024 * n)) w ∙ bytes_from hops bytes eight whole (opening_for a) n few r.session.requests.bytes long (ap (λ (x : Prepared). x.session.requests.bytes) kept_is))

  -- the others are kept below it
  pub plans_more : {s : code.Answer} {hops₂ : List Hop} {bytes₂ : List ℕ} → PlanResult later kept bytes₁ s hops₂ bytes₂ → PlanResult (a ∷ later) hops bytes s hops₂ bytes₂
  unfolding check_in_turn hops_for bytes_for
  plans_more v =
      record {
        answered = v.answered ∙ ap (λ (x : code.Answer). unless_refused x (check_in_turn later)) (sym accepted ∙ answer_is a q);
        hopped = λ f. v.hopped f ∙ ap (λ (x : List Hop). hops_for (map opening_for later) ++ x) hops_as ∙ sym (append_assoc (hops_for (map opening_for later)) (hop_for (opening_for a) ∷ []) _);
        filled = λ f. v.filled f ∙ ap (λ (x : List ℕ). bytes_for (map opening_for later) ++ x) bytes_as ∙ sym (append_assoc (bytes_for (map opening_for later)) (kept_by (opening_for a)).bytes _);
      }

empty_of : (ps : List Proxy) → length ps ≡ 0 → ps ≡ []
empty_of [] z = refl
empty_of (p ∷ ps) z = absurd (omega arith)

module _ (text host : List ℕ) (port : code.Port) (ps : List Proxy) (hops : List Hop) (bytes : List ℕ) where
  pub plans_empty : length ps ≡ 0 → PlanResult (asked_of (proxies_of text ps) host port) hops bytes code.Accepted hops bytes
  unfolding asked_of
  plans_empty z = subst (λ (l : List Proxy). PlanResult (asked_of (proxies_of text l) host port) hops bytes code.Accepted hops bytes) (sym (empty_of ps z)) (plans_none hops bytes)

  module _ {p : Proxy} {later : List Proxy} (e : ps ≡ p ∷ later) where
    abbrev here : Asked
    here = asked_in_row (proxy_of text p) (proxies_of text later) host port

    abbrev others : List Asked
    others = asked_of (proxies_of text later) host port

    row_is : asked_of (proxies_of text ps) host port ≡ here ∷ others
    unfolding asked_of
    row_is = ap (λ (l : List Proxy). asked_of (proxies_of text l) host port) e

    pub plans_refused : {r : Prepared} {x : SocksError} → r ≡ prepared_for here → r.answer ≡ code.Refused x → {y : code.Answer} → y ≡ code.Refused x → PlanResult (asked_of (proxies_of text ps) host port) hops bytes y hops bytes
    plans_refused q f z = rw (row_is, z) (plans_not hops bytes here others q f)

    pub plans_on : length hops ≡ 8 → length bytes ≡ 8192 → length ps ≤ 8 → {r : Prepared} → r ≡ prepared_for here → r.answer ≡ code.Accepted → length r.session.requests.bytes ≡ 1024 → {kept : List Hop} {bytes₁ : List ℕ}
        → kept ≡ set hops (length later) (kept_hop r.session) → bytes₁ ≡ overwrite bytes (1024 * length later) r.session.requests.bytes → {s : code.Answer} {hops₂ : List Hop} {bytes₂ : List ℕ}
        → PlanResult others kept bytes₁ s hops₂ bytes₂ → PlanResult (asked_of (proxies_of text ps) host port) hops bytes s hops₂ bytes₂
    plans_on eight whole few q f long k w v =
        let n : length later ≡ length others = sym (asked_each (proxies_of text later) host port ∙ length-map later (proxy_of text)) in
        let z : length later ≤ 7 = omega (arith, ap length e) in
        rw row_is (plans_more here others hops bytes eight whole (length later) n z q f long k w v)
