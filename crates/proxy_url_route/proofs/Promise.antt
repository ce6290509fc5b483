-- F-9's promise of a route from lines holds of every text.
use Prim.Native.Nat.{ℕ, suc, ◌+◌, ◌-◌, ◌≤◌, ◌<◌}
use native.Mathlib.Omega.{arith}
use mathlib.Core.Path.{◌≡◌, refl, sym, ap, subst, ◌∙◌}
use mathlib.Core.Logic.{◌↔◌, ◌⊎◌, inl, inr, ⊎_elim}
use mathlib.Core.Bool.{Bool, true, false}
use mathlib.Core.List.Memᴰ
use mathlib.Core.List.{List, [], ◌∷◌, map, append-nil}
use lib.Dec.{eqb, ltb, lit<}
use lib.ListN.{length, take, replicate}
use lib.Seq.{take_at, drop_at}
use borrow.Author.Tests.{eqb-true, eqb-false, ltb-true, ltb-false}
use Rattle.protocol.specs.declared.SocksError.TheVariants.{RouteLength, BadLine}
use Rattle.protocol.specs.Answers.{Accepted, Port}
use Rattle.protocol.specs.Numbers.{answer_number}
use Rattle.protocol.specs.Opening.{Answers, refuse}
use Rattle.protocol.proofs.Openings.{all_passed, checked}
use Rattle.route_spec.specs.Route as route
use Rattle.route_session.specs.plan.Plan.{no_proxy, proxies_of, counted, route_of}
use Rattle.proxy_url_spec.specs.Grammar.{Value, Line}
use Rattle.proxy_url_spec.specs.Reading.{Read, reads, dies, line_of}
use Rattle.proxy_url_spec.proofs.Places.{line_sound, line_dies, line_place}
use Rattle.proxy_url.specs.Calls.{read_of}
use Rattle.proxy_url_route.specs.declared.RefusedLine.{RefusedLine}
use Rattle.proxy_url_route.specs.Lines.{lines_of}
use Rattle.proxy_url_route.specs.Calls.{none_refused, first_refused, written_by, proxies_from, proxies_by, unwritten, written, read_by, read_lines}
use Rattle.proxy_url_route.specs.RoutesRead.{proxy_for, Values, end, line, SomeUnlawful, FirstUnlawful, here, later, conditions, IsRoute, ReadsRoute, ReadsRoutes}
use Rattle.proxy_url_route.proofs.Laws.{length_proxies, by_none, by_many, by_refused, by_lawful}
use Rattle.proxy_url_route.proofs.Buffer.{length_written, other_bytes, proxies_read, placed_from}

-- ---- the lines are lawful, or one is the first that is not

data Verdict (n : ℕ) (ls : List (List ℕ)) : Type 0 where
  lawful : (vs : List Value) → Values ls vs → first_refused n ls ≡ none_refused → Verdict n ls
  unlawful : (m p : ℕ) → FirstUnlawful ls m p → first_refused n ls ≡ record { line = n + m; place = p } → Verdict n ls

at_line : (m n p : ℕ) → m ≡ n → ◌≡◌ {A = RefusedLine} (record { line = m; place = p }) (record { line = n; place = p })
at_line m n p e = λ i. record { line = e i; place = p }

verdict : (n : ℕ) (ls : List (List ℕ)) → Verdict n ls
unfolding first_refused read_of
verdict n [] = lawful [] end refl
verdict n (l ∷ ls) = go (line_of l) refl (verdict (suc n) ls)
  where
    go : (r : Read Value) → line_of l ≡ r → Verdict (suc n) ls → Verdict n (l ∷ ls)
    go (reads v k) e (lawful vs x q) = lawful (v ∷ vs) (line (line_sound l v k e) x) (rw e q)
    go (reads v k) e (unlawful m p x q) = unlawful (suc m) p (later (line_sound l v k e) x) (rw e (q ∙ at_line (suc n + m) (n + suc m) p (omega arith)))
    go (dies k) e d = unlawful 1 k (here (line_dies l k e) (line_place l k e)) (rw e (at_line (suc n) (n + 1) k (omega arith)))

pub some_unlawful : {ls : List (List ℕ)} {n place : ℕ} → FirstUnlawful ls n place → SomeUnlawful ls
some_unlawful (here {l} u x) = (l, Memᴰ.head refl, u)
some_unlawful (later x f) = let (l, m, u) = some_unlawful f in (l, Memᴰ.tail m, u)

pub none_unlawful : {ls : List (List ℕ)} {vs : List Value} → Values ls vs → SomeUnlawful ls → ⊥
none_unlawful end (l, m, u) = Memᴰ.not-nil m
none_unlawful (line {v} x xs) (l, m, u) =
    ⊎_elim (λ e. u v (subst (λ (s : List ℕ). Line s v) (sym e) x)) (λ t. none_unlawful xs (l, t, u)) (Memᴰ.cases_cons m)

numbered : {ls : List (List ℕ)} {n place : ℕ} → FirstUnlawful ls n place → 0 < n
numbered (here u x) = omega arith
numbered (later x f) = omega arith

-- ---- the answers, in their order

abbrev Wrong : ℕ → Type 0
Wrong n = (n ≡ 0) ⊎ (8 < n)

answers_by : (ls : List (List ℕ)) (a b : Bool) → a ≡ true ↔ Wrong (length ls) → b ≡ true ↔ SomeUnlawful ls
    → Answers (answer_number (refuse a RouteLength (refuse b BadLine Accepted))) (conditions ls)
answers_by ls a b p q =
    checked a (Wrong (length ls)) RouteLength 21 (refuse b BadLine Accepted) _ refl (lit< tt) p (checked b (SomeUnlawful ls) BadLine 24 Accepted [] refl (lit< tt) q all_passed)

holds : (P : Type 0) → P → true ≡ true ↔ P
holds P x = ((λ q. x), (λ q. refl))

fails : (P : Type 0) → (P → ⊥) → false ≡ true ↔ P
fails P n = ((λ q. let z : ◌≡◌ {A = ℕ} 0 1 = cc in absurd (omega arith)), (λ x. absurd (n x)))

-- ---- each exit

module _ (ls : List (List ℕ)) (buffer : List ℕ) where
  wrong_size : Wrong (length ls) → ReadsRoute ls buffer (unwritten RouteLength none_refused buffer)
  wrong_size w =
      record {
        answers = go (verdict 0 ls);
        first_told = λ q. absurd (omega arith);
        none_told = λ q. (refl, refl);
        accepted = λ q. let z : ◌≡◌ {A = ℕ} 0 1 = cc in absurd (omega arith);
        unwritten = λ q. refl;
        none_given = λ q. (refl, refl);
        long = refl;
      }
    where
      go : Verdict 0 ls → Answers 21 (conditions ls)
      go (lawful vs x q) = answers_by ls true false (holds (Wrong (length ls)) w) (fails (SomeUnlawful ls) (none_unlawful x))
      go (unlawful m p x q) = answers_by ls true true (holds (Wrong (length ls)) w) (holds (SomeUnlawful ls) (some_unlawful x))

  module _ (some : 0 < length ls) (few : length ls ≤ 8) where
    right : Wrong (length ls) → ⊥
    right (inl e) = omega arith
    right (inr h) = omega arith

    bad_line : (m p : ℕ) → FirstUnlawful ls m p → ReadsRoute ls buffer (unwritten BadLine (record { line = m; place = p }) buffer)
    bad_line m p x =
        record {
          answers = answers_by ls false true (fails (Wrong (length ls)) right) (holds (SomeUnlawful ls) (some_unlawful x));
          first_told = λ q. x;
          none_told = λ q. absurd (q refl);
          accepted = λ q. let z : ◌≡◌ {A = ℕ} 0 1 = cc in absurd (omega arith);
          unwritten = λ q. refl;
          none_given = λ q. (refl, refl);
          long = refl;
        }

    module _ (size : length buffer ≡ 6120) (vs : List Value) (x : Values ls vs) where
      all_taken : take (length ls) (proxies_by ls) ≡ proxies_from 0 ls
      all_taken = take_at (proxies_from 0 ls) (replicate (8 - length ls) no_proxy) (length ls) (length_proxies 0 ls)

      few_lines : 0 + length ls ≤ 8
      few_lines = omega arith

      nothing_behind : counted (proxies_by ls) (length ls) ≡ proxies_from 0 ls
      nothing_behind =
          let z : length ls - 8 ≡ 0 = omega arith in
          rw (all_taken, z) (append-nil (proxies_from 0 ls))

      route_given : (host : List ℕ) (port : Port)
          → route_of (written_by 0 ls buffer) (proxies_by ls) (length ls) host port ≡ record { proxies = map proxy_for vs; host = host; port = port }
      route_given host port =
          let e : proxies_of (written_by 0 ls buffer) (counted (proxies_by ls) (length ls)) ≡ map proxy_for vs =
          ap (proxies_of (written_by 0 ls buffer)) nothing_behind ∙ proxies_read 0 x buffer size few_lines in
          λ i. record { proxies = e i; host = host; port = port }

      is_route : IsRoute ls buffer (written ls buffer)
      is_route =
          record {
            values = vs;
            have = x;
            count_is = refl;
            route_is = route_given;
            none_behind = drop_at (proxies_from 0 ls) (replicate (8 - length ls) no_proxy) (length ls) (length_proxies 0 ls);
            placed = rw all_taken (placed_from 0 ls);
            others_stay = λ j o. other_bytes 0 x buffer size few_lines j (rw all_taken at o);
          }

      lawful_lines : ReadsRoute ls buffer (written ls buffer)
      lawful_lines =
          record {
            answers = answers_by ls false false (fails (Wrong (length ls)) right) (fails (SomeUnlawful ls) (none_unlawful x));
            first_told = λ q. absurd (omega arith);
            none_told = λ q. (refl, refl);
            accepted = λ q. is_route;
            unwritten = λ q. absurd (q refl);
            none_given = λ q. absurd (q refl);
            long = length_written 0 ls buffer size few_lines ∙ sym size;
          }

    by_verdict : length buffer ≡ 6120 → Verdict 0 ls → ReadsRoute ls buffer (read_by ls buffer)
    by_verdict size (lawful vs x q) = rw (by_lawful ls buffer some few (ap (λ (r : RefusedLine). r.line) q)) (lawful_lines size vs x)
    by_verdict size (unlawful m p x q) =
        let e : first_refused 0 ls ≡ record { line = m; place = p } = q ∙ at_line (0 + m) m p (omega arith) in
        let h : 0 < (first_refused 0 ls).line = rw e (numbered x) in
        rw (by_refused ls buffer some few h, e) (bad_line m p x)

  sized : length buffer ≡ 6120 → (a b : Bool) → eqb (length ls) 0 ≡ a → ltb 8 (length ls) ≡ b → ReadsRoute ls buffer (read_by ls buffer)
  sized size true b e f = let h = eqb-true (length ls) 0 e in rw (by_none ls buffer h) (wrong_size (inl h))
  sized size false true e f = let h = ltb-true 8 (length ls) f in rw (by_many ls buffer h) (wrong_size (inr h))
  sized size false false e f =
      let n = eqb-false (length ls) 0 e in
      by_verdict (some n) (ltb-false 8 (length ls) f) size (verdict 0 ls)
    where
      some : (length ls ≡ 0 → ⊥) → 0 < length ls
      some n = omega arith

pub reads_routes : ReadsRoutes
unfolding read_lines
reads_routes text buffer size = sized (lines_of text) buffer size (eqb (length (lines_of text)) 0) (ltb 8 (length (lines_of text))) refl refl
