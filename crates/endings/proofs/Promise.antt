-- F-12's promise at the calls: what is answered and written; and a stream that leads somewhere ends there when it is delivered.
use Prim.Native.Nat.{ℕ, ◌<◌}
use native.Mathlib.Omega.{arith}
use mathlib.Core.Path.{◌≡◌, refl, ap, sym}
use mathlib.Core.Logic.{◌↔◌}
use mathlib.Core.Bool.{Bool, true, false, false≢true}
use Rattle.std.specs.Prelude.{Option, None, Some}
use mathlib.Core.List.{List, [], ◌∷◌, ◌++◌}
use lib.ListN.{length, drop}
use lib.Dec.{leb, lit<}
use borrow.Author.Tests.{leb-true, leb-false}
use Rattle.protocol.specs.declared.SocksError.TheVariants.{ShortStream}
use Rattle.protocol.specs.Answers as code
use Rattle.protocol.specs.Numbers.{number, answer_number}
use Rattle.protocol.specs.Opening.{Condition, ◌↣◌, Answers, refuse, check5, check4, opening5, opening4}
use Rattle.protocol.proofs.Claims.{answers_behind, answers_before}
use Rattle.protocol.proofs.Openings.{all_passed, checked, check5_just, check4_just}
use Rattle.protocol.proofs.Limits.{number_is}
use Rattle.route_spec.specs.Route.{openings}
use Rattle.endings_spec.specs.Endings.{Wanted, Nowhere}
use Rattle.endings_spec.specs.Streams.{stream_for, stream_at}
use Rattle.endings_spec.proofs.Order.{wanted_somewhere, wanted_once}
use Rattle.endings_spec.proofs.Streams.{stream_wanted, stream_nowhere, route_stream_wanted, route_stream_nowhere}
use Rattle.endings.specs.Calls.{placed, produced, stream5, stream4, check_route, stream_route}
use Rattle.endings.specs.Produces.{Produces, Produces5, Produces4, ProducesRoute}
use Rattle.endings.proofs.Checks.{route_just}

module _ (cs : List Condition) (To : List ℕ → Type 0) (buffer : List ℕ) where
  -- the stream wanted is longer than the buffer
  abbrev Short : Type 0
  Short = (bs : List ℕ) × Wanted To bs × (length buffer < length bs)

  -- 27 comes behind the checks
  behind : (b : Bool) → b ≡ true ↔ Short → Answers 0 cs → Answers (answer_number (refuse b ShortStream code.Accepted)) (cs ++ ((Short ↣ 27) ∷ []))
  behind b h a = answers_behind _ cs _ a (checked b Short ShortStream 27 code.Accepted [] refl (lit< tt) h all_passed)

  by_answer : (x : code.Answer) (stream : Option (List ℕ)) → Answers (answer_number x) cs → ((bs : List ℕ) → stream ≡ Some bs → Wanted To bs) → (stream ≡ None → Nowhere To) → Produces cs To buffer (produced x stream buffer)
  by_answer (code.Refused e) stream a v n =
      record {
        answers = answers_before (number e) cs _ (number_is e).0 a;
        none_just = (λ q. let z : ◌≡◌ {A = ℕ} 0 1 = cc in absurd (omega arith), λ (p, q). let z = (number_is e).0 in let y = a.accepts.1 p in absurd (omega arith));
        stream_is = λ k q. let z : ◌≡◌ {A = ℕ} 0 1 = cc in absurd (omega arith);
        unwritten = λ f. refl;
      }
  by_answer code.Accepted None a v n =
      record {
        answers = behind false (λ q. absurd (false≢true q), λ (bs, w, l). absurd (wanted_somewhere To bs w (n refl))) a;
        none_just = (λ q. (a.accepts.0 refl, n refl), λ q. refl);
        stream_is = λ k q. let z : ◌≡◌ {A = ℕ} 0 1 = cc in absurd (omega arith);
        unwritten = λ f. refl;
      }
  by_answer code.Accepted (Some bs) a v n = go (leb (length bs) (length buffer)) refl
    where
      w : Wanted To bs
      w = v bs refl

      go : (fits : Bool) → leb (length bs) (length buffer) ≡ fits → Produces cs To buffer (placed fits bs buffer)
      go true q =
          record {
            answers = behind false (λ p. absurd (false≢true p), λ (us, u, l). let e = wanted_once To us bs u w in let i = leb-true (length bs) (length buffer) q in absurd (omega (arith, ap length e))) a;
            none_just = (λ p. let z : ◌≡◌ {A = ℕ} 0 1 = cc in absurd (omega arith), λ (p, e). absurd (wanted_somewhere To bs w e));
            stream_is = λ k p. let e : length bs ≡ k = cc in (bs, w, sym e, ap (λ (m : ℕ). bs ++ drop m buffer) e);
            unwritten = λ f. absurd (f (length bs) refl);
          }
      go false q =
          record {
            answers = behind true (λ p. (bs, w, leb-false (length bs) (length buffer) q), λ p. refl) a;
            none_just = (λ p. let z : ◌≡◌ {A = ℕ} 0 1 = cc in absurd (omega arith), λ (p, e). absurd (wanted_somewhere To bs w e));
            stream_is = λ k p. let z : ◌≡◌ {A = ℕ} 0 1 = cc in absurd (omega arith);
            unwritten = λ f. refl;
          }

pub produces5 : Produces5
unfolding stream5
produces5 a w buffer = by_answer _ _ buffer (check5 a) (stream_for (opening5 a) w) (check5_just a) (stream_wanted (opening5 a) w) (stream_nowhere (opening5 a) w)

pub produces4 : Produces4
unfolding stream4
produces4 a w buffer = by_answer _ _ buffer (check4 a) (stream_for (opening4 a) w) (check4_just a) (stream_wanted (opening4 a) w) (stream_nowhere (opening4 a) w)

pub produces_route : ProducesRoute
unfolding stream_route
produces_route r proxy w buffer =
    by_answer _ _ buffer (check_route r) (stream_at (openings r) proxy w) (route_just r) (route_stream_wanted (openings r) proxy w) (route_stream_nowhere (openings r) proxy w)
