-- F-12's promise in numbers: what a promise about a call says of the numbers that are told and of the buffer.
use Prim.Native.Nat.{ℕ, ◌<◌}
use native.Mathlib.Omega.{arith}
use mathlib.Core.Path.{◌≡◌, refl, ap, sym, ◌∙◌}
use mathlib.Core.Logic.{◌↔◌}
use mathlib.Core.List.{List, [], ◌∷◌, ◌++◌}
use lib.ListN.{length, drop}
use Rattle.protocol.specs.Opening.{Condition, ◌↣◌, None, Answers}
use Rattle.protocol.proofs.Limits.{number_is}
use Rattle.endings_spec.specs.Endings.{Wanted, Nowhere}
use Rattle.endings.specs.Calls.{Produced, Refused, NoStream, Stream, Call}
use Rattle.endings.specs.Produces.{produced_number, Produces}
use Rattle.lent_stream.specs.declared.RawStream.{RawStream}
use Rattle.lent_stream.specs.Stream.{raw_stream, Streams}

answer_is : (p : Produced) → (raw_stream p).answer ≡ produced_number p
answer_is (Refused e) = refl
answer_is NoStream = refl
answer_is (Stream n) = refl

none_is : (p : Produced) → (raw_stream p).none ≡ 1 ↔ p ≡ NoStream
none_is (Refused e) = ((λ q. absurd (omega arith)), (λ q. ap (λ (x : Produced). (raw_stream x).none) q))
none_is NoStream = ((λ q. refl), (λ q. refl))
none_is (Stream n) = ((λ q. absurd (omega arith)), (λ q. ap (λ (x : Produced). (raw_stream x).none) q))

-- 0 and not none is a stream
stream_is : (p : Produced) → (raw_stream p).answer ≡ 0 → (raw_stream p).none ≡ 0 → p ≡ Stream (raw_stream p).len
stream_is (Refused e) a n = absurd (omega (arith, (number_is e).0))
stream_is NoStream a n = absurd (omega arith)
stream_is (Stream n) a z = refl

-- and all else has no length
length_is : (p : Produced) → ((n : ℕ) → p ≡ Stream n → ⊥) → (raw_stream p).len ≡ 0
length_is (Refused e) f = refl
length_is NoStream f = refl
length_is (Stream n) f = absurd (f n refl)

module _ (cs : List Condition) (To : List ℕ → Type 0) (buffer : List ℕ) {c : Call} (p : Produces cs To buffer c) {r : RawStream} {buffer' : List ℕ} (h : Streams c r buffer') where
  -- the number of preparing's conditions in their order, then 27
  pub answers : Answers r.answer (cs ++ ((((bs : List ℕ) × Wanted To bs × (length buffer < length bs)) ↣ 27) ∷ []))
  answers = rw (ap (λ (z : RawStream). z.answer) h.returned ∙ answer_is c.answer) p.answers

  -- none exactly if no stream whatsoever leads there
  pub none_just : r.none ≡ 1 ↔ (None cs × Nowhere To)
  none_just =
      let e = ap (λ (z : RawStream). z.none) h.returned in
      ((λ q. p.none_just.0 ((none_is c.answer).0 (sym e ∙ q))), (λ q. e ∙ (none_is c.answer).1 (p.none_just.1 q)))

  -- otherwise, with 0, the stream wanted: its length is told, it stands at the buffer's start, and the bytes behind it are as they were
  pub stream_told : r.answer ≡ 0 → r.none ≡ 0 → (bs : List ℕ) × Wanted To bs × (r.len ≡ length bs) × (buffer' ≡ bs ++ drop r.len buffer)
  stream_told a n =
      let q = stream_is c.answer (sym (ap (λ (z : RawStream). z.answer) h.returned) ∙ a) (sym (ap (λ (z : RawStream). z.none) h.returned) ∙ n) in
      let (bs, w, l, b) = p.stream_is (raw_stream c.answer).len q in
      let e = ap (λ (z : RawStream). z.len) h.returned in
      (bs, w, e ∙ l, h.left ∙ b ∙ ap (λ (k : ℕ). bs ++ drop k buffer) (sym e))

  -- with a refusal, none or 27 there is no length, and nothing is written
  pub nothing_told : (r.answer ≡ 0 → r.none ≡ 0 → ⊥) → (r.len ≡ 0) × (buffer' ≡ buffer)
  nothing_told f =
      let e = h.returned in
      let g : (n : ℕ) → c.answer ≡ Stream n → ⊥ =
      λ n q. f (ap (λ (z : RawStream). z.answer) e ∙ ap (λ (x : Produced). (raw_stream x).answer) q) (ap (λ (z : RawStream). z.none) e ∙ ap (λ (x : Produced). (raw_stream x).none) q) in
      (ap (λ (z : RawStream). z.len) e ∙ length_is c.answer g, h.left ∙ p.unwritten g)
