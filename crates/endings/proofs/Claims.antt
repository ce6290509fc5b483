-- What F-12's promise comes to. Each of its fields is used here.
use Prim.Native.Nat.{ℕ, ◌≤◌, ◌<◌}
use native.Mathlib.Omega.{arith}
use mathlib.Core.Path.{◌≡◌, refl, ap, sym, ◌∙◌}
use mathlib.Core.Logic.{inl, inr}
use mathlib.Core.List.{List, [], ◌∷◌, ◌++◌}
use lib.ListN.{length, take, drop}
use lib.Seq.{take_at}
use lib.Dec.{lit<}
use Rattle.protocol.specs.declared.SocksError.{SocksError}
use Rattle.protocol.specs.Answers.{Accepted}
use Rattle.protocol.specs.Bytes.{BytePieces}
use Rattle.protocol.specs.Opening.{V5, Condition, None, First, Sixteen, opening5}
use Rattle.protocol.proofs.Limits.{number_is}
use Rattle.client_session.specs.Session.{outcome}
use Rattle.client_session.specs.Calls.{prepare5, start, end}
use Rattle.socks.specs.Demand3.{tunnel_of, joined_of}
use Rattle.endings_spec.specs.declared.OutcomeStatus.{OutcomeStatus}
use Rattle.endings_spec.specs.Endings.{ending_of, Leads, Wanted, Nowhere}
use Rattle.endings_spec.proofs.Order.{wanted_somewhere, wanted_once}
use Rattle.endings.specs.Calls.{Produced, Refused, NoStream, Stream, Call, stream5}
use Rattle.endings.specs.Produces.{produced_number, Produces}
use Rattle.endings.proofs.Promise.{produces5}
use Rattle.endings.proofs.Led.{led5}
use Rattle.talk.specs.Tunnel.{Delivery}

none_then : (cs ds : List Condition) → None cs → None ds → None (cs ++ ds)
none_then [] ds x y = y
none_then (c ∷ cs) ds x y = (x.0, none_then cs ds x.1 y)

first_behind : (k : ℕ) (cs ds : List Condition) → None cs → First k ds → First k (cs ++ ds)
first_behind k [] ds x f = f
first_behind k (c ∷ cs) ds x f = inr (x.0, first_behind k cs ds x.1 f)

module _ (cs : List Condition) (To : List ℕ → Type 0) (buffer : List ℕ) (c : Call) (p : Produces cs To buffer c) where
  -- a refusal or none leaves the buffer
  pub refused_leaves : (e : SocksError) → c.answer ≡ Refused e → c.buffer ≡ buffer
  refused_leaves e q = p.unwritten (λ n r. let z : ◌≡◌ {A = ℕ} 0 1 = cc in omega arith)

  pub none_leaves : c.answer ≡ NoStream → c.buffer ≡ buffer
  none_leaves q = p.unwritten (λ n r. let z : ◌≡◌ {A = ℕ} 0 1 = cc in omega arith)

  -- what is written is as long as is told
  pub written_is : (n : ℕ) → c.answer ≡ Stream n → Wanted To (take n c.buffer)
  written_is n q = let (bs, w, l, b) = p.stream_is n q in rw (b, take_at bs (drop n buffer) n (sym l)) w

  module _ (passed : None cs) where
    -- where no stream leads there the answer is none, and not 27
    pub none_told : Nowhere To → c.answer ≡ NoStream
    none_told n = p.none_just.1 (passed, n)

    module _ (bs : List ℕ) (w : Wanted To bs) where
      -- 27 for a shorter buffer
      pub short_27 : length buffer < length bs → produced_number c.answer ≡ 27
      short_27 h = (p.answers.refuses 27 (lit< tt)).1 (first_behind 27 cs _ passed (inl ((bs, w, h), refl)))

      -- nothing is left open: with room the stream wanted is told and written
      pub stream_told : length bs ≤ length buffer → (c.answer ≡ Stream (length bs)) × (c.buffer ≡ bs ++ drop (length bs) buffer)
      stream_told h = go c.answer refl
        where
          enough : (us : List ℕ) × Wanted To us × (length buffer < length us) → ⊥
          enough (us, u, l) = let e = wanted_once To us bs u w in omega (arith, ap length e)

          go : (x : Produced) → c.answer ≡ x → (c.answer ≡ Stream (length bs)) × (c.buffer ≡ bs ++ drop (length bs) buffer)
          go (Refused e) q =
              let z = p.answers.accepts.1 (none_then cs _ passed (enough, tt)) in
              absurd (omega (arith, (number_is e).0, sym (ap produced_number q) ∙ z))
          go NoStream q = absurd (wanted_somewhere To bs w (p.none_just.0 q).1)
          go (Stream n) q =
              let (us, u, l, b) = p.stream_is n q in
              let e = wanted_once To us bs u w in
              let m = l ∙ ap length e in
              (q ∙ ap Stream m, b ∙ (λ i. e i ++ drop (m i) buffer))

-- two calls for the same, with buffers that have room, write the same
pub same_written : (cs : List Condition) (To : List ℕ → Type 0) (a b : List ℕ) (c d : Call) → Produces cs To a c → Produces cs To b d → (n m : ℕ) → c.answer ≡ Stream n → d.answer ≡ Stream m
    → (n ≡ m) × (take n c.buffer ≡ take m d.buffer)
same_written cs To a b c d p q n m x y =
    let (us, u, k, _) = p.stream_is n x in
    let (vs, v, l, _) = q.stream_is m y in
    (k ∙ ap length (wanted_once To us vs u v) ∙ sym l, wanted_once To _ _ (written_is cs To a c p n x) (written_is cs To b d q m y))

-- what is written for a session, delivered to one in any pieces and followed by an end, ends there
pub written_ends : (a : V5) → Sixteen a.records → (w : OutcomeStatus) (buffer : List ℕ) (n : ℕ) → (stream5 a w buffer).answer ≡ Stream n
    → (out : List ℕ) → (prepare5 a).answer ≡ Accepted → (start (prepare5 a).session out).answer ≡ Accepted → (ds : List Delivery) → BytePieces ds
    → joined_of (opening5 a) ds ≡ take n (stream5 a w buffer).buffer
    → ending_of (outcome (end (tunnel_of (opening5 a) (start (prepare5 a).session out).session (take (start (prepare5 a).session out).sent (start (prepare5 a).session out).output) ds).session).session) ≡ w
written_ends a x w buffer n q out p s ds y j =
    led5 a x out p s ds y w (rw j (written_is _ (Leads (opening5 a) w) buffer (stream5 a w buffer) (produces5 a w buffer) n q).leads)
