-- F-10: a course behind an entry.
use Prim.Native.Nat.{ℕ, ◌+◌, ◌-◌, ◌≤◌, ◌<◌, ◌%◌, ◌^◌}
use native.Mathlib.Omega.{arith}
use mathlib.Core.Path.{◌≡◌, refl, ap, sym, ◌∙◌}
use mathlib.Core.Bool.{Bool, true, false, cond, not, ◌&&◌}
use Rattle.std.specs.Prelude.{IfOk}
use Rattle.std.specs.Cmp.Lexicographic.{pointwise}
use Rattle.std.proofs.lemmas.List.{drop-take, take_all}
use mathlib.Core.List.{List, [], ◌∷◌, ◌++◌}
use lib.ListN.{length, get_or, take, drop, replicate, length-append, length-take, length-drop, length-replicate}
use lib.Seq.{length-take-le, take-append-le, take-append-add, take-append_seam}
use lib.Dec.{eqb, lit≤}
use borrow.Author.Tests.{le-leb, lt-leb}
use Rattle.protocol.specs.Bytes.{same}
use Rattle.protocol.proofs.Bytes.{heads_differ, heads_same, same_equal, same_not}
use Rattle.protocol.specs.declared.Reply.TheVariants.{NegotiationRes, AuthenticationRes, ProxyRes, Response}
use Rattle.protocol.specs.declared.SocksError.TheVariants.{Settled, OutOfOrder}
use Rattle.client_stages.specs.declared.due.Stage.{Stage}
use Rattle.client_stages.specs.declared.due.Stage.TheVariants.{Awaiting, Open, Failed}
use Rattle.client_session.specs.declared.Session.{Session}
use Rattle.client_session.specs.declared.Delivered.{Delivered}
use Rattle.client_session.specs.Session.{side_of, view, room_at}
use Rattle.client_session.specs.Calls.{Call, refusal, takes, deliver, DeliverResult}
use Rattle.talk.specs.Talk.{onward, is_over}
use Rattle.captures_spec.specs.Captures.{sent, received}
use Rattle.buffers.specs.write.Written.{overwrite}
use Rattle.client_stages.specs.due.Parts.{part}
use Rattle.client_delivery.specs.declared.piece.Taken.{Taken}
use Rattle.client_delivery.specs.delivery.Received.{Received, Bounded, ReceiveResult}
use Rattle.client_session.proofs.Deliveries.{session_of, taken_by, taken_within, delivers_by}
use Rattle.captures.specs.declared.walk.Course.{Course}
use Rattle.captures.specs.Walk.{passed, taking}
use Rattle.captures.specs.Coded.{Within, Typed, carried, Passes, Delivers}

abbrev pub course : Session → ℕ → ℕ → Course
course s due n = record { session = s; due = due; sent = n }

-- ---- sent bytes

-- whether bytes begin with a piece, by the first byte of each
abbrev pub begins_with : List ℕ → List ℕ → Bool
begins_with bytes piece = same piece (take (length piece) bytes)

pub pointwise_same : (a b : List ℕ) → pointwise eqb a b ≡ same a b
unfolding same
pointwise_same [] [] = refl
pointwise_same [] (y ∷ ys) = refl
pointwise_same (x ∷ xs) [] = refl
pointwise_same (x ∷ xs) (y ∷ ys) = ap (λ (t : Bool). eqb x y && t) (pointwise_same xs ys)

abbrev rest_of : List ℕ → List ℕ
rest_of l = take (length l - 1) (drop 1 l)

rest_is : (x : ℕ) (l : List ℕ) → rest_of (x ∷ l) ≡ l
rest_is x l = take_all (length (x ∷ l) - 1) l (omega arith)

pub begins_all : (bytes piece : List ℕ) → length piece < 1 → true ≡ begins_with bytes piece
unfolding same
begins_all bytes [] h = refl
begins_all bytes (x ∷ l) h = absurd (omega arith)

pub begins_short : (bytes piece : List ℕ) → 1 ≤ length piece → length bytes < 1 → false ≡ begins_with bytes piece
unfolding same
begins_short bytes [] h k = absurd (omega arith)
begins_short [] (x ∷ l) h k = refl
begins_short (y ∷ m) (x ∷ l) h k = absurd (omega arith)

pub begins_other : (bytes piece : List ℕ) → 1 ≤ length piece → 1 ≤ length bytes → (get_or piece 0 0 ≡ get_or bytes 0 0 → ⊥) → false ≡ begins_with bytes piece
begins_other bytes [] h k f = absurd (omega arith)
begins_other [] (x ∷ l) h k f = absurd (omega arith)
begins_other (y ∷ m) (x ∷ l) h k f = sym (heads_differ l (take (length l) m) f)

pub begins_on : (bytes piece : List ℕ) → 1 ≤ length piece → 1 ≤ length bytes → get_or piece 0 0 ≡ get_or bytes 0 0 → begins_with (rest_of bytes) (rest_of piece) ≡ begins_with bytes piece
begins_on bytes [] h k e = absurd (omega arith)
begins_on [] (x ∷ l) h k e = absurd (omega arith)
begins_on (y ∷ m) (x ∷ l) h k e = rw (rest_is x l, rest_is y m) (sym (heads_same l (take (length l) m) e))

pub rest_short : (l : List ℕ) → 1 ≤ length l → length (rest_of l) < length l
rest_short [] h = absurd (omega arith)
rest_short (x ∷ l) h = rw (rest_is x l) (omega arith)

module _ (c : Course) (bs out : List ℕ) (w : Within c out) where
  -- the bytes that are due next
  next_due : drop c.sent (take c.due out) ≡ take (c.due - c.sent) (drop c.sent out)
  next_due =
      let e : c.due ≡ c.sent + (c.due - c.sent) = omega (arith, w.0) in
      ap (λ (n : ℕ). drop c.sent (take n out)) e ∙ drop-take c.sent (c.due - c.sent) out

  module _ {t : Bool} (q : t ≡ same bs (take (length bs) (take (c.due - c.sent) (drop c.sent out)))) where
    begins : same bs (take (length bs) (drop c.sent (take c.due out))) ≡ t
    begins = ap (λ (l : List ℕ). same bs (take (length bs) l)) next_due ∙ sym q

    pub sent_other : t ≡ false → Passes sent bs c out false c out
    sent_other e = record { within = λ z. absurd (cc z); on = λ on. rw (begins ∙ e) }

    pub sent_next : Typed c.session → t ≡ true → Passes sent bs c out true (course c.session c.due (c.sent + length bs)) out
    sent_next y e =
        let l = length-take-le c.due out w.1 in
        let k = ap length (same_equal bs _ (begins ∙ e)) in
        record {
          within = λ z. ((omega (arith, w.0, k, length-take (length bs) (drop c.sent (take c.due out)), length-drop c.sent (take c.due out), l), w.1), y);
          on = λ on. rw (begins ∙ e);
        }

  -- fewer are due than were sent
  pub sent_short : c.due - c.sent < length bs → Passes sent bs c out false c out
  sent_short h =
      let next = take (c.due - c.sent) (drop c.sent out) in
      sent_other refl (sym (same_not bs (take (length bs) next) (λ e. omega (arith, e, length-take (length bs) next, length-take (c.due - c.sent) (drop c.sent out)))))

-- ---- received bytes

-- a delivery goes by how long the output is, and any session takes 778
pub record SameCall (a b : Call) : Type 0 where
  pub session : a.session ≡ b.session
  pub used : a.used ≡ b.used
  pub sends : take a.sent a.output ≡ take b.sent b.output

room_most : (stage : Stage) → room_at stage ≤ 778
room_most (Awaiting (NegotiationRes m)) = lit≤ tt
room_most (Awaiting AuthenticationRes) = lit≤ tt
room_most (Awaiting ProxyRes) = lit≤ tt
room_most (Awaiting Response) = lit≤ tt
room_most Open = lit≤ tt
room_most (Failed e) = lit≤ tt

takes_same : (s : Session) (bs a b : List ℕ) → SameCall (takes s bs a) (takes s bs b)
takes_same s [] a b = record { session = refl; used = refl; sends = refl }
takes_same s (x ∷ bs) a b =
    let f = (onward (side_of s) (view s) (x ∷ bs)).sent in
    record { session = refl; used = refl; sends = take-append_seam f (drop (length f) a) ∙ sym (take-append_seam f (drop (length f) b)) }

pub deliver_same : (s : Session) (bs a b : List ℕ) → 778 ≤ length a → 778 ≤ length b → SameCall (deliver s bs a) (deliver s bs b)
unfolding deliver
deliver_same s bs a b p q =
    let h = room_most s.stage in
    rw (le-leb (room_at s.stage) (length a) (omega arith), le-leb (room_at s.stage) (length b) (omega arith)) (go (is_over (view s)) s.started)
  where
    go : (over started : Bool) → SameCall
        (cond over (refusal Settled s a) (cond (not started) (refusal OutOfOrder s a) (takes s bs a)))
        (cond over (refusal Settled s b) (cond (not started) (refusal OutOfOrder s b) (takes s bs b)))
    go true started = record { session = refl; used = refl; sends = refl }
    go false false = record { session = refl; used = refl; sends = refl }
    go false true = takes_same s bs a b

-- what was received, made of the session in place
module _ (s : Session) (bs out : List ℕ) {r : Received} {hold' : List ℕ} (v : ReceiveResult s.stage s.started s.held s.requests.lengths s.hold bs (length out) s.bound r hold') (small : s.attempts < 2 ^ 64)
    {t : Taken} (q : t ≡ (taken_by s r).1) where
  pub fits : IfOk r (Bounded bs (length out)) → (t.from + t.sent ≤ 778) × (t.sent ≤ length out)
  fits b = rw q (taken_within s bs out v small b refl)

  pub in_place : {n : ℕ} → n ≡ (s.attempts + t.attempts) % 2 ^ 64 → length s.requests.bytes ≡ 1024 → {out' : List ℕ} → out' ≡ overwrite out 0 (part s.requests.bytes t.from t.sent)
      → Delivers s bs out t (session_of t.stage s.started t.held hold' t.bound n s.requests.lengths s.requests.bytes) out'
  in_place {n} more long {out'} w =
      let d = delivers_by s bs out v small refl (more ∙ ap (λ (x : Taken). (s.attempts + x.attempts) % 2 ^ 64) q) long (w ∙ ap (λ (x : Taken). overwrite out 0 (part s.requests.bytes x.from x.sent)) q) in
      let p = d.returned in
      let c = deliver s bs out in
      rw q (record {
        returned = λ i. record { answer = c.answer; used = (p i).used; sent = (p i).sent; session = (p i).session };
        output = d.output;
        inside = d.inside;
        within = d.within;
      })

module _ (c : Course) (bs out : List ℕ) (w : Within c out) where
  pub received_over : 1024 < c.due → Passes received bs c out false c out
  received_over h = record { within = λ z. absurd (cc z); on = λ on. rw (length-take-le c.due out w.1, lt-leb c.due 1024 h) }

  module _ (l : length out ≡ 1802) (h : c.due ≤ 1024) {r : Delivered} {ys : List ℕ} (post : List ℕ)
      (d : DeliverResult (deliver c.session bs (take (1802 - c.due) (drop c.due out))) bs r ys)
      (long : length (take c.due out ++ (ys ++ post)) ≡ length out) where
    pub taken_on : (on : Session → List ℕ → ℕ → Bool) → passed received bs c.session (take c.due out) c.sent on
        ≡ cond (eqb r.used (length bs)) (on r.session (take (c.due + r.sent) (take c.due out ++ (ys ++ post))) c.sent) false
    unfolding taking
    taken_on on =
        let lent = take (1802 - c.due) (drop c.due out) in
        let k = deliver c.session bs lent in
        let front : length (take c.due out) ≡ c.due = length-take-le c.due out w.1 in
        let n = deliver_same c.session bs (replicate {A = ℕ} 778 0) lent (rw (length-replicate {A = ℕ} 778 0) (lit≤ tt)) (omega (arith, l, length-take (1802 - c.due) (drop c.due out), length-drop c.due out)) in
        let sent_is : r.sent ≡ k.sent = ap (λ (x : Delivered). x.sent) d.returned in
        let inside = d.inside in
        let behind : take (c.due + r.sent) (take c.due out ++ (ys ++ post)) ≡ take c.due out ++ take k.sent k.output =
        ap (λ (m : ℕ). take (m + r.sent) (take c.due out ++ (ys ++ post))) (sym front) ∙ take-append-add (take c.due out) (ys ++ post) r.sent
        ∙ ap (λ (x : List ℕ). take c.due out ++ x) (take-append-le r.sent ys post inside ∙ (λ i. take (sent_is i) (d.output i))) in
        rw (front, le-leb c.due 1024 h)
        ((λ i. cond (eqb (n.used i) (length bs)) (on (n.session i) (take c.due out ++ n.sends i) c.sent) false)
        ∙ (λ i. cond (eqb (sym (ap (λ (x : Delivered). x.used) d.returned) i) (length bs)) (on (sym (ap (λ (x : Delivered). x.session) d.returned) i) (sym behind i) c.sent) false))

    carried_if : (t : Bool) (x : Course) (due : List ℕ) (on : Session → List ℕ → ℕ → Bool) → cond t (on x.session (take x.due due) x.sent) false ≡ carried t x due on
    carried_if true x due on = refl
    carried_if false x due on = refl

    -- whether the entry was lawful or not
    pub received_within : Within (course r.session (c.due + r.sent) c.sent) (take c.due out ++ (ys ++ post))
    received_within =
        let front : length (take c.due out) ≡ c.due = length-take-le c.due out w.1 in
        let inside = d.inside in
        (omega (arith, w.0), omega (arith, long, inside, length-append (take c.due out) (ys ++ post), length-append ys post, front))

    pub received_taken : Typed r.session → Passes received bs c out (eqb r.used (length bs)) (course r.session (c.due + r.sent) c.sent) (take c.due out ++ (ys ++ post))
    received_taken y =
        record {
          within = λ z. (received_within, y);
          on = λ on. taken_on on ∙ carried_if (eqb r.used (length bs)) (course r.session (c.due + r.sent) c.sent) (take c.due out ++ (ys ++ post)) on;
        }
