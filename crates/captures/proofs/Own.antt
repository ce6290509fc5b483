-- F-10: the capture of our own client's tunnel is accepted whenever the tunnel is open with nothing unread.
use Prim.Native.Nat.{ℕ, ◌+◌, ◌≤◌, ◌<◌}
use native.Mathlib.Nat.{le_refl}
use native.Mathlib.Omega.{arith}
use mathlib.Core.Path.{◌≡◌, refl, ap, sym, subst, ◌∙◌}
use mathlib.Core.Bool.{true, cond}
use mathlib.Core.List.{List, [], ◌∷◌, ◌++◌, append_assoc, append-nil}
use lib.ListN.{length, take, drop, length-append, length-drop}
use lib.Seq.{take-append_seam, drop-append_seam, drop-drop}
use borrow.Author.Tests.{le-leb}
use Rattle.protocol.specs.Answers as code
use Rattle.protocol.specs.declared.Outcome.TheVariants.{Open}
use Rattle.protocol.specs.Numbers.{answer_number}
use Rattle.protocol.specs.Opening.{check5 as prepares5, check4 as prepares4, Opening, opening5, opening4, start_room, delivery_room, Limits}
use Rattle.protocol.specs.Machine.{machine, used}
use Rattle.protocol.specs.Client.{kept}
use Rattle.protocol.proofs.Openings.{clash}
use Rattle.protocol.proofs.Limits.{limits5, limits4}
use Rattle.client_session.specs.declared.Session.{Session}
use Rattle.client_session.specs.Session.{outcome}
use Rattle.client_session.specs.Calls.{Call, prepared_for, prepared_by, prepare5, prepare4, start}
use Rattle.socks.specs.Demand3.{receiver}
use Rattle.socks.specs.Turns.{InTurn}
use Rattle.socks.proofs.InTwo.{start_begins}
use Rattle.socks.proofs.Tunnels.{Begun}
use Rattle.socks.proofs.Openings.{begins_stands, stands_asks}
use Rattle.talk.specs.Tunnel.{Receiver, Delivery, answer_to, lends, after, rests}
use Rattle.captures_spec.specs.Captures.{sent, received, Entry}
use Rattle.captures_spec.proofs.Due.{grown, sent_grows, sent_more}
use Rattle.captures_spec.proofs.Entries.{Left, left_none, left_received, left_sent, accepted_just}
use Rattle.captures_spec.proofs.Rows.{row_is}
use Rattle.captures_spec.proofs.Alike.{row_bytes}
use Rattle.captures.specs.Calls.{checked, check5, check4}
use Rattle.captures.specs.Own as O
use Rattle.captures.specs.Own.{Cut, sent_in, Recorded, OwnAccepted, Own5, Own4}
use Rattle.captures.proofs.Walked.{At, took, outcome_at, begun_behind, held_just}

no_bytes : (a b : List ℕ) → a ++ b ≡ [] → (a ≡ []) × (b ≡ [])
no_bytes [] b q = (refl, q)
no_bytes (x ∷ a) b q = let z : ◌≡◌ {A = ℕ} 0 1 = cc in absurd (omega arith)

module _ (o : Opening) where
  abbrev K : Receiver Session code.Answer
  K = receiver (delivery_room o)

  abbrev due : List ℕ → List ℕ
  due got = (machine o got).sent

  -- ---- bytes cut into entries

  cut_received : (got : List ℕ) (n : ℕ) {bs : List ℕ} {es : List Entry} (gs : List Entry) → Cut received bs es → n ≤ length (due got) → Left o (got ++ bs) n gs → Left o got n (es ++ gs)
  cut_received got n gs O.nothing h l = rw (append-nil got) at l
  cut_received got n gs (O.next bs {more} {es} s c) h l =
      left_received o got bs n (es ++ gs) h
      (cut_received (got ++ bs) n gs c (omega (arith, sent_more o got bs)) (rw (append_assoc got bs more) l))

  -- all that is due and not sent
  cut_sent : (got : List ℕ) (n : ℕ) {bs : List ℕ} {fs : List Entry} (gs : List Entry) → Cut sent bs fs → n ≤ length (due got) → drop n (due got) ≡ bs → Left o got (length (due got)) gs → Left o got n (fs ++ gs)
  cut_sent got n gs O.nothing h e l = let z : n ≡ length (due got) = omega (arith, ap length e, length-drop n (due got)) in rw z l
  cut_sent got n gs (O.next bs {more} {es} s c) h e l =
      let f : n + length bs ≤ length (due got) = omega (arith, ap length e, length-drop n (due got), length-append bs more) in
      left_sent o got bs n (es ++ gs) f (sym (ap (take (length bs)) e ∙ take-append_seam bs more))
      (cut_sent got (n + length bs) gs c f (sym (drop-drop (length bs) n (due got)) ∙ ap (drop (length bs)) e ∙ drop-append_seam bs more) l)

  -- ---- deliveries

  asks : (got : List ℕ) (s : Session) → At o got s → InTurn (start_room o) (delivery_room o) s
  asks got s at = stands_asks (start_room o) (delivery_room o) (kept o) s _ at

  accepted_lends : (got : List ℕ) (s : Session) → At o got s → (d : Delivery) → (answer_to K s d).answer ≡ code.Accepted → lends K d ≡ true
  accepted_lends got s at d q =
      let n = ((asks got s at).deliver_number d.piece d.output).accepts.0 (ap answer_number q) in
      let f : length d.output < delivery_room o → ⊥ = n.1.1.0 in
      le-leb (delivery_room o) (length d.output) (omega arith)

  own_left : {s : Session} {ds : List Delivery} {gs : List Entry} → Recorded K s ds gs → (got : List ℕ) → At o got s → used o got ≡ length got
      → outcome (after K s ds) ≡ Open → rests K s ds ≡ [] → Left o got (length (due got)) gs
  unfolding after rests
  own_left (O.none {s}) got at u q r = left_none o got u (sym (outcome_at o got s at) ∙ q)
  own_left (O.accepted {s} d {ds} {es} {fs} {gs} a x y more) got at u q r =
      let e = accepted_lends got s at d a in
      let t = took o got s at d e in
      let (w, v) = no_bytes (drop (answer_to K s d).used d.piece) (rests K (answer_to K s d).session ds) (rw e at r) in
      let all : (answer_to K s d).used ≡ length d.piece = omega (arith, ap length w, length-drop (answer_to K s d).used d.piece, t.within) in
      let i = own_left more (got ++ d.piece) t.stands ((t.reads u).0 all) q v in
      cut_received got (length (due got)) (fs ++ gs) x (le_refl (length (due got)))
      (cut_sent (got ++ d.piece) (length (due got)) gs y (sent_more o got d.piece) (ap (drop (length (due got))) (sent_grows o got d.piece) ∙ drop-append_seam (due got) (grown o got d.piece) ∙ sym t.sends) i)
  own_left (O.refused {s} d {ds} {gs} e a more) got at u q r =
      let same = (asks got s at).deliver_untouched d.piece d.output e a in
      let at' : At o got (answer_to K s d).session = rw (ap (λ (c : Call). c.session) same) at in
      own_left more got at' u q (no_bytes (cond (lends K d) _ []) (rests K (answer_to K s d).session ds) r).1

own : (x : code.Answer) (o : Opening) → (x ≡ code.Accepted → Limits o) → OwnAccepted (prepared_by x o) o (checked (prepared_by x o))
own (code.Refused e) o l out p q ds y es fs cut recorded opened nothing c z r = absurd (clash (sym p))
own code.Accepted o l out p q ds y es fs cut recorded opened nothing c z r =
    let s = start (prepared_for o) out in
    let b : Begun o s.session (sent_in s) = subst (λ (k : Call). Begun o k.session (sent_in k)) (sym (start_begins o out q (l refl))) (begins_stands o (l refl) out) in
    let h = begun_behind o (l refl) s.session (sent_in s) b in
    let left = own_left o recorded [] h.stands h.reads opened nothing in
    let a = (accepted_just o (es ++ fs) (row_bytes received r z)).1 (cut_sent o [] 0 fs cut (omega arith) (sym h.owes) left) in
    rw (row_is r, (held_just o (l refl) (es ++ fs) (row_bytes received r z)).1 a)

pub own5 : Own5
unfolding check5 prepare5
own5 a x = own (prepares5 a) (opening5 a) (limits5 a x)

pub own4 : Own4
unfolding check4 prepare4
own4 a = own (prepares4 a) (opening4 a) (limits4 a)
