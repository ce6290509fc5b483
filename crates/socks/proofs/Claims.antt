-- What demand 3 and the claims on single calls come to. Each of their fields is used here.
use Prim.Native.Nat.{ℕ, ◌+◌, ◌≤◌, ◌<◌}
use native.Mathlib.Omega.{arith}
use mathlib.Core.Path.{◌≡◌, refl, ap, sym, ◌∙◌}
use mathlib.Core.Logic.{◌⊎◌, inl, inr}
use mathlib.Core.Bool.{true, false, true≢false}
use mathlib.Core.List.Memᴰ
use mathlib.Core.List.{List, [], ◌∷◌, ◌++◌, append-nil, Memᴰ}
use lib.ListN.{length, drop, length-append}
use lib.Dec.{lit<}
use lib.Seq.{drop-append_seam, drop-length}
use Rattle.protocol.specs.Answers.{Accepted, Refused}
use Rattle.protocol.specs.declared.Outcome.{Outcome}
use Rattle.protocol.specs.declared.Outcome.TheVariants.{Waiting, Open, Failed}
use Rattle.protocol.specs.declared.SocksError.{SocksError}
use Rattle.protocol.specs.declared.SocksError.TheVariants.{UnexpectedEof}
use Rattle.protocol.specs.Numbers.{answer_number, outcome_number}
use Rattle.protocol.specs.declared.Address.{Address}
use Rattle.protocol.specs.Bytes.{Bytes}
use Rattle.protocol.specs.Wants.{Some, Completes, Settles}
use Rattle.protocol.specs.Bound.{Endpoint, address_of, destination}
use Rattle.protocol.specs.Opening.{Opening, start_room, delivery_room, Condition, ◌↣◌, None, Answers}
use Rattle.protocol.specs.Machine.{machine, used}
use Rattle.protocol.specs.Grammar.{Sequence, Replied}
use Rattle.protocol.specs.AddressReading.{Destination}
use Rattle.protocol.proofs.Bytes.{bytes_just, bytes_join}
use Rattle.protocol.proofs.Limits.{number_accepted}
use Rattle.protocol.proofs.Claims.{one_length}
use Rattle.protocol.proofs.Named.{named_back}
use Rattle.address_format.specs.endpoint.Text.{text_of, bound_text}
use Rattle.address_format.specs.endpoint.Written.{TextCall, write_text}
use Rattle.client_session.specs.declared.Session.{Session}
use Rattle.client_session.specs.declared.Prepared.{Prepared}
use Rattle.client_session.specs.Session.{outcome, wants, bound, write_bound}
use Rattle.client_session.specs.Calls.{Call, start, deliver, end}
use Rattle.socks.specs.Demand3.{tunnel_of, joined_of, Demand3}
use Rattle.socks.specs.Turns.{Tells, no_address, Preparing, InTurn, Asking}
use Rattle.socks.specs.Attempts.{receiver_of, accepted_in, held_of, Effort}
use Rattle.socks.specs.InTwo.{in_two, InTwo}
use Rattle.socks.specs.Wants.{AnyWants, Reads}
use Rattle.talk.specs.Tunnel.{Delivery, rest, after, joined, Tunnel}
use Rattle.talk.specs.Lawful.{Begins}

-- ---- demand 3

-- what is told of a tunnel: outcome with status, bound address, sent bytes, total count and rests
abbrev told : Tunnel Session → Outcome × (Address × (List ℕ × (ℕ × List ℕ)))
told t = (outcome t.session, (bound t.session, (t.sent, (t.count, t.rest))))

module _ (o : Opening) (s : Session) (sent : List ℕ) (ds : List Delivery) (d : Demand3 o s sent ds) where
  abbrev bs : List ℕ
  bs = joined_of o ds

  -- all of it is the plain machine's on the joined bytes
  pub as_machine : told (tunnel_of o s sent ds) ≡ ((machine o bs).outcome, (address_of (machine o bs).bound, ((machine o bs).sent, (used o bs, drop (used o bs) bs))))
  as_machine = λ i. (d.outcome_as i, (d.bound_as i, (d.sent_as i, (d.count_as i, (d.rests_are ∙ ap (λ (n : ℕ). drop n bs) d.count_as) i))))

  -- and the same for every other cut of them
  pub cut_anew : (ds' : List Delivery) → joined_of o ds' ≡ bs → told (tunnel_of o s sent ds') ≡ told (tunnel_of o s sent ds)
  cut_anew ds' e = let a = d.alike ds' e in λ i. (a.outcomes i, (a.bounds i, (a.sent i, (a.count i, a.rest i))))

  -- a reply sequence opens it
  pub opens_when : Replied o bs → outcome (tunnel_of o s sent ds).session ≡ Open
  opens_when r = d.opens_just.1 r

-- an open tunnel's joined bytes are the reply sequence that they begin with, and then the rests
pub opened_then_rest : (o : Opening) (s : Session) (sent : List ℕ) (ds : List Delivery) → Demand3 o s sent ds → outcome (tunnel_of o s sent ds).session ≡ Open
    → (p : List ℕ) (x : Endpoint) → Begins p (joined_of o ds) → Sequence o p x → joined_of o ds ≡ p ++ (tunnel_of o s sent ds).rest
opened_then_rest o s sent ds d q p x (f, b) r =
    let l = one_length (d.just_one q) p x (f, b) r in
    let e : drop (tunnel_of o s sent ds).count (joined_of o ds) ≡ f = rw (l, b) (drop-append_seam p f) in
    b ∙ ap (λ (x : List ℕ). p ++ x) (sym (d.rests_are ∙ e))

-- F-1: its bound address is the one that this sequence names
pub opened_bound : (o : Opening) (s : Session) (sent : List ℕ) (ds : List Delivery) → Demand3 o s sent ds → outcome (tunnel_of o s sent ds).session ≡ Open
    → (p : List ℕ) (x : Endpoint) → Begins p (joined_of o ds) → Sequence o p x → bound (tunnel_of o s sent ds).session ≡ address_of x
opened_bound o s sent ds d q p x b r = d.bound_as ∙ ap address_of (sym ((d.just_one q).only p x b r).1)

-- and its text is the text of that address
value_text : (x : Endpoint) → destination (address_of x) ≡ x.address → bound_text (address_of x) ≡ text_of x.address x.port
unfolding bound_text
value_text x e = ap (λ (d : Destination). text_of d x.port) e

pub opened_text : (o : Opening) (s : Session) (sent : List ℕ) (ds : List Delivery) → Demand3 o s sent ds → outcome (tunnel_of o s sent ds).session ≡ Open
    → (p : List ℕ) (x : Endpoint) → Begins p (joined_of o ds) → Sequence o p x → (first next : ℕ) → InTurn first next (tunnel_of o s sent ds).session
    → (buffer : List ℕ) → length (text_of x.address x.port) ≤ length buffer
    → (write_bound (tunnel_of o s sent ds).session buffer ≡ write_text (text_of x.address x.port) buffer)
opened_text o s sent ds d q p x b r first next k buffer h =
    let e : bound_text (bound (tunnel_of o s sent ds).session) ≡ text_of x.address x.port = ap bound_text (opened_bound o s sent ds d q p x b r) ∙ value_text x (named_back r) in
    let n = (k.text_number buffer).accepts.1 (λ z. z q, (λ z. absurd (omega (arith, h, ap length e)), tt)) in
    k.text_writes buffer (number_accepted (write_bound (tunnel_of o s sent ds).session buffer).answer n) ∙ ap (λ (t : List ℕ). write_text t buffer) e

-- ---- single calls

-- what is told of a session: outcome, bound address and attempts; and how many bytes it holds
abbrev shown : Session → Outcome × (Address × (ℕ × ℕ))
shown s = (outcome s, (bound s, (s.attempts, s.held)))

same_shown : {s : Session} {how : Outcome} {at : Address} {tries held : ℕ} → Tells s how at tries held → shown s ≡ (how, (at, (tries, held)))
same_shown w = λ i. (w.outcomes i, (w.bounds i, (w.attempts i, w.holds i)))

-- the first of some conditions holds
pub holds : {n m : ℕ} {P : Type 0} {cs : List Condition} → Answers n ((P ↣ m) ∷ cs) → 0 < m → P → n ≡ m
holds {n} {m} a h p = (a.refuses m h).1 (inl (p, refl))

-- the second does, and not the first
pub holds_second : {n k m : ℕ} {P Q : Type 0} {cs : List Condition} → Answers n ((P ↣ k) ∷ (Q ↣ m) ∷ cs) → 0 < m → (P → ⊥) → Q → n ≡ m
holds_second {n} {k} {m} a h f q = (a.refuses m h).1 (inr (f, inl (q, refl)))

module _ (first next : ℕ) (s : Session) (t : InTurn first next s) where
  -- a settled session refuses every call with 16
  pub settled_16 : (outcome s ≡ Waiting → ⊥) → (piece out : List ℕ)
      → (answer_number (start s out).answer ≡ 16) × (answer_number (deliver s piece out).answer ≡ 16) × (answer_number (end s).answer ≡ 16)
  settled_16 w piece out = (holds (t.start_number out) (lit< tt) w, holds (t.deliver_number piece out) (lit< tt) w, holds t.end_number (lit< tt) w)

  -- whatever the reason, a refused call leaves the session and the output
  pub refused_leaves : (e f g : SocksError) (piece out : List ℕ) → (start s out).answer ≡ Refused e → (deliver s piece out).answer ≡ Refused f → (end s).answer ≡ Refused g
      → ((start s out).session ≡ s) × ((deliver s piece out).session ≡ s) × ((end s).session ≡ s) × ((deliver s piece out).output ≡ out)
  refused_leaves e f g piece out p q r =
      let c = t.deliver_untouched piece out f q in
      (ap (λ (c : Call). c.session) (t.start_untouched out e p), ap (λ (c : Call). c.session) c, ap (λ (c : Call). c.session) (t.end_untouched g r), ap (λ (c : Call). c.output) c)

  -- a second start is refused with 22, and no call writes behind what it sends
  pub second_22 : (out : List ℕ) → (start s out).answer ≡ Accepted → outcome s ≡ Waiting → InTurn first next (start s out).session → answer_number (start (start s out).session out).answer ≡ 22
  second_22 out p w u = holds_second (u.start_number out) (lit< tt) (λ f. f ((t.start_keeps out p).outcomes ∙ w)) (t.start_marks out p)

  pub untold_same : (out : List ℕ) → (start s out).answer ≡ Accepted → (bound (start s out).session ≡ bound s) × ((start s out).session.attempts ≡ s.attempts)
  untold_same out p = ((t.start_keeps out p).bounds, (t.start_keeps out p).attempts)

  pub written_only : (piece out : List ℕ) → (drop (start s out).sent (start s out).output ≡ drop (start s out).sent out) × (length (deliver s piece out).output ≡ length out)
  written_only piece out = ((t.start_behind out).bytes, (t.deliver_behind piece out).size)

  -- an end told by numbers: 9, no address, and the attempts that there were
  pub ended_9 : (end s).answer ≡ Accepted → (outcome_number (outcome (end s).session) ≡ 9) × (shown (end s).session ≡ (Failed UnexpectedEof, (no_address, (s.attempts, 0))))
  ended_9 p = (t.end_nine p, same_shown (t.end_fails p))

  -- an empty piece leaves the session as it is, started or not
  pub empty_leaves : (out : List ℕ) → ((deliver s [] out).answer ≡ Accepted → (deliver s [] out).session ≡ s) × ((deliver s [] out).session.started ≡ s.started)
  empty_leaves out = (λ p. ap (λ (c : Call). c.session) (t.nothing out p), t.deliver_keeps [] out)

  -- a text that is refused, or shorter than its buffer, leaves what it does not write
  pub text_leaves : (buffer : List ℕ) (e : SocksError) → (write_bound s buffer).answer ≡ Refused e → (write_bound s buffer).len ≡ 0
  text_leaves buffer e p = ap (λ (c : TextCall). c.len) (t.text_untouched buffer e p)

  pub text_only : (buffer : List ℕ) → (drop (write_bound s buffer).len (write_bound s buffer).buffer ≡ drop (write_bound s buffer).len buffer) × (length (write_bound s buffer).buffer ≡ length buffer)
  text_only buffer = (t.text_behind buffer, t.text_size buffer)

-- preparing, told by its number: refused, what it returned has failed with it, and is empty; accepted, it waits and is not started
module _ (p : Prepared) (cs : List Condition) (t : Preparing p cs) where
  pub refused_is : (e : SocksError) → p.answer ≡ Refused e → shown p.session ≡ (Failed e, (no_address, (0, 0)))
  refused_is e q = same_shown (t.fails e q)

  pub refused_empty : (e : SocksError) → p.answer ≡ Refused e → p.session.held ≡ 0
  refused_empty e q = ap (λ (s : Session). s.held) (t.empty e q)

  -- a delivery to it, before its start, is refused with 22
  pub prepared_22 : None cs → (first next : ℕ) → InTurn first next p.session → (piece out : List ℕ) → answer_number (deliver p.session piece out).answer ≡ 22
  prepared_22 n first next u piece out =
      let a = number_accepted p.answer (t.number.accepts.1 n) in
      holds_second (u.deliver_number piece out) (lit< tt) (λ f. f (t.waits a).outcomes) (t.unstarted a)

-- a tunnel that waits refuses a delivery that lends too little, with 1, and is as it was
pub short_1 : (p : Prepared) (o : Opening) → Asking p o → (out : List ℕ) → (start p.session out).answer ≡ Accepted → (ds : List Delivery)
    → (let s = (tunnel_of o (start p.session out).session [] ds).session in
    outcome s ≡ Waiting → s.started ≡ true → (piece less : List ℕ) → length less < delivery_room o → answer_number (deliver s piece less).answer ≡ 1)
short_1 p o k out q ds w g piece less h =
    (((k.begun out q ds).deliver_number piece less).refuses 1 (lit< tt)).1 (inr (λ f. f w, inr (λ z. true≢false (sym g ∙ z), inl (h, refl))))

-- a prepared session starts with what its opening's version asks
pub starts_0 : (p : Prepared) (o : Opening) → Asking p o → outcome p.session ≡ Waiting → p.session.started ≡ false → (out : List ℕ) → start_room o ≤ length out → (start p.session out).answer ≡ Accepted
starts_0 p o k w g out h =
    number_accepted (start p.session out).answer ((k.prepared.start_number out).accepts.1 (λ f. f w, (λ z. true≢false (sym z ∙ g), (λ z. absurd (omega arith), tt))))

-- ---- F-11: the number that a session carries is at most the accepted nonempty deliveries plus three, and what it holds has room

module _ (o : Opening) (s : Session) (ds : List Delivery) (t : Effort o s ds) where
  pub few_told : (after (receiver_of o) s ds).attempts ≤ accepted_in o s ds + 3
  few_told = omega (arith, t.attempts_are, t.attempts_few)

  pub held_fits : (after (receiver_of o) s ds).held < 262
  held_fits = omega (arith, t.held_few)

  -- one that has failed holds nothing
  pub failed_holds : (e : SocksError) → (machine o (joined (receiver_of o) ds)).outcome ≡ Failed e → (after (receiver_of o) s ds).held ≡ 0
  failed_holds e q = let m = machine o (joined (receiver_of o) ds) in t.held_are ∙ ap (λ (x : Outcome). held_of x m.bound m.place (length (joined (receiver_of o) ds))) q

-- ---- how many bytes may be read

module _ (o : Opening) (s : Session) (came : List ℕ) (t : Reads o s came) where
  -- once it is open, or has failed, none
  pub settled_reads_none : ((machine o came).outcome ≡ Waiting → ⊥) → wants s ≡ 0
  settled_reads_none f = t.wanted.settled (λ q. f (ap (λ (l : List ℕ). (machine o l).outcome) (sym (append-nil came)) ∙ q))

  -- a reader that never asks for more leaves nothing behind an open session
  pub nothing_left : (piece out : List ℕ) → Bytes piece → length piece ≤ wants s → outcome (deliver s piece out).session ≡ Open → rest piece (deliver s piece out).used ≡ []
  nothing_left piece out y l q = rw (t.never_past piece out y l q) (drop-length piece)

  waits_still : (machine o came).outcome ≡ Waiting → Settles o came [] → ⊥
  waits_still e f = f (ap (λ (l : List ℕ). (machine o l).outcome) (append-nil came) ∙ e)

  -- so many bytes, at least one, complete it to a reply sequence, and no fewer
  pub opens_by : outcome s ≡ Waiting → (machine o came).outcome ≡ Waiting → (bs : List ℕ) → Bytes bs → Completes o came bs
      → (1 ≤ wants s) × (wants s ≤ length bs) × ((p : List ℕ) × Bytes p × Completes o came p × (length p ≡ wants s))
  opens_by w q bs y c = let l = t.wanted.opens (waits_still q) (bs, y, c) in (t.some w, l.none_shorter bs y c, (l.stream, l.bytes, l.is, l.long))

  -- so many settle one that nothing opens, and no fewer
  pub settles_by : (machine o came).outcome ≡ Waiting → (Some (Completes o came) → ⊥) → (bs : List ℕ) → Bytes bs → Settles o came bs
      → (wants s ≤ length bs) × ((p : List ℕ) × ((machine o (came ++ p)).outcome ≡ Waiting → ⊥) × (length p ≡ wants s))
  settles_by q n bs y c = let l = t.wanted.fails (waits_still q) n in (l.none_shorter bs y c, (l.stream, l.is, l.long))

  -- one byte more would be left over
  pub one_more : outcome s ≡ Waiting → Some (Completes o came) → (b : ℕ) → b ≤ 255 → (out : List ℕ) → delivery_room o ≤ length out
      → (p : List ℕ) × Bytes p × (length p ≡ wants s + 1) × (outcome (deliver s p out).session ≡ Open) × ((deliver s p out).used + 1 ≡ length p) × (rest p (deliver s p out).used ≡ b ∷ [])
  one_more w c b h out g =
      let l = t.left_over w c in
      let n = length-append l.stream (b ∷ []) in (
        l.stream ++ (b ∷ []),
        bytes_join l.stream (b ∷ []) l.bytes ((bytes_just (b ∷ [])).1 (λ d m. one d (Memᴰ.cases_cons m))),
        omega (arith, n, l.long),
        l.opens b out g,
        omega (arith, n, l.long, l.used b out g),
        l.leaves b out g,
      )
    where
      one : (d : ℕ) → (d ≡ b) ⊎ Memᴰ d [] → d ≤ 255
      one d (inl e) = rw e h
      one d (inr m) = absurd (Memᴰ.not-nil m)

-- a prepared session wants none, nor does one that is settled; one that is started and waits asks for some
module _ (s : Session) (t : AnyWants s) where
  pub wants_by : (s.started ≡ false → wants s ≡ 0) × ((outcome s ≡ Open → wants s ≡ 0) × (s.started ≡ true → outcome s ≡ Waiting → 0 < wants s))
  wants_by = (t.unstarted, (λ q. t.settled (λ w. let z : ◌≡◌ {A = ℕ} 0 1 = cc in absurd (omega arith)), t.some))

-- ---- F-7: what both accept they accept alike, and what neither refuses both accept

module _ (p : Prepared) (old : List ℕ → Call) (room : ℕ) (cs : List Condition) (t : InTwo p old room cs) (out : List ℕ) where
  pub same_opening : p.answer ≡ Accepted → (start p.session out).answer ≡ Accepted → (start p.session out).output ≡ (old out).output
  same_opening a b = ap (λ (c : Call). c.output) (t.accepted out a b)

  pub same_refusal : (e : SocksError) → p.answer ≡ Refused e → room ≤ length out → (old out).session ≡ p.session
  same_refusal e a h = ap (λ (c : Call). c.session) (t.refused e a out h)

  pub same_accepted : answer_number (old out).answer ≡ 0 → answer_number (in_two p out).answer ≡ 0
  same_accepted q = let n = (t.first out).accepts.0 q in (t.last out).accepts.1 (behind cs n.1 n.0)
    where
      behind : (cs : List Condition) → None cs → (length out < room → ⊥) → None (cs ++ (((length out < room) ↣ 1) ∷ []))
      behind [] n h = (h, tt)
      behind (c ∷ cs) n h = (n.0, behind cs n.1 h)
