-- What is sent of a proxy's requests, what its own delivery comes to, and how the rest goes on.
use Rattle.std.proofs.Common.{Result, Ok, Err, take-append-drop, zero-le, ◌≡◌, ℕ, zero, suc, ◌+◌, ◌-◌, ◌*◌, ◌%◌, ◌^◌, ◌<◌, ◌≤◌, min, Bool, true, false, cond, List, [], ◌++◌, length, take, drop, replicate, sym, refl, ap, ◌∙◌, subst, true≢false, append_assoc, arith, length-drop, length-take, take-take, drop-drop}
use lib.ListN.{length-replicate}
use lib.Seq.{take-append_seam}
use Rattle.protocol.specs.declared.AuthMethod.{AuthMethod}
use Rattle.protocol.specs.declared.AuthMethod.TheVariants.{NoAuth, UserPass, NoneAcceptable}
use Rattle.protocol.specs.declared.Reply.{Reply}
use Rattle.protocol.specs.declared.Reply.TheVariants.{NegotiationRes, AuthenticationRes, ProxyRes, Response}
use Rattle.protocol.specs.declared.SocksError.{SocksError}
use Rattle.protocol.specs.declared.Bound.{Bound}
use Rattle.protocol.specs.Bound.{Endpoint}
use Rattle.protocol.specs.Client.{Kept, ClientTalk, due, after_method, talk_at, client}
use Rattle.protocol.proofs.Named.{drop_first}
use Rattle.buffers.specs.write.Written.{overwrite, Wrote}
use Rattle.buffers.proofs.write.Laws.{then, wrote_length}
use Rattle.buffers.proofs.write.Parts.{part_from}
use Rattle.client_stages.specs.declared.due.Lengths.{Lengths}
use Rattle.client_stages.specs.declared.due.Stage.{Stage}
use Rattle.client_stages.specs.declared.due.Stage.TheVariants.{Awaiting, Open, Failed}
use Rattle.client_stages.specs.due.Parts.{part}
use Rattle.client_stages.specs.due.Due.{still_due}
use Rattle.client_stages.specs.start.Starting.{first_size}
use Rattle.client_stages.proofs.start.Laws.{first_part, first_within}
use Rattle.client_delivery.specs.turns.Turns.{kept_in}
use Rattle.client_delivery.specs.declared.piece.Taken.{Taken}
use Rattle.client_delivery.specs.piece.Takes.{TakeResult}
use Rattle.client_delivery.specs.delivery.Received.{Received, Ways, ReceiveResult}
use Rattle.client_delivery.proofs.delivery.Laws.{took}
use Rattle.client_session.specs.declared.Session.{Session}
use Rattle.client_session.specs.Calls.{Call, refusal}
use Rattle.client_session.proofs.Deliveries.{part_long, sending, received, goes}
use Rattle.route_delivery.specs.declared.Hop.{Hop}
use Rattle.route_delivery.specs.declared.Spot.{Spot}
use Rattle.route_delivery.specs.declared.Relayed.{Relayed}
use Rattle.route_delivery.specs.Relay.{hop_at, bytes_at, requests_at, goes_at, begun_at, Relay, handed, alone, handing_on, relayed, session_at, spot_of, begun_spot, most_due, Relayable, RelayResult}
use Rattle.talk.specs.Decision.{Decision, undecided, decided, good, bad}
use Rattle.talk.specs.Talk.{stop, send, await, Side, TalkOf, Fed, Session as SideSession, deciding, feed}

-- ---- a part of a proxy's requests among all

module _ (bytes : List ℕ) (index : ℕ) (whole : 1024 * (index + 1) ≤ length bytes) where
  pub at_long : length (bytes_at bytes index) ≡ 1024
  at_long = length-take 1024 (drop (1024 * index) bytes) ∙ rw (length-drop (1024 * index) bytes) (omega arith)

  part_in : (from n : ℕ) → from + n ≤ 1024 → take n (drop (1024 * index + from) bytes) ≡ part (bytes_at bytes index) from n
  part_in from n h =
      let d = drop (1024 * index) bytes in
      let l : 1024 ≤ length d = rw (length-drop (1024 * index) bytes) (omega arith) in
      sym (ap (take n) (drop_first 1024 d l from (omega arith)) ∙ take-take n (1024 - from) (drop from d) (omega arith) ∙ ap (take n) (drop-drop from (1024 * index) bytes))

  pub sent_as : {out out' : List ℕ} {at r : ℕ} (from n : ℕ) → from + n ≤ 1024
      → Wrote out at (take (1024 * index + from + n - (1024 * index + from)) (drop (1024 * index + from) bytes)) r out' → Wrote out at (part (bytes_at bytes index) from n) r out'
  sent_as {out} {out'} {at} {r} from n h w =
      let z : 1024 * index + from + n - (1024 * index + from) ≡ n = omega arith in
      subst (λ (bs : List ℕ). Wrote out at bs r out') (ap (λ (k : ℕ). take k (drop (1024 * index + from) bytes)) z ∙ part_in from n h) w

-- ---- a proxy that is begun: what goes first and what may then still be due is 1,024 bytes at most

first_due5 : (l : Lengths) (m : ℕ) → m ≤ 775 → (o : Bool) → cond o (min l.first 3 + min l.authentication 513 + min l.proxy 262) (min l.first 3) + cond o 0 m ≤ 1024
first_due5 l m h true = omega arith
first_due5 l m h false = omega arith

still_due_lem : (m : AuthMethod) → still_due (Awaiting (NegotiationRes m)) ≤ 775
still_due_lem NoAuth = omega arith
still_due_lem UserPass = omega arith
still_due_lem NoneAcceptable = omega arith

first_response : (l : Lengths) (o : Bool) → min l.first 1024 + cond o 0 0 ≤ 1024
first_response l true = omega arith
first_response l false = omega arith

pub first_due : (l : Lengths) (e : Reply) → first_size l e + most_due l (Awaiting e) ≤ 1024
first_due l (NegotiationRes m) = first_due5 l (still_due (Awaiting (NegotiationRes m))) (still_due_lem m) l.optimistic
first_due l AuthenticationRes = first_due5 l 262 (omega arith) l.optimistic
first_due l ProxyRes = first_due5 l 0 (omega arith) l.optimistic
first_due l Response = first_response l l.optimistic

pub begins : (hops : List Hop) (bytes : List ℕ) (n : ℕ) {size : ℕ} → size ≡ first_size (hop_at hops n).lengths (hop_at hops n).first → {out out' : List ℕ} {at sent : ℕ}
    → Wrote out at (part (bytes_at bytes n) 0 size) sent out' → Wrote out at (goes_at hops bytes n) sent out'
begins hops bytes n q {out} {out'} {at} {sent} w =
    subst (λ (bs : List ℕ). Wrote out at bs sent out') (ap (part (bytes_at bytes n) 0) q ∙ sym (first_part (hop_at hops n).first (requests_at hops bytes n))) w

pub begins_small : (l : Lengths) (e : Reply) {size : ℕ} → size ≡ first_size l e → size ≤ 1024
begins_small l e q = rw q (first_within l e)

-- ---- a talk in which all has been sent stays silent

abbrev Silent : (M : Side) → TalkOf M → Type 0
Silent M (stop e) = Unit {0}
Silent M (send q t) = ⊥
Silent M (await s k) = (m : List ℕ) → Silent M (k m)

deciding_silent : {S R E : Type 0} (d : Decision E) (s : SideSession S R E) (on : ℕ → Fed S R E) → ((n : ℕ) → (on n).sent ≡ []) → (deciding d s on).sent ≡ []
deciding_silent undecided s on h = refl
deciding_silent (decided n good) s on h = h n
deciding_silent (decided n (bad e)) s on h = refl

feed_silent : (M : Side) (t : TalkOf M) → Silent M t → (bs : List ℕ) → (feed M t bs).sent ≡ []
unfolding feed
feed_silent M (stop e) h bs = refl
feed_silent M (send q t) h bs = absurd h
feed_silent M (await s k) h bs = deciding_silent (M.reads s bs) _ _ (λ n. feed_silent M (k (take n bs)) (h (take n bs)) (drop n bs))

silent_due : (c : Kept) (o : Bool) → o ≡ true → (q : List ℕ) (t : ClientTalk) → Silent (client c) t → Silent (client c) (due o q t)
silent_due c true e q t h = h
silent_due c false e q t h = absurd (true≢false (sym e))

silent_at : (c : Kept) → c.optimistic ≡ true → (e : Reply) → Silent (client c) (talk_at c e)
silent_at c o (NegotiationRes m) = λ r. method m
  where
    method : (m : AuthMethod) → Silent (client c) (after_method m c)
    method NoAuth = silent_due c c.optimistic o c.proxy _ (λ r. tt)
    method UserPass = silent_due c c.optimistic o c.authentication _ (λ r. silent_due c c.optimistic o c.proxy _ (λ r. tt))
    method NoneAcceptable = tt
silent_at c o AuthenticationRes = λ r. silent_due c c.optimistic o c.proxy _ (λ r. tt)
silent_at c o ProxyRes = λ r. tt
silent_at c o Response = λ r. tt

-- ---- a proxy's own delivery

taken_most : (l : Lengths) (held : ℕ) (hold piece : List ℕ) (x : Bound) (t : Taken) (hold' b : List ℕ) → length b ≡ 1024 → (e : Reply) → TakeResult l e (take held hold) piece hold x t hold' → (o : Bool) → l.optimistic ≡ o → t.sent ≤ cond o 0 (still_due (Awaiting e))
taken_most l held hold piece x t hold' b long e w true q =
    let s : part b t.from t.sent ≡ [] = sym (ap (λ (f : Fed Reply Endpoint SocksError). f.sent) (w.whole b)) ∙ feed_silent (client (kept_in l b)) (talk_at (kept_in l b) e) (silent_at (kept_in l b) q e) (take held hold ++ piece) in
    let z : t.sent ≡ 0 = sym (part_long b t.from t.sent long w.inside) ∙ ap length s in
    omega arith
taken_most l held hold piece x t hold' b long e w false q = w.few

pub sent_most : (l : Lengths) (stage : Stage) (held : ℕ) (hold piece : List ℕ) (x : Bound) (t : Taken) (hold' b : List ℕ) → length b ≡ 1024 → ReceiveResult stage true held l hold piece 1024 x (Ok t) hold' → t.sent ≤ most_due l stage
sent_most l stage held hold piece x t hold' b long v =
    took (λ (y : Taken) (h : List ℕ). y.sent ≤ most_due l stage) (omega arith) (λ e y h s w. rw s (taken_most l held hold piece x y h b long e w l.optimistic refl)) v.way

pub wrote_nothing : (out : List ℕ) (at : ℕ) → at ≤ length out → Wrote out at [] at out
unfolding overwrite
wrote_nothing out at h =
    let z : at + 0 ≡ at = omega arith in
    record { inside = omega arith; place = sym z; bytes = sym (ap (λ (k : ℕ). take at out ++ drop k out) z ∙ take-append-drop at out) }

abbrev lent : List ℕ
lent = replicate 1024 0

module _ (hops : List Hop) (p : Spot) (bytes hold piece out : List ℕ) (y : Relayable hops p bytes (length out)) where
  abbrev l : Lengths
  l = (hop_at hops p.behind).lengths

  abbrev b : List ℕ
  b = bytes_at bytes p.behind

  abbrev s : Session
  s = session_at hops bytes p hold

  abbrev Receives : Received → List ℕ → Type 0
  Receives r hold' = ReceiveResult p.stage true p.held l hold piece 1024 p.bound r hold'

  handed_as : {r : Received} {hold' : List ℕ} → Receives r hold' → handed s piece ≡ received true p.held l hold piece p.bound p.attempts y.small b lent p.stage r hold'
  handed_as {r} {hold'} v =
      goes true p.held l hold piece p.bound p.attempts y.small b lent p.stage
      (subst (λ (n : ℕ). Ways p.stage true p.held l hold piece n p.bound r hold') (sym (length-replicate {A = ℕ} 1024 0)) v.way)

  -- refused: nothing is taken
  pub hands_none : {r : Received} {hold' : List ℕ} {e : SocksError} → Receives r hold' → r ≡ Err e
      → RelayResult (alone p.behind (handed s piece)) p piece out (record { spot = p; used = 0 }) hold' out
  hands_none {r} {hold'} {e} v q =
      let h : handed s piece ≡ received true p.held l hold piece p.bound p.attempts y.small b lent p.stage r hold' = handed_as v in
      let c : handed s piece ≡ refusal e (session_at hops bytes p hold') lent = rw q at h in
      record {
        spot = ap (λ (c : Call). spot_of p.behind c.session p.sent) (sym c);
        used = ap (λ (c : Call). c.used) (sym c);
        held = ap (λ (c : Call). c.session.hold) (sym c);
        wrote = subst (λ (bs : List ℕ). Wrote out p.sent bs p.sent out) (ap (λ (c : Call). take c.sent c.output) (sym c)) (wrote_nothing out p.sent (omega (arith, y.roomy)));
        within = zero-le;
      }

  module _ {r : Received} {t : Taken} {hold' : List ℕ} (u : Receives r hold') (e : r ≡ Ok t) where
    v : Receives (Ok t) hold'
    v = rw e at u

    long : length b ≡ 1024
    long = at_long bytes p.behind y.whole

    pub most : t.sent ≤ most_due l p.stage
    most = sent_most l p.stage p.held hold piece p.bound t hold' b long v

    pub sends_inside : (1024 * (p.behind + 1) ≤ length bytes) × ((t.from + t.sent ≤ 1024) × (p.sent + t.sent ≤ length out))
    sends_inside = (y.whole, (omega (arith, v.bounds.inside), omega (arith, most, y.roomy)))

    module _ {n sent : ℕ} {out' : List ℕ} (more : n ≡ (p.attempts + t.attempts) % 2 ^ 64) (w : Wrote out p.sent (part b t.from t.sent) sent out') where
      abbrev here : Relayed
      here = record { spot = record { behind = p.behind; stage = t.stage; held = t.held; bound = t.bound; attempts = n; sent = sent }; used = t.used }

      pub hands : RelayResult (alone p.behind (handed s piece)) p piece out here hold' out'
      hands =
          let k : handed s piece ≡ sending true t hold' p.attempts l b lent = handed_as v in
          let e = sym k in
          record {
            spot = (λ i. record { behind = p.behind; stage = t.stage; held = t.held; bound = t.bound; attempts = more i; sent = sent }) ∙ ap (λ (c : Call). spot_of p.behind c.session sent) e;
            used = ap (λ (c : Call). c.used) e;
            held = ap (λ (c : Call). c.session.hold) e;
            wrote = subst (λ (bs : List ℕ). Wrote out p.sent bs sent out') (sym (ap (λ (c : Call). take c.sent c.output) k ∙ take-append_seam (part b t.from t.sent) _)) w;
            within = v.bounds.within;
          }

      pub hands_few : (sent ≤ p.sent + most_due l p.stage) × (n < 2 ^ 64)
      hands_few = (omega (arith, w.place, part_long b t.from t.sent long v.bounds.inside, most), omega (arith, more))

-- ---- what it leaves is handed on

module _ (hops : List Hop) (bytes : List ℕ) (s : Session) (piece : List ℕ) where
  abbrev c : Call
  c = handed s piece

  stays : (n : ℕ) → ¬ ((c.session.stage ≡ Open) × (0 < n)) → relayed hops bytes n s piece ≡ alone n c
  unfolding relayed
  stays zero g = refl
  stays (suc n) g = go c.session.stage g
    where
      go : (x : Stage) → ¬ ((x ≡ Open) × (0 < suc n))
          → handing_on x (alone (suc n) c) (goes_at hops bytes n) (relayed hops bytes n (begun_at hops bytes n c.session) (drop c.used piece)) ≡ alone (suc n) c
      go (Awaiting e) g = refl
      go Open g = absurd (g (refl, omega arith))
      go (Failed e) g = refl

  abbrev handed_on : ℕ → Relay
  handed_on n = let next = relayed hops bytes n (begun_at hops bytes n c.session) (drop c.used piece) in
      record { session = next.session; behind = next.behind; used = c.used + next.used; sent = take c.sent c.output ++ (goes_at hops bytes n ++ next.sent) }

  moves_on : (n : ℕ) → c.session.stage ≡ Open → relayed hops bytes (suc n) s piece ≡ handed_on n
  unfolding relayed
  moves_on n g = ap (λ (x : Stage). handing_on x (alone (suc n) c) (goes_at hops bytes n) (relayed hops bytes n (begun_at hops bytes n c.session) (drop c.used piece))) g

module _ (hops : List Hop) (p : Spot) (bytes hold piece out : List ℕ) (y : Relayable hops p bytes (length out)) (here : Relayed) {hold₁ out₁ : List ℕ}
    (w : RelayResult (alone p.behind (handed (session_at hops bytes p hold) piece)) p piece out here hold₁ out₁) where
  abbrev left : Call
  left = handed (session_at hops bytes p hold) piece

  stage_is : left.session.stage ≡ here.spot.stage
  stage_is = ap (λ (z : Spot). z.stage) (sym w.spot)

  behind_is : here.spot.behind ≡ p.behind
  behind_is = ap (λ (z : Spot). z.behind) w.spot

  -- it stays with this proxy
  pub stops_here : ¬ ((here.spot.stage ≡ Open) × (0 < here.spot.behind)) → RelayResult (relayed hops bytes p.behind (session_at hops bytes p hold) piece) p piece out here hold₁ out₁
  stops_here g =
      subst (λ (q : Relay). RelayResult q p piece out here hold₁ out₁) (sym (stays hops bytes (session_at hops bytes p hold) piece p.behind (λ o. g (sym stage_is ∙ o.0, rw behind_is o.1)))) w

  -- open, and the next is begun
  module _ (f : here.spot.sent ≤ p.sent + most_due (hop_at hops p.behind).lengths p.stage) (a : here.spot.attempts < 2 ^ 64)
      (opened : here.spot.stage ≡ Open) (another : 0 < here.spot.behind) where
    abbrev n : ℕ
    n = p.behind - 1

    some : 0 < p.behind
    some = rw behind_is at another

    pub begin_asks : (0 < here.spot.behind) × ((here.spot.behind ≤ 8) × ((1024 * here.spot.behind ≤ length bytes) × (here.spot.sent + 1024 ≤ length out₁)))
    begin_asks =
        (rw behind_is some, (rw behind_is (omega (arith, y.few)), (rw behind_is (omega (arith, y.whole)), omega (arith, f, y.roomy, some, wrote_length w.wrote))))

    module _ (begun : Spot) (q : begun ≡ begun_spot hops here.spot begun.sent) {out₂ : List ℕ} (u : Wrote out₁ here.spot.sent (goes_at hops bytes begun.behind) begun.sent out₂) where
      index_is : begun.behind ≡ n
      index_is = ap (λ (z : Spot). z.behind) q ∙ ap (λ (k : ℕ). k - 1) behind_is

      goes_long : length (goes_at hops bytes n) ≤ first_size (hop_at hops n).lengths (hop_at hops n).first
      goes_long = rw (first_part (hop_at hops n).first (requests_at hops bytes n)) (omega (arith, length-take (first_size (hop_at hops n).lengths (hop_at hops n).first) (drop 0 (bytes_at bytes n))))

      begun_as : begun ≡ spot_of n (begun_at hops bytes n left.session) begun.sent
      begun_as = q ∙ ap (λ (z : Spot). begun_spot hops z begun.sent) w.spot

      pub relay_asks : (begun.behind < p.behind) × Relayable hops begun bytes (length out₂)
      relay_asks = (
        omega (arith, index_is, some),
        record {
          few = rw index_is (omega (arith, y.few));
          small = rw (ap (λ (z : Spot). z.attempts) q) a;
          whole = rw index_is (omega (arith, y.whole, some));
          roomy = rw begun_as (omega (arith, f, y.roomy, some, wrote_length w.wrote, wrote_length u, rw index_is at u.place, goes_long, first_due (hop_at hops n).lengths (hop_at hops n).first));
        },
      )

      began : Wrote out p.sent ((alone p.behind left).sent ++ goes_at hops bytes n) begun.sent out₂
      began = then w.wrote (subst (λ (k : ℕ). Wrote out₁ here.spot.sent (goes_at hops bytes k) begun.sent out₂) index_is u)

      -- the next one's relay of the rest ends this one
      module _ (last : Relayed) {hold₂ out₃ : List ℕ}
          (z : RelayResult (relayed hops bytes begun.behind (session_at hops bytes begun hold₁) (take (length piece - here.used) (drop here.used piece))) begun (take (length piece - here.used) (drop here.used piece)) out₂ last hold₂ out₃) where
        pub sums : here.used + last.used ≤ length piece
        sums = omega (arith, w.within, z.within, length-take (length piece - here.used) (drop here.used piece), length-drop here.used piece)

        pub relays : RelayResult (relayed hops bytes p.behind (session_at hops bytes p hold) piece) p piece out (record { spot = last.spot; used = here.used + last.used }) hold₂ out₃
        relays =
            let s = session_at hops bytes p hold in
            let k : p.behind ≡ suc n = omega (arith, some) in
            let e : relayed hops bytes p.behind s piece ≡ handed_on hops bytes s piece n = ap (λ (j : ℕ). relayed hops bytes j s piece) k ∙ moves_on hops bytes s piece n (stage_is ∙ opened) in
            let rest = part_from piece here.used ∙ ap (λ (j : ℕ). drop j piece) w.used in
            let session : session_at hops bytes begun hold₁ ≡ begun_at hops bytes n left.session =
            ap (λ (x : Spot). session_at hops bytes x hold₁) begun_as ∙ ap (λ (h : List ℕ). session_at hops bytes (spot_of n (begun_at hops bytes n left.session) begun.sent) h) w.held in
            let next : relayed hops bytes begun.behind (session_at hops bytes begun hold₁) (take (length piece - here.used) (drop here.used piece)) ≡ relayed hops bytes n (begun_at hops bytes n left.session) (drop left.used piece) =
            λ j. relayed hops bytes (begun_as j).behind (session j) (rest j) in
            let sent = (alone p.behind left).sent in
            subst (λ (x : Relay). RelayResult x p piece out (record { spot = last.spot; used = here.used + last.used }) hold₂ out₃) (sym e)
            (record {
              spot = z.spot ∙ ap (λ (x : Relay). spot_of x.behind x.session last.spot.sent) next;
              used = λ j. w.used j + (z.used ∙ ap (λ (x : Relay). x.used) next) j;
              held = z.held ∙ ap (λ (x : Relay). x.session.hold) next;
              wrote = subst (λ (bs : List ℕ). Wrote out p.sent bs last.spot.sent out₃) (append_assoc sent (goes_at hops bytes n) _ ∙ (λ j. sent ++ (goes_at hops bytes n ++ (next j).sent))) (then began z.wrote);
              within = sums;
            })
