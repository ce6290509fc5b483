-- F-3: both ends meet over the calls: by demand 3 and the promise of the proxy's end the tunnels are the plain machines, and those meet.
use Prim.Native.Nat.{ℕ, ◌≤◌}
use mathlib.Core.Path.{◌≡◌, refl, ap, sym, subst, ◌∙◌}
use mathlib.Core.Logic.{◌⊎◌, inl, inr}
use mathlib.Core.Bool.{false, true≢false}
use mathlib.Core.List.Memᴰ
use mathlib.Core.List.{List, [], ◌∷◌, ◌++◌, append-nil, Memᴰ}
use lib.ListN.{length, take, drop, replicate}
use lib.Seq.{drop-append_seam}
use lib.Dec.{lit≤}
use borrow.Author.Tests.{le-leb}
use Rattle.protocol.specs.Answers.{Answer, Accepted, Refused}
use Rattle.protocol.specs.declared.Version.{Version}
use Rattle.protocol.specs.declared.Version.TheVariants as version
use Rattle.protocol.specs.Bytes.{Bytes, BytePieces}
use Rattle.protocol.specs.Bound.{Endpoint, address_of}
use Rattle.protocol.specs.Opening.{V5, V4, check5, check4, Opening, v5, v4, opening5, opening4, requests, delivery_room}
use Rattle.protocol.specs.Machine as client
use Rattle.proxy_spec.specs.End.{Setup, End, Standing, waits, asks, asked, fails, machine, reply_to, status_to, success}
use Rattle.proxy_replies.specs.declared.stages.Outcome.{Outcome}
use Rattle.proxy_replies.specs.declared.stages.Outcome.TheVariants.{Open}
use Rattle.client_session.specs.declared.Session.{Session}
use Rattle.client_session.specs.declared.Prepared.{Prepared}
use Rattle.client_session.specs.Calls.{prepared_by, prepare5, prepare4}
use Rattle.socks.specs.Demand3.{joined_of, Demand3, Tunnelled}
use Rattle.socks.proofs.Openings.{demand3_v5, demand3_v4}
use Rattle.proxy_session.specs.declared.Server.{Server}
use Rattle.proxy_session.specs.Server as server
use Rattle.proxy_session.specs.Server.{outcome}
use Rattle.proxy.specs.Served as served
use Rattle.proxy.specs.Served.{outcome_by, target_by, handed_out, Served}
use Rattle.proxy.specs.Turns.{Given, Tells}
use Rattle.proxy.proofs.Tunnels.{all_served}
use Rattle.proxy.proofs.Turns.{is_asked}
use Rattle.proxy.proofs.Answering.{all_answering, answer_unsent}
use Rattle.talk.specs.Tunnel.{Receiver, Delivery, joined}
use Rattle.both_ends.specs.Ends.{version_of, wanted_by, Sendable, SameCredentials, answer_to, all_sent, all_replies, all_requests, Arrived, Met}
use Rattle.both_ends.specs.Meet.{client_receiver, end_receiver, client_tunnel, end_tunnel, answered, sent_by_end, Exchanged, Meeting, Meets, Exchanges, BothMeet, BothExchange}
use Rattle.both_ends.proofs.Begins.{begins_then}
use Rattle.both_ends.proofs.Requests.{asks_all}
use Rattle.both_ends.proofs.Replies.{first_sent}
use Rattle.both_ends.proofs.Versions.{In, asks_in}
use Rattle.both_ends.proofs.Sendable.{sendable5, sendable4}
use Rattle.both_ends.proofs.Meet.{met, arrived}

-- success is sent as it is
succeeds : (v : Version) → status_to v (success v) ≡ success v
succeeds version.V4 = refl
succeeds version.V5 = refl

-- ---- what the end has sent, with the caller's answer: the plain machine's, if that asks in the opening's version

module _ (o : Opening) (c : Setup) (e : Server) (es : List Delivery) (g : Served c e es) (x : Endpoint) (out : List ℕ) (l : 262 ≤ length out) where
  abbrev t : Server
  t = (end_tunnel e es).session

  abbrev reply : List ℕ
  reply = take (answered o e es x out).sent (answered o e es x out).output

  unanswered : {r : Outcome} → outcome t ≡ r → is_asked r ≡ false → reply ≡ []
  unanswered q f = ap (λ (n : ℕ). take n (answered o e es x out).output) (answer_unsent t (λ p. true≢false (sym (ap is_asked p) ∙ ap is_asked q ∙ f)) (success (version_of o)) x out)

  -- the answer is sent just where it is asked for, in the version that is asked in
  replies : (z : Standing) → In (version_of o) z → (machine c (served.joined_of es)).standing ≡ z → reply ≡ answer_to z x
  replies waits i q = unanswered (g.outcome_as ∙ ap outcome_by q) refl
  replies (asks a) i q =
      (all_answering t a.version (g.asked_in a q) (success (version_of o)) x out l).sends ∙ ap (λ (v : Version). reply_to a.version (success v) x) (sym i)
  replies (fails n) i q = unanswered (g.outcome_as ∙ ap outcome_by q) refl

  end_sent : In (version_of o) (machine c (served.joined_of es)).standing → sent_by_end o e es x out ≡ all_sent (machine c (served.joined_of es)) x
  end_sent i =
      let m = machine c (served.joined_of es) in
      ap (λ (q : List ℕ). (end_tunnel e es).sent ++ q) (replies m.standing i refl) ∙ ap (λ (q : List ℕ). q ++ answer_to m.standing x) g.sent_as

-- ---- the tunnels are the plain machines

module _ (o : Opening) (s : Session) (sent : List ℕ) (ds : List Delivery) (d : Demand3 o s sent ds) (c : Setup) (e : Server) (es : List Delivery) (g : Served c e es) (x : Endpoint) (out tail tail' : List ℕ) (l : 262 ≤ length out) where
  module _ (k : Exchanged o s sent ds e es x out tail tail') where
    from_client : served.joined_of es ≡ (client.machine o (joined_of o ds)).sent ++ tail'
    from_client = k.to_end ∙ ap (λ (q : List ℕ). q ++ tail') d.sent_as

    -- the client's first request has gone before anything came
    in_version : In (version_of o) (machine c (served.joined_of es)).standing
    in_version = asks_in o c (served.joined_of es) (begins_then (client.sends (take 1 (requests o)) []) (client.machine o (joined_of o ds)).sent (served.joined_of es) (first_sent o (joined_of o ds)) (tail', from_client))

    both_arrived : Arrived o c x (joined_of o ds) (served.joined_of es) tail tail'
    both_arrived = record { from_end = k.to_client ∙ ap (λ (q : List ℕ). q ++ tail) (end_sent o c e es g x out l in_version); from_client = from_client }

    module _ (m : Met o c x (joined_of o ds) (served.joined_of es)) where
      abbrev told : Tells (answered o e es x out).session Open (server.destination (end_tunnel e es).session)
      told = (all_answering (end_tunnel e es).session (version_of o) (g.asked_in _ m.asks_for) (success (version_of o)) x out l).opens (succeeds (version_of o))

      client_rest : (client_tunnel o s sent ds).rest ≡ tail
      client_rest =
          let q = all_sent (machine c (served.joined_of es)) x in
          d.rests_are ∙ ap (λ (n : ℕ). drop n (joined_of o ds)) (d.count_as ∙ m.client_used) ∙ ap (drop (length q)) both_arrived.from_end ∙ drop-append_seam q tail

      end_rest : (end_tunnel e es).rest ≡ tail'
      end_rest =
          let q = all_requests o in
          g.rests_are ∙ ap (λ (n : ℕ). drop n (served.joined_of es)) (g.count_as ∙ m.end_used)
          ∙ ap (drop (length q)) (from_client ∙ ap (λ (z : List ℕ). z ++ tail') m.requests_gone) ∙ drop-append_seam q tail'

      meeting : Meeting o s sent ds e es x out tail tail'
      meeting =
          record {
            client_open = d.outcome_as ∙ m.opened;
            end_open = told.outcomes;
            same_destination = told.destinations ∙ g.destination_as ∙ ap (λ (z : Standing). handed_out (target_by z)) m.asks_for;
            same_bound = d.bound_as ∙ ap address_of m.bound;
            client_rest = client_rest;
            end_rest = end_rest;
          }

  -- where all replies and all requests have come, they are what the other sent
  exchanged : Sendable o → SameCredentials o c → Given x → joined_of o ds ≡ all_replies o x ++ tail → served.joined_of es ≡ all_requests o ++ tail' → Exchanged o s sent ds e es x out tail tail'
  exchanged z n h p q =
      let a = arrived o c x z n h tail tail' in
      let w : (machine c (served.joined_of es)).standing ≡ asks (asked (version_of o) (wanted_by o)) = ap (λ (r : List ℕ). (machine c r).standing) q ∙ ap (λ (k : End). k.standing) (asks_all o c z n tail') in
      let i : In (version_of o) (machine c (served.joined_of es)).standing = subst (In (version_of o)) (sym w) refl in
      record {
        to_client = p ∙ a.from_end ∙ ap (λ (r : List ℕ). all_sent (machine c r) x ++ tail) (sym q) ∙ ap (λ (r : List ℕ). r ++ tail) (sym (end_sent o c e es g x out l i));
        to_end = q ∙ a.from_client ∙ ap (λ (r : List ℕ). (client.machine o r).sent ++ tail') (sym p) ∙ ap (λ (r : List ℕ). r ++ tail') (sym d.sent_as);
      }

-- ---- the claims

meets : (p : Prepared) (o : Opening) → Tunnelled p o → (p.answer ≡ Accepted → Sendable o) → Meets p o
meets p o r z first a b authenticates user password f n ds es yd ye x h out tail tail' l k =
    let d = r first a b ds yd in
    let g = all_served authenticates user password f es ye in
    let q = both_arrived o _ _ ds d _ _ es g x out tail tail' l k in
    meeting o _ _ ds d _ _ es g x out tail tail' l k (met o _ x (z a) n h _ _ tail tail' q)

-- one delivery, which lends as much as any is asked
abbrev one : List ℕ → List Delivery
one p = record { piece = p; output = replicate 1024 0 } ∷ []

one_bytes : (p : List ℕ) → Bytes p → BytePieces (one p)
one_bytes p y d m = go (Memᴰ.cases_cons m)
  where
    go : (d ≡ record { piece = p; output = replicate 1024 0 }) ⊎ Memᴰ d [] → Bytes d.piece
    go (inl e) = rw e y
    go (inr n) = absurd (Memᴰ.not-nil n)

one_joined : {X A : Type 0} (K : Receiver X A) (p : List ℕ) → K.room ≤ 1024 → joined K (one p) ≡ p
unfolding joined
one_joined K p h = rw (le-leb K.room (length {A = ℕ} (replicate 1024 0)) h) (append-nil p)

asks_few : (o : Opening) → delivery_room o ≤ 1024
asks_few (v5 c d port b) = lit≤ tt
asks_few (v4 d port) = lit≤ tt

exchanges : (p : Prepared) (o : Opening) → Tunnelled p o → (p.answer ≡ Accepted → Sendable o) → Exchanges p o
exchanges p o r z first a b authenticates user password f n x h out tail tail' l yd ye =
    let ds = one (all_replies o x ++ tail) in
    let es = one (all_requests o ++ tail') in
    let bd = one_bytes (all_replies o x ++ tail) yd in
    let be = one_bytes (all_requests o ++ tail') ye in
    let d = r first a b ds bd in
    let g = all_served authenticates user password f es be in
    let p = one_joined (client_receiver o) (all_replies o x ++ tail) (asks_few o) in
    let q = one_joined end_receiver (all_requests o ++ tail') (lit≤ tt) in
    (ds, es, bd, be, exchanged o _ _ ds d _ _ es g x out tail tail' l (z a) n h p q)

accepted : (x : Answer) (o : Opening) → (prepared_by x o).answer ≡ Accepted → x ≡ Accepted
accepted Accepted o e = refl
accepted (Refused n) o e = e

accepted5 : (a : V5) → (prepare5 a).answer ≡ Accepted → check5 a ≡ Accepted
unfolding prepare5
accepted5 a = accepted (check5 a) (opening5 a)

accepted4 : (a : V4) → (prepare4 a).answer ≡ Accepted → check4 a ≡ Accepted
unfolding prepare4
accepted4 a = accepted (check4 a) (opening4 a)

pub both_meet : BothMeet
both_meet = (
  λ a y. meets (prepare5 a) (opening5 a) (demand3_v5 a y) (λ e. sendable5 a y (accepted5 a e)),
  λ a y. meets (prepare4 a) (opening4 a) (demand3_v4 a) (λ e. sendable4 a y (accepted4 a e)),
)

pub both_exchange : BothExchange
both_exchange = (
  λ a y. exchanges (prepare5 a) (opening5 a) (demand3_v5 a y) (λ e. sendable5 a y (accepted5 a e)),
  λ a y. exchanges (prepare4 a) (opening4 a) (demand3_v4 a) (λ e. sendable4 a y (accepted4 a e)),
)
