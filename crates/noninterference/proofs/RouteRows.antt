-- Two routes alike but for stored bytes at some positions: what a delivery does to both, and rows of calls.
use Prim.Native.Nat.{ℕ, suc, ◌+◌, ◌-◌, ◌≤◌, min}
use native.Mathlib.Nat.{add-zero, add_assoc}
use native.Mathlib.Omega.{arith}
use mathlib.Core.Path.{◌≡◌, refl, ap, sym, ◌∙◌, subst}
use mathlib.Core.Logic.{inl, inr}
use mathlib.Core.Bool.{Bool, true, false, cond}
use mathlib.Core.List.{List, [], ◌∷◌, ◌++◌}
use lib.ListN.{length, take, drop, replicate, length-append}
use lib.Seq.{take-append_seam}
use lib.Dec.{leb}
use Rattle.protocol.specs.declared.SocksError.TheVariants.{ShortOutput, Settled}
use Rattle.protocol.specs.Answers.{Answer, Refused}
use Rattle.protocol.specs.Opening.{Opening}
use Rattle.protocol.specs.declared.Reply.{Reply}
use Rattle.client_stages.specs.declared.due.Lengths.{Lengths}
use Rattle.client_stages.specs.declared.due.Requests.{Requests}
use Rattle.client_stages.specs.due.Parts.{first_of}
use Rattle.client_stages.specs.declared.due.Stage.{Stage}
use Rattle.client_stages.specs.declared.due.Stage.TheVariants.{Awaiting, Open, Failed}
use Rattle.client_session.specs.declared.Session.{Session}
use Rattle.client_session.specs.Calls as session-calls
use Rattle.route_delivery.specs.declared.Hop.{Hop}
use Rattle.route_delivery.specs.Relay.{hop_at, bytes_at, requests_at, goes_at, begun_at, Relay, handed, alone, handing_on, relayed}
use Rattle.route_session.specs.declared.calls.Route.{Route}
use Rattle.route_session.specs.calls.Calls as calls
use Rattle.route_session.specs.calls.Calls.{refusal, last_in, behind_in, room_in, session_in, with_session, is_over}
use Rattle.noninterference.specs.Places.{Agree}
use Rattle.noninterference.specs.Calls.{Asks, start, deliver, end, outcome, attempts, bound, bound_text, Call, Returned, delivered, ended, SameCalls, none, more}
use Rattle.noninterference.specs.Routes.{secret_of, request_bytes, secret_in, stored_in, SameBut, Made, made, Hidden}
use Rattle.noninterference.proofs.Bytes.{agree_all, agree_join}
use Rattle.noninterference.proofs.Talks.{Stands}
use Rattle.noninterference.proofs.Sessions.{other, Goes, agree_out, deliver_like, end_like}
use Rattle.noninterference.proofs.Counts.{Left, LeftAt, deliver_counts, end_counts}

-- what agrees but at some positions agrees but at more, counted from elsewhere
pub agree_within : (S T : ℕ → Type 0) (n k : ℕ) → ((i : ℕ) → S (n + i) → T (k + i)) → {xs ys : List ℕ} → Agree S n xs ys → Agree T k xs ys
agree_within S T n k f a = record { long = a.long; same = λ i h. a.same i (λ s. h (f i s)) }

-- ---- positions of a proxy, and of those behind it

pub place_here : (o : Opening) (os : List Opening) (i : ℕ) → secret_of o i → secret_in (o ∷ os) i
unfolding secret_in
place_here o os i s = inl s

place_next : (o : Opening) (os : List Opening) (i : ℕ) → secret_in os i → secret_in (o ∷ os) (length (request_bytes o) + i)
unfolding secret_in
place_next o os i s =
    let n = length (request_bytes o) in
    let z : i ≡ n + i - n = omega arith in
    inr (omega arith, subst (λ (k : ℕ). secret_in os k) z s)

-- ---- what two routes keep of a proxy, and of those behind it

pub record Holds (l : Lengths) (e : Reply) (bs cs : List ℕ) (o : Opening) : Type 0 where
  pub agree : Agree (secret_of o) 0 bs cs
  pub long : 778 ≤ length bs
  -- when it is begun
  pub first : Agree (secret_of o) 0 (first_of e (record { lengths = l; bytes = bs })) (first_of e (record { lengths = l; bytes = cs }))
  pub stands : Stands l e (length (first_of e (record { lengths = l; bytes = bs })))
  pub left : Left l (length (request_bytes o)) e (length (first_of e (record { lengths = l; bytes = bs })))

abbrev pub Stored : List Hop → List ℕ → List ℕ → List Opening → Type 0
Stored hops bs cs [] = Unit {0}
Stored hops bs cs (o ∷ os) = Holds (hop_at hops (length os)).lengths (hop_at hops (length os)).first (bytes_at bs (length os)) (bytes_at cs (length os)) o × Stored hops bs cs os

-- the session of the proxy that is spoken to, where so many bytes were sent to all and at most so many proxies are behind it
pub record Standing (all : List Opening) (top : ℕ) (hops : List Hop) (bs cs : List ℕ) (n k : ℕ) (s : Session) : Type 0 where
  pub now : Opening
  pub later : List Opening
  pub from : ℕ
  pub here : ℕ
  pub stored : Stored hops bs cs (now ∷ later)
  pub place : (i : ℕ) → secret_in (now ∷ later) i → secret_in all (from + i)
  pub few : length later ≤ top
  pub behind : k ≡ length later
  pub sent : n ≡ from + here
  pub started : s.started ≡ true
  pub requests : s.requests ≡ requests_at hops bs k
  pub goes : Goes (secret_of now) here s (bytes_at cs k)
  pub left : LeftAt s.requests.lengths (length (request_bytes now)) s.stage here

-- two relays
pub record Relays (all : List Opening) (top : ℕ) (hops : List Hop) (bs cs : List ℕ) (n : ℕ) (x y : Relay) : Type 0 where
  pub used : x.used ≡ y.used
  pub behind : x.behind ≡ y.behind
  pub sent : Agree (secret_in all) n x.sent y.sent
  pub session : y.session ≡ other x.session (bytes_at cs x.behind)
  pub on : Standing all top hops bs cs (n + length x.sent) x.behind x.session

abbrev lent : List ℕ
lent = replicate 1024 0

module _ (all : List Opening) (top : ℕ) (hops : List Hop) (bs cs : List ℕ) where
  -- one that takes its piece
  module _ (o : Opening) (os : List Opening) (from m : ℕ) (s : Session) (st : Stored hops bs cs (o ∷ os)) (pl : (i : ℕ) → secret_in (o ∷ os) i → secret_in all (from + i))
      (few : length os ≤ top) (sd : s.started ≡ true) (rq : s.requests ≡ requests_at hops bs (length os)) (g : Goes (secret_of o) m s (bytes_at cs (length os)))
      (l : LeftAt s.requests.lengths (length (request_bytes o)) s.stage m) where
    alone_like : (piece : List ℕ)
        → Relays all top hops bs cs (from + m) (alone (length os) (handed s piece)) (alone (length os) (handed (other s (bytes_at cs (length os))) piece))
    alone_like piece =
        let c = deliver_like (secret_of o) m (bytes_at cs (length os)) s g piece lent lent refl in
        let d = deliver_counts (length (request_bytes o)) m s g.long l piece lent in
        let x = handed s piece in
        let q = take x.sent x.output in
        record {
          used = c.used;
          behind = refl;
          sent = agree_within (secret_of o) (secret_in all) m (from + m) (λ i h. subst (λ (k : ℕ). secret_in all k) (sym (add_assoc from m i)) (pl (m + i) (place_here o os (m + i) h))) c.sent;
          session = c.session;
          on = record {
            now = o;
            later = os;
            from = from;
            here = m + length q;
            stored = st;
            place = pl;
            few = few;
            behind = refl;
            sent = add_assoc from m (length q);
            started = d.started ∙ sd;
            requests = d.requests ∙ rq;
            goes = c.goes;
            left = subst (λ (r : Requests). LeftAt r.lengths (length (request_bytes o)) x.session.stage (m + length q)) (sym d.requests) d.left;
          };
        }

  handing_like : (n : ℕ) (stage : Stage) (x y u v : Relay) (gs ks : List ℕ) → Relays all top hops bs cs n x y → (stage ≡ Open → Agree (secret_in all) (n + length x.sent) gs ks)
      → (stage ≡ Open → Relays all top hops bs cs (n + length x.sent + length gs) u v)
      → Relays all top hops bs cs n (handing_on stage x gs u) (handing_on stage y ks v)
  handing_like n (Awaiting e) x y u v gs ks h a w = h
  handing_like n (Failed e) x y u v gs ks h a w = h
  handing_like n Open x y u v gs ks h a w =
      let k = w refl in
      let z : n + length x.sent + length gs + length u.sent ≡ n + length (x.sent ++ (gs ++ u.sent)) = omega (arith, length-append x.sent (gs ++ u.sent), length-append gs u.sent) in
      record {
        used = λ i. h.used i + k.used i;
        behind = k.behind;
        sent = agree_join (secret_in all) n x.sent y.sent (gs ++ u.sent) (ks ++ v.sent) h.sent (agree_join (secret_in all) (n + length x.sent) gs ks u.sent v.sent (a refl) k.sent);
        session = k.session;
        on = subst (λ (j : ℕ). Standing all top hops bs cs j u.behind u.session) z k.on;
      }

  relay_like : (os : List Opening) (o : Opening) (from m : ℕ) (s : Session) → Stored hops bs cs (o ∷ os) → ((i : ℕ) → secret_in (o ∷ os) i → secret_in all (from + i))
      → length os ≤ top → s.started ≡ true → s.requests ≡ requests_at hops bs (length os) → Goes (secret_of o) m s (bytes_at cs (length os))
      → LeftAt s.requests.lengths (length (request_bytes o)) s.stage m → (piece : List ℕ)
      → Relays all top hops bs cs (from + m) (relayed hops bs (length os) s piece) (relayed hops cs (length os) (other s (bytes_at cs (length os))) piece)
  unfolding relayed
  relay_like [] o from m s st pl few sd rq g l piece = alone_like o [] from m s st pl few sd rq g l piece
  relay_like (p ∷ os) o from m s st pl few sd rq g l piece =
      let n = length os in
      let t = length (request_bytes o) in
      let ds = bytes_at cs (suc n) in
      let c = deliver_like (secret_of o) m ds s g piece lent lent refl in
      let d = deliver_counts t m s g.long l piece lent in
      let x = handed s piece in
      let y = handed (other s ds) piece in
      let q = take x.sent x.output in
      let gs = goes_at hops bs n in
      let w = st.1.0 in
      let all-gone : x.session.stage ≡ Open → m + length q ≡ t = λ e. subst (λ (k : Stage). LeftAt s.requests.lengths t k (m + length q)) e d.left in
      let pl' : (i : ℕ) → secret_in (p ∷ os) i → secret_in all (from + t + i) = λ i h. subst (λ (k : ℕ). secret_in all k) (sym (add_assoc from t i)) (pl (t + i) (place_next o (p ∷ os) i h)) in
      let z : x.session.stage ≡ Open → from + t ≡ from + m + length q = λ e. omega (arith, all-gone e) in
      let next = relay_like os p (from + t) (length gs) (begun_at hops bs n x.session) st.1 pl' (omega (arith, few)) refl refl
      (record { agree = w.agree; long = w.long; stands = w.stands }) w.left (drop x.used piece) in
      let v = relayed hops cs n (begun_at hops cs n y.session) (drop y.used piece) in
      let v-is : relayed hops cs n (other (begun_at hops bs n x.session) (bytes_at cs n)) (drop x.used piece) ≡ v = λ i. relayed hops cs n (begun_at hops cs n (sym c.session i)) (drop (c.used i) piece) in
      let first : Agree (secret_in all) (from + t) gs (goes_at hops cs n) = agree_within (secret_of p) (secret_in all) 0 (from + t) (λ i h. pl' i (place_here p os i (subst (λ (k : ℕ). secret_of p k) (omega arith) h))) w.first in
      let h = alone_like o (p ∷ os) from m s st pl few sd rq g l piece in
      subst (λ (k : Stage). Relays all top hops bs cs (from + m) (handing_on x.session.stage (alone (suc n) x) gs (relayed hops bs n (begun_at hops bs n x.session) (drop x.used piece))) (handing_on k (alone (suc n) y) (goes_at hops cs n) v))
      (λ i. (sym c.session i).stage)
      (handing_like (from + m) x.session.stage (alone (suc n) x) (alone (suc n) y) (relayed hops bs n (begun_at hops bs n x.session) (drop x.used piece)) v gs (goes_at hops cs n) h
      (λ e. subst (λ (k : ℕ). Agree (secret_in all) k gs (goes_at hops cs n)) (z e) first)
      (λ e. subst (λ (k : ℕ). Relays all top hops bs cs (k + length gs) (relayed hops bs n (begun_at hops bs n x.session) (drop x.used piece)) v) (z e)
      (subst (λ (k : Relay). Relays all top hops bs cs (from + t + length gs) (relayed hops bs n (begun_at hops bs n x.session) (drop x.used piece)) k) v-is next)))

  pub relays_on : (n k : ℕ) (s : Session) → Standing all top hops bs cs n k s → (piece : List ℕ)
      → Relays all top hops bs cs n (relayed hops bs k s piece) (relayed hops cs k (other s (bytes_at cs k)) piece)
  relays_on n k s w piece =
      let b = w.behind in
      subst (λ (j : ℕ). Relays all top hops bs cs j (relayed hops bs k s piece) (relayed hops cs k (other s (bytes_at cs k)) piece)) (sym w.sent)
      (subst (λ (j : ℕ). Relays all top hops bs cs (w.from + w.here) (relayed hops bs j s piece) (relayed hops cs j (other s (bytes_at cs j)) piece)) (sym b)
      (relay_like w.later w.now w.from w.here s w.stored w.place w.few w.started (w.requests ∙ ap (requests_at hops bs) b)
      (subst (λ (j : ℕ). Goes (secret_of w.now) w.here s (bytes_at cs j)) b w.goes) w.left piece))

-- ---- routes

-- a route with other stored bytes
abbrev pub other_route : Route → List ℕ → Route
other_route r cs =
    record {
      stage = r.stage;
      held = r.held;
      hold = r.hold;
      bound = r.bound;
      attempts = r.attempts;
      count = r.count;
      behind = r.behind;
      hops = r.hops;
      bytes = cs;
    }

pub record RouteGoes (all : List Opening) (n : ℕ) (r : Route) (cs : List ℕ) : Type 0 where
  pub standing : Standing all (last_in r.count) r.hops r.bytes cs n r.behind (session_in r)
  pub stored : Agree (stored_in all) 0 r.bytes cs

-- two calls
pub record RouteCalls (all : List Opening) (n : ℕ) (cs : List ℕ) (x y : calls.Call) : Type 0 where
  pub answer : x.answer ≡ y.answer
  pub used : x.used ≡ y.used
  pub count : x.sent ≡ y.sent
  pub sent : Agree (secret_in all) n (take x.sent x.output) (take y.sent y.output)
  pub session : y.session ≡ other_route x.session cs
  pub goes : RouteGoes all (n + length (take x.sent x.output)) x.session cs

abbrev nothing : Answer → Route → List ℕ → calls.Call
nothing a r out = record { answer = a; session = r; used = 0; sent = 0; output = out }

module _ (all : List Opening) (n : ℕ) (r : Route) (cs : List ℕ) (g : RouteGoes all n r cs) where
  still : RouteGoes all (n + 0) r cs
  still = subst (λ (m : ℕ). RouteGoes all m r cs) (sym (add-zero n)) g

  quiet : (a : Answer) (out out' : List ℕ) → RouteCalls all n cs (nothing a r out) (nothing a (other_route r cs) out')
  quiet a out out' = record { answer = refl; used = refl; count = refl; sent = agree_all (secret_in all) n []; session = refl; goes = still }

  behind_is : behind_in r ≡ r.behind
  behind_is = omega (arith, g.standing.behind, g.standing.few)

  -- the session of a route that another session left
  goes_with : (m k : ℕ) (s : Session) → Standing all (last_in r.count) r.hops r.bytes cs m k s → RouteGoes all m (with_session r k s) cs
  goes_with m k s w =
      let b : k ≡ min k (last_in r.count) = omega (arith, w.behind, w.few) in
      let e : s.requests ≡ requests_at r.hops r.bytes (behind_in (with_session r k s)) = w.requests ∙ ap (requests_at r.hops r.bytes) b in
      let z : s ≡ session_in (with_session r k s) = λ i. record { stage = s.stage; started = w.started i; held = s.held; hold = s.hold; bound = s.bound; attempts = s.attempts; requests = e i } in
      record { standing = subst (λ (t : Session). Standing all (last_in r.count) r.hops r.bytes cs m k t) z w; stored = g.stored }

  takes_like : (piece out out' : List ℕ) → RouteCalls all n cs (calls.takes r piece out) (calls.takes (other_route r cs) piece out')
  takes_like piece out out' =
      let x = relayed r.hops r.bytes (behind_in r) (session_in r) piece in
      let y = relayed r.hops cs (behind_in r) (other (session_in r) (bytes_at cs (behind_in r))) piece in
      let c : Relays all (last_in r.count) r.hops r.bytes cs n x y
      = relays_on all (last_in r.count) r.hops r.bytes cs n (behind_in r) (session_in r)
      (subst (λ (k : ℕ). Standing all (last_in r.count) r.hops r.bytes cs n k (session_in r)) (sym behind_is) g.standing) piece in
      let z : n + length x.sent ≡ n + length (take (length x.sent) (x.sent ++ drop (length x.sent) out)) = ap (λ (q : List ℕ). n + length q) (sym (take-append_seam x.sent (drop (length x.sent) out))) in
      record {
        answer = refl;
        used = c.used;
        count = c.sent.long;
        sent = agree_out (secret_in all) n cs x.sent y.sent (drop (length x.sent) out) (drop (length y.sent) out') c.sent;
        session = λ i. with_session (other_route r cs) (sym c.behind i) (c.session i);
        goes = subst (λ (m : ℕ). RouteGoes all m (with_session r x.behind x.session) cs) z (goes_with (n + length x.sent) x.behind x.session c.on);
      }

  deliver_both : (piece out out' : List ℕ) → length out ≡ length out' → RouteCalls all n cs (calls.deliver r piece out) (calls.deliver (other_route r cs) piece out')
  unfolding calls.deliver
  deliver_both piece out out' z = rw (sym z) (go (is_over r) (leb (room_in r) (length out)))
    where
      go : (b k : Bool)
          → RouteCalls all n cs (cond b (refusal Settled r out) (cond k (calls.takes r piece out) (refusal ShortOutput r out)))
          (cond b (refusal Settled (other_route r cs) out') (cond k (calls.takes (other_route r cs) piece out') (refusal ShortOutput (other_route r cs) out')))
      go true k = quiet (Refused Settled) out out'
      go false true = takes_like piece out out'
      go false false = quiet (Refused ShortOutput) out out'

  end_both : RouteCalls all n cs (calls.end r) (calls.end (other_route r cs))
  unfolding calls.end
  end_both =
      let w = g.standing in
      let s = session_in r in
      let ds = bytes_at cs (behind_in r) in
      let c = end_like (secret_of w.now) w.here ds s (subst (λ (k : ℕ). Goes (secret_of w.now) w.here s (bytes_at cs k)) (sym behind_is) w.goes) in
      let d = end_counts (length (request_bytes w.now)) w.here s w.left in
      let x = session-calls.end s in
      let z : n + 0 ≡ w.from + (w.here + 0) = omega (arith, w.sent) in
      record {
        answer = c.answer;
        used = refl;
        count = refl;
        sent = agree_all (secret_in all) n [];
        session = λ i. with_session (other_route r cs) r.behind (c.session i);
        goes = goes_with (n + 0) r.behind x.session (record {
          now = w.now;
          later = w.later;
          from = w.from;
          here = w.here + 0;
          stored = w.stored;
          place = w.place;
          few = w.few;
          behind = w.behind;
          sent = z;
          started = d.started;
          requests = d.requests ∙ w.requests;
          goes = subst (λ (k : ℕ). Goes (secret_of w.now) (w.here + 0) x.session (bytes_at cs k)) behind_is c.goes;
          left = subst (λ (q : Requests). LeftAt q.lengths (length (request_bytes w.now)) x.session.stage (w.here + 0)) (sym d.requests) d.left;
        });
      }

-- ---- rows of calls

record Steps (all : List Opening) (n : ℕ) (cs : List ℕ) (x y : Made) : Type 0 where
  pub returned : x.returned ≡ y.returned
  pub sent : Agree (secret_in all) n x.sent y.sent
  pub route : y.route ≡ other_route x.route cs
  pub goes : RouteGoes all (n + length x.sent) x.route cs

module _ (all : List Opening) (n : ℕ) (r : Route) (cs : List ℕ) (g : RouteGoes all n r cs) where
  tells_both : (x : Returned) → Steps all n cs (record { returned = x; route = r; sent = [] }) (record { returned = x; route = other_route r cs; sent = [] })
  tells_both x = record { returned = refl; sent = agree_all (secret_in all) n []; route = refl; goes = still all n r cs g }

  step : (q : Asks) (u v : List ℕ) → length u ≡ length v → Steps all n cs (made r q u) (made (other_route r cs) q v)
  unfolding calls.end
  step start u v z = tells_both _
  step (deliver p) u v z =
      let c = deliver_both all n r cs g p u v z in
      record { returned = λ i. delivered (c.answer i) (c.used i) (c.count i); sent = c.sent; route = c.session; goes = c.goes }
  step end u v z =
      let c = end_both all n r cs g in
      record { returned = ap ended c.answer; sent = agree_all (secret_in all) n []; route = c.session; goes = c.goes }
  step outcome u v z = tells_both _
  step attempts u v z = tells_both _
  step bound u v z = tells_both _
  step bound_text u v z = tells_both _

same : (all : List Opening) (n : ℕ) (r : Route) (cs : List ℕ) → RouteGoes all n r cs → SameBut (stored_in all) r (other_route r cs)
same all n r cs g = record { stage = refl; held = refl; hold = refl; bound = refl; attempts = refl; count = refl; behind = refl; hops = refl; bytes = g.stored }

pub route_rows : (all : List Opening) (n : ℕ) (r : Route) (cs : List ℕ) → RouteGoes all n r cs → (ks ls : List Call) → SameCalls ks ls → Hidden all n r (other_route r cs) ks ls
unfolding Hidden
route_rows all n r cs g _ _ none = same all n r cs g
route_rows all n r cs g _ _ (more {c = c} {d = d} {cs = ks} {ds = ls} e z m) =
    let x = made r c.asks c.lent in
    let y = made (other_route r cs) d.asks d.lent in
    let t : Steps all n cs x y = subst (λ (q : Asks). Steps all n cs x (made (other_route r cs) q d.lent)) e (step all n r cs g c.asks c.lent d.lent z) in
    let w = route_rows all (n + length x.sent) x.route cs t.goes ks ls m in
    (same all n r cs g, t.returned, t.sent, subst (λ (k : Route). Hidden all (n + length x.sent) x.route k ks ls) (sym t.route) w)
