-- Routes that lent bytes can hold stay so, whatever byte strings a route is fed with; and their writing is read back.
use Prim.Native.Nat.{ℕ, zero, suc, ◌-◌, ◌*◌, ◌≤◌, ◌<◌}
use native.Mathlib.Omega.{arith}
use mathlib.Core.Path.{◌≡◌, refl, ap, sym, subst, ◌∙◌}
use mathlib.Core.Bool.{Bool, true, false, cond}
use mathlib.Core.List.{List, [], ◌∷◌, ◌++◌}
use lib.ListN.{length, take, drop, replicate, length-replicate, take-append-drop}
use lib.Seq.{take_at}
use lib.Dec.{leb, lit<}
use Rattle.protocol.specs.Answers.{Answer, Accepted, Refused}
use Rattle.protocol.specs.declared.Reply.{Reply}
use Rattle.protocol.specs.declared.SocksError.TheVariants.{ShortOutput, Settled}
use Rattle.protocol.specs.Bytes.{Bytes}
use Rattle.protocol.specs.Bound.{unbound, bound_of}
use Rattle.protocol.specs.Opening.{Opening, first_reply}
use Rattle.protocol.proofs.Bytes.{bytes_right}
use Rattle.client_stages.specs.declared.due.Stage.{Stage}
use Rattle.client_stages.specs.declared.due.Stage.TheVariants.{Awaiting, Open, Failed}
use Rattle.client_stages.specs.due.Parts.{requests_of}
use Rattle.client_stages.proofs.due.Held.{Holds, onward_holds}
use Rattle.client_session.specs.declared.Session.{Session}
use Rattle.client_session.specs.Session.{side_of, view}
use Rattle.client_session.specs.Calls as session-calls
use Rattle.socks.proofs.Tunnels.{view_packed}
use Rattle.socks.proofs.Turns as sessions
use Rattle.lent_session.specs.Fits.{Fits}
use Rattle.lent_session.specs.State as session
use Rattle.lent_session.specs.State.{session_at}
use Rattle.route_delivery.specs.declared.Hop.{Hop}
use Rattle.route_delivery.specs.Relay.{no_hop, goes_at, begun_at, Relay, handed, alone, handing_on, relayed}
use Rattle.route_spec.proofs.Rooms.{EachLimits}
use Rattle.route_session.specs.declared.calls.Route.{Route}
use Rattle.route_session.specs.calls.Calls.{refusal, last_in, behind_in, room_in, session_in, is_over, started_for, takes, deliver}
use Rattle.route_session.specs.plan.Plan.{hops_for, bytes_for}
use Rattle.route_session.proofs.opening.Kept.{hops_size, bytes_size}
use Rattle.lent_route.specs.State.{count_at, hops_in, bytes_in, route_at, kept_of, counts_of, carried, state_of}
use Rattle.lent_route.specs.Calls.{onward, left_by}
use Rattle.lent_route.proofs.Writing.{head_of, read_back, head_row, head_long}
use Rattle.lent_route.proofs.Kept.{hops_read, bytes_read}
use Rattle.lent_route.proofs.Prepared.{each_slotted}
use Rattle.lent_route.proofs.Together.{drop_all}
use Rattle.lent_tunnel.proofs.Kept.{packed_fits}
use Rattle.talk.specs.Talk as talk
use Rattle.talk.specs.Attempts.{attempts_by}

-- ---- the session of the proxy that is spoken to: its numbers, its hold and what it holds

-- started, and with no requests
abbrev pub plain : Session → Session
plain x =
    record {
      stage = x.stage;
      started = true;
      held = x.held;
      hold = x.hold;
      bound = x.bound;
      attempts = x.attempts;
      requests = record { lengths = counts_of 0 0; bytes = replicate 1024 0 };
    }

pub record Stays (x : Session) : Type 0 where
  pub fits : Fits (plain x)
  pub holds : Holds (view x)

takes_stays : (x : Session) → Stays x → (piece out : List ℕ) → Bytes piece → Stays (session-calls.takes x piece out).session
takes_stays x w [] out y = w
takes_stays x w (b ∷ bs) out y =
    let f = talk.onward (side_of x) (view x) (b ∷ bs) in
    let h = onward_holds (requests_of x.requests) (view x) w.holds (b ∷ bs) y in
    record {
      fits = packed_fits (plain x) w.fits f.session h (attempts_by (side_of x) (view x) (b ∷ bs));
      holds = subst Holds (sym (view_packed x f.session)) h;
    }

handed_stays : (x : Session) → Stays x → (piece : List ℕ) → Bytes piece → Stays (handed x piece).session
handed_stays x w piece y = go (handed x piece).answer refl
  where
    go : (a : Answer) → (handed x piece).answer ≡ a → Stays (handed x piece).session
    go Accepted q = rw (sessions.deliver_accepts x piece (replicate 1024 0) q) (takes_stays x w piece (replicate 1024 0) y)
    go (Refused e) q = rw (sessions.deliver_untouched x piece (replicate 1024 0) e q) w

bytes_from : (n : ℕ) (bs : List ℕ) → Bytes bs → Bytes (drop n bs)
bytes_from n bs y = bytes_right (take n bs) (drop n bs) (rw (take-append-drop n bs) y)

module _ (hops : List Hop) (bytes : List ℕ) where
  begun_stays : (n : ℕ) (x : Session) → Stays x → Stays (begun_at hops bytes n x)
  begun_stays n x w =
      let f = w.fits in
      record {
        fits = record { attempts = f.attempts; held = lit< tt; first = f.first; authentication = f.authentication; proxy = f.proxy; port = f.port; hold = f.hold; bytes = f.bytes };
        holds = (omega arith, λ i. omega arith);
      }

  on_stays : (x : Stage) (here : Relay) (goes : List ℕ) (next : Relay) (n : ℕ) → here.behind ≡ suc n → Stays here.session → (next.behind ≤ n) × Stays next.session
      → ((handing_on x here goes next).behind ≤ suc n) × Stays (handing_on x here goes next).session
  on_stays (Awaiting e) here goes next n q w (l, v) = (omega arith, w)
  on_stays Open here goes next n q w (l, v) = (omega arith, v)
  on_stays (Failed e) here goes next n q w (l, v) = (omega arith, w)

  relayed_stays : (n : ℕ) (x : Session) → Stays x → (piece : List ℕ) → Bytes piece → ((relayed hops bytes n x piece).behind ≤ n) × Stays (relayed hops bytes n x piece).session
  unfolding relayed
  relayed_stays zero x w piece y = (omega arith, handed_stays x w piece y)
  relayed_stays (suc n) x w piece y =
      let c = handed x piece in
      let v = handed_stays x w piece y in
      on_stays c.session.stage (alone (suc n) c) (goes_at hops bytes n) (relayed hops bytes n (begun_at hops bytes n c.session) (drop c.used piece)) n refl v
      (relayed_stays n (begun_at hops bytes n c.session) (begun_stays n c.session v) (drop c.used piece) (bytes_from c.used piece y))

-- ---- a route

pub record Held (r : Route) : Type 0 where
  pub stays : Stays (session_in r)
  pub count : r.count < 65536
  pub behind : r.behind < 65536

takes_held : (r : Route) → Held r → (piece out : List ℕ) → Bytes piece → Held (takes r piece out).session
takes_held r w piece out y =
    let (l, v) = relayed_stays r.hops r.bytes (behind_in r) (session_in r) w.stays piece y in
    record { stays = record { fits = v.fits; holds = v.holds }; count = w.count; behind = omega arith }

-- one whose first proxy is begun
pub fresh_held : (e : Reply) (count behind : ℕ) (hops : List Hop) (bytes : List ℕ) → count < 65536 → behind < 65536
    → Held (record { stage = Awaiting e; held = 0; hold = replicate 261 0; bound = bound_of unbound; attempts = 0; count = count; behind = behind; hops = hops; bytes = bytes })
fresh_held e count behind hops bytes h k =
    record {
      stays = record {
        fits = record {
          attempts = lit< tt;
          held = lit< tt;
          first = lit< tt;
          authentication = lit< tt;
          proxy = lit< tt;
          port = lit< tt;
          hold = length-replicate {A = ℕ} 261 0;
          bytes = length-replicate {A = ℕ} 1024 0;
        };
        holds = (omega arith, λ i. omega arith);
      };
      count = h;
      behind = k;
    }

-- the session that its lent bytes mean, behind which what the proxies keep stands
abbrev pub spoken : Route → List ℕ → Session
spoken r kept =
    record {
      stage = r.stage;
      started = true;
      held = r.held;
      hold = r.hold;
      bound = r.bound;
      attempts = r.attempts;
      requests = record { lengths = counts_of r.count r.behind; bytes = kept };
    }

pub spoken_back : (r : Route) (kept : List ℕ) → Held r → session_at (carried r kept) ≡ spoken r kept
spoken_back r kept w =
    let f = w.stays.fits in
    read_back (spoken r kept) (replicate 1024 0)
    (record { attempts = f.attempts; held = f.held; first = w.count; authentication = w.behind; proxy = f.proxy; port = f.port; hold = f.hold; bytes = f.bytes })

-- ---- lent bytes are the one writing of a route of these openings

module _ (o : Opening) (os : List Opening) (w : EachLimits (o ∷ os)) (few : length os ≤ 7) where
  abbrev c : ℕ
  c = suc (length os)

  abbrev hs : List Hop
  hs = hops_for (o ∷ os)

  abbrev bs : List ℕ
  bs = bytes_for (o ∷ os)

  abbrev kept : List ℕ
  kept = kept_of c hs bs

  abbrev start : Route
  start = started_for o os

  pub record Written (s : List ℕ) (r : Route) : Type 0 where
    pub is : s ≡ carried r kept
    pub held : Held r
    pub count : r.count ≡ c
    pub hops : r.hops ≡ start.hops
    pub bytes : r.bytes ≡ start.bytes

  kept_is : kept_of c (take c start.hops) (take (1024 * c) start.bytes) ≡ kept
  kept_is =
      let h = take_at hs (drop c (replicate 8 no_hop)) c (hops_size (o ∷ os)) in
      let b = take_at bs (drop (1024 * c) (replicate 8192 0)) (1024 * c) (bytes_size (o ∷ os) w) in
      λ i. kept_of c (h i) (b i)

  pub is_written : (s : List ℕ) (r : Route) → Written s r → s ≡ state_of r
  is_written s r v =
      v.is ∙ ap (carried r) (sym kept_is)
      ∙ (λ i. carried r (kept_of (sym v.count i) (take (sym v.count i) (sym v.hops i)) (take (1024 * sym v.count i) (sym v.bytes i))))

  pub session_is : (s : List ℕ) (r : Route) → Written s r → session_at s ≡ spoken r kept
  session_is s r v = ap session_at v.is ∙ spoken_back r kept v.held

  -- what the proxies keep is read back behind any head
  module _ (head : List ℕ) (l : length head ≡ 282) where
    hops_are : hops_in (head ++ kept) (last_in c) ≡ start.hops
    hops_are = hops_read head hs bs c l (omega arith) (hops_size (o ∷ os)) (omega arith) (each_slotted (o ∷ os) w) ∙ ap (λ (t : List Hop). hs ++ t) (sym (drop_all c 8 no_hop (omega arith)))

    bytes_are : bytes_in (head ++ kept) (last_in c) ≡ start.bytes
    bytes_are =
        let z : 1024 * (8 - c) ≡ 8192 - 1024 * c = omega (arith, few) in
        bytes_read head hs bs c l (omega arith) (hops_size (o ∷ os)) (omega arith) (each_slotted (o ∷ os) w)
        ∙ ap (λ (t : List ℕ). bs ++ t) (ap (λ (n : ℕ). replicate n 0) z ∙ sym {b = replicate (8192 - 1024 * c) 0} (drop_all (1024 * c) 8192 0 (omega (arith, few))))

  pub means : (s : List ℕ) (r : Route) → Written s r → route_at s ≡ r
  means s r v =
      let q = session_is s r v in
      let head = head_of (spoken r kept) in
      let l = head_long (spoken r kept) v.held.stays.fits.hold in
      let row : s ≡ head ++ kept = v.is ∙ head_row (spoken r kept) in
      let n : count_at s ≡ c = ap (λ (x : Session). x.requests.lengths.first) q ∙ v.count in
      let hops : hops_in s (last_in (count_at s)) ≡ r.hops = (λ i. hops_in (row i) (last_in (n i))) ∙ hops_are head l ∙ sym v.hops in
      let bytes : bytes_in s (last_in (count_at s)) ≡ r.bytes = (λ i. bytes_in (row i) (last_in (n i))) ∙ bytes_are head l ∙ sym v.bytes in
      λ i. record {
        stage = (q i).stage;
        held = (q i).held;
        hold = (q i).hold;
        bound = (q i).bound;
        attempts = (q i).attempts;
        count = (q i).requests.lengths.first;
        behind = (q i).requests.lengths.authentication;
        hops = hops i;
        bytes = bytes i;
      }

  pub deliver_written : (s : List ℕ) (r : Route) → Written s r → (piece out : List ℕ) → Bytes piece
      → Written (left_by (deliver r piece out).answer (deliver r piece out).session s) (deliver r piece out).session
  unfolding deliver
  deliver_written s r v piece out y = go (is_over r) (leb (room_in r) (length out))
    where
      go : (a b : Bool)
          → (let k = cond a (refusal Settled r out) (cond b (takes r piece out) (refusal ShortOutput r out)) in
          Written (left_by k.answer k.session s) k.session)
      go true b = v
      go false true =
          record {
            is = ap (λ (x : Session). session.state_of (onward x (takes r piece out).session)) (session_is s r v);
            held = takes_held r v.held piece out y;
            count = v.count;
            hops = v.hops;
            bytes = v.bytes;
          }
      go false false = v

  start_held : Held start
  start_held = fresh_held (first_reply o) c (length os) start.hops start.bytes (omega arith) (omega arith)

  pub start_written : Written (state_of start) start
  start_written = record { is = ap (carried start) kept_is; held = start_held; count = refl; hops = refl; bytes = refl }
