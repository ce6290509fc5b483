-- F-6, of routes: two routes alike but for the bytes of users and passwords are concealed: opening them, and every row of calls.
use Prim.Native.Nat.{ℕ, suc, ◌+◌, ◌*◌, ◌≤◌}
use native.Mathlib.Nat.{zero-add}
use native.Mathlib.Omega.{arith}
use mathlib.Core.Path.{◌≡◌, refl, ap, sym, ◌∙◌, subst}
use mathlib.Core.Bool.{Bool, true, false, ◌||◌}
use mathlib.Core.List.{List, [], ◌∷◌, ◌++◌, map}
use lib.ListN.{length, take, drop, replicate, length-map}
use lib.Dec.{ltb, eqb}
use Rattle.protocol.specs.Answers.{Port, Answer, Accepted, Refused}
use Rattle.protocol.specs.declared.SocksError.{SocksError}
use Rattle.protocol.specs.declared.SocksError.TheVariants.{ShortOutput, RouteLength}
use Rattle.protocol.specs.declared.Version.{Version}
use Rattle.protocol.specs.declared.Version.TheVariants as Version
use Rattle.protocol.specs.AddressReading.{Destination}
use Rattle.protocol.specs.Bound.{unbound, bound_of}
use Rattle.protocol.specs.Opening.{V5, V4, refuse, check4, opening5, opening4, Opening, v5, credentials_if, first_reply, port_number}
use Rattle.client_stages.specs.declared.due.Stage.TheVariants.{Awaiting}
use Rattle.client_stages.specs.declared.due.Requests.{Requests}
use Rattle.client_stages.specs.due.Parts.{first_of}
use Rattle.client_session.specs.declared.Session.{Session}
use Rattle.client_session.specs.Calls.{kept_by}
use Rattle.route_delivery.specs.declared.Hop.{Hop}
use Rattle.route_delivery.specs.Relay.{no_hop, bytes_at, requests_at}
use Rattle.route_session.specs.plan.Plan.{hops_for, bytes_for}
use Rattle.route_spec.specs.Route as routing
use Rattle.route_spec.specs.Route.{Proxy, Asked, host_of, port_of, asked_by, asked_of, asked, opening_for, openings, room_for, check_for, unless_refused, check_in_turn, check}
use Rattle.route_spec.proofs.Asked.{asked_each}
use Rattle.route_spec.proofs.Checks.{accepted_has}
use Rattle.route_spec.proofs.Rooms.{EachLimits, each_limits}
use Rattle.route_session.specs.declared.calls.Route.{Route}
use Rattle.route_session.specs.calls.Calls as calls
use Rattle.route_session.specs.calls.Calls.{started_for, begins, open_by, opening, behind_in, last_in}
use Rattle.route_session.proofs.opening.Kept.{requests_at_lem, hops_row, bytes_row}
use Rattle.noninterference.specs.Places.{Agree}
use Rattle.noninterference.specs.Calls.{AlikeBut, Call, SameCalls}
use Rattle.noninterference.specs.Routes.{secret_of, request_bytes, secret_in, stored_in, AlikeProxies, AlikeRows, none, more, AlikeRoutes, Hidden, Concealed}
use Rattle.noninterference.proofs.Bytes.{agree_all, agree_join}
use Rattle.noninterference.proofs.Sessions.{Goes, agree_out}
use Rattle.noninterference.proofs.Counts.{LeftAt}
use Rattle.noninterference.proofs.Prepared.{checks_alike, opening_alike, destination}
use Rattle.noninterference.proofs.RouteRows.{agree_within, Holds, Standing, other_route, RouteGoes, place_here, route_rows}
use Rattle.noninterference.proofs.RouteKept as kept
use Rattle.noninterference.proofs.RouteKept.{AlikeOpenings, equal, given, OpeningRows, lengths_alike, first_alike, kept_holds, long_alike, hops_alike, stored_alike, all_stored}

-- ---- what is asked of each proxy

module _ (u w u' w' : List ℕ) (p : length u ≡ length u') (q : length w ≡ length w') (d : Destination) (port : ℕ) (o : Bool) where
  credentials_alike : (c : Bool) → AlikeOpenings (v5 (credentials_if c u w) d port o) (v5 (credentials_if c u' w') d port o)
  credentials_alike true = given u w u' w' p q d port o
  credentials_alike false = equal _

record AskedAlike (x y : Asked) : Type 0 where
  pub checks : check_for x ≡ check_for y
  pub openings : AlikeOpenings (opening_for x) (opening_for y)

module _ (p q : Proxy) (e : AlikeProxies p q) {h k : List ℕ} (hk : h ≡ k) {i j : Port} (ij : i ≡ j) where
  abbrev asked5 : Proxy → List ℕ → Port → V5
  asked5 x host port =
      record {
        config = record { proxy_auth = x.authenticates; local_dns = false; optimistic = x.optimistic };
        host = host;
        port = port;
        user = x.user;
        password = x.password;
        records = [];
      }

  but : AlikeBut (asked5 p h i) (asked5 q k j)
  but =
      record {
        config = λ t. record { proxy_auth = e.authenticates t; local_dns = false; optimistic = e.optimistic t };
        host = hk;
        port = ij;
        records = refl;
        users = e.users;
        passwords = e.passwords;
      }

  abbrev asked4 : List ℕ → Port → V4
  asked4 host port = record { local_dns = false; host = host; port = port; records = [] }

  over_both : (v : Version) → AskedAlike (asked_by v p h i) (asked_by v q k j)
  unfolding opening5
  over_both Version.V5 =
      let a = asked5 p h i in
      let b = asked5 q k j in
      record {
        checks = checks_alike a b but;
        openings = subst (λ (o : Opening). AlikeOpenings (opening5 a) o) (sym (opening_alike a b but))
            (credentials_alike p.user p.password q.user q.password e.users e.passwords (destination a b but) (port_number i) p.optimistic p.authenticates);
      }
  over_both Version.V4 =
      record {
        checks = λ t. check4 (asked4 (hk t) (ij t));
        openings = subst (λ (o : Opening). AlikeOpenings (opening4 (asked4 h i)) o) (λ t. opening4 (asked4 (hk t) (ij t))) (equal (opening4 (asked4 h i)));
      }

  asked_alike : AskedAlike (asked_by p.version p h i) (asked_by q.version q k j)
  asked_alike = subst (λ (v : Version). AskedAlike (asked_by p.version p h i) (asked_by v q k j)) e.version (over_both p.version)

module _ {host host' : List ℕ} (h : host ≡ host') {port port' : Port} (n : port ≡ port') where
  hosts_alike : (ps qs : List Proxy) → AlikeRows ps qs → host_of ps host ≡ host_of qs host'
  hosts_alike _ _ none = h
  hosts_alike _ _ (more e r) = e.host

  ports_alike : (ps qs : List Proxy) → AlikeRows ps qs → port_of ps port ≡ port_of qs port'
  ports_alike _ _ none = n
  ports_alike _ _ (more e r) = e.port

  checks_in_turn : (ps qs : List Proxy) → AlikeRows ps qs → check_in_turn (asked_of ps host port) ≡ check_in_turn (asked_of qs host' port')
  unfolding check_in_turn asked_of
  checks_in_turn _ _ none = refl
  checks_in_turn _ _ (more {p = p} {q = q} {ps = ps} {qs = qs} e r) =
      let a = asked_alike p q e (hosts_alike ps qs r) (ports_alike ps qs r) in
      λ i. unless_refused (a.checks i) (checks_in_turn ps qs r i)

  openings_alike : (ps qs : List Proxy) → AlikeRows ps qs → OpeningRows (map opening_for (asked_of ps host port)) (map opening_for (asked_of qs host' port'))
  unfolding asked_of
  openings_alike _ _ none = kept.none
  openings_alike _ _ (more {p = p} {q = q} {ps = ps} {qs = qs} e r) =
      kept.more (asked_alike p q e (hosts_alike ps qs r) (ports_alike ps qs r)).openings (openings_alike ps qs r)

long_rows : (ps qs : List Proxy) → AlikeRows ps qs → length ps ≡ length qs
long_rows _ _ none = refl
long_rows _ _ (more {ps = ps} {qs = qs} e r) = ap suc (long_rows ps qs r)

-- ---- two openings

record Opens (os : List Opening) (x y : calls.Call) : Type 0 where
  pub answer : x.answer ≡ y.answer
  pub refused : (e : SocksError) → x.answer ≡ Refused e → x.session ≡ y.session
  pub count : x.sent ≡ y.sent
  pub sent : Agree (secret_in os) 0 (take x.sent x.output) (take y.sent y.output)
  pub hidden : x.answer ≡ Accepted → (cs ds : List Call) → SameCalls cs ds → Hidden os x.sent x.session y.session cs ds

not_both : {e : SocksError} → Refused e ≡ Accepted → ⊥
not_both q = let z : ◌≡◌ {A = ℕ} 0 1 = cc in omega arith

refused_both : (os : List Opening) (e : SocksError) (r : Route) (out out' : List ℕ) → Opens os (calls.refusal e r out) (calls.refusal e r out')
refused_both os e r out out' = record { answer = refl; refused = λ x q. refl; count = refl; sent = agree_all (secret_in os) 0 []; hidden = λ q. absurd (not_both q) }

module _ (o p : Opening) (os ps : List Opening) (a : AlikeOpenings o p) (r : OpeningRows os ps) (w : EachLimits (o ∷ os)) (v : EachLimits (p ∷ ps)) (few : length os ≤ 7) where
  abbrev all : List Opening
  all = o ∷ os

  abbrev likes : OpeningRows (o ∷ os) (p ∷ ps)
  likes = kept.more a r

  abbrev spare : ℕ → List ℕ
  spare n = drop (1024 * suc n) (replicate 8192 0)

  abbrev hops : List Hop
  hops = hops_for (o ∷ os) ++ drop (suc (length os)) (replicate 8 no_hop)

  abbrev ours : List ℕ
  ours = bytes_for (o ∷ os) ++ spare (length os)

  abbrev theirs : List ℕ
  theirs = bytes_for (p ∷ ps) ++ spare (length ps)

  abbrev goes : List ℕ
  goes = first_of (first_reply o) (kept_by o)

  second_is : started_for p ps ≡ other_route (started_for o os) theirs
  second_is =
      sym (λ i.
      record {
        stage = Awaiting (first_alike o p a i);
        held = 0;
        hold = replicate 261 0;
        bound = bound_of unbound;
        attempts = 0;
        count = suc (long_alike os ps r i);
        behind = long_alike os ps r i;
        hops = hops_alike (o ∷ os) (p ∷ ps) likes i ++ drop (suc (long_alike os ps r i)) (replicate 8 no_hop);
        bytes = theirs;
      })

  -- the first proxy's session, by what it keeps
  abbrev begun : Requests → Session
  begun q =
      record {
        stage = Awaiting (first_reply o);
        started = true;
        held = 0;
        hold = replicate 261 0;
        bound = bound_of unbound;
        attempts = 0;
        requests = q;
      }

  abbrev spare_hops : List Hop
  spare_hops = drop (suc (length os)) (replicate 8 no_hop)

  behind_is : behind_in (started_for o os) ≡ length os
  behind_is = omega (arith, few)

  ours_at : requests_at hops ours (length os) ≡ kept_by o
  ours_at = (λ i. requests_at (hops_row o os w spare_hops (spare (length os)) i) (bytes_row o os w spare_hops (spare (length os)) i) (length os)) ∙ requests_at_lem o os w spare_hops (spare (length os))

  theirs_at : bytes_at theirs (length os) ≡ (kept_by p).bytes
  theirs_at =
      ap (λ (k : ℕ). bytes_at theirs k) (long_alike os ps r) ∙ ap (λ (l : List ℕ). bytes_at l (length ps)) (bytes_row p ps v spare_hops (spare (length ps)))
      ∙ ap (λ (q : Requests). q.bytes) (requests_at_lem p ps v spare_hops (spare (length ps)))

  abbrev holds : Holds (kept_by o).lengths (first_reply o) (kept_by o).bytes (kept_by p).bytes o
  holds = kept_holds o p a w.0

  kept_is : requests_at hops ours (behind_in (started_for o os)) ≡ kept_by o
  kept_is = ap (requests_at hops ours) behind_is ∙ ours_at

  first_standing : Standing all (last_in (suc (length os))) hops ours theirs (length goes) (length os) (begun (requests_at hops ours (behind_in (started_for o os))))
  first_standing =
      record {
        now = o;
        later = os;
        from = 0;
        here = length goes;
        stored = all_stored (o ∷ os) (p ∷ ps) likes w v spare_hops (spare (length os)) (spare (length ps));
        place = λ i s. subst (λ (k : ℕ). secret_in (o ∷ os) k) (sym (zero-add i)) s;
        few = omega (arith, few);
        behind = refl;
        sent = sym (zero-add (length goes));
        started = refl;
        requests = ap (requests_at hops ours) behind_is;
        goes = subst (λ (q : Requests). Goes (secret_of o) (length goes) (begun q) (bytes_at theirs (length os))) (sym kept_is)
            (subst (λ (d : List ℕ). Goes (secret_of o) (length goes) (begun (kept_by o)) d) (sym theirs_at) (record { agree = holds.agree; long = holds.long; stands = holds.stands }));
        left = subst (λ (q : Requests). LeftAt q.lengths (length (request_bytes o)) (Awaiting (first_reply o)) (length goes)) (sym kept_is) holds.left;
      }

  spare_alike : Agree (stored_in all) (0 + length (bytes_for (o ∷ os))) (spare (length os)) (spare (length ps))
  spare_alike =
      subst (λ (l : List ℕ). Agree (stored_in all) (0 + length (bytes_for (o ∷ os))) (spare (length os)) l) (ap spare (long_alike os ps r)) (agree_all (stored_in all) (0 + length (bytes_for (o ∷ os))) (spare (length os)))

  first_goes : RouteGoes all (length goes) (started_for o os) theirs
  first_goes =
      record {
        standing = first_standing;
        stored = agree_join (stored_in all) 0 (bytes_for (o ∷ os)) (bytes_for (p ∷ ps)) (spare (length os)) (spare (length ps)) (stored_alike (o ∷ os) (p ∷ ps) likes w) spare_alike;
      }

  -- what goes to the second route's first proxy
  abbrev goes' : List ℕ
  goes' = first_of (first_reply p) (kept_by p)

  theirs_goes : first_of (first_reply o) (record { lengths = (kept_by o).lengths; bytes = (kept_by p).bytes }) ≡ goes'
  theirs_goes = λ i. first_of (first_alike o p a i) (record { lengths = lengths_alike o p a i; bytes = (kept_by p).bytes })

  goes_alike : Agree (secret_in all) 0 goes goes'
  goes_alike =
      subst (λ (l : List ℕ). Agree (secret_in all) 0 goes l) theirs_goes
      (agree_within (secret_of o) (secret_in all) 0 0 (λ i s. place_here o os (0 + i) s) holds.first)

  begins_both : (out out' : List ℕ) → Opens all (begins (started_for o os) goes out) (begins (started_for p ps) goes' out')
  begins_both out out' =
      record {
        answer = refl;
        refused = λ e q. absurd (not_both (sym q));
        count = goes_alike.long;
        sent = agree_out (secret_in all) 0 [] goes goes' (drop (length goes) out) (drop (length goes') out') goes_alike;
        hidden = λ q cs ds m. subst (λ (k : Route). Hidden all (length goes) (started_for o os) k cs ds) (sym second_is) (route_rows all (length goes) (started_for o os) theirs first_goes cs ds m);
      }

open_both : (x : Answer) (os ps : List Opening) → OpeningRows os ps → (x ≡ Accepted → EachLimits os × EachLimits ps × (length os ≤ 8)) → (out out' : List ℕ)
    → Opens os (open_by x os out) (open_by x ps out')
open_both (Refused e) os ps r f out out' = refused_both os e _ out out'
open_both Accepted _ _ kept.none f out out' = refused_both [] RouteLength _ out out'
open_both Accepted _ _ (kept.more {o = o} {p = p} {os = os} {ps = ps} a r) f out out' =
    let w = f refl in
    begins_both o p os ps a r w.0 w.1 (omega (arith, w.2)) out out'

-- ---- two routes

module _ (a b : routing.Route) (e : AlikeRoutes a b) where
  check_alike : (n : ℕ) → check a n ≡ check b n
  unfolding check
  check_alike n =
      let l = long_rows a.proxies b.proxies e.proxies in
      let c = checks_in_turn e.host e.port a.proxies b.proxies e.proxies in
      λ i. refuse (eqb (l i) 0 || ltb 8 (l i)) RouteLength (refuse (ltb n (room_for (l i))) ShortOutput (c i))

  openings_long : length (openings a) ≡ length a.proxies
  openings_long = length-map (asked a) opening_for ∙ asked_each a.proxies a.host a.port

  limits_both : (n : ℕ) → check a n ≡ Accepted → EachLimits (openings a) × EachLimits (openings b) × (length (openings a) ≤ 8)
  limits_both n q =
      let x = accepted_has a n q in
      let y = accepted_has b n (sym (check_alike n) ∙ q) in
      (each_limits a.proxies a.host a.port x.each, each_limits b.proxies b.host b.port y.each, omega (arith, x.eight, openings_long))

  opens_alike : (out out' : List ℕ) → length out ≡ length out' → Opens (openings a) (opening a out) (opening b out')
  unfolding opening
  opens_alike out out' z =
      let r = openings_alike e.host e.port a.proxies b.proxies e.proxies in
      let n : check a (length out) ≡ check b (length out') = check_alike (length out) ∙ ap (check b) z in
      subst (λ (x : Answer). Opens (openings a) (open_by (check a (length out)) (openings a) out) (open_by x (openings b) out')) n
      (open_both (check a (length out)) (openings a) (openings b) r (limits_both (length out)) out out')

pub route_concealed : (a b : routing.Route) → AlikeRoutes a b → Concealed a b
route_concealed a b e =
    record {
      answers = λ out out' z. (opens_alike a b e out out' z).answer;
      refused = λ out out' z. (opens_alike a b e out out' z).refused;
      first = λ out out' z. ((opens_alike a b e out out' z).count, (opens_alike a b e out out' z).sent);
      hidden = λ out out' z. (opens_alike a b e out out' z).hidden;
    }
