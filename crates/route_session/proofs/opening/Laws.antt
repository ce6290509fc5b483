-- What an opening comes to, by its number of proxies, its output and what was planned.
use Prim.Native.Nat.{ℕ, ◌-◌, ◌*◌, ◌≤◌, ◌<◌}
use native.Mathlib.Omega.{arith}
use mathlib.Core.Path.{◌≡◌, refl, ap, sym, subst, ◌∙◌}
use mathlib.Core.Bool.{Bool, true, false, ◌||◌, true≢false}
use mathlib.Core.List.{List, ◌++◌, map, append-nil}
use lib.ListN.{length, take, drop, replicate, length-take, length-append, length-replicate, length-map}
use lib.Dec.{ltb, eqb}
use borrow.Author.Tests.{eq-eqb, ltb-false}
use Rattle.protocol.specs.Answers as code
use Rattle.protocol.specs.declared.SocksError.{SocksError}
use Rattle.protocol.specs.declared.SocksError.TheVariants.{ShortOutput, RouteLength}
use Rattle.protocol.specs.Opening.{refuse}
use Rattle.buffers.specs.write.Written.{Wrote}
use Rattle.buffers.proofs.write.Laws.{wrote_length}
use Rattle.route_delivery.specs.declared.Hop.{Hop}
use Rattle.route_delivery.specs.declared.Spot.{Spot}
use Rattle.route_delivery.specs.Relay.{goes_at, fresh_spot, begun_spot}
use Rattle.route_session.specs.declared.plan.Proxy.{Proxy}
use Rattle.route_session.specs.plan.Plan.{proxy_of, proxies_of, no_proxy, counted, route_of}
use Rattle.route_spec.specs.Route as routing
use Rattle.route_spec.specs.Route.{room_for, asked, asked_of, opening_for, unless_refused, check_in_turn, check, openings}
use Rattle.route_session.specs.declared.calls.Opened.{Opened}
use Rattle.route_session.proofs.calls.Laws.{written}
use Rattle.route_session.specs.opening.First.{opened_at}
use Rattle.route_session.specs.calls.Calls.{Call, refusal, empty_route, begun_with, begins, open_by, size_answer, opening, opened, OpenResult}

-- ---- the size of a route

clash : {e : SocksError} → code.Refused e ≡ code.Accepted → ⊥
clash q = let z : ◌≡◌ {A = ℕ} 0 1 = cc in absurd (omega arith)

not_zero : (n : ℕ) → (n ≡ 0 → ⊥) → 0 < n
not_zero n h = omega arith

-- an accepted size
pub size_has : (count out : ℕ) → size_answer count out ≡ code.Accepted → (0 < count) × ((count ≤ 8) × (1024 * count ≤ out))
size_has count out = go (eqb count 0) (ltb 8 count) (ltb out (1024 * count)) refl refl refl
  where
    go : (a b c : Bool) → eqb count 0 ≡ a → ltb 8 count ≡ b → ltb out (1024 * count) ≡ c → refuse (a || b) RouteLength (refuse c ShortOutput code.Accepted) ≡ code.Accepted → (0 < count) × ((count ≤ 8) × (1024 * count ≤ out))
    go true b c x y z q = absurd (clash q)
    go false true c x y z q = absurd (clash q)
    go false false true x y z q = absurd (clash q)
    go false false false x y z q = (some, (ltb-false 8 count y, ltb-false out (1024 * count) z))
      where
        some : 0 < count
        some = not_zero count (λ e. true≢false (sym (eq-eqb count 0 e) ∙ x))

-- ---- the first proxy begun

pub begins_as : (hops : List Hop) (count : ℕ) (bytes out : List ℕ) (s : Spot) → s ≡ begun_spot hops (fresh_spot count) s.sent → {out' : List ℕ} → Wrote out 0 (goes_at hops bytes s.behind) s.sent out'
    → {r : Opened} → r ≡ opened_at hops count bytes s → OpenResult (begins (begun_with hops bytes count) (goes_at hops bytes (count - 1)) out) r out'
begins_as hops count bytes out s b {out'} w {r} q =
    let (l, o) = written w in
    let g : length (goes_at hops bytes s.behind) ≡ length (goes_at hops bytes (count - 1)) = ap (λ (x : Spot). length (goes_at hops bytes x.behind)) b in
    record {
      returned = q ∙ (λ i. record { answer = code.Accepted; sent = (l ∙ g) i; route = record { stage = (b i).stage; held = 0; hold = replicate 261 0; bound = (b i).bound; attempts = 0; count = count; behind = (b i).behind; hops = hops; bytes = bytes } });
      output = o ∙ ap (λ (x : Spot). goes_at hops bytes x.behind ++ drop (length (goes_at hops bytes x.behind)) out) b;
      inside = rw q (omega (arith, w.inside, w.place, wrote_length w));
    }

-- ---- the route that is meant

counted_long : (ps : List Proxy) (count : ℕ) → length ps ≡ 8 → length (counted ps count) ≡ count
counted_long ps count l = omega (arith, length-append (take count ps) (replicate (count - 8) no_proxy), length-take count ps, length-replicate (count - 8) no_proxy, l)

counted_few : (ps : List Proxy) (count : ℕ) → count ≤ 8 → counted ps count ≡ take count ps
counted_few ps count m = let z : count - 8 ≡ 0 = omega arith in rw z (append-nil (take count ps))

module _ (text : List ℕ) (ps : List Proxy) (eight : length ps ≡ 8) (count : ℕ) (host : List ℕ) (port : code.Port) (out : List ℕ) where
  abbrev a : routing.Route
  a = route_of text ps count host port

  proxies_long : length a.proxies ≡ count
  proxies_long = length-map (counted ps count) (proxy_of text) ∙ counted_long ps count eight

  size_first : (x : code.Answer) → refuse (eqb (length a.proxies) 0 || ltb 8 (length a.proxies)) RouteLength (refuse (ltb (length out) (room_for (length a.proxies))) ShortOutput x)
      ≡ refuse (eqb count 0 || ltb 8 count) RouteLength (refuse (ltb (length out) (room_for count)) ShortOutput x)
  size_first x = ap (λ (n : ℕ). refuse (eqb n 0 || ltb 8 n) RouteLength (refuse (ltb (length out) (room_for n)) ShortOutput x)) proxies_long

  unless : (b c : Bool) (x : code.Answer) → refuse b RouteLength (refuse c ShortOutput x) ≡ unless_refused (refuse b RouteLength (refuse c ShortOutput code.Accepted)) x
  unless true c x = refl
  unless false true x = refl
  unless false false x = refl

  check_is : check a (length out) ≡ unless_refused (size_answer count (length out)) (check_in_turn (asked a))
  unfolding check
  check_is = size_first (check_in_turn (asked a)) ∙ unless (eqb count 0 || ltb 8 count) (ltb (length out) (room_for count)) (check_in_turn (asked a))

  pub opens_refused : {x : code.Answer} {e : SocksError} → x ≡ size_answer count (length out) → x ≡ code.Refused e → {r : Opened} → r ≡ record { answer = code.Refused e; sent = 0; route = empty_route e } → OpenResult (opening a out) r out
  unfolding opening
  opens_refused {x} {e} s q {r} w =
      let z : check a (length out) ≡ code.Refused e = check_is ∙ ap (λ (y : code.Answer). unless_refused y (check_in_turn (asked a))) (sym s ∙ q) in
      let o : open_by (check a (length out)) (openings a) out ≡ refusal e (empty_route e) out = ap (λ (y : code.Answer). open_by y (openings a) out) z in
      record { returned = w ∙ ap opened (sym o); output = ap (λ (c : Call). c.output) (sym o); inside = rw w (omega arith) }

  pub opens_sized : {x : code.Answer} → x ≡ size_answer count (length out) → x ≡ code.Accepted → {r : Opened} {out' : List ℕ}
      → OpenResult (open_by (check_in_turn (asked_of (proxies_of text (take count ps)) host port)) (map opening_for (asked_of (proxies_of text (take count ps)) host port)) out) r out' → OpenResult (opening a out) r out'
  unfolding opening
  opens_sized {x} s q {r} {out'} w =
      let t = sym s ∙ q in
      let m = (size_has count (length out) t).1.0 in
      let z : check a (length out) ≡ check_in_turn (asked a) = check_is ∙ ap (λ (y : code.Answer). unless_refused y (check_in_turn (asked a))) t in
      let k : asked_of (proxies_of text (take count ps)) host port ≡ asked a = ap (λ (l : List Proxy). asked_of (proxies_of text l) host port) (sym (counted_few ps count m)) in
      subst (λ (c : Call). OpenResult c r out') ((λ i. open_by (check_in_turn (k i)) (map opening_for (k i)) out) ∙ ap (λ (y : code.Answer). open_by y (openings a) out) (sym z)) w
