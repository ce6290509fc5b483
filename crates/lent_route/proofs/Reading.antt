-- The route that lent bytes mean, by the session of the proxy that is spoken to and what stands behind it.
use Prim.Native.Nat.{ℕ, zero, suc, ◌+◌, ◌-◌, ◌*◌, ◌≤◌}
use native.Mathlib.Omega.{arith}
use mathlib.Core.Path.{◌≡◌, refl, sym, ap, ◌∙◌}
use mathlib.Core.List.{List, ◌∷◌, ◌++◌}
use lib.ListN.{length, take, drop, replicate, length-drop}
use lib.Seq.{get_or-drop, drop-drop, drop_at, take-append-le, drop-append-le}
use Rattle.protocol.specs.Bytes.{byte}
use mathlib.Core.Bool.{true}
use Rattle.client_stages.specs.declared.due.Stage.TheVariants.{Awaiting}
use Rattle.client_stages.specs.due.Parts.{first_of}
use Rattle.client_session.specs.declared.Session.{Session}
use Rattle.raw_numbers.specs.Numbers.{truth}
use Rattle.lent_numbers.specs.bytes.Numbers.{number}
use Rattle.lent_session.specs.State.{two_at, state_of}
use Rattle.lent_session.specs.Fits.{Fits}
use Rattle.route_delivery.specs.declared.Hop.{Hop}
use Rattle.route_delivery.specs.Relay.{no_hop, hop_at, bytes_at, requests_at, goes_at, begun_at, handed, alone, handing_on, relayed}
use Rattle.route_session.specs.declared.calls.Route.{Route}
use Rattle.route_session.specs.calls.Calls.{last_in}
use Rattle.lent_route.specs.State.{reply_at, hop_in, slots_from, hops_in, bytes_in, route_at}
use Rattle.lent_route.proofs.Writing.{keeping, head_of, head_row, head_long, read_back}

-- ---- the slots and the requests are read behind the first 282 bytes

module _ (s : List ℕ) where
  far_byte : (k n : ℕ) → n ≡ 282 + k → byte s n ≡ byte (drop 282 s) k
  far_byte k n e = ap (byte s) e ∙ sym (get_or-drop 282 s k 0)

  far_two : (k n : ℕ) → n ≡ 282 + k → two_at s n ≡ two_at (drop 282 s) k
  far_two k n e = ap (two_at s) e ∙ ap (λ (t : List ℕ). number (take 2 t)) (sym (drop-drop k 282 s))

  hop_behind : (k : ℕ) {n : ℕ} → n ≡ 282 + k → hop_in s n ≡ hop_in (drop 282 s) k
  hop_behind k {n} e =
      let a = far_byte k n e in
      let b = far_byte (k + 1) (n + 1) (omega (arith, e)) in
      let c = far_two (k + 2) (n + 2) (omega (arith, e)) in
      let d = far_two (k + 4) (n + 4) (omega (arith, e)) in
      let f = far_two (k + 6) (n + 6) (omega (arith, e)) in
      λ i. record { first = reply_at (a i); lengths = record { optimistic = truth (b i); first = c i; authentication = d i; proxy = f i } }

  slots_behind : (m k : ℕ) {n : ℕ} → n ≡ 282 + k → slots_from s n m ≡ slots_from (drop 282 s) k m
  unfolding slots_from
  slots_behind zero k e = refl
  slots_behind (suc m) k {n} e =
      let z : n + 8 ≡ 282 + (k + 8) = omega (arith, e) in
      λ i. hop_behind k e i ∷ slots_behind m (k + 8) z i

  hops_behind : (last : ℕ) → hops_in s last ≡ slots_from (drop 282 s) (8 * (7 - last)) (suc last) ++ replicate (7 - last) no_hop
  hops_behind last = ap (λ (l : List Hop). l ++ replicate (7 - last) no_hop) (slots_behind (suc last) (8 * (7 - last)) refl)

  bytes_behind : (last : ℕ) → bytes_in s last ≡ drop (64 + 1024 * (7 - last)) (drop 282 s) ++ replicate (1024 * (7 - last)) 0
  bytes_behind last =
      let z : 346 + 1024 * (7 - last) ≡ 282 + (64 + 1024 * (7 - last)) = omega arith in
      ap (λ (l : List ℕ). l ++ replicate (1024 * (7 - last)) 0) (ap (λ (n : ℕ). drop n s) z ∙ sym (drop-drop (64 + 1024 * (7 - last)) 282 s))

module _ (s t : List ℕ) (e : drop 282 s ≡ drop 282 t) (last : ℕ) where
  pub hops_same : hops_in s last ≡ hops_in t last
  hops_same = hops_behind s last ∙ ap (λ (l : List ℕ). slots_from l (8 * (7 - last)) (suc last) ++ replicate (7 - last) no_hop) e ∙ sym (hops_behind t last)

  pub bytes_same : bytes_in s last ≡ bytes_in t last
  bytes_same = bytes_behind s last ∙ ap (λ (l : List ℕ). drop (64 + 1024 * (7 - last)) l ++ replicate (1024 * (7 - last)) 0) e ∙ sym (bytes_behind t last)

-- with that session written, and what stood behind it
abbrev pub route_by : Session → List ℕ → Route
route_by x s =
    record {
      stage = x.stage;
      held = x.held;
      hold = x.hold;
      bound = x.bound;
      attempts = x.attempts;
      count = x.requests.lengths.first;
      behind = x.requests.lengths.authentication;
      hops = hops_in s (last_in x.requests.lengths.first);
      bytes = bytes_in s (last_in x.requests.lengths.first);
    }

module _ (x : Session) (s b : List ℕ) (f : Fits (keeping x b)) (e : x.requests.bytes ≡ drop 282 s) where
  kept_behind : drop 282 (state_of x) ≡ drop 282 s
  kept_behind = ap (drop 282) (head_row x) ∙ drop_at (head_of x) x.requests.bytes 282 (head_long x f.hold) ∙ e

  pub means_route : route_at (state_of x) ≡ route_by x s
  means_route =
      let q = read_back x b f in
      (λ i. record {
        stage = (q i).stage;
        held = (q i).held;
        hold = (q i).hold;
        bound = (q i).bound;
        attempts = (q i).attempts;
        count = (q i).requests.lengths.first;
        behind = (q i).requests.lengths.authentication;
        hops = hops_in (state_of x) (last_in (q i).requests.lengths.first);
        bytes = bytes_in (state_of x) (last_in (q i).requests.lengths.first);
      })
      ∙ (λ i. record {
        stage = x.stage;
        held = x.held;
        hold = x.hold;
        bound = x.bound;
        attempts = x.attempts;
        count = x.requests.lengths.first;
        behind = x.requests.lengths.authentication;
        hops = hops_same (state_of x) s kept_behind (last_in x.requests.lengths.first) i;
        bytes = bytes_same (state_of x) s kept_behind (last_in x.requests.lengths.first) i;
      })

-- ---- bytes behind those of the proxies from here on are not looked at

bytes_first : (bytes more : List ℕ) (n : ℕ) → 1024 * (n + 1) ≤ length bytes → bytes_at (bytes ++ more) n ≡ bytes_at bytes n
bytes_first bytes more n h =
    ap (take 1024) (drop-append-le (1024 * n) bytes more (omega arith)) ∙ take-append-le 1024 (drop (1024 * n) bytes) more (rw (length-drop (1024 * n) bytes) (omega arith))

module _ (hops : List Hop) (bytes more : List ℕ) where
  pub requests_first : (n : ℕ) → 1024 * (n + 1) ≤ length bytes → requests_at hops (bytes ++ more) n ≡ requests_at hops bytes n
  requests_first n h = λ i. record { lengths = (hop_at hops n).lengths; bytes = bytes_first bytes more n h i }

  pub goes_first : (n : ℕ) → 1024 * (n + 1) ≤ length bytes → goes_at hops (bytes ++ more) n ≡ goes_at hops bytes n
  goes_first n h = ap (first_of (hop_at hops n).first) (requests_first n h)

  begun_first : (n : ℕ) (s : Session) → 1024 * (n + 1) ≤ length bytes → begun_at hops (bytes ++ more) n s ≡ begun_at hops bytes n s
  begun_first n s h =
      λ i. record { stage = Awaiting (hop_at hops n).first; started = true; held = 0; hold = s.hold; bound = s.bound; attempts = s.attempts; requests = requests_first n h i }

  pub relayed_first : (n : ℕ) (s : Session) (piece : List ℕ) → 1024 * (n + 1) ≤ length bytes → relayed hops (bytes ++ more) n s piece ≡ relayed hops bytes n s piece
  unfolding relayed
  relayed_first zero s piece h = refl
  relayed_first (suc n) s piece h =
      let c = handed s piece in
      let m : 1024 * (n + 1) ≤ length bytes = omega arith in
      λ i. handing_on c.session.stage (alone (suc n) c) (goes_first n m i)
      ((ap (λ (t : Session). relayed hops (bytes ++ more) n t (drop c.used piece)) (begun_first n c.session m) ∙ relayed_first n (begun_at hops bytes n c.session) (drop c.used piece) m) i)
