-- What F-6's claims come to for one call. Each of their fields is used here.
use Prim.Native.Nat.{ℕ, ◌+◌}
use mathlib.Core.Path.{◌≡◌}
use mathlib.Core.Bool.{Bool}
use mathlib.Core.List.{List, [], ◌∷◌}
use lib.ListN.{length, take}
use Rattle.protocol.specs.Answers.{Accepted, Refused}
use Rattle.protocol.specs.declared.Bound.{Bound}
use Rattle.protocol.specs.declared.SocksError.{SocksError}
use Rattle.protocol.specs.Bytes.{byte}
use Rattle.protocol.specs.Opening.{V5}
use Rattle.client_stages.specs.declared.due.Lengths.{Lengths}
use Rattle.client_stages.specs.declared.due.Stage.{Stage}
use Rattle.client_session.specs.declared.Session.{Session}
use Rattle.client_session.specs.Calls.{prepare5}
use Rattle.route_delivery.specs.declared.Hop.{Hop}
use Rattle.route_spec.specs.Route as routing
use Rattle.route_spec.specs.Route.{openings}
use Rattle.route_session.specs.declared.calls.Route.{Route}
use Rattle.route_session.specs.calls.Calls.{opening}
use Rattle.noninterference.specs.Places.{Secret, Agree}
use Rattle.noninterference.specs.Calls as session
use Rattle.noninterference.specs.Calls.{Call, none, more, made}
use Rattle.noninterference.specs.Routes as route
use Rattle.noninterference.specs.Routes.{secret_in, stored_in}

-- bytes that agree are as many, and the same but at such positions
agreed : {S : ℕ → Type 0} {n : ℕ} {xs ys : List ℕ} → Agree S n xs ys → (length xs ≡ length ys) × ((i : ℕ) → (S (n + i) → ⊥) → byte xs i ≡ byte ys i)
agreed a = (a.long, a.same)

-- ---- sessions

-- every field but the stored bytes
abbrev seen : Session → Stage × (Bool × (ℕ × (List ℕ × (Bound × (ℕ × Lengths)))))
seen s = (s.stage, (s.started, (s.held, (s.hold, (s.bound, (s.attempts, s.requests.lengths))))))

module _ (a b : V5) (c : session.Concealed a b) where
  abbrev S : ℕ → Type 0
  S = Secret a.config.proxy_auth (length a.user) (length a.password)

  -- prepared, they are seen alike
  pub prepared_alike : (prepare5 a).answer ≡ Accepted → seen (prepare5 a).session ≡ seen (prepare5 b).session
  unfolding session.Hidden
  prepared_alike p = let h = c.hidden [] [] none p in λ i. (h.stage i, (h.started i, (h.held i, (h.hold i, (h.bound i, (h.attempts i, h.lengths i))))))

  pub stored_alike : (prepare5 a).answer ≡ Accepted → (i : ℕ) → (S (0 + i) → ⊥) → byte (prepare5 a).session.requests.bytes i ≡ byte (prepare5 b).session.requests.bytes i
  unfolding session.Hidden
  stored_alike p i f = (agreed (c.hidden [] [] none p).bytes).1 i f

  -- a call to each tells the same, and sends the same but at those positions
  pub call_alike : (prepare5 a).answer ≡ Accepted → (d e : Call) → d.asks ≡ e.asks → length d.lent ≡ length e.lent
      → (let x = made (prepare5 a).session d.asks d.lent in
      let y = made (prepare5 b).session e.asks e.lent in
      (x.returned ≡ y.returned) × (x.text ≡ y.text) × (length x.sent ≡ length y.sent) × ((i : ℕ) → (S (0 + i) → ⊥) → byte x.sent i ≡ byte y.sent i))
  unfolding session.Hidden
  call_alike p d e q r =
      let h = c.hidden (d ∷ []) (e ∷ []) (more q r none) p in
      (h.1, h.2, (agreed h.3).0, λ i f. (agreed h.3).1 i f)

  -- refused, both are refused with the same error, and what comes back is the same
  pub refused_alike : (e : SocksError) → (prepare5 a).answer ≡ Refused e → ((prepare5 a).answer ≡ (prepare5 b).answer) × (prepare5 a ≡ prepare5 b)
  refused_alike e p = (c.answers, c.refused e p)

-- ---- routes

abbrev seen_of : Route → Stage × (ℕ × (List ℕ × (Bound × (ℕ × (ℕ × (ℕ × List Hop))))))
seen_of r = (r.stage, (r.held, (r.hold, (r.bound, (r.attempts, (r.count, (r.behind, r.hops)))))))

module _ (a b : routing.Route) (c : route.Concealed a b) (out out' : List ℕ) (l : length out ≡ length out') where
  -- opened, they are seen alike, and were sent the same but at those positions
  pub opened_alike : (opening a out).answer ≡ Accepted → seen_of (opening a out).session ≡ seen_of (opening b out').session
  unfolding route.Hidden
  opened_alike p =
      let h = c.hidden out out' l p [] [] none in
      λ i. (h.stage i, (h.held i, (h.hold i, (h.bound i, (h.attempts i, (h.count i, (h.behind i, h.hops i)))))))

  pub route_stored_alike : (opening a out).answer ≡ Accepted → (i : ℕ) → (stored_in (openings a) (0 + i) → ⊥) → byte (opening a out).session.bytes i ≡ byte (opening b out').session.bytes i
  unfolding route.Hidden
  route_stored_alike p i f = (agreed (c.hidden out out' l p [] [] none).bytes).1 i f

  pub first_alike : ((opening a out).sent ≡ (opening b out').sent)
      × ((i : ℕ) → (secret_in (openings a) (0 + i) → ⊥) → byte (take (opening a out).sent (opening a out).output) i ≡ byte (take (opening b out').sent (opening b out').output) i)
  first_alike = ((c.first out out' l).0, λ i f. (agreed (c.first out out' l).1).1 i f)

  pub route_call_alike : (opening a out).answer ≡ Accepted → (d e : Call) → d.asks ≡ e.asks → length d.lent ≡ length e.lent
      → (let x = route.made (opening a out).session d.asks d.lent in
      let y = route.made (opening b out').session e.asks e.lent in
      (x.returned ≡ y.returned) × (length x.sent ≡ length y.sent))
  unfolding route.Hidden
  route_call_alike p d e q r = let h = c.hidden out out' l p (d ∷ []) (e ∷ []) (more q r none) in (h.1, (agreed h.2).0)

  pub route_refused_alike : (e : SocksError) → (opening a out).answer ≡ Refused e → ((opening a out).answer ≡ (opening b out').answer) × ((opening a out).session ≡ (opening b out').session)
  route_refused_alike e p = (c.answers out out' l, c.refused out out' l e p)
