-- F-6, of routes: proxies' credentials of equal lengths, each at its own positions.
use Rattle.std.specs.Prelude.{ℕ, ◌+◌, ◌-◌, ◌*◌, ◌≤◌, ◌≡◌, ◌⊎◌, true, List, [], ◌∷◌, length, take}
use Rattle.protocol.specs.Answers.{Accepted, Refused}
use Rattle.protocol.specs.declared.SocksError.{SocksError}
use Rattle.protocol.specs.Opening.{Opening, v5, v4, no_auth, user_pass, requests}
use Rattle.protocol.specs.Machine.{sends}
use Rattle.route_spec.specs.Route as routing
use Rattle.route_spec.specs.Route.{Proxy, openings}
use Rattle.route_session.specs.declared.calls.Route.{Route}
use Rattle.route_session.specs.calls.Calls as calls
use Rattle.noninterference.specs.Places.{Secret, Agree}
use Rattle.noninterference.specs.Calls.{Asks, start, deliver, end, outcome, attempts, bound, bound_text, Call, Returned, delivered, ended, told, tried, named, SameCalls}

-- ---- positions

-- among all that is sent to one proxy
abbrev pub secret_of : Opening → ℕ → Type 0
secret_of (v5 no_auth d port o) i = ⊥
secret_of (v5 (user_pass u p) d port o) i = Secret true (length u) (length p) i
secret_of (v4 d port) i = ⊥

-- all its requests, one behind the other
abbrev pub request_bytes : Opening → List ℕ
request_bytes o = sends (requests o) []

-- among all that a route sends: each proxy's behind the requests of those before it
unfoldable pub secret_in : List Opening → ℕ → Type 0
secret_in [] i = ⊥
secret_in (o ∷ os) i = secret_of o i ⊎ ((length (request_bytes o) ≤ i) × secret_in os (i - length (request_bytes o)))

-- and where a route stores them: 1,024 bytes for each proxy, the last one's first
unfoldable pub stored_in : List Opening → ℕ → Type 0
stored_in [] i = ⊥
stored_in (o ∷ os) i = ((1024 * length os ≤ i) × secret_of o (i - 1024 * length os)) ⊎ stored_in os i

-- ---- what is alike

-- proxies but for the bytes of user and password
pub record AlikeProxies (p q : Proxy) : Type 0 where
  pub version : p.version ≡ q.version
  pub host : p.host ≡ q.host
  pub port : p.port ≡ q.port
  pub authenticates : p.authenticates ≡ q.authenticates
  pub optimistic : p.optimistic ≡ q.optimistic
  pub users : length p.user ≡ length q.user
  pub passwords : length p.password ≡ length q.password

pub data AlikeRows : List Proxy → List Proxy → Type 0 where
  none : AlikeRows [] []
  more : {p q : Proxy} {ps qs : List Proxy} → AlikeProxies p q → AlikeRows ps qs → AlikeRows (p ∷ ps) (q ∷ qs)

pub record AlikeRoutes (a b : routing.Route) : Type 0 where
  pub proxies : AlikeRows a.proxies b.proxies
  pub host : a.host ≡ b.host
  pub port : a.port ≡ b.port

-- states: every field, but the bytes where users and passwords are stored
pub record SameBut (S : ℕ → Type 0) (r s : Route) : Type 0 where
  pub stage : r.stage ≡ s.stage
  pub held : r.held ≡ s.held
  pub hold : r.hold ≡ s.hold
  pub bound : r.bound ≡ s.bound
  pub attempts : r.attempts ≡ s.attempts
  pub count : r.count ≡ s.count
  pub behind : r.behind ≡ s.behind
  pub hops : r.hops ≡ s.hops
  pub bytes : Agree S 0 r.bytes s.bytes

-- ---- calls on a route: it has no start of its own and no text, which change nothing here

pub record Made : Type 0 where
  pub returned : Returned
  pub route : Route
  pub sent : List ℕ

abbrev pub tells : Route → Returned → Made
tells r x = record { returned = x; route = r; sent = [] }

abbrev pub made : Route → Asks → List ℕ → Made
made r start out = tells r (tried 0)
made r (deliver piece) out =
    let c = calls.deliver r piece out in
    record { returned = delivered c.answer c.used c.sent; route = c.session; sent = take c.sent c.output }
made r end out = let c = calls.end r in tells c.session (ended c.answer)
made r outcome out = tells r (told (calls.outcome r))
made r attempts out = tells r (tried r.attempts)
made r bound out = tells r (named (calls.bound r))
made r bound_text out = tells r (tried 0)

-- what two rows of calls tell, where so many bytes were sent before
unfoldable pub Hidden : List Opening → ℕ → Route → Route → List Call → List Call → Type 0
Hidden os n r s [] [] = SameBut (stored_in os) r s
Hidden os n r s [] (d ∷ ds) = ⊥
Hidden os n r s (c ∷ cs) [] = ⊥
Hidden os n r s (c ∷ cs) (d ∷ ds) =
    let x = made r c.asks c.lent in
    let y = made s d.asks d.lent in
    SameBut (stored_in os) r s × (x.returned ≡ y.returned) × Agree (secret_in os) n x.sent y.sent × Hidden os (n + length x.sent) x.route y.route cs ds

-- of two routes, each opened with an output of the same length
pub record Concealed (a b : routing.Route) : Type 0 where
  pub answers : (out out' : List ℕ) → length out ≡ length out' → (calls.opening a out).answer ≡ (calls.opening b out').answer
  -- a refused opening returns the same route
  pub refused : (out out' : List ℕ) → length out ≡ length out' → (e : SocksError) → (calls.opening a out).answer ≡ Refused e → (calls.opening a out).session ≡ (calls.opening b out').session
  pub first : (out out' : List ℕ) → length out ≡ length out'
      → (let x = calls.opening a out in
      let y = calls.opening b out' in
      (x.sent ≡ y.sent) × Agree (secret_in (openings a)) 0 (take x.sent x.output) (take y.sent y.output))
  pub hidden : (out out' : List ℕ) → length out ≡ length out' → (calls.opening a out).answer ≡ Accepted → (cs ds : List Call) → SameCalls cs ds
      → Hidden (openings a) (calls.opening a out).sent (calls.opening a out).session (calls.opening b out').session cs ds
