-- What each proxy is asked for.
use Prim.Native.Nat.{ℕ, suc}
use mathlib.Core.Path.{◌≡◌, refl, ap}
use mathlib.Core.List.{List, [], ◌∷◌, ◌++◌}
use lib.ListN.{length}
use Rattle.protocol.specs.Answers.{Port}
use Rattle.protocol.specs.declared.Version.{Version}
use Rattle.protocol.specs.declared.Version.TheVariants.{V4, V5}
use Rattle.route_spec.specs.Route.{Proxy, host_of, port_of, Asked, asked_by, asked_of, asked}

-- proxies ahead of another are asked as for a route to that one
pub asked_split : (ps : List Proxy) (q : Proxy) (qs : List Proxy) (host : List ℕ) (port : Port)
    → asked_of (ps ++ (q ∷ qs)) host port ≡ asked_of ps q.host q.port ++ asked_of (q ∷ qs) host port
unfolding asked_of
asked_split [] q qs host port = refl
asked_split (p ∷ []) q qs host port = refl
asked_split (p ∷ r ∷ ps) q qs host port = ap (λ (l : List Asked). asked_by p.version p r.host r.port ∷ l) (asked_split (r ∷ ps) q qs host port)

-- a route's last proxy is asked for the destination, those ahead of it as a route to that one
pub asked_last : (ps : List Proxy) (p : Proxy) (host : List ℕ) (port : Port)
    → asked (record { proxies = ps ++ (p ∷ []); host = host; port = port }) ≡ asked (record { proxies = ps; host = p.host; port = p.port }) ++ (asked_by p.version p host port ∷ [])
unfolding asked_of
asked_last ps p host port = asked_split ps p [] host port

-- each is asked
pub asked_each : (ps : List Proxy) (host : List ℕ) (port : Port) → length (asked_of ps host port) ≡ length ps
unfolding asked_of
asked_each [] host port = refl
asked_each (p ∷ ps) host port = ap suc (asked_each ps host port)

-- the first one's own host and port are not looked at
pub first_unread : (p : Proxy) (h : List ℕ) (n : Port) (ps : List Proxy) (host : List ℕ) (port : Port)
    → (let q : Proxy = record { version = p.version; host = h; port = n; authenticates = p.authenticates; optimistic = p.optimistic; user = p.user; password = p.password } in
    asked_of (q ∷ ps) host port ≡ asked_of (p ∷ ps) host port)
unfolding asked_of
first_unread p h n ps host port = ap (λ (a : Asked). a ∷ asked_of ps host port) (go p.version)
  where
    go : (v : Version)
        → asked_by v (record { version = p.version; host = h; port = n; authenticates = p.authenticates; optimistic = p.optimistic; user = p.user; password = p.password }) (host_of ps host) (port_of ps port)
        ≡ asked_by v p (host_of ps host) (port_of ps port)
    go V5 = refl
    go V4 = refl

-- credentials and the option of a v4 proxy are ignored
pub v4_alike : (p q : Proxy) (host : List ℕ) (port : Port) → asked_by V4 p host port ≡ asked_by V4 q host port
v4_alike p q host port = refl
