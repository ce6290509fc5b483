-- F-5: a route as a caller gives it, and what preparing its openings comes to.
use Rattle.std.specs.Prelude.{ℕ, ◌-◌, ◌*◌, ◌≡◌, false, List, [], ◌∷◌, ◌++◌, map, length, take, drop, replicate}
use Rattle.protocol.specs.Answers as code
use Rattle.protocol.specs.declared.Reply.{Reply}
use Rattle.protocol.specs.declared.Reply.TheVariants.{Response}
use Rattle.protocol.specs.Opening.{Opening, first_reply}
use Rattle.client_stages.specs.declared.due.Stage.{Stage}
use Rattle.client_stages.specs.declared.due.Stage.TheVariants.{Awaiting, Open, Failed}
use Rattle.client_stages.specs.due.Parts.{part}
use Rattle.client_session.specs.declared.Session.{Session}
use Rattle.client_session.specs.declared.Prepared.{Prepared}
use Rattle.client_session.specs.Calls.{kept_by, prepare5, prepare4}
use Rattle.route_delivery.specs.declared.Hop.{Hop}
use Rattle.protocol.specs.declared.Version.TheVariants as Version
use Rattle.route_spec.specs.Route as route
use Rattle.route_spec.specs.Route.{host_of, port_of, Asked, over5, over4, asked_by, opening_for, check_in_turn}
use Rattle.route_session.specs.declared.plan.Proxy.{Proxy}
use Rattle.route_session.specs.declared.plan.Part.{Part}

-- ---- the route that is meant: hosts and credentials are parts of the text

abbrev pub part_of : List ℕ → Part → List ℕ
part_of text p = part text p.from p.len

abbrev pub proxy_of : List ℕ → Proxy → route.Proxy
proxy_of text p =
    record {
      version = p.version;
      host = part_of text p.host;
      port = p.port;
      authenticates = p.proxy_auth;
      optimistic = p.optimistic;
      user = part_of text p.user;
      password = part_of text p.password;
    }

abbrev pub proxies_of : List ℕ → List Proxy → List route.Proxy
proxies_of text ps = map (proxy_of text) ps

-- what stands where no proxy is given
abbrev pub no_proxy : Proxy
no_proxy =
    record {
      version = Version.V4;
      host = record { from = 0; len = 0 };
      port = code.Missing;
      proxy_auth = false;
      optimistic = false;
      user = record { from = 0; len = 0 };
      password = record { from = 0; len = 0 };
    }

-- so many of eight proxies; past the eighth none is given, and what stands there is not looked at
abbrev pub counted : List Proxy → ℕ → List Proxy
counted ps count = take count ps ++ replicate (count - 8) no_proxy

abbrev pub route_of : List ℕ → List Proxy → ℕ → List ℕ → code.Port → route.Route
route_of text ps count host port = record { proxies = proxies_of text (counted ps count); host = host; port = port }

-- ---- preparing

abbrev pub prepared_for : Asked → Prepared
prepared_for (over5 a) = prepare5 a
prepared_for (over4 a) = prepare4 a

-- of a proxy with others behind it in a row
abbrev pub asked_in_row : route.Proxy → List route.Proxy → List ℕ → code.Port → Asked
asked_in_row p later host port = asked_by p.version p (host_of later host) (port_of later port)

-- ---- what is kept, the last one's first

abbrev pub first_in : Stage → Reply
first_in (Awaiting e) = e
first_in Open = Response
first_in (Failed x) = Response

abbrev pub kept_hop : Session → Hop
kept_hop s = record { first = first_in s.stage; lengths = s.requests.lengths }

abbrev pub hop_for : Opening → Hop
hop_for o = record { first = first_reply o; lengths = (kept_by o).lengths }

unfoldable pub hops_for : List Opening → List Hop
hops_for [] = []
hops_for (o ∷ os) = hops_for os ++ (hop_for o ∷ [])

unfoldable pub bytes_for : List Opening → List ℕ
bytes_for [] = []
bytes_for (o ∷ os) = bytes_for os ++ (kept_by o).bytes

-- what is answered, and if all are accepted what the arrays have at their start; what stood behind it stays
pub record PlanResult (asks : List Asked) (hops : List Hop) (bytes : List ℕ) (r : code.Answer) (hops' : List Hop) (bytes' : List ℕ) : Type 0 where
  pub answered : r ≡ check_in_turn asks
  pub hopped : r ≡ code.Accepted → hops' ≡ hops_for (map opening_for asks) ++ drop (length asks) hops
  pub filled : r ≡ code.Accepted → bytes' ≡ bytes_for (map opening_for asks) ++ drop (1024 * length asks) bytes
