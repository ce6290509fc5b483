-- F-12 as the code has it: a stream in an array, and a route's streams by its proxies.
use Rattle.std.specs.Prelude.{ℕ, zero, suc, Bool, true, false, cond, Option, None, List, [], ◌∷◌, ◌++◌, length, take, eqb}
use Rattle.protocol.specs.declared.Version.{Version}
use Rattle.protocol.specs.declared.Version.TheVariants.{V5, V4}
use Rattle.route_session.specs.declared.plan.Proxy.{Proxy}
use Rattle.endings_spec.specs.declared.Kind.{Kind}
use Rattle.endings_spec.specs.declared.Kind.TheVariants.{WithoutCredentials, WithCredentials, OverV4}
use Rattle.endings_spec.specs.declared.OutcomeStatus.{OutcomeStatus}
use Rattle.endings_spec.specs.Streams.{connect_reply, open_stream, stream_of, joined}
use Rattle.endings.specs.declared.word.Word.{Word}

-- a word's bytes
abbrev pub bytes_of : Word → List ℕ
bytes_of w = take w.len w.bytes

-- over SOCKS5 up to a connect reply, by its REP
abbrev pub connect_stream : Bool → ℕ → List ℕ
connect_stream false rep = 0x05 ∷ 0x00 ∷ connect_reply rep
connect_stream true rep = 0x05 ∷ 0x02 ∷ 0x01 ∷ 0x00 ∷ connect_reply rep

abbrev pub kind_by : Version → Bool → Kind
kind_by V5 true = WithCredentials
kind_by V5 false = WithoutCredentials
kind_by V4 authenticates = OverV4

abbrev pub kind_for : Proxy → Kind
kind_for p = kind_by p.version p.proxy_auth

-- ---- a route's

-- the open streams of proxies, one behind the other
unfoldable pub opens : List Proxy → List ℕ
opens [] = []
opens (p ∷ ps) = open_stream (kind_for p) ++ opens ps

-- at a proxy with so many behind it
abbrev pub end_for : ℕ → Kind → OutcomeStatus → Option (List ℕ)
end_for zero k w = stream_of k w
end_for (suc behind) k w = cond (eqb w.number 0) None (stream_of k w)

unfoldable pub row_at : List Proxy → ℕ → OutcomeStatus → Option (List ℕ)
row_at [] n w = None
row_at (p ∷ ps) zero w = None
row_at (p ∷ ps) (suc zero) w = end_for (length ps) (kind_for p) w
row_at (p ∷ ps) (suc (suc n)) w = joined (open_stream (kind_for p)) (row_at ps (suc n) w)
