-- F-1: the address and port that a connect or v4 reply names, by the reply's bytes.
use Rattle.std.specs.Prelude.{ℕ, min, cond, List, [], ◌∷◌, length, take, drop, eqb}
use Rattle.protocol.specs.declared.AddressKind.{AddressKind}
use Rattle.protocol.specs.declared.AddressKind.TheVariants.{Ipv4, Ipv6, Domain}
use Rattle.protocol.specs.declared.Address.{Address}
use Rattle.protocol.specs.declared.Bound.{Bound}
use Rattle.protocol.specs.declared.Reply.{Reply}
use Rattle.protocol.specs.declared.Reply.TheVariants.{NegotiationRes, AuthenticationRes, ProxyRes, Response}
use Rattle.protocol.specs.Bytes.{byte, two_of, padded}
use Rattle.protocol.specs.AddressReading.{Destination, ipv4, ipv6, domain}
use Rattle.protocol.specs.Requests.{kind_of}

-- an address of a kind with its bytes, or a name, and a port
pub record Endpoint : Type 0 where
  pub address : Destination
  pub port : ℕ

abbrev pub endpoint : Destination → ℕ → Endpoint
endpoint d port = record { address = d; port = port }

-- what there is where no address is bound: IPv4 zeros and port 0
abbrev pub unbound : Endpoint
unbound = endpoint (ipv4 (0 ∷ 0 ∷ 0 ∷ 0 ∷ [])) 0

-- a connect reply (RFC 1928, section 6): ATYP is its fourth byte, BND.ADDR follows, a name behind its length, and then BND.PORT
unfoldable pub proxy_bound : List ℕ → Endpoint
proxy_bound bs =
    cond (eqb (byte bs 3) 0x01) (endpoint (ipv4 (take 4 (drop 4 bs))) (two_of (drop 8 bs)))
    (cond (eqb (byte bs 3) 0x04) (endpoint (ipv6 (take 16 (drop 4 bs))) (two_of (drop 20 bs)))
    (endpoint (domain (take (byte bs 4) (drop 5 bs))) (two_of (drop (byte bs 4) (drop 5 bs)))))

-- a v4 reply (the SOCKS4 memo): DSTPORT is its third and fourth byte, DSTIP follows
unfoldable pub response_bound : List ℕ → Endpoint
response_bound bs = endpoint (ipv4 (take 4 (drop 4 bs))) (two_of (drop 2 bs))

-- a reply; the others name no address
abbrev pub bound_by : Reply → List ℕ → Endpoint
bound_by (NegotiationRes m) bs = unbound
bound_by AuthenticationRes bs = unbound
bound_by ProxyRes bs = proxy_bound bs
bound_by Response bs = response_bound bs

-- ---- as a value that is handed out

abbrev pub kind_in : Destination → AddressKind
kind_in (ipv4 bs) = Ipv4
kind_in (ipv6 bs) = Ipv6
kind_in (domain s) = Domain

abbrev pub bytes_in : Destination → List ℕ
bytes_in (ipv4 bs) = bs
bytes_in (ipv6 bs) = bs
bytes_in (domain s) = s

-- what a session keeps of it beside the bytes
abbrev pub bound_of : Endpoint → Bound
bound_of e = record { kind = kind_in e.address; port = e.port }

-- the bytes stand at the start of an array of zeros, which holds 255
abbrev pub address_of : Endpoint → Address
address_of e =
    record {
      kind = kind_in e.address;
      len = min (length (bytes_in e.address)) 255;
      bytes = padded 255 (take 255 (bytes_in e.address));
      port = e.port;
    }

-- how many bytes of the array are an address's: by its kind, and for a name by its length
abbrev pub size_of : AddressKind → ℕ → ℕ
size_of Ipv4 n = 4
size_of Ipv6 n = 16
size_of Domain n = n

abbrev pub destination : Address → Destination
destination a = kind_of a.kind (take (size_of a.kind a.len) a.bytes)
