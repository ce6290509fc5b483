-- Document 01, "v5 requests" and "v4 request": the bytes of each request, from its public document.
use Rattle.std.specs.Prelude.{ℕ, ◌<◌, ◌≡◌, List, [], ◌∷◌, ◌++◌, length, take, drop}
use Rattle.protocol.specs.declared.AuthMethod.{AuthMethod}
use Rattle.protocol.specs.declared.AuthMethod.TheVariants.{NoAuth, UserPass, NoneAcceptable}
use Rattle.protocol.specs.declared.AddressKind.{AddressKind}
use Rattle.protocol.specs.declared.AddressKind.TheVariants.{Ipv4, Ipv6, Domain}
use Rattle.protocol.specs.Bytes.{two}
use Rattle.protocol.specs.AddressReading.{Destination, ipv4, ipv6, domain}

-- RFC 1928, section 3
abbrev pub method_byte : AuthMethod → ℕ
method_byte NoAuth = 0x00
method_byte UserPass = 0x02
method_byte NoneAcceptable = 0xFF

-- RFC 1928, section 3: VER, NMETHODS, METHODS
unfoldable pub negotiation_req : AuthMethod → List ℕ
negotiation_req m = 0x05 ∷ 1 ∷ method_byte m ∷ []

-- RFC 1929, section 2: VER, ULEN, UNAME, PLEN, PASSWD. Lengths 0 are sent, against it.
unfoldable pub authentication_req : List ℕ → List ℕ → List ℕ
authentication_req user password = 0x01 ∷ length user ∷ (user ++ (length password ∷ password))

-- RFC 1928, section 5: ATYP and the address
unfoldable pub address_field : Destination → List ℕ
address_field (ipv4 bs) = 0x01 ∷ bs
address_field (ipv6 bs) = 0x04 ∷ bs
address_field (domain s) = 0x03 ∷ length s ∷ s

-- RFC 1928, section 4: VER, CMD, RSV, ATYP, DST.ADDR, DST.PORT
unfoldable pub proxy_req : Destination → ℕ → List ℕ
proxy_req d port = 0x05 ∷ 0x01 ∷ 0x00 ∷ (address_field d ++ two port)

-- what a v4 opening asks for
pub data Destination4 : Type 0 where
  address : List ℕ → Destination4
  name : List ℕ → Destination4

-- the SOCKS4 memo: VN, CD, DSTPORT, DSTIP, no USERID, its NULL. The SOCKS4A memo: for a name DSTIP is 0.0.0.x, and the name follows with its own NULL
unfoldable pub request : Destination4 → ℕ → List ℕ
request (address bs) port = 0x04 ∷ 0x01 ∷ (two port ++ (bs ++ (0 ∷ [])))
request (name s) port = 0x04 ∷ 0x01 ∷ (two port ++ (0 ∷ 0 ∷ 0 ∷ 0xFF ∷ 0 ∷ (s ++ (0 ∷ []))))

-- F-8, the SOCKS4A memo: an address 0.0.0.x with x not zero announces a name; and DSTIP, where a request has its address
abbrev pub Announces : List ℕ → Type 0
Announces ip = (x : ℕ) × (0 < x) × (ip ≡ 0 ∷ 0 ∷ 0 ∷ x ∷ [])

abbrev pub dst_ip : List ℕ → List ℕ
dst_ip q = take 4 (drop 4 q)

-- a destination of a kind
abbrev pub kind_of : AddressKind → List ℕ → Destination
kind_of Ipv4 bs = ipv4 bs
kind_of Ipv6 bs = ipv6 bs
kind_of Domain bs = domain bs
