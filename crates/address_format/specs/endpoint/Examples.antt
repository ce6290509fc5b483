-- F-1: addresses, ports and their texts.
use Rattle.std.specs.Prelude.{ℕ, List, [], ◌∷◌, ◌++◌, replicate}
use Rattle.protocol.specs.Examples.{text}
use Rattle.protocol.specs.AddressReading.{Destination, ipv4, ipv6, domain}
use Rattle.address_format.specs.endpoint.Text.{text_of}

pub data Case : Type 0 where
  case : Destination → ℕ → List ℕ → Case

-- a case as the definitions have it
abbrev pub written : Case → Case
written (case d port t) = case d port (text_of d port)

abbrev pub cases : List Case
cases =
    -- two runs of the same length: the first is shortened
    case (ipv6 (0x20 ∷ 0x01 ∷ 0x0D ∷ 0xB8 ∷ 0 ∷ 0 ∷ 0 ∷ 0 ∷ 0 ∷ 1 ∷ 0 ∷ 0 ∷ 0 ∷ 0 ∷ 0 ∷ 1 ∷ [])) 1080 (text "[2001:db8::1:0:0:1]:1080")
    -- the later run is longer
    ∷ case (ipv6 (0x20 ∷ 0x01 ∷ 0 ∷ 0 ∷ 0 ∷ 0 ∷ 0 ∷ 1 ∷ 0 ∷ 0 ∷ 0 ∷ 0 ∷ 0 ∷ 0 ∷ 0 ∷ 1 ∷ [])) 65535 (text "[2001:0:0:1::1]:65535")
    -- one zero group is not shortened
    ∷ case (ipv6 (0 ∷ 1 ∷ 0 ∷ 0 ∷ 0 ∷ 2 ∷ 0 ∷ 3 ∷ 0 ∷ 4 ∷ 0 ∷ 5 ∷ 0 ∷ 6 ∷ 0 ∷ 7 ∷ [])) 80 (text "[1:0:2:3:4:5:6:7]:80")
    -- all zeros; zeros at the end
    ∷ case (ipv6 (replicate 16 0)) 0 (text "[::]:0")
    ∷ case (ipv6 (0xFE ∷ 0x80 ∷ replicate 14 0)) 1 (text "[fe80::]:1")
    -- an IPv4 address in an IPv6 address is in hexadecimal too
    ∷ case (ipv6 (replicate 10 0 ++ (0xFF ∷ 0xFF ∷ 0xC0 ∷ 0x00 ∷ 0x02 ∷ 0x07 ∷ []))) 443 (text "[::ffff:c000:207]:443")
    ∷ case (ipv4 (192 ∷ 0 ∷ 2 ∷ 7 ∷ [])) 443 (text "192.0.2.7:443")
    -- a name, as received
    ∷ case (domain (text "Example.org")) 8080 (text "Example.org:8080")
    ∷ []
