-- F-9, "Proxy lines": the grammar of a proxy line, with the value that a line stands for. One constructor a clause.
use Rattle.std.specs.Prelude.{ℕ, ◌+◌, ◌*◌, ◌≤◌, ◌≡◌, Bool, true, false, List, [], ◌∷◌, ◌++◌, length}
use Rattle.std.proofs.Math.Option.{Option, none, some}
use Rattle.protocol.specs.declared.Version.{Version}
use Rattle.protocol.specs.declared.Version.TheVariants.{V4, V5}
use Rattle.protocol.specs.AddressText.{Decimal, Hex, Ipv6}

-- a scheme and `://`, the version that it names, and whether it means local lookup
pub data Scheme : List ℕ → Version → Bool → Type 0 where
  -- socks4://
  socks4 : Scheme (0x73 ∷ 0x6F ∷ 0x63 ∷ 0x6B ∷ 0x73 ∷ 0x34 ∷ 0x3A ∷ 0x2F ∷ 0x2F ∷ []) V4 true
  -- socks4a://
  socks4a : Scheme (0x73 ∷ 0x6F ∷ 0x63 ∷ 0x6B ∷ 0x73 ∷ 0x34 ∷ 0x61 ∷ 0x3A ∷ 0x2F ∷ 0x2F ∷ []) V4 false
  -- socks5://
  socks5 : Scheme (0x73 ∷ 0x6F ∷ 0x63 ∷ 0x6B ∷ 0x73 ∷ 0x35 ∷ 0x3A ∷ 0x2F ∷ 0x2F ∷ []) V5 true
  -- socks5h://
  socks5h : Scheme (0x73 ∷ 0x6F ∷ 0x63 ∷ 0x6B ∷ 0x73 ∷ 0x35 ∷ 0x68 ∷ 0x3A ∷ 0x2F ∷ 0x2F ∷ []) V5 false

-- letters, digits, `-`, `.`, `_` and `~`
pub data Unreserved (b : ℕ) : Type 0 where
  upper : 0x41 ≤ b → b ≤ 0x5A → Unreserved b
  lower : 0x61 ≤ b → b ≤ 0x7A → Unreserved b
  digit : 0x30 ≤ b → b ≤ 0x39 → Unreserved b
  hyphen : b ≡ 0x2D → Unreserved b
  dot : b ≡ 0x2E → Unreserved b
  underscore : b ≡ 0x5F → Unreserved b
  tilde : b ≡ 0x7E → Unreserved b

-- such bytes as they are, and any byte as `%` and two hexadecimal digits of either case; and the bytes that they stand for
pub data Escaped : List ℕ → List ℕ → Type 0 where
  end : Escaped [] []
  as_is : {b : ℕ} {s bs : List ℕ} → Unreserved b → Escaped s bs → Escaped (b ∷ s) (b ∷ bs)
  escape : {a c high low : ℕ} {s bs : List ℕ} → Hex a high → Hex c low → Escaped s bs → Escaped (0x25 ∷ a ∷ c ∷ s) ((high * 16 + low) ∷ bs)

-- a user or a password: 0 to 255 bytes once unescaped
pub record Credential (s bs : List ℕ) : Type 0 where
  pub escaped : Escaped s bs
  pub few : length bs ≤ 255

-- a byte from 21 to 7E that is none of / @ % : [ ]
pub record HostByte (b : ℕ) : Type 0 where
  pub low : 0x21 ≤ b
  pub high : b ≤ 0x7E
  pub no_slash : b ≡ 0x2F → ⊥
  pub no_at : b ≡ 0x40 → ⊥
  pub no_percent : b ≡ 0x25 → ⊥
  pub no_colon : b ≡ 0x3A → ⊥
  pub no_open : b ≡ 0x5B → ⊥
  pub no_close : b ≡ 0x5D → ⊥

pub data HostBytes : List ℕ → Type 0 where
  last : {b : ℕ} → HostByte b → HostBytes (b ∷ [])
  next : {b : ℕ} {s : List ℕ} → HostByte b → HostBytes s → HostBytes (b ∷ s)

-- a host as it is written, where in that the host begins, and the host: an IPv6 text in brackets, without them, or 1 to 255 bytes
pub data Host : List ℕ → ℕ → List ℕ → Type 0 where
  ipv6 : {s bs : List ℕ} → Ipv6 s bs → Host (0x5B ∷ (s ++ (0x5D ∷ []))) 1 s
  bytes : {s : List ℕ} → HostBytes s → length s ≤ 255 → Host s 0 s

-- a port 0 to 65535 with no leading zero but in `0`: a digit, or a port other than 0 and one more digit
pub data Port : List ℕ → ℕ → Type 0 where
  one : {a d : ℕ} → Decimal a d → Port (a ∷ []) d
  more : {p : List ℕ} {v a d : ℕ} → Port p v → 1 ≤ v → Decimal a d → v * 10 + d ≤ 65535 → Port (p ++ (a ∷ [])) (v * 10 + d)

-- what a line stands for: user and password, or none; where in the line the host begins, and the host
pub record Value : Type 0 where
  pub version : Version
  pub local_dns : Bool
  pub credentials : Option (List ℕ × List ℕ)
  pub host_at : ℕ
  pub host : List ℕ
  pub port : ℕ

-- a scheme, user and password with a colon between and `@` behind, for the v5 schemes only and together or not at all, a host, a colon, a port
pub data Line : List ℕ → Value → Type 0 where
  without_credentials : {a h p host : List ℕ} {v : Version} {dns : Bool} {at port : ℕ}
      → Scheme a v dns → Host h at host → Port p port
      → Line (a ++ (h ++ (0x3A ∷ p)))
      (record { version = v; local_dns = dns; credentials = none; host_at = length a + at; host = host; port = port })
  with_credentials : {a u w h p user password host : List ℕ} {dns : Bool} {at port : ℕ}
      → Scheme a V5 dns → Credential u user → Credential w password → Host h at host → Port p port
      → Line (a ++ (u ++ (0x3A ∷ (w ++ (0x40 ∷ (h ++ (0x3A ∷ p)))))))
      (record { version = V5; local_dns = dns; credentials = some (user, password); host_at = length a + (length u + 1 + (length w + 1 + at)); host = host; port = port })
