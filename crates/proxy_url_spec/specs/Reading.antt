-- F-9 in handy forms, not to be believed: a line read field by field from the left; what code computes. proofs/ holds it to the grammar.
use Rattle.std.specs.Prelude.{ℕ, zero, suc, Result, Ok, Err, ◌+◌, ◌*◌, max, Bool, true, false, cond, ◌&&◌, ◌||◌, not, List, [], ◌∷◌, ◌++◌, length, take, drop, ltb, eqb}
use Rattle.std.specs.Char.{is_ascii_alphanumeric, is_ascii_graphic}
use Rattle.std.proofs.Math.Option.{Option, none, some}
use Rattle.protocol.specs.declared.Version.{Version}
use Rattle.protocol.specs.declared.Version.TheVariants.{V4, V5}
use Rattle.protocol.specs.declared.Digits.{Digits}
use Rattle.protocol.specs.Bytes.{byte}
use Rattle.protocol.specs.AddressReading.{hex_value, digits_from, ipv6_of}
use Rattle.proxy_url_spec.specs.Grammar.{Value}

-- ---- readers

-- a field at a text's start: its value and the next place, or the place at which it dies
abbrev pub Read : Type 0 → Type 0
Read A = Result (A × ℕ) ℕ

pattern abbrev pub reads : {A : Type 0} → A → ℕ → Read A
reads v n = Ok (v, n)

pattern abbrev pub dies : {A : Type 0} → ℕ → Read A
dies n = Err n

abbrev pub Reader : Type 0 → Type 0
Reader A = List ℕ → Read A

-- the value changed
abbrev pub mapped : {A B : Type 0} → (A → B) → Read A → Read B
mapped f (reads v n) = reads (f v) n
mapped f (dies n) = dies n

unfoldable pub map : {A B : Type 0} → (A → B) → Reader A → Reader B
map f F s = mapped f (F s)

-- one field and another behind it, which may go by the first one's value: both values, and the place of the second
abbrev pub behind : {A B : Type 0} → A → ℕ → Read B → Read (A × ℕ × B)
behind v n (reads u m) = reads (v, n, u) (n + m)
behind v n (dies m) = dies (n + m)

abbrev pub onward : {A B : Type 0} → Read A → (A → Reader B) → List ℕ → Read (A × ℕ × B)
onward (reads v n) G s = behind v n (G v (drop n s))
onward (dies n) G s = dies n

unfoldable pub seq : {A B : Type 0} → Reader A → (A → Reader B) → Reader (A × ℕ × B)
seq F G s = onward (F s) G s

-- one that does not
abbrev pub always : {A B : Type 0} → Reader B → A → Reader B
always G v = G

-- one field or another: what goes on in either goes on, so it dies where the later of the two does
abbrev pub later : {A : Type 0} → ℕ → Read A → Read A
later n (reads v m) = reads v m
later n (dies m) = dies (max n m)

abbrev pub either : {A : Type 0} → Read A → Read A → Read A
either (reads v n) r = reads v n
either (dies n) r = later n r

unfoldable pub or : {A : Type 0} → Reader A → Reader A → Reader A
or F G s = either (F s) (G s)

-- the length of the longest beginning that a word and a text have in common; a word
unfoldable pub common : List ℕ → List ℕ → ℕ
common [] s = 0
common (a ∷ w) [] = 0
common (a ∷ w) (b ∷ s) = cond (eqb a b) (suc (common w s)) 0

unfoldable pub word : {A : Type 0} → List ℕ → A → Reader A
word w v s = cond (eqb (common w s) (length w)) (reads v (length w)) (dies (common w s))

abbrev pub mark_of : ℕ → Reader (Unit {0})
mark_of m = word (m ∷ []) tt

-- a byte that passes a test
unfoldable pub one : {A : Type 0} → (ℕ → Bool) → (ℕ → A) → Reader A
one test value [] = dies 0
one test value (b ∷ s) = cond (test b) (reads (value b) 1) (dies 0)

-- at most so many of a field, and a mark
abbrev pub consed : ℕ × ℕ × List ℕ → List ℕ
consed t = t.0 ∷ t.2

unfoldable pub many : Reader ℕ → ℕ → ℕ → Reader (List ℕ)
many F mark zero = word (mark ∷ []) []
many F mark (suc k) = or (word (mark ∷ []) []) (map consed (seq F (always (many F mark k))))

-- ---- scheme

-- socks4://
abbrev pub socks4_word : List ℕ
socks4_word = 0x73 ∷ 0x6F ∷ 0x63 ∷ 0x6B ∷ 0x73 ∷ 0x34 ∷ 0x3A ∷ 0x2F ∷ 0x2F ∷ []

-- socks4a://
abbrev pub socks4a_word : List ℕ
socks4a_word = 0x73 ∷ 0x6F ∷ 0x63 ∷ 0x6B ∷ 0x73 ∷ 0x34 ∷ 0x61 ∷ 0x3A ∷ 0x2F ∷ 0x2F ∷ []

-- socks5://
abbrev pub socks5_word : List ℕ
socks5_word = 0x73 ∷ 0x6F ∷ 0x63 ∷ 0x6B ∷ 0x73 ∷ 0x35 ∷ 0x3A ∷ 0x2F ∷ 0x2F ∷ []

-- socks5h://
abbrev pub socks5h_word : List ℕ
socks5h_word = 0x73 ∷ 0x6F ∷ 0x63 ∷ 0x6B ∷ 0x73 ∷ 0x35 ∷ 0x68 ∷ 0x3A ∷ 0x2F ∷ 0x2F ∷ []

unfoldable pub scheme_of : Reader (Version × Bool)
scheme_of = or (word socks4_word (V4, true)) (or (word socks4a_word (V4, false)) (or (word socks5_word (V5, true)) (word socks5h_word (V5, false))))

-- ---- user and password

unfoldable pub unreserved : ℕ → Bool
unreserved b = is_ascii_alphanumeric b || (eqb b 0x2D || (eqb b 0x2E || (eqb b 0x5F || eqb b 0x7E)))

-- the byte itself
abbrev pub itself : ℕ → ℕ
itself b = b

abbrev pub is_hex : ℕ → Bool
is_hex b = ltb (hex_value b) 16

abbrev pub hex_of : Reader ℕ
hex_of = one is_hex hex_value

abbrev pub pair_of : ℕ × ℕ × ℕ → ℕ
pair_of t = t.0 * 16 + t.2

abbrev pub second_of : {A B : Type 0} → A × ℕ × B → B
second_of t = t.2

-- a byte of a credential, as it is or escaped
unfoldable pub escaped_of : Reader ℕ
escaped_of = or (one unreserved itself) (map second_of (seq (mark_of 0x25) (always (map pair_of (seq hex_of (always hex_of))))))

-- a user or a password, and the mark behind it
unfoldable pub credential_of : ℕ → Reader (List ℕ)
credential_of mark = many escaped_of mark 255

-- ---- host

-- an IPv6 text begins so, exactly if one of these endings makes one of it
abbrev pub is_some : Option (List ℕ) → Bool
is_some none = false
is_some (some bs) = true

unfoldable pub ipv6_by : List ℕ → List ℕ → Bool
ipv6_by s e = is_some (ipv6_of (s ++ e))

unfoldable pub ipv6_goes_on : List ℕ → Bool
ipv6_goes_on s =
    ipv6_by s []
    || (ipv6_by s (0x30 ∷ [])
    || (ipv6_by s (0x3A ∷ [])
    || (ipv6_by s (0x3A ∷ 0x3A ∷ [])
    || (ipv6_by s (0x2E ∷ 0x30 ∷ [])
    || (ipv6_by s (0x30 ∷ 0x2E ∷ 0x30 ∷ [])
    || (ipv6_by s (0x2E ∷ 0x30 ∷ 0x2E ∷ 0x30 ∷ [])
    || ipv6_by s (0x30 ∷ 0x2E ∷ 0x30 ∷ 0x2E ∷ 0x30 ∷ [])))))))

-- how many bytes more, at most so many, a beginning takes while it passes a test
unfoldable pub along : (List ℕ → Bool) → ℕ → List ℕ → List ℕ → ℕ
along test zero p s = 0
along test (suc k) p [] = 0
along test (suc k) p (b ∷ s) = cond (test (p ++ (b ∷ []))) (suc (along test k (p ++ (b ∷ [])) s)) 0

-- an IPv6 text and `]`
unfoldable pub ipv6_end : List ℕ → ℕ
ipv6_end s = along ipv6_goes_on 45 [] s

abbrev pub closed_by : ℕ → List ℕ → Read (List ℕ)
closed_by n s = cond (eqb (byte s n) 0x5D && ipv6_by (take n s) []) (reads (take n s) (n + 1)) (dies n)

unfoldable pub ipv6_text_of : Reader (List ℕ)
ipv6_text_of s = closed_by (ipv6_end s) s

-- where in the field the host begins, and the host
pub record Hosted : Type 0 where
  pub at : ℕ
  pub host : List ℕ

abbrev pub bracketed : Unit {0} × ℕ × (List ℕ × ℕ × Unit {0}) → Hosted
bracketed t = record { at = t.1; host = t.2.0 }

unfoldable pub brackets_of : Reader Hosted
brackets_of = map bracketed (seq (mark_of 0x5B) (always (seq ipv6_text_of (always (mark_of 0x3A)))))

unfoldable pub host_byte : ℕ → Bool
host_byte b =
    is_ascii_graphic b
    && (not (eqb b 0x2F) && (not (eqb b 0x40) && (not (eqb b 0x25) && (not (eqb b 0x3A) && (not (eqb b 0x5B) && not (eqb b 0x5D))))))

abbrev pub named : List ℕ → Hosted
named s = record { at = 0; host = s }

unfoldable pub name_of : Reader Hosted
name_of = map named (map consed (seq (one host_byte itself) (always (many (one host_byte itself) 0x3A 254))))

-- a host, and the colon behind it
unfoldable pub host_of : Reader Hosted
host_of = or brackets_of name_of

-- ---- port

-- whether a digit may follow: a decimal one, not after a leading zero, within 65535
unfoldable pub port_goes : ℕ → ℕ → ℕ → Bool
port_goes v n d = cond (ltb d 10) (cond (eqb v 0) (eqb n 0) (ltb (v * 10 + d) 65536)) false

abbrev pub port_by : Digits → ℕ → Read ℕ
port_by r n = cond (eqb r.count n) (cond (eqb r.count 0) (dies 0) (reads r.value r.count)) (dies r.count)

-- up to the text's end
unfoldable pub port_of : Reader ℕ
port_of s = port_by (digits_from port_goes 10 0 0 s) (length s)

-- ---- a line

-- what stands behind the scheme
pub record Rest : Type 0 where
  pub credentials : Option (List ℕ × List ℕ)
  pub host_at : ℕ
  pub host : List ℕ
  pub port : ℕ

abbrev pub plain_rest : Hosted × ℕ × ℕ → Rest
plain_rest t = record { credentials = none; host_at = t.0.at; host = t.0.host; port = t.2 }

-- a host and a port
unfoldable pub plain_of : Reader Rest
plain_of = map plain_rest (seq host_of (always port_of))

abbrev pub credential_rest : List ℕ × ℕ × (List ℕ × ℕ × Rest) → Rest
credential_rest t =
    record {
      credentials = some (t.0, t.2.0);
      host_at = t.1 + (t.2.1 + t.2.2.host_at);
      host = t.2.2.host;
      port = t.2.2.port;
    }

-- user and password, a host and a port
unfoldable pub with_of : Reader Rest
with_of = map credential_rest (seq (credential_of 0x3A) (always (seq (credential_of 0x40) (always plain_of))))

unfoldable pub rest_of : Version → Reader Rest
rest_of V4 = plain_of
rest_of V5 = or plain_of with_of

abbrev pub rest_by : Version × Bool → Reader Rest
rest_by t = rest_of t.0

abbrev pub value_by : (Version × Bool) × ℕ × Rest → Value
value_by t =
    record {
      version = t.0.0;
      local_dns = t.0.1;
      credentials = t.2.credentials;
      host_at = t.1 + t.2.host_at;
      host = t.2.host;
      port = t.2.port;
    }

unfoldable pub line_of : Reader Value
line_of = map value_by (seq scheme_of rest_by)
