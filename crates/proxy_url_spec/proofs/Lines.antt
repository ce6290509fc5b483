-- F-9: a line is read as the grammar has it.
use Prim.Native.Nat.{ℕ, ◌+◌, ◌<◌}
use native.Mathlib.Omega.{arith}
use mathlib.Core.Path.{◌≡◌, refl, sym, ap, ◌∙◌}
use mathlib.Core.Bool.{Bool}
use mathlib.Core.Option.{none, some}
use mathlib.Core.List.{List, [], ◌∷◌, ◌++◌, append_assoc, append-nil}
use lib.ListN.{length, length-append}
use lib.Seq.{get_or-append_seam}
use Rattle.protocol.specs.declared.Version.{Version}
use Rattle.protocol.specs.declared.Version.TheVariants.{V4, V5}
use Rattle.protocol.specs.AddressText.{Decimal, digit, upper, lower}
use Rattle.proxy_url_spec.proofs.Ipv6Extent.{All, all_append, all_at, Byte, hex, colon, dot, ipv6_bytes}
use Rattle.proxy_url_spec.specs.Grammar as G
use Rattle.proxy_url_spec.specs.Grammar.{Scheme, Credential, HostBytes, Host, ipv6, bytes, Port, Value, Line, without_credentials, with_credentials}
use Rattle.proxy_url_spec.specs.Reading.{seq, always, Rest, plain_rest, host_of, port_of, plain_of, credential_of, credential_rest, with_of, rest_of, rest_by, value_by, scheme_of, line_of, unreserved, host_byte}
use Rattle.proxy_url_spec.proofs.Readers as R
use Rattle.proxy_url_spec.proofs.Readers.{Any, Nothing, Inhabited, Law, law_as, Image, law_map, Joined, some_joined, law_seq, Or, Apart, law_or}
use Rattle.proxy_url_spec.proofs.Fields.{Then}
use Rattle.proxy_url_spec.proofs.Schemes.{SchemeWord, law_scheme}
use Rattle.proxy_url_spec.proofs.Credentials.{CredentialWord, law_credential}
use Rattle.proxy_url_spec.proofs.Hosts.{host_byte_is, HostWord, law_host}
use Rattle.proxy_url_spec.proofs.Ports.{law_port}

-- ---- a host and a port

pub record PlainWord (w : List ℕ) (r : Rest) : Type 0 where
  pub h : List ℕ
  pub p : List ℕ
  pub spelt : w ≡ h ++ (0x3A ∷ p)
  pub host : Host h r.host_at r.host
  pub port : Port p r.port
  pub without : r.credentials ≡ none

abbrev PlainImage : List ℕ → Rest → Type 0
PlainImage = Image plain_rest (Joined HostWord (Then Port))

zero_port : Port (0x30 ∷ []) 0
zero_port = G.one {a = 0x30} {d = 0} (record { small = omega arith; is = refl })

port_some : Inhabited Port
port_some = record { w = 0x30 ∷ []; v = 0; word = zero_port }

law_plain_by : Law Nothing PlainImage plain_of
unfolding plain_of
law_plain_by =
    law_map plain_rest Nothing (Joined HostWord (Then Port)) (seq host_of (always port_of))
    (law_seq Nothing HostWord host_of (Then Port) (always port_of) law_host (λ v. law_port) (λ v. port_some))

plain_of_lem : (w : List ℕ) (r : Rest) → PlainImage w r → PlainWord w r
plain_of_lem w r x =
    let j = x.word in
    let f = j.first in
    record {
      h = f.s;
      p = j.b;
      spelt = j.split ∙ rw (f.spelt, append_assoc f.s (0x3A ∷ []) j.b);
      host = rw x.is f.is;
      port = rw x.is j.second;
      without = rw x.is;
    }

of_plain : (w : List ℕ) (r : Rest) → PlainWord w r → PlainImage w r
of_plain w r x =
    let e = x.without in
    record {
      value = (record { at = r.host_at; host = r.host }, length (x.h ++ (0x3A ∷ [])), r.port);
      word =
          record {
            a = x.h ++ (0x3A ∷ []);
            b = x.p;
            split = x.spelt ∙ sym (append_assoc x.h (0x3A ∷ []) x.p);
            long = refl;
            first = record { s = x.h; spelt = refl; is = x.host };
            second = x.port;
          };
      is = λ i. record { credentials = e i; host_at = r.host_at; host = r.host; port = r.port };
    }

pub law_plain : Law Nothing PlainWord plain_of
law_plain = law_as plain_of_lem of_plain law_plain_by

plain_some : Inhabited PlainWord
unfolding host_byte
plain_some =
    record {
      w = 0x61 ∷ 0x3A ∷ 0x30 ∷ [];
      v = record { credentials = none; host_at = 0; host = 0x61 ∷ []; port = 0 };
      word =
          record {
            h = 0x61 ∷ [];
            p = 0x30 ∷ [];
            spelt = refl;
            host = bytes (G.last (host_byte_is 0x61 refl)) (omega arith);
            port = zero_port;
            without = refl;
          };
    }

-- ---- user and password before them

pub record WithWord (w : List ℕ) (r : Rest) : Type 0 where
  pub u : List ℕ
  pub y : List ℕ
  pub h : List ℕ
  pub p : List ℕ
  pub user : List ℕ
  pub password : List ℕ
  pub at : ℕ
  pub spelt : w ≡ u ++ (0x3A ∷ (y ++ (0x40 ∷ (h ++ (0x3A ∷ p)))))
  pub user_is : Credential u user
  pub password_is : Credential y password
  pub host : Host h at r.host
  pub port : Port p r.port
  pub given : r.credentials ≡ some (user, password)
  pub place : r.host_at ≡ length u + 1 + (length y + 1 + at)

abbrev User : List ℕ → List ℕ → Type 0
User = CredentialWord 0x3A

abbrev Password : List ℕ → List ℕ → Type 0
Password = CredentialWord 0x40

abbrev Behind : List ℕ → List ℕ × ℕ × Rest → Type 0
Behind = Joined Password (Then PlainWord)

abbrev WithImage : List ℕ → Rest → Type 0
WithImage = Image credential_rest (Joined User (Then Behind))

password_some : Inhabited Password
password_some = record { w = 0x40 ∷ []; v = []; word = record { s = []; spelt = refl; is = record { escaped = G.end; few = omega arith } } }

behind_some : Inhabited Behind
behind_some = some_joined password_some (λ v. plain_some)

law_user : Law Any User (credential_of 0x3A)
unfolding unreserved
law_user = law_credential 0x3A refl (λ e. omega arith)

law_password : Law Any Password (credential_of 0x40)
unfolding unreserved
law_password = law_credential 0x40 refl (λ e. omega arith)

law_with_by : Law Nothing WithImage with_of
unfolding with_of
law_with_by =
    law_map credential_rest Nothing (Joined User (Then Behind)) (seq (credential_of 0x3A) (always (seq (credential_of 0x40) (always plain_of))))
    (law_seq Nothing User (credential_of 0x3A) (Then Behind) (always (seq (credential_of 0x40) (always plain_of))) law_user
    (λ v. law_seq Nothing Password (credential_of 0x40) (Then PlainWord) (always plain_of) law_password (λ u. law_plain) (λ u. plain_some))
    (λ v. behind_some))

with_of_lem : (w : List ℕ) (r : Rest) → WithImage w r → WithWord w r
with_of_lem w r x =
    let j = x.word in
    let k = j.second in
    let l = k.second in
    let f = j.first in
    let g = k.first in
    let q = x.is in
    let n : x.value.1 ≡ length f.s + 1 = j.long ∙ ap length f.spelt ∙ length-append f.s (0x3A ∷ []) in
    let m : x.value.2.1 ≡ length g.s + 1 = k.long ∙ ap length g.spelt ∙ length-append g.s (0x40 ∷ []) in
    let place : r.host_at ≡ x.value.1 + (x.value.2.1 + x.value.2.2.host_at) = ap (λ (z : Rest). z.host_at) q in
    record {
      u = f.s;
      y = g.s;
      h = l.h;
      p = l.p;
      user = x.value.0;
      password = x.value.2.0;
      at = x.value.2.2.host_at;
      spelt =
          j.split
          ∙ rw (f.spelt, append_assoc f.s (0x3A ∷ []) j.b, k.split, g.spelt, append_assoc g.s (0x40 ∷ []) k.b, l.spelt);
      user_is = f.is;
      password_is = g.is;
      host = rw q l.host;
      port = rw q l.port;
      given = ap (λ (z : Rest). z.credentials) q;
      place = omega arith;
    }

of_with : (w : List ℕ) (r : Rest) → WithWord w r → WithImage w r
of_with w r x =
    let e = x.given in
    let n = length-append x.u (0x3A ∷ []) in
    let m = length-append x.y (0x40 ∷ []) in
    let o = x.place in
    let f : r.host_at ≡ length (x.u ++ (0x3A ∷ [])) + (length (x.y ++ (0x40 ∷ [])) + x.at) = omega arith in
    record {
      value = (x.user, length (x.u ++ (0x3A ∷ [])), (x.password, length (x.y ++ (0x40 ∷ [])), record { credentials = none; host_at = x.at; host = r.host; port = r.port }));
      word =
          record {
            a = x.u ++ (0x3A ∷ []);
            b = x.y ++ (0x40 ∷ (x.h ++ (0x3A ∷ x.p)));
            split = x.spelt ∙ sym (append_assoc x.u (0x3A ∷ []) (x.y ++ (0x40 ∷ (x.h ++ (0x3A ∷ x.p)))));
            long = refl;
            first = record { s = x.u; spelt = refl; is = x.user_is };
            second =
                record {
                  a = x.y ++ (0x40 ∷ []);
                  b = x.h ++ (0x3A ∷ x.p);
                  split = sym (append_assoc x.y (0x40 ∷ []) (x.h ++ (0x3A ∷ x.p)));
                  long = refl;
                  first = record { s = x.y; spelt = refl; is = x.password_is };
                  second = record { h = x.h; p = x.p; spelt = refl; host = x.host; port = x.port; without = refl };
                };
          };
      is = λ i. record { credentials = e i; host_at = f i; host = r.host; port = r.port };
    }

pub law_with : Law Nothing WithWord with_of
law_with = law_as with_of_lem of_with law_with_by

-- ---- no text is both: one has an `@`, the other none

abbrev NotAt : ℕ → Type 0
NotAt b = b ≡ 0x40 → ⊥

all_map : (P Q : ℕ → Type 0) → ((b : ℕ) → P b → Q b) → (s : List ℕ) → All P s → All Q s
all_map P Q f [] x = tt
all_map P Q f (b ∷ s) x = (f b x.0, all_map P Q f s x.1)

decimal_not_at : {b d : ℕ} → Decimal b d → NotAt b
decimal_not_at x e = let s = x.small in let f = x.is in absurd (omega arith)

text_not_at : (b : ℕ) → Byte b → NotAt b
text_not_at b (hex (digit x)) = decimal_not_at x
text_not_at b (hex (upper l h f)) = λ e. absurd (omega arith)
text_not_at b (hex (lower l h f)) = λ e. absurd (omega arith)
text_not_at b colon = λ e. absurd (omega arith)
text_not_at b dot = λ e. absurd (omega arith)

port_not_at : {p : List ℕ} {v : ℕ} → Port p v → All NotAt p
port_not_at (G.one x) = (decimal_not_at x, tt)
port_not_at (G.more {p} {v} {a} n l x m) = all_append NotAt p (a ∷ []) (port_not_at n) (decimal_not_at x, tt)

bytes_not_at : {s : List ℕ} → HostBytes s → All NotAt s
bytes_not_at (G.last h) = (h.no_at, tt)
bytes_not_at (G.next h r) = (h.no_at, bytes_not_at r)

host_not_at : {s host : List ℕ} {at : ℕ} → Host s at host → All NotAt s
host_not_at (ipv6 {s} {bs} x) =
    ((λ e. omega arith), all_append NotAt s (0x5D ∷ []) (all_map Byte NotAt text_not_at s (ipv6_bytes s bs x)) ((λ e. omega arith), tt))
host_not_at (bytes h l) = bytes_not_at h

plain_or_with : Apart Nothing PlainWord WithWord
plain_or_with w t v a o x r u b q e =
    let n = all_append NotAt a.h (0x3A ∷ a.p) (host_not_at a.host) ((λ e. omega arith), port_not_at a.port) in
    let same : a.h ++ (0x3A ∷ a.p) ≡ x = sym a.spelt ∙ sym (append-nil w) ∙ rw (← o) (e ∙ rw (q, append-nil x)) in
    let pre = b.u ++ (0x3A ∷ b.y) in
    let post = b.h ++ (0x3A ∷ b.p) in
    let f : a.h ++ (0x3A ∷ a.p) ≡ pre ++ (0x40 ∷ post) = same ∙ b.spelt ∙ sym (append_assoc b.u (0x3A ∷ b.y) (0x40 ∷ post)) in
    let m : All NotAt (pre ++ (0x40 ∷ post)) = rw f at n in
    let l : length pre < length (pre ++ (0x40 ∷ post)) = rw (length-append pre (0x40 ∷ post)) (omega arith) in
    all_at NotAt (pre ++ (0x40 ∷ post)) (length pre) m l (get_or-append_seam pre 0x40 post 0)

-- ---- what a version lets stand behind the scheme

abbrev pub RestWord : Version → List ℕ → Rest → Type 0
RestWord V4 = PlainWord
RestWord V5 = Or PlainWord WithWord

law_rest : (v : Version) → Law Nothing (RestWord v) (rest_of v)
unfolding rest_of
law_rest V4 = law_plain
law_rest V5 = law_or Nothing PlainWord WithWord plain_of with_of law_plain law_with plain_or_with

plain_rest_lem : (v : Version) {w : List ℕ} {r : Rest} → PlainWord w r → RestWord v w r
plain_rest_lem V4 x = x
plain_rest_lem V5 x = R.one x

rest_some : (v : Version) → Inhabited (RestWord v)
rest_some v = record { w = plain_some.w; v = plain_some.v; word = plain_rest_lem v plain_some.word }

-- ---- a line

abbrev RestBy : Version × Bool → List ℕ → Rest → Type 0
RestBy t = RestWord t.0

abbrev LineImage : List ℕ → Value → Type 0
LineImage = Image value_by (Joined SchemeWord RestBy)

law_line_by : Law Nothing LineImage line_of
unfolding line_of
law_line_by =
    law_map value_by Nothing (Joined SchemeWord RestBy) (seq scheme_of rest_by)
    (law_seq Nothing SchemeWord scheme_of RestBy rest_by law_scheme (λ t. law_rest t.0) (λ t. rest_some t.0))

plain_line : {a b : List ℕ} {v : Version} {dns : Bool} {n : ℕ} {r : Rest} → Scheme a v dns → n ≡ length a → PlainWord b r → Line (a ++ b) (value_by ((v, dns), n, r))
plain_line {a} {b} {v} {dns} {n} {r} s e x = rw (x.spelt, x.without, e) (without_credentials s x.host x.port)

with_line : {a b : List ℕ} {dns : Bool} {n : ℕ} {r : Rest} → Scheme a V5 dns → n ≡ length a → WithWord b r → Line (a ++ b) (value_by ((V5, dns), n, r))
with_line {a} {b} {dns} {n} {r} s e x = rw (x.spelt, x.given, x.place, e) (with_credentials s x.user_is x.password_is x.host x.port)

rest_line : (v : Version) (b : List ℕ) (r : Rest) {a : List ℕ} {dns : Bool} {n : ℕ} → Scheme a v dns → n ≡ length a → RestWord v b r → Line (a ++ b) (value_by ((v, dns), n, r))
rest_line V4 b r s e x = plain_line s e x
rest_line V5 b r s e (R.one x) = plain_line s e x
rest_line V5 b r s e (R.other x) = with_line s e x

line_of_lem : (w : List ℕ) (v : Value) → LineImage w v → Line w v
line_of_lem w v x = let j = x.word in rw (j.split, x.is) (rest_line x.value.0.0 j.b x.value.2 j.first j.long j.second)

of_line : {w : List ℕ} {v : Value} → Line w v → LineImage w v
of_line (without_credentials {a} {h} {p} {host} {v} {dns} {at} {port} s x y) =
    record {
      value = ((v, dns), length a, record { credentials = none; host_at = at; host = host; port = port });
      word =
          record {
            a = a;
            b = h ++ (0x3A ∷ p);
            split = refl;
            long = refl;
            first = s;
            second = plain_rest_lem v (record { h = h; p = p; spelt = refl; host = x; port = y; without = refl });
          };
      is = refl;
    }
of_line (with_credentials {a} {u} {w} {h} {p} {user} {password} {host} {dns} {at} {port} s x y z q) =
    record {
      value = ((V5, dns), length a, record { credentials = some (user, password); host_at = length u + 1 + (length w + 1 + at); host = host; port = port });
      word =
          record {
            a = a;
            b = u ++ (0x3A ∷ (w ++ (0x40 ∷ (h ++ (0x3A ∷ p)))));
            split = refl;
            long = refl;
            first = s;
            second =
                R.other (record { u = u; y = w; h = h; p = p; user = user; password = password; at = at; spelt = refl; user_is = x; password_is = y; host = z; port = q; given = refl; place = refl });
          };
      is = refl;
    }

pub law_line : Law Nothing Line line_of
law_line = law_as line_of_lem (λ w v x. of_line x) law_line_by
