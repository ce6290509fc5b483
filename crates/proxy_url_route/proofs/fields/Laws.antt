-- F-9: what is read of a line has room in its fields, and what is written there.
use Prim.Native.Nat.{ℕ, ◌+◌, ◌-◌, ◌≤◌}
use native.Mathlib.Omega.{arith}
use mathlib.Core.Path.{◌≡◌, refl, sym, ap, subst, ◌∙◌}
use mathlib.Core.List.{List}
use lib.ListN.{length, drop, length-append, length-take, length-replicate}
use lib.Seq.{length-take-le}
use Rattle.protocol.specs.Bytes.{padded}
use Rattle.proxy_url_spec.proofs.Ipv6Extent.{ipv6_long}
use Rattle.buffers.specs.write.Written.{overwrite, Wrote}
use Rattle.buffers.proofs.write.Laws.{length_overwrite}
use Rattle.proxy_url_spec.specs.Grammar.{Host, ipv6, bytes, Value, Line, without_credentials, with_credentials}
use Rattle.proxy_url_spec.specs.Reading.{Read, reads, dies, line_of}
use Rattle.proxy_url_spec.proofs.Places.{line_sound}
use Rattle.proxy_url.specs.declared.ProxyLine.{ProxyLine}
use Rattle.proxy_url.specs.Coded.{user_of, password_of}
use Rattle.proxy_url.specs.Calls.{accepted_as, line_coded, read_of}
use Rattle.proxy_url_route.specs.Calls.{host_in, user_in, password_in, fields_written, line_written}

-- ---- the bounds of what a line stands for

pub host_few : {s host : List ℕ} {at : ℕ} → Host s at host → length host ≤ 255
host_few (ipv6 {s} {bs} x) = omega (arith, ipv6_long s bs x)
host_few (bytes x l) = l

pub record Few (v : Value) : Type 0 where
  pub host : length v.host ≤ 255
  pub user : length (user_of v.credentials) ≤ 255
  pub password : length (password_of v.credentials) ≤ 255

pub few : {s : List ℕ} {v : Value} → Line s v → Few v
few (without_credentials s x y) = record { host = host_few x; user = omega arith; password = omega arith }
few (with_credentials s u w x y) = record { host = host_few x; user = u.few; password = w.few }

-- ---- and of what is read of it

pub record Sized (r : ProxyLine) : Type 0 where
  pub host : r.host_len ≤ 255
  pub user : r.user_len ≤ 255
  pub user_long : length r.user ≡ 255
  pub password : r.password_len ≤ 255
  pub password_long : length r.password ≡ 255

length_padded : (bs : List ℕ) → length bs ≤ 255 → length (padded 255 bs) ≡ 255
length_padded bs h = simp (length-append, length-replicate) (omega arith)

sized_accepted : {s : List ℕ} {v : Value} → Line s v → Sized (accepted_as v)
sized_accepted {s} {v} x =
    let f = few x in
    record {
      host = f.host;
      user = f.user;
      user_long = length_padded (user_of v.credentials) f.user;
      password = f.password;
      password_long = length_padded (password_of v.credentials) f.password;
    }

pub sized : (line : List ℕ) → Sized (read_of line)
unfolding read_of
sized line = go (line_of line) refl
  where
    go : (r : Read Value) → line_of line ≡ r → Sized (line_coded r)
    go (reads v n) e = sized_accepted (line_sound line v n e)
    go (dies n) e =
        record {
          host = omega arith;
          user = omega arith;
          user_long = length-replicate {A = ℕ} 255 0;
          password = omega arith;
          password_long = length-replicate {A = ℕ} 255 0;
        }

module _ (line : List ℕ) (r : ProxyLine) (is : r ≡ read_of line) where
  sizes : Sized r
  sizes = subst (λ (x : ProxyLine). Sized x) (sym is) (sized line)

  pub user_inside : r.user_len ≤ length r.user
  user_inside = omega (arith, sizes.user, sizes.user_long)

  pub password_inside : r.password_len ≤ length r.password
  password_inside = omega (arith, sizes.password, sizes.password_long)

  pub user_size : r.user_len ≡ length (user_in r)
  user_size = sym (length-take-le _ _ user_inside)

  pub password_size : r.password_len ≡ length (password_in r)
  password_size = sym (length-take-le _ _ password_inside)

  pub rooms : (host : List ℕ) → host ≡ host_in line r → (length host ≤ 255) × ((length (user_in r) ≤ 255) × (length (password_in r) ≤ 255))
  rooms host e = (
    omega (arith, ap length e ∙ length-take r.host_len (drop r.host_at line), sizes.host),
    (
      omega (arith, user_size, sizes.user),
      omega (arith, password_size, sizes.password),
    ),
  )

  pub written_line : (at : ℕ) (host buffer out : List ℕ) → host ≡ host_in line r
      → out ≡ fields_written at host (user_in r) (password_in r) buffer → out ≡ line_written at line buffer
  unfolding line_written
  written_line at host buffer out e w = w ∙ rw (e, is)

-- ---- three writes

pub written_fields : {o o₁ o₂ o₃ host user password : List ℕ} {at n₁ n₂ n₃ : ℕ} → Wrote o at host n₁ o₁ → Wrote o₁ (at + 255) user n₂ o₂ → Wrote o₂ (at + 510) password n₃ o₃
    → o₃ ≡ fields_written at host user password o
written_fields a b c = c.bytes ∙ rw (b.bytes, a.bytes)

pub length_fields : (at : ℕ) (host user password buffer : List ℕ) → at + 765 ≤ length buffer → length host ≤ 255 → length user ≤ 255 → length password ≤ 255
    → length (fields_written at host user password buffer) ≡ length buffer
length_fields at host user password buffer h a b c =
    let o₁ : List ℕ = overwrite buffer at host in
    let e₁ : length o₁ ≡ length buffer = length_overwrite buffer at host (omega arith) in
    let o₂ : List ℕ = overwrite o₁ (at + 255) user in
    let e₂ : length o₂ ≡ length o₁ = length_overwrite o₁ (at + 255) user (omega arith) in
    length_overwrite o₂ (at + 510) password (omega arith) ∙ e₂ ∙ e₁

pub length_line : (at : ℕ) (line buffer : List ℕ) → at + 765 ≤ length buffer → length (line_written at line buffer) ≡ length buffer
unfolding line_written
length_line at line buffer h =
    let (a, (b, c)) = rooms line (read_of line) refl (host_in line (read_of line)) refl in
    length_fields at _ _ _ buffer h a b c
