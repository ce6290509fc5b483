-- F-9: a line read, way out by way out.
use Prim.Native.Nat.{ℕ, ◌+◌, ◌≤◌}
use native.Mathlib.Omega.{arith}
use mathlib.Core.Path.{◌≡◌, refl, sym, ap, ◌∙◌}
use mathlib.Core.Bool.{Bool}
use mathlib.Core.Option.{Option, none, some}
use mathlib.Core.List.{List}
use lib.ListN.{length, drop, length-drop}
use Rattle.std.specs.Prelude as code
use Rattle.std.specs.Prelude.{Result, Ok, Err, unwrap_or}
use Rattle.protocol.specs.Answers.{Accepted}
use Rattle.protocol.specs.declared.Version.{Version}
use Rattle.buffers.proofs.write.Parts.{part_from}
use Rattle.proxy_url_spec.specs.Reading as R
use Rattle.proxy_url_spec.specs.Reading.{Read, reads, dies, map, seq, or, word, scheme_of, rest_of, line_of}
use Rattle.proxy_url.specs.declared.ProxyLine.{ProxyLine}
use Rattle.proxy_url.specs.declared.credentials.Credential.{Credential}
use Rattle.proxy_url.specs.declared.rests.Authority.{Authority}
use Rattle.proxy_url.specs.Coded.{zeros, is_given, user_of, password_of, credential_coded, credentials_coded, authority_coded, ending}
use Rattle.proxy_url.specs.Calls.{refused_at, accepted_as, read_of}
use Rattle.proxy_url.proofs.Coded.{ending_reads, ending_dies}
use Rattle.proxy_url.proofs.Inside.{Inside, inside_word, inside_or}
use Rattle.proxy_url.proofs.Parts.{from}
use Rattle.proxy_url.proofs.rests.Laws.{inside_rest}

inside_scheme : Inside (λ v. 0) scheme_of
unfolding scheme_of
inside_scheme =
    inside_or (λ v. 0) _ _ (inside_word _ _)
    (inside_or (λ v. 0) _ _ (inside_word _ _) (inside_or (λ v. 0) _ _ (inside_word _ _) (inside_word _ _)))

-- user and password, or two that are empty
abbrev pub none_given : Credential × Credential
none_given = (record { len = 0; bytes = zeros }, record { len = 0; bytes = zeros })

both_are : (c : Option (List ℕ × List ℕ)) → unwrap_or (credentials_coded c) none_given ≡ (credential_coded (user_of c), credential_coded (password_of c))
both_are none = refl
both_are (some c) = refl

some_are : (c : Option (List ℕ × List ℕ)) → code.is_some (credentials_coded c) ≡ is_given c
some_are none = refl
some_are (some c) = refl

module _ (line : List ℕ) where
  pub scheme_dies : {n : ℕ} → scheme_of line ≡ dies n → refused_at n ≡ read_of line
  unfolding read_of line_of map seq
  scheme_dies e = rw e

  module _ {version : Version} {dns : Bool} {at : ℕ} (e : scheme_of line ≡ reads (version, dns) at) where
    pub scheme_inside : at ≤ length line
    scheme_inside = (rw e at (inside_scheme line)).1

    module _ {n : ℕ} (d : ending authority_coded (rest_of version (from line at)) ≡ Err n) where
      rest_stuck : rest_of version (drop at line) ≡ dies n
      rest_stuck = ending_dies authority_coded (rest_of version (drop at line)) (rw (part_from line at) at d)

      pub rest_inside : at + n ≤ length line
      rest_inside =
          let i = scheme_inside in
          let l = length-drop at line in
          let b : n ≤ length (drop at line) = rw rest_stuck at (inside_rest version (drop at line)) in
          omega arith

      pub rest_dies : refused_at (at + n) ≡ read_of line
      unfolding read_of line_of map seq
      rest_dies = rw (e, rest_stuck)

    module _ {r : Authority} (d : ending authority_coded (rest_of version (from line at)) ≡ Ok r) where
      pub host_inside : at + r.endpoint.host.at ≤ length line
      host_inside =
          let i = scheme_inside in
          let l = length-drop at line in
          let (v, m, q, k) = ending_reads authority_coded (rest_of version (drop at line)) (rw (part_from line at) at d) in
          let (a, b) = rw q at (inside_rest version (drop at line)) in
          rw (← k) (omega arith)

      pub line_whole : {both : Credential × Credential} {given : Bool} → both ≡ unwrap_or r.credentials none_given → given ≡ code.is_some r.credentials
          → ◌≡◌ {A = ProxyLine}
          (record { answer = Accepted; place = 0; version = version; local_dns = dns; proxy_auth = given; user = both.0.bytes; user_len = both.0.len; password = both.1.bytes; password_len = both.1.len; host_at = at + r.endpoint.host.at; host_len = r.endpoint.host.len; port = r.endpoint.port })
          (read_of line)
      unfolding read_of line_of map seq
      line_whole {both} {given} b g = go (ending_reads authority_coded (rest_of version (drop at line)) (rw (part_from line at) at d))
        where
          go : (v : R.Rest) × (m : ℕ) × (rest_of version (drop at line) ≡ reads v m) × (authority_coded v ≡ r)
              → ◌≡◌ {A = ProxyLine}
              (record { answer = Accepted; place = 0; version = version; local_dns = dns; proxy_auth = given; user = both.0.bytes; user_len = both.0.len; password = both.1.bytes; password_len = both.1.len; host_at = at + r.endpoint.host.at; host_len = r.endpoint.host.len; port = r.endpoint.port })
              (read_of line)
          go (v, m, q, k) =
              let two : both ≡ (credential_coded (user_of v.credentials), credential_coded (password_of v.credentials)) = b ∙ ap (λ (a : Authority). unwrap_or a.credentials none_given) (sym k) ∙ both_are v.credentials in
              let told : given ≡ is_given v.credentials = g ∙ ap (λ (a : Authority). code.is_some a.credentials) (sym k) ∙ some_are v.credentials in
              let l : ◌≡◌ {A = ProxyLine}
              (record { answer = Accepted; place = 0; version = version; local_dns = dns; proxy_auth = given; user = both.0.bytes; user_len = both.0.len; password = both.1.bytes; password_len = both.1.len; host_at = at + r.endpoint.host.at; host_len = r.endpoint.host.len; port = r.endpoint.port })
              (accepted_as (record { version = version; local_dns = dns; credentials = v.credentials; host_at = at + v.host_at; host = v.host; port = v.port }))
              = λ i. record { answer = Accepted; place = 0; version = version; local_dns = dns; proxy_auth = told i; user = (two i).0.bytes; user_len = (two i).0.len; password = (two i).1.bytes; password_len = (two i).1.len; host_at = at + (sym k i).endpoint.host.at; host_len = (sym k i).endpoint.host.len; port = (sym k i).endpoint.port } in
              l ∙ rw (e, q)
