-- F-9: what stands behind the scheme, way out by way out.
use Prim.Native.Nat.{ℕ, ◌+◌, ◌≤◌, max}
use native.Mathlib.Omega.{arith}
use mathlib.Core.Path.{◌≡◌, refl, sym, ◌∙◌}
use mathlib.Core.List.{List}
use lib.ListN.{length, drop, length-drop}
use Rattle.std.specs.Prelude.{Result, Ok, Err, Some, None}
use Rattle.protocol.specs.declared.Version.{Version}
use Rattle.protocol.specs.declared.Version.TheVariants.{V4, V5}
use Rattle.buffers.proofs.write.Parts.{part_from}
use Rattle.proxy_url_spec.specs.Reading as R
use Rattle.proxy_url_spec.specs.Reading.{Read, reads, dies, Hosted, mapped, map, seq, always, or, host_of, port_of, credential_of, plain_rest, plain_of, credential_rest, with_of, rest_of}
use Rattle.proxy_url.specs.declared.credentials.Credential.{Credential}
use Rattle.proxy_url.specs.declared.endpoints.Endpoint.{Endpoint}
use Rattle.proxy_url.specs.declared.rests.Authority.{Authority}
use Rattle.proxy_url.specs.Coded.{credential_coded, endpoint_coded, authority_coded, ending}
use Rattle.proxy_url.proofs.Coded.{mapped_reads, mapped_dies, ending_reads, ending_dies}
use Rattle.proxy_url.proofs.Inside.{Inside, inside_or, inside_map, inside_seq}
use Rattle.proxy_url.proofs.Parts.{from}
use Rattle.proxy_url.proofs.credentials.Laws.{inside_credential}
use Rattle.proxy_url.proofs.endpoints.Laws.{inside_plain}

-- ---- user and password, a host and a port

module _ (s : List ℕ) where
  pub user_dies : {n : ℕ} → ◌≡◌ {A = Read Credential} (mapped credential_coded (credential_of 0x3A s)) (dies n) → ◌≡◌ {A = Result Authority ℕ} (Err n) (ending authority_coded (with_of s))
  unfolding with_of map seq
  user_dies e = rw (mapped_dies credential_coded (credential_of 0x3A s) e)

  module _ {u : Credential} {at : ℕ} (e : ◌≡◌ {A = Read Credential} (mapped credential_coded (credential_of 0x3A s)) (reads u at)) where
    pub user_inside : at ≤ length s
    user_inside = let (v, q, k) = mapped_reads credential_coded (credential_of 0x3A s) e in (rw q at (inside_credential 0x3A s)).1

    module _ {n : ℕ} (d : ◌≡◌ {A = Read Credential} (mapped credential_coded (credential_of 0x40 (from s at))) (dies n)) where
      password_stuck : credential_of 0x40 (drop at s) ≡ dies n
      password_stuck = mapped_dies credential_coded (credential_of 0x40 (drop at s)) (rw (part_from s at) at d)

      pub password_inside : at + n ≤ length s
      password_inside =
          let i = user_inside in
          let l = length-drop at s in
          let b : n ≤ length (drop at s) = rw password_stuck at (inside_credential 0x40 (drop at s)) in
          omega arith

      pub password_dies : ◌≡◌ {A = Result Authority ℕ} (Err (at + n)) (ending authority_coded (with_of s))
      unfolding with_of map seq
      password_dies = let (v, q, k) = mapped_reads credential_coded (credential_of 0x3A s) e in rw (q, password_stuck)

    module _ {w : Credential} {n : ℕ} (d : ◌≡◌ {A = Read Credential} (mapped credential_coded (credential_of 0x40 (from s at))) (reads w n)) where
      password_read : (v : List ℕ) × (credential_of 0x40 (drop at s) ≡ reads v n) × (credential_coded v ≡ w)
      password_read = mapped_reads credential_coded (credential_of 0x40 (drop at s)) (rw (part_from s at) at d)

      pub behind_inside : n ≤ length (from s at)
      behind_inside = rw (part_from s at) (let (v, q, k) = password_read in (rw q at (inside_credential 0x40 (drop at s))).1)

      behind_long : (n ≤ length (drop at s)) × (at + length (drop at s) ≡ length s)
      behind_long =
          let i = user_inside in
          let l = length-drop at s in
          let (v, q, k) = password_read in
          ((rw q at (inside_credential 0x40 (drop at s))).1, omega arith)

      module _ {m : ℕ} (t : ending endpoint_coded (plain_of (from (from s at) n)) ≡ Err m) where
        endpoint_stuck : plain_of (drop n (drop at s)) ≡ dies m
        endpoint_stuck = ending_dies endpoint_coded (plain_of (drop n (drop at s))) (rw (part_from s at, part_from (drop at s) n) at t)

        pub endpoint_inside : at + (n + m) ≤ length s
        endpoint_inside =
            let (i, o) = behind_long in
            let l = length-drop n (drop at s) in
            let b : m ≤ length (drop n (drop at s)) = rw endpoint_stuck at (inside_plain (drop n (drop at s))) in
            omega arith

        pub endpoint_dies : ◌≡◌ {A = Result Authority ℕ} (Err (at + (n + m))) (ending authority_coded (with_of s))
        unfolding with_of map seq
        endpoint_dies =
            let (v, q, k) = mapped_reads credential_coded (credential_of 0x3A s) e in
            let (x, p, j) = password_read in
            rw (q, p, endpoint_stuck)

      module _ {r : Endpoint} (t : ending endpoint_coded (plain_of (from (from s at) n)) ≡ Ok r) where
        pub host_inside : at + (n + r.host.at) ≤ length s
        host_inside =
            let (i, o) = behind_long in
            let l = length-drop n (drop at s) in
            let (v, m, q, k) = ending_reads endpoint_coded (plain_of (drop n (drop at s))) (rw (part_from s at, part_from (drop at s) n) at t) in
            let (a, b) = rw q at (inside_plain (drop n (drop at s))) in
            rw (← k) (omega arith)

        pub with_whole : ◌≡◌ {A = Result Authority ℕ} (Ok (record { credentials = Some (u, w); endpoint = record { host = record { at = at + (n + r.host.at); len = r.host.len }; port = r.port } })) (ending authority_coded (with_of s))
        unfolding with_of map seq
        with_whole =
            go (mapped_reads credential_coded (credential_of 0x3A s) e) password_read
            (ending_reads endpoint_coded (plain_of (drop n (drop at s))) (rw (part_from s at, part_from (drop at s) n) at t))
          where
            go : (v : List ℕ) × (credential_of 0x3A s ≡ reads v at) × (credential_coded v ≡ u) → (x : List ℕ) × (credential_of 0x40 (drop at s) ≡ reads x n) × (credential_coded x ≡ w)
                → (y : R.Rest) × (m : ℕ) × (plain_of (drop n (drop at s)) ≡ reads y m) × (endpoint_coded y ≡ r)
                → ◌≡◌ {A = Result Authority ℕ} (Ok (record { credentials = Some (u, w); endpoint = record { host = record { at = at + (n + r.host.at); len = r.host.len }; port = r.port } })) (ending authority_coded (with_of s))
            go (v, q, k) (x, p, j) (y, m, z, o) =
                let l : ◌≡◌ {A = Result Authority ℕ}
                (Ok (record { credentials = Some (u, w); endpoint = record { host = record { at = at + (n + r.host.at); len = r.host.len }; port = r.port } }))
                (Ok (record { credentials = Some (credential_coded v, credential_coded x); endpoint = record { host = record { at = at + (n + y.host_at); len = length y.host }; port = y.port } }))
                = λ i. Ok (record { credentials = Some (sym k i, sym j i); endpoint = record { host = record { at = at + (n + (sym o i).host.at); len = (sym o i).host.len }; port = (sym o i).port } }) in
                l ∙ rw (q, p, z)

-- ---- by the version

-- a text dies where the later of two readers does
abbrev pub later : {A : Type 0} → ℕ → Result A ℕ → Result A ℕ
later n (Ok v) = Ok v
later n (Err m) = Err (max n m)

pub later_whole : {A : Type 0} (n : ℕ) (r : Result A ℕ) → ((m : ℕ) → r ≡ Err m → ⊥) → later n r ≡ r
later_whole n (Ok v) f = refl
later_whole n (Err m) f = absurd (f m refl)

module _ (s : List ℕ) where
  plain_authority : {r : Endpoint} → ending endpoint_coded (plain_of s) ≡ Ok r → ◌≡◌ {A = Result Authority ℕ} (Ok (record { credentials = None; endpoint = r })) (ending authority_coded (plain_of s))
  unfolding plain_of map
  plain_authority {r} e = go (seq host_of (always port_of) s) e
    where
      go : (x : Read (Hosted × ℕ × ℕ)) → ending endpoint_coded (mapped plain_rest x) ≡ Ok r → ◌≡◌ {A = Result Authority ℕ} (Ok (record { credentials = None; endpoint = r })) (ending authority_coded (mapped plain_rest x))
      go (reads v n) e = let z : endpoint_coded (plain_rest v) ≡ r = cc in rw (← z)
      go (dies n) e = let z : ◌≡◌ {A = ℕ} 0 1 = cc in absurd (omega arith)

  pub plain_whole : (version : Version) {r : Endpoint} → ending endpoint_coded (plain_of s) ≡ Ok r → ◌≡◌ {A = Result Authority ℕ} (Ok (record { credentials = None; endpoint = r })) (ending authority_coded (rest_of version s))
  unfolding rest_of or
  plain_whole V4 e = plain_authority e
  plain_whole V5 e = let (v, n, q, k) = ending_reads endpoint_coded (plain_of s) e in plain_authority e ∙ rw q

  pub plain_dies : {version : Version} {n : ℕ} → ending endpoint_coded (plain_of s) ≡ Err n → version ≡ V4 → ◌≡◌ {A = Result Authority ℕ} (Err n) (ending authority_coded (rest_of version s))
  unfolding rest_of
  plain_dies e z = rw (z, ending_dies endpoint_coded (plain_of s) e)

  pub with_later : {version : Version} {n : ℕ} → ending endpoint_coded (plain_of s) ≡ Err n → version ≡ V5 → later n (ending authority_coded (with_of s)) ≡ ending authority_coded (rest_of version s)
  unfolding rest_of or
  with_later {n = n} e z = rw (z, ending_dies endpoint_coded (plain_of s) e) (go (with_of s))
    where
      go : (x : Read R.Rest) → later n (ending authority_coded x) ≡ ending authority_coded (R.later n x)
      go (reads v m) = refl
      go (dies m) = refl

-- ---- within the text

inside_with : Inside (λ r. r.host_at) with_of
unfolding with_of
inside_with =
    inside_map (λ r. r.host_at) credential_rest (seq (credential_of 0x3A) (always (seq (credential_of 0x40) (always plain_of))))
    (inside_seq (λ v. 0) (λ t. t.1 + t.2.host_at) (λ t. t.1 + (t.2.1 + t.2.2.host_at)) (λ v n u m h k. omega arith) (credential_of 0x3A) _ (inside_credential 0x3A)
    (λ v. inside_seq (λ v. 0) (λ r. r.host_at) (λ t. t.1 + t.2.host_at) (λ v n u m h k. omega arith) (credential_of 0x40) (always plain_of) (inside_credential 0x40) (λ v. inside_plain)))

pub inside_rest : (version : Version) → Inside (λ r. r.host_at) (rest_of version)
unfolding rest_of
inside_rest V4 = inside_plain
inside_rest V5 = inside_or (λ r. r.host_at) plain_of with_of inside_plain inside_with
