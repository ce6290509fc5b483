-- F-9: a host, a colon and a port, way out by way out.
use Prim.Native.Nat.{ℕ, ◌+◌, ◌≤◌}
use native.Mathlib.Omega.{arith}
use mathlib.Core.Path.{◌≡◌, sym, ◌∙◌}
use mathlib.Core.List.{List}
use lib.ListN.{length, drop, length-drop}
use Rattle.std.specs.Prelude.{Result, Ok, Err}
use Rattle.buffers.proofs.write.Parts.{part_from}
use Rattle.proxy_url_spec.specs.Reading.{Read, reads, dies, Hosted, mapped, map, seq, always, itself, host_of, port_of, plain_rest, plain_of}
use Rattle.proxy_url.specs.declared.hosts.HostPart.{HostPart}
use Rattle.proxy_url.specs.declared.endpoints.Endpoint.{Endpoint}
use Rattle.proxy_url.specs.Coded.{host_coded, endpoint_coded, ending}
use Rattle.proxy_url.proofs.Coded.{mapped_reads, mapped_dies, ending_reads, ending_dies}
use Rattle.proxy_url.proofs.Inside.{Inside, inside_map, inside_seq}
use Rattle.proxy_url.proofs.Parts.{from}
use Rattle.proxy_url.proofs.hosts.Laws.{inside_host}
use Rattle.proxy_url.proofs.ports.Laws.{inside_port}

module _ (s : List ℕ) where
  pub host_dies : {n : ℕ} → ◌≡◌ {A = Read HostPart} (mapped host_coded (host_of s)) (dies n) → ◌≡◌ {A = Result Endpoint ℕ} (Err n) (ending endpoint_coded (plain_of s))
  unfolding plain_of map seq
  host_dies e = rw (mapped_dies host_coded (host_of s) e)

  module _ {h : HostPart} {at : ℕ} (e : ◌≡◌ {A = Read HostPart} (mapped host_coded (host_of s)) (reads h at)) where
    pub host_inside : at ≤ length s
    host_inside = let (v, q, k) = mapped_reads host_coded (host_of s) e in (rw q at (inside_host s)).1

    module _ {n : ℕ} (d : ending itself (port_of (from s at)) ≡ Err n) where
      port_stuck : port_of (drop at s) ≡ dies n
      port_stuck = ending_dies itself (port_of (drop at s)) (rw (part_from s at) at d)

      pub port_inside : at + n ≤ length s
      port_inside =
          let i = host_inside in
          let l = length-drop at s in
          let b : n ≤ length (drop at s) = rw port_stuck at (inside_port (drop at s)) in
          omega arith

      pub port_dies : ◌≡◌ {A = Result Endpoint ℕ} (Err (at + n)) (ending endpoint_coded (plain_of s))
      unfolding plain_of map seq
      port_dies = let (v, q, k) = mapped_reads host_coded (host_of s) e in rw (q, port_stuck)

    pub endpoint_whole : {p : ℕ} → ending itself (port_of (from s at)) ≡ Ok p → ◌≡◌ {A = Result Endpoint ℕ} (Ok (record { host = h; port = p })) (ending endpoint_coded (plain_of s))
    unfolding plain_of map seq
    endpoint_whole {p} d = go (mapped_reads host_coded (host_of s) e) (ending_reads itself (port_of (drop at s)) (rw (part_from s at) at d))
      where
        go : (v : Hosted) × (host_of s ≡ reads v at) × (host_coded v ≡ h) → (u : ℕ) × (m : ℕ) × (port_of (drop at s) ≡ reads u m) × (u ≡ p)
            → ◌≡◌ {A = Result Endpoint ℕ} (Ok (record { host = h; port = p })) (ending endpoint_coded (plain_of s))
        go (v, q, k) (u, m, z, j) =
            let l : ◌≡◌ {A = Result Endpoint ℕ} (Ok (record { host = h; port = p })) (Ok (record { host = host_coded v; port = u })) = λ i. Ok (record { host = sym k i; port = sym j i }) in
            l ∙ rw (q, z)

pub inside_plain : Inside (λ r. r.host_at) plain_of
unfolding plain_of
inside_plain =
    inside_map (λ r. r.host_at) plain_rest (seq host_of (always port_of))
    (inside_seq (λ v. v.at) (λ u. 0) (λ t. t.0.at) (λ v n u m h k. omega arith) host_of (always port_of) inside_host (λ v. inside_port))
