-- A route's stream in an array, and by the checks' answer in the buffer.
use Prim.Native.Nat.{ℕ, suc, ◌+◌, ◌-◌, ◌≤◌, ◌<◌}
use native.Mathlib.Nat.{zero-add}
use native.Mathlib.Omega.{arith}
use mathlib.Core.Path.{◌≡◌, refl, ap, sym, ◌∙◌}
use Rattle.std.specs.Prelude.{None, Some}
use mathlib.Core.List.{List, []}
use lib.ListN.{length, get_or, take, drop}
use lib.Seq.{take_at, length-take-le}
use Rattle.protocol.specs.Answers as code
use Rattle.protocol.specs.declared.SocksError.{SocksError}
use Rattle.buffers.specs.write.Written.{overwrite, Wrote}
use Rattle.buffers.proofs.write.Laws.{then}
use Rattle.route_spec.specs.Route.{openings}
use Rattle.route_session.specs.declared.plan.Proxy.{Proxy}
use Rattle.route_session.specs.plan.Plan.{route_of}
use Rattle.endings_spec.specs.declared.OutcomeStatus.{OutcomeStatus}
use Rattle.endings_spec.specs.Streams.{open_stream, joined, stream_at}
use Rattle.endings.specs.Calls.{Refused, StreamResult, produced, check_route, stream_route}
use Rattle.endings.specs.Coded.{kind_for, opens, end_for, row_at}
use Rattle.endings.proofs.Checks.{accepted_size, counted_few, route_long}
use Rattle.endings.proofs.place.Laws.{refuses}
use Rattle.endings.proofs.routes.Rows.{stream_row, opens_more, row_at_lem}

-- ---- the open streams of proxies

pub nothing : (out : List ℕ) → Wrote out 0 (opens []) 0 out
unfolding overwrite opens
nothing out = record { inside = omega arith; place = refl; bytes = refl }

pub more : (ps : List Proxy) (i : ℕ) (d : Proxy) → i < length ps → {out out₁ out₂ : List ℕ} {at next : ℕ} → Wrote out 0 (opens (take i ps)) at out₁ → Wrote out₁ at (open_stream (kind_for (get_or ps i d))) next out₂
    → Wrote out 0 (opens (take (i + 1) ps)) next out₂
more ps i d h x y = rw (opens_more ps i d h) (then x y)

wrote_taken : {out out' bs : List ℕ} {n : ℕ} → Wrote out 0 bs n out' → take n out' ≡ bs
unfolding overwrite
wrote_taken {out} {out'} {bs} {n} z =
    let e = z.place ∙ zero-add (length bs) in
    ap (take n) z.bytes ∙ take_at bs (drop (0 + length bs) out) n (sym e)

-- ---- the row

module _ (ps : List Proxy) (n proxy : ℕ) (w : OutcomeStatus) (p : Proxy) (s : proxy ≡ suc n) (h : n < length ps) (g : p ≡ get_or ps n p) where
  row_is : row_at ps proxy w ≡ joined (opens (take n ps)) (end_for (length ps - proxy) (kind_for p) w)
  row_is =
      ap (λ (k : ℕ). row_at ps k w) s ∙ row_at_lem ps n w p h
      ∙ (λ i. joined (opens (take n ps)) (end_for (length ps - sym s i) (kind_for (sym g i)) w))

  pub row_lacks : end_for (length ps - proxy) (kind_for p) w ≡ None → row_at ps proxy w ≡ None
  row_lacks e = row_is ∙ ap (joined (opens (take n ps))) e

  pub row_filled : {bs : List ℕ} → end_for (length ps - proxy) (kind_for p) w ≡ Some bs → {out out₁ out₂ : List ℕ} {at len : ℕ}
      → Wrote out 0 (opens (take n ps)) at out₁ → Wrote out₁ at bs len out₂ → Some (take len out₂) ≡ row_at ps proxy w
  row_filled e x y = ap Some (wrote_taken (then x y)) ∙ sym (row_is ∙ ap (joined (opens (take n ps))) e)

-- ---- in the buffer

module _ (text : List ℕ) (ps : List Proxy) (eight : length ps ≡ 8) (count : ℕ) (host : List ℕ) (port : code.Port) {x : code.Answer} (q : x ≡ check_route (route_of text ps count host port)) (proxy : ℕ) (w : OutcomeStatus) (buffer : List ℕ) where
  pub few : x ≡ code.Accepted → count ≤ 8
  few a = omega (arith, (accepted_size (route_of text ps count host port) (sym q ∙ a)).1, route_long text ps count host port eight)

  pub by_row : x ≡ code.Accepted → produced code.Accepted (row_at (take count ps) proxy w) buffer ≡ stream_route (route_of text ps count host port) proxy w buffer
  unfolding stream_route
  by_row a =
      let s = accepted_size (route_of text ps count host port) (sym q ∙ a) in
      let l = route_long text ps count host port eight in
      let m : count ≤ 8 = few a in
      let k = counted_few ps count m in
      let t = stream_row text host port w (take count ps) (omega (arith, s.0, l, length-take-le count ps (omega (arith, m, eight)))) proxy in
      let u : stream_at (openings (route_of text ps count host port)) proxy w ≡ row_at (take count ps) proxy w = rw k t in
      λ i. produced ((sym a ∙ q) i) (sym u i) buffer

  pub by_refusal : {e : SocksError} → x ≡ code.Refused e → StreamResult (stream_route (route_of text ps count host port) proxy w buffer) (Refused e) buffer
  unfolding stream_route
  by_refusal {e} a = rw (sym q ∙ a) (refuses e buffer)
