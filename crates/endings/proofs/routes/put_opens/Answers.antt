use native.Mathlib.Omega.{arith}
use mathlib.Core.List.{List}
use Prim.Native.Nat.{ℕ}
use mathlib.Core.Path.{◌≡◌, subst, ◌∙◌, ap}
use lib.ListN.{take}
use Rattle.std.proofs.lemmas.List.{take_all}
use Rattle.route_session.specs.declared.plan.Proxy.{Proxy}
use Rattle.endings.specs.Coded.{opens}
use Rattle.endings_spec.specs.Streams.{open_stream}
use Rattle.buffers.specs.write.Written.{Wrote}
use Rattle.buffers.proofs.write.Laws.{wrote_length}
use Rattle.endings.proofs.routes.Laws.{nothing, more}
use Rattle.endings.proofs.routes.put_opens.Goals as goal

pub loop-proxy-init : goal.loop-proxy-init
loop-proxy-init c = record { few = omega arith; wrote = nothing _ }

pub copy-at-requires : goal.copy-at-requires
copy-at-requires c = omega (arith, c.as_slice.ensures.few, wrote_length c.loop-proxy.invariant.wrote, c.told-out)

pub loop-proxy-preserved : goal.loop-proxy-preserved
loop-proxy-preserved c =
    let e = c.as_slice.ensures.same ∙ c.open_stream-word.ensures ∙ ap open_stream c.kind_by.ensures in
    record {
      few = omega (arith, c.copy-at.ensures.place, c.as_slice.ensures.few, c.loop-proxy.invariant.few);
      wrote = more c.args.proxies.now c.loop-proxy.proxy-index _ c.loop-proxy-test.true c.loop-proxy.invariant.wrote (subst (λ (l : List ℕ). Wrote c.loop-proxy.out c.loop-proxy.at l c.copy-at.result c.copy-at.new.out) e c.copy-at.ensures);
    }

pub returns : goal.returns
returns c =
    let ps = c.args.proxies.now in
    let i = c.loop-proxy.invariant in
    let t : take c.loop-proxy.proxy-index ps ≡ ps = take_all c.loop-proxy.proxy-index ps c.loop-proxy-test.false in
    record {
      upper_bound = omega (arith, i.few, c.loop-proxy.auto.proxy-index-end);
      wrote = subst (λ (l : List Proxy). Wrote c.args.out.now 0 (opens l) c.loop-proxy.at c.loop-proxy.out) t i.wrote;
    }
