use Prim.Native.Nat.{◌*◌, ◌≤◌}
use lib.ListN.{take}
use Rattle.buffers.specs.write.Written.{Wrote}
use Rattle.endings.specs.Coded.{opens}
use Rattle.endings.proofs.routes.put_opens.Given as goal

abbrev pub invariant-loop-proxy : goal.invariant-loop-proxy
invariant-loop-proxy l = record { few : l.at ≤ 12 * l.proxy-index; wrote : Wrote l.initial.out 0 (opens (take l.proxy-index l.proxies)) l.at l.out }
