-- 01, "Tunnel": talks in a row: one grafted in place of another's end.
use Rattle.std.specs.Prelude.{ℕ, ◌+◌, List, ◌++◌}
use Rattle.talk.specs.Talk.{done, failed, Talk, stop, send, await, Session, waiting, ended, Fed}

-- when a talk is done another takes its place; its stages are named among those of the whole
unfoldable pub graft : {S R S' R' E : Type 0} → (S → S') → Talk S R E → (R → Talk S' R' E) → Talk S' R' E
graft name (stop (done r)) next = next r
graft name (stop (failed e)) next = stop (failed e)
graft name (send q t) next = send q (graft name t next)
graft name (await s k) next = await (name s) (λ m. graft name (k m) next)

-- what was fed to the first, and once that is done what its rest does to the next
abbrev pub then_on : {S R S' R' E : Type 0} → (S → S') → Session S R E → List ℕ → ℕ → (R → Fed S' R' E) → Fed S' R' E
then_on name (waiting s h) sent place on = record { session = waiting (name s) h; sent = sent; place = place }
then_on name (ended (failed e)) sent place on = record { session = ended (failed e); sent = sent; place = place }
then_on name (ended (done r)) sent place on = record { session = (on r).session; sent = sent ++ (on r).sent; place = place + (on r).place }
