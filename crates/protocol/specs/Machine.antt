-- Document 01, "The plain machine".
use Rattle.std.specs.Prelude.{ℕ, suc, ◌+◌, List, [], ◌∷◌, ◌++◌, length, take, drop}
use Rattle.protocol.specs.declared.Reply.{Reply}
use Rattle.protocol.specs.Answers.{Good, Bad, Decision, Undecided, Decided}
use Rattle.protocol.specs.declared.Outcome.{Outcome}
use Rattle.protocol.specs.declared.Outcome.TheVariants.{Waiting, Open, Failed}
use Rattle.protocol.specs.Bound.{Endpoint, unbound, bound_by}
use Rattle.protocol.specs.Opening.{Opening, replies, at_opening, later}
use Rattle.protocol.specs.Replies.{decide}

-- its state; the outcome holds the status. F-1: and the bound address, once it is open
pub record Machine : Type 0 where
  pub sent : List ℕ
  pub outcome : Outcome
  pub bound : Endpoint
  pub place : ℕ

abbrev pub has : List ℕ → Outcome → Endpoint → ℕ → Machine
has sent r x place = record { sent = sent; outcome = r; bound = x; place = place }

-- it sends requests, one after the other
abbrev pub sends : List (List ℕ) → List ℕ → List ℕ
sends [] sent = sent
sends (q ∷ qs) sent = sends qs (sent ++ q)

-- a reply read on from the place. Undecided: it stops, waiting. Otherwise the place moves. Bad: it stops, failed. Good: it goes on
abbrev pub reads : Decision → List ℕ → ℕ → (ℕ → Machine) → Machine
reads Undecided sent place on = has sent Waiting unbound place
reads (Decided n Good) sent place on = on n
reads (Decided n (Bad e)) sent place on = has sent (Failed e) unbound (place + n)

-- for each expected reply in turn; after a good one it sends what is due, the next request if one is left; after the last it is open, bound to
-- what that one named
unfoldable pub run : List Reply → List (List ℕ) → List ℕ → Endpoint → ℕ → List ℕ → Machine
run [] left sent x place bs = has sent Open x place
run (e ∷ es) left sent x place bs =
    reads (decide e (drop place bs)) sent place
    (λ n. run es (drop 1 left) (sends (take 1 left) sent) (bound_by e (take n (drop place bs))) (place + n) bs)

-- it starts at place 0 and sends what goes at the opening
unfoldable pub machine : Opening → List ℕ → Machine
machine o bs = run (replies o) (later o) (sends (at_opening o) []) unbound 0 bs

-- its used bytes: all while waiting, otherwise up to the place
abbrev pub used_by : Outcome → ℕ → List ℕ → ℕ
used_by Waiting place bs = length bs
used_by Open place bs = place
used_by (Failed e) place bs = place

unfoldable pub used : Opening → List ℕ → ℕ
used o bs = used_by (machine o bs).outcome (machine o bs).place bs

-- F-11: how many replies it decides, good or bad
abbrev pub decides : Decision → (ℕ → ℕ) → ℕ
decides Undecided on = 0
decides (Decided n Good) on = suc (on n)
decides (Decided n (Bad e)) on = 1

unfoldable pub decisions : List Reply → ℕ → List ℕ → ℕ
decisions [] place bs = 0
decisions (e ∷ es) place bs = decides (decide e (drop place bs)) (λ n. decisions es (place + n) bs)

unfoldable pub decided_on : Opening → List ℕ → ℕ
decided_on o bs = decisions (replies o) 0 bs
