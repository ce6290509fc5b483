-- F-3: a piece taken: what it comes to, and what then stands at the hold's start and in the output.
use Rattle.std.specs.Prelude.{ℕ, ◌+◌, ◌-◌, ◌≤◌, ◌≡◌, List, [], ◌++◌, length, drop}
use Rattle.protocol.specs.declared.Bound.{Bound}
use Rattle.protocol.specs.Bound.{Endpoint, bytes_in, bound_of}
use Rattle.proxy_spec.specs.declared.Field.{Field}
use Rattle.proxy_spec.specs.declared.Stage.{Stage}
use Rattle.proxy_spec.specs.declared.Stage.TheVariants.{Awaiting, Asked, Failed}
use Rattle.proxy_spec.specs.End.{Setup}
use Rattle.proxy_spec.specs.Side.{EndSession, talk_at, server}
use Rattle.proxy_delivery.specs.declared.piece.Taken.{Taken}
use Rattle.buffers.specs.write.Written.{Wrote}
use Rattle.talk.specs.Talk.{done, failed, waiting, ended, feed, held_by}

-- ---- a side's session, as an end keeps it: its stage, the bytes at the hold's start, and the destination's kind and port

abbrev pub stage_of : EndSession → Stage
stage_of (waiting f h) = Awaiting f
stage_of (ended (done x)) = Asked x.version
stage_of (ended (failed e)) = Failed e

abbrev pub holds_of : EndSession → List ℕ
holds_of (waiting f h) = h
holds_of (ended (done x)) = bytes_in x.target.address
holds_of (ended (failed e)) = []

abbrev pub bound_after : EndSession → Bound → Bound
bound_after (waiting f h) b = b
bound_after (ended (done x)) b = bound_of x.target
bound_after (ended (failed e)) b = b

-- ---- what a piece comes to where nothing is left to do behind a place

pub record Keeps (m : EndSession) (place : ℕ) (held piece hold : List ℕ) (bound : Bound) (r : Taken) (hold' : List ℕ) : Type 0 where
  pub staged : r.stage ≡ stage_of m
  pub bounds : r.bound ≡ bound_after m bound
  pub counts : r.held ≡ length (holds_of m)
  pub holds : hold' ≡ holds_of m ++ drop (length (holds_of m)) hold
  pub uses : r.used ≡ place + length (held_by m) - length held
  pub within : r.used ≤ length piece

-- a destination's bytes stand at the hold's start
pub record Asks (x : Endpoint) (stage : Stage) (used sent : ℕ) (hold : List ℕ) (r : Taken) (hold' : List ℕ) : Type 0 where
  pub is : r ≡ record { stage = stage; held = length (bytes_in x.address); used = used; sent = sent; bound = bound_of x }
  pub holds : hold' ≡ bytes_in x.address ++ drop (length (bytes_in x.address)) hold

pub record TakeResult (c : Setup) (f : Field) (held piece hold : List ℕ) (bound : Bound) (out : List ℕ) (r : Taken) (hold' out' : List ℕ) : Type 0 where
  pub session : EndSession
  pub said : List ℕ
  pub place : ℕ
  pub whole : feed (server c) (talk_at c f) (held ++ piece) ≡ record { session = session; sent = said; place = place }
  pub keeps : Keeps session place held piece hold bound r hold'
  pub wrote : Wrote out 0 said r.sent out'
