-- 01, "a fixed hold", and F-1: where an address stands, and what is kept of it at the start of a hold.
use Rattle.std.specs.Prelude.{ℕ, ◌+◌, ◌≤◌, ◌≡◌, List, ◌++◌, length, take, drop}
use Rattle.protocol.specs.Requests.{kind_of}
use Rattle.protocol.specs.Bound.{Endpoint, endpoint, bytes_in, bound_of}
use Rattle.buffers.specs.declared.hold.Found.{Found}
use Rattle.buffers.specs.declared.hold.Held.{Held}

-- an address stands at a place of bytes, with so many of them
pub record Finds (most : ℕ) (x : Endpoint) (bytes : List ℕ) (r : Found) : Type 0 where
  pub names : x ≡ endpoint (kind_of r.bound.kind (take r.len (drop r.at bytes))) r.bound.port
  pub inside : r.at + r.len ≤ length bytes
  pub small : r.len ≤ most

-- its bytes stand at the start of a hold, of which no other byte has changed
pub record Binds (x : Endpoint) (hold : List ℕ) (r : Held) (hold' : List ℕ) : Type 0 where
  pub bound : r.bound ≡ bound_of x
  pub long : r.len ≡ length (bytes_in x.address)
  pub holds : hold' ≡ bytes_in x.address ++ drop (length (bytes_in x.address)) hold

-- whatever address was found in bytes is kept
abbrev pub Kept : List ℕ → Found → List ℕ → Held → List ℕ → Type 0
Kept bytes found hold r hold' = (most : ℕ) (x : Endpoint) → Finds most x bytes found → Binds x hold r hold'
