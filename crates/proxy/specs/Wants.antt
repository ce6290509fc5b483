-- What the proxy's end wants, one claim over every list of deliveries to it, and one of any end.
use Rattle.std.specs.Prelude.{ℕ, ◌≤◌, ◌≡◌, Bool, List, length}
use Rattle.protocol.specs.Answers.{Accepted}
use Rattle.protocol.specs.Bytes.{Bytes}
use Rattle.proxy_spec.specs.End.{Setup}
use Rattle.proxy_spec.specs.Wants.{WantedBy}
use Rattle.proxy_replies.specs.declared.stages.Outcome.TheVariants.{Waiting, Asked}
use Rattle.proxy_session.specs.declared.Server.{Server}
use Rattle.proxy_session.specs.Server.{outcome, wants}
use Rattle.proxy_session.specs.Calls.{set_up, deliver}
use Rattle.proxy.specs.Served.{setup_for, tunnel_of, joined_of}
use Rattle.talk.specs.Tunnel.{Delivery}

-- of what an end was set up with, the end that set-up returned, and deliveries to it
pub record Wanting (c : Setup) (s : Server) (ds : List Delivery) : Type 0 where
  -- what it then wants is what it wants by the plain machine, sent the joined bytes
  pub wanted : WantedBy c (joined_of ds) (wants (tunnel_of s ds).session)
  -- a piece of no more bytes than it wants, after which it has come to its question, is used up
  pub never_past : (piece out : List ℕ) → Bytes piece → length piece ≤ wants (tunnel_of s ds).session → outcome (deliver (tunnel_of s ds).session piece out).session ≡ Asked
      → (deliver (tunnel_of s ds).session piece out).used ≡ length piece

-- of any end, set up or not: nothing unless it waits, else a byte at the least
pub record WantsSome (s : Server) : Type 0 where
  pub none : (outcome s ≡ Waiting → ⊥) → wants s ≡ 0
  pub some : outcome s ≡ Waiting → 1 ≤ wants s

-- for every set-up that is accepted, with a user and a password that are byte strings, and every list of deliveries to what it returned
abbrev pub AllWanting : Type 0
AllWanting = (authenticates : Bool) (user password : List ℕ) → Bytes user → Bytes password → (set_up authenticates user password).answer ≡ Accepted → (ds : List Delivery)
    → Wanting (setup_for authenticates user password) (set_up authenticates user password).server ds
