-- F-1: the reply that names an address and a port, and that it is whole.
use Rattle.std.specs.Prelude.{ℕ, ◌≤◌, List, length}
use Rattle.protocol.specs.declared.Reply.{Reply}
use Rattle.protocol.specs.declared.Reply.TheVariants.{NegotiationRes, AuthenticationRes, ProxyRes, Response}
use Rattle.protocol.specs.Bytes.{byte}
use Rattle.protocol.specs.Replies.{proxy_size}

-- the last reply to a session that waits for this one
abbrev pub last_of : Reply → Reply
last_of (NegotiationRes m) = ProxyRes
last_of AuthenticationRes = ProxyRes
last_of ProxyRes = ProxyRes
last_of Response = Response

-- how many bytes it has
abbrev pub last_size : Reply → List ℕ → ℕ
last_size (NegotiationRes m) bs = proxy_size (byte bs 3) (byte bs 4)
last_size AuthenticationRes bs = proxy_size (byte bs 3) (byte bs 4)
last_size ProxyRes bs = proxy_size (byte bs 3) (byte bs 4)
last_size Response bs = 8

-- it is whole
abbrev pub Whole : Reply → List ℕ → Type 0
Whole e bs = last_size e bs ≤ length bs
