-- Document 01, "The call: reading replies": the first prefix at which a reply may be decided.
use Rattle.std.specs.Prelude.{ℕ}
use Rattle.protocol.specs.declared.Reply.{Reply}
use Rattle.protocol.specs.declared.Reply.TheVariants.{NegotiationRes, AuthenticationRes, ProxyRes, Response}

abbrev pub fewest : Reply → ℕ
fewest (NegotiationRes m) = 2
fewest AuthenticationRes = 2
fewest ProxyRes = 3
fewest Response = 8
