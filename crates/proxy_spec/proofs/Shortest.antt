-- What the end wants at any field, with any bytes held that do not decide it.
use Prim.Native.Nat.{ℕ}
use mathlib.Core.Path.{◌≡◌}
use mathlib.Core.List.{List}
use Rattle.proxy_spec.specs.declared.Field.{Field}
use Rattle.proxy_spec.specs.declared.Field.TheVariants.{First, Methods, User, Password, Head, Address, Request, UserId, Name}
use Rattle.proxy_spec.specs.End.{Setup}
use Rattle.proxy_spec.specs.Side.{reads}
use Rattle.proxy_spec.specs.Shortest.{wants_at}
use Rattle.proxy_spec.proofs.Wanting.{Wanted}
use Rattle.proxy_spec.proofs.WantingConnect.{shortest_head, shortest_address}
use Rattle.proxy_spec.proofs.WantingRequest.{shortest_request, shortest_id, shortest_name}
use Rattle.proxy_spec.proofs.WantingLogin.{Sendable, shortest_first, shortest_methods, shortest_user, shortest_password}
use Rattle.talk.specs.Decision.{undecided}

pub shortest : (c : Setup) → Sendable c → (f : Field) (h : List ℕ) → reads f h ≡ undecided → Wanted c f h (wants_at c f h)
unfolding wants_at
shortest c s First h u = shortest_first c s h u
shortest c s Methods h u = shortest_methods c s h u
shortest c s User h u = shortest_user c s h u
shortest c s (Password right) h u = shortest_password c s right h u
shortest c s Head h u = shortest_head c h u
shortest c s (Address command type) h u = shortest_address c command type h u
shortest c s Request h u = shortest_request c h u
shortest c s (UserId p) h u = shortest_id c p h u
shortest c s (Name p) h u = shortest_name c p h u
