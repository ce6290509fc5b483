-- One step of a route: what bytes do at a stage, by what they do to the proxy that is spoken to.
use mathlib.Core.Path.{◌≡◌, refl, ◌∙◌}
use mathlib.Core.List.{List, [], ◌∷◌, append-nil}
use Rattle.protocol.specs.declared.Reply.{Reply}
use Rattle.protocol.specs.declared.Reply.TheVariants.{NegotiationRes, AuthenticationRes, ProxyRes, Response}
use Rattle.protocol.specs.Bound.{Endpoint}
use Rattle.protocol.specs.Replies.{proxy_at, decide}
use Rattle.protocol.specs.Client.{Kept, talk_at, client}
use Rattle.route_spec.specs.Hops.{Hop, at, on_through, route_at, route_side}
use Rattle.route_spec.proofs.Lawful.{at_feed, through_next}
use Rattle.talk.specs.Talk.{waiting, unmoved, feed}
use Rattle.talk.proofs.Feed.{same_fed}

-- ---- with no byte nothing is decided

client_still : (c : Kept) (e : Reply) → feed (client c) (talk_at c e) [] ≡ unmoved (waiting e [])
unfolding feed decide proxy_at
client_still c (NegotiationRes m) = refl
client_still c AuthenticationRes = refl
client_still c ProxyRes = refl
client_still c Response = refl

pub at_still : (c : Kept) (hs : List Hop) (e : Reply) → feed route_side (route_at (at c hs e)) [] ≡ unmoved (waiting (at c hs e) [])
at_still c hs e = at_feed c hs e [] ∙ rw (client_still c e)

-- a route that is begun sends what goes first to its first proxy, and waits for that one
pub through_begins : (h : Hop) (hs : List Hop) (x : Endpoint)
    → feed route_side (on_through (h ∷ hs) x) [] ≡ record { session = waiting (at h.kept hs h.first) []; sent = h.goes; place = 0 }
through_begins h hs x = through_next h hs x [] ∙ rw (at_still h.kept hs h.first) (same_fed _ _ refl (append-nil h.goes) refl)
