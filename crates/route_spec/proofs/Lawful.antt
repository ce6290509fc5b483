-- The route's side is lawful. Fed, the proxy that is spoken to takes what it uses, and what it leaves goes to the next.
use Prim.Native.Nat.{ℕ}
use mathlib.Core.Path.{◌≡◌, refl, ◌∙◌}
use mathlib.Core.Bool.{true, false}
use mathlib.Core.List.{List, [], ◌∷◌, ◌++◌, append_assoc}
use lib.ListN.{length, drop}
use Rattle.protocol.specs.declared.SocksError.TheVariants.{Settled, ShortOutput}
use Rattle.protocol.specs.declared.AuthMethod.TheVariants.{NoAuth, UserPass}
use Rattle.protocol.specs.declared.Reply.{Reply}
use Rattle.protocol.specs.declared.Reply.TheVariants.{NegotiationRes}
use Rattle.protocol.specs.Requests.{negotiation_req, authentication_req, proxy_req}
use Rattle.protocol.specs.Bound.{Endpoint}
use Rattle.protocol.specs.Opening.{no_auth, user_pass, Opening, v5, v4}
use Rattle.protocol.specs.Client.{Kept, ClientTalk, talk_at, client, kept, begun, side}
use Rattle.protocol.proofs.Client.{client_lawful}
use Rattle.route_spec.specs.Hops.{Hop, hop_of, hop_talk, RouteStage, at, on_through, route_reads, route_at, route_side}
use Rattle.talk.specs.Talk.{done, send, ended, unmoved, sending, feed}
use Rattle.talk.specs.Lawful.{Extends, Shaped, Lawful}
use Rattle.talk.specs.Graft.{graft, then_on}
use Rattle.talk.proofs.Feed.{same_fed}
use Rattle.talk.proofs.Graft as row

-- ---- lawful

module _ (c : Kept) (hs : List Hop) where
  -- a proxy's talk with the proxies behind it has the route's shape
  grafted_shaped : ((x : Endpoint) → Shaped route_side (on_through hs x)) → (t : ClientTalk) → Shaped (client c) t → Shaped route_side (graft (at c hs) t (on_through hs))
  unfolding route_at
  grafted_shaped w t v = row.graft_shaped (client c).reads (talk_at c) route_reads route_at Settled ShortOutput (at c hs) (λ s bs. refl) (on_through hs) (λ s. refl) w t v

  -- what it leaves goes to them
  pub grafted_feed : (t : ClientTalk) (bs : List ℕ)
      → (let f = feed (client c) t bs in
      feed route_side (graft (at c hs) t (on_through hs)) bs ≡ then_on (at c hs) f.session f.sent f.place (λ x. feed route_side (on_through hs x) (drop f.place bs)))
  grafted_feed t bs = row.feed_graft (client c).reads (talk_at c) route_reads route_at Settled ShortOutput (at c hs) (λ s bs. refl) (on_through hs) t bs

pub hop_shaped : (h : Hop) → Shaped (client h.kept) (hop_talk h)
hop_shaped h = (client_lawful h.kept).shaped h.first

pub through_shaped : (hs : List Hop) (x : Endpoint) → Shaped route_side (on_through hs x)
unfolding on_through
through_shaped [] x = tt
through_shaped (h ∷ hs) x = grafted_shaped h.kept hs (through_shaped hs) (hop_talk h) (hop_shaped h)

at_shaped : (s : RouteStage) → Shaped route_side (route_at s)
unfolding route_at
at_shaped (at c hs e) = grafted_shaped c hs (through_shaped hs) (talk_at c e) ((client_lawful c).shaped e)

stable : (s : RouteStage) (bs more : List ℕ) → Extends (length bs) (route_reads s bs) (route_reads s (bs ++ more))
stable (at c hs e) bs more = (client_lawful c).stable e bs more

pub route_lawful : Lawful route_side
route_lawful = record { stable = stable; shaped = at_shaped }

-- ---- one step

-- at a stage: the proxy that is spoken to, and once it is open what it left goes on
pub at_feed : (c : Kept) (hs : List Hop) (e : Reply) (bs : List ℕ)
    → (let f = feed (client c) (talk_at c e) bs in
    feed route_side (route_at (at c hs e)) bs ≡ then_on (at c hs) f.session f.sent f.place (λ x. feed route_side (on_through hs x) (drop f.place bs)))
unfolding route_at
at_feed c hs e bs = grafted_feed c hs (talk_at c e) bs

-- the next is begun: what goes first goes, and it is spoken to
pub through_next : (h : Hop) (hs : List Hop) (x : Endpoint) (bs : List ℕ)
    → feed route_side (on_through (h ∷ hs) x) bs ≡ sending h.goes (feed route_side (route_at (at h.kept hs h.first)) bs)
unfolding on_through route_at feed graft
through_next h hs x bs = refl

-- no one is left
pub through_none : (x : Endpoint) (bs : List ℕ) → feed route_side (on_through [] x) bs ≡ unmoved (ended (done x))
unfolding on_through feed
through_none x bs = refl

-- ---- a hop is its opening: what this sends one after the other goes at once

two_feed : (c : Kept) (q r : List ℕ) (t : ClientTalk) (bs : List ℕ) → feed (client c) (send (q ++ r) t) bs ≡ feed (client c) (send q (send r t)) bs
unfolding feed
two_feed c q r t bs = same_fed _ _ refl (append_assoc q r _) refl

pub hop_feed : (o : Opening) (bs : List ℕ) → feed (side o) (hop_talk (hop_of o)) bs ≡ feed (side o) (begun o) bs
hop_feed (v5 no_auth d port false) bs = refl
hop_feed (v5 no_auth d port true) bs =
    let c = kept (v5 no_auth d port true) in
    two_feed c (negotiation_req NoAuth) (proxy_req d port) (talk_at c (NegotiationRes NoAuth)) bs
hop_feed (v5 (user_pass u p) d port false) bs = refl
hop_feed (v5 (user_pass u p) d port true) bs =
    let c = kept (v5 (user_pass u p) d port true) in
    two_feed c (negotiation_req UserPass ++ authentication_req u p) (proxy_req d port) (talk_at c (NegotiationRes UserPass)) bs
    ∙ two_feed c (negotiation_req UserPass) (authentication_req u p) (send (proxy_req d port) (talk_at c (NegotiationRes UserPass))) bs
hop_feed (v4 d port) bs = refl
