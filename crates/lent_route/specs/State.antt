-- F-5: a route in the bytes that its caller lends: the route that they mean, and the one writing of a route. Every value of every byte has a meaning; all zeros is
-- a route that refuses everything.
use Rattle.std.specs.Prelude.{ℕ, zero, suc, ◌+◌, ◌-◌, ◌*◌, Bool, true, false, cond, List, [], ◌∷◌, ◌++◌, eqb, leb, length, take, drop, replicate}
use Rattle.protocol.specs.declared.AuthMethod.TheVariants.{NoAuth, UserPass, NoneAcceptable}
use Rattle.protocol.specs.declared.Reply.{Reply}
use Rattle.protocol.specs.declared.Reply.TheVariants.{NegotiationRes, AuthenticationRes, ProxyRes, Response}
use Rattle.protocol.specs.Bytes.{byte}
use Rattle.protocol.specs.Bound.{unbound, bound_of}
use Rattle.protocol.specs.Opening.{Opening}
use Rattle.client_stages.specs.declared.due.Lengths.{Lengths}
use Rattle.client_stages.specs.declared.due.Stage.{Stage}
use Rattle.client_stages.specs.declared.due.Stage.TheVariants.{Awaiting, Open, Failed}
use Rattle.client_session.specs.declared.Session.{Session}
use Rattle.raw_numbers.specs.Numbers.{truth, bit}
use Rattle.lent_numbers.specs.bytes.Numbers.{digits}
use Rattle.lent_session.specs.State as session
use Rattle.lent_session.specs.State.{two_at, session_at, reply_number}
use Rattle.route_delivery.specs.declared.Hop.{Hop}
use Rattle.route_delivery.specs.declared.Spot.{Spot}
use Rattle.route_delivery.specs.Relay.{no_hop}
use Rattle.route_session.specs.declared.calls.Route.{Route}
use Rattle.route_session.specs.calls.Calls.{last_in}
use Rattle.route_session.specs.plan.Plan.{hops_for, bytes_for}

-- Places: the first 282 bytes as a session has them, that of the proxy which is spoken to; where its lengths stand, 10 has the number of proxies and 12 how many are
-- behind that one, 14 has 0. Then what each proxy keeps, from 282 on in eight slots of 8 bytes, and its requests, from 346 on in eight slots of 1,024; 8,538 in all.
-- The first proxy has the last slot, and each one behind it the slot before: from the first slot in use on they stand as a route value has them, the last one's first.

-- ---- how a route stands, by its session: it is prepared hop by hop until it is opened

pub data Phase : Type 0 where
  preparing : Phase
  opened : Phase
  over : Phase

abbrev pub phase_by : Stage → Bool → Phase
phase_by (Awaiting e) false = preparing
phase_by (Awaiting e) true = opened
phase_by Open started = over
phase_by (Failed x) started = over

abbrev pub phase_at : List ℕ → Phase
phase_at s = phase_by (session_at s).stage (session_at s).started

-- ---- the route that bytes mean

-- the first reply of a proxy, by the number in its slot
unfoldable pub reply_at : ℕ → Reply
reply_at n =
    cond (eqb n 0) (NegotiationRes NoAuth)
    (cond (eqb n 1) (NegotiationRes UserPass)
    (cond (eqb n 2) (NegotiationRes NoneAcceptable) (cond (eqb n 3) AuthenticationRes (cond (eqb n 4) ProxyRes Response))))

-- what stands in a slot from a place on
abbrev pub hop_in : List ℕ → ℕ → Hop
hop_in s at =
    record {
      first = reply_at (byte s at);
      lengths = record { optimistic = truth (byte s (at + 1)); first = two_at s (at + 2); authentication = two_at s (at + 4); proxy = two_at s (at + 6) };
    }

unfoldable pub slots_from : List ℕ → ℕ → ℕ → List Hop
slots_from s at zero = []
slots_from s at (suc n) = hop_in s at ∷ slots_from s (at + 8) n

-- with so many proxies behind the first
abbrev pub hops_in : List ℕ → ℕ → List Hop
hops_in s last = slots_from s (282 + 8 * (7 - last)) (suc last) ++ replicate (7 - last) no_hop

abbrev pub bytes_in : List ℕ → ℕ → List ℕ
bytes_in s last = drop (346 + 1024 * (7 - last)) s ++ replicate (1024 * (7 - last)) 0

-- as the code has it: what the proxy keeps that has so many behind it
abbrev pub slot_hop : List ℕ → ℕ → ℕ → Hop
slot_hop s last i = cond (leb i last) (hop_in s (282 + 8 * (7 - last + i))) no_hop

-- the session of the proxy that is spoken to, as the code has it
abbrev pub spoken_at : Spot → Lengths → List ℕ → List ℕ → Session
spoken_at p lengths hold kept =
    record {
      stage = p.stage;
      started = true;
      held = p.held;
      hold = hold;
      bound = p.bound;
      attempts = p.attempts;
      requests = record { lengths = lengths; bytes = kept };
    }

abbrev pub count_at : List ℕ → ℕ
count_at s = two_at s 10

abbrev pub route_at : List ℕ → Route
route_at s =
    let x = session_at s in
    record {
      stage = x.stage;
      held = x.held;
      hold = x.hold;
      bound = x.bound;
      attempts = x.attempts;
      count = x.requests.lengths.first;
      behind = x.requests.lengths.authentication;
      hops = hops_in s (last_in (count_at s));
      bytes = bytes_in s (last_in (count_at s));
    }

-- ---- the one writing of a route

abbrev pub slot_of : Hop → List ℕ
slot_of h =
    (reply_number h.first - 1)
    ∷ bit h.lengths.optimistic
    ∷ (digits 2 h.lengths.first ++ (digits 2 h.lengths.authentication ++ digits 2 h.lengths.proxy))

unfoldable pub slots_of : List Hop → List ℕ
slots_of [] = []
slots_of (h ∷ hs) = slot_of h ++ slots_of hs

-- what so many proxies keep, with the slots that are not in use
abbrev pub kept_of : ℕ → List Hop → List ℕ → List ℕ
kept_of count hops bytes = (replicate (8 * (8 - count)) 0 ++ slots_of hops) ++ (replicate (1024 * (8 - count)) 0 ++ bytes)

abbrev pub counts_of : ℕ → ℕ → Lengths
counts_of count behind = record { optimistic = false; first = count; authentication = behind; proxy = 0 }

-- its numbers and its hold, ahead of what its proxies keep
abbrev pub carried : Route → List ℕ → List ℕ
carried r kept =
    session.state_of (record {
      stage = r.stage;
      started = true;
      held = r.held;
      hold = r.hold;
      bound = r.bound;
      attempts = r.attempts;
      requests = record { lengths = counts_of r.count r.behind; bytes = kept };
    })

-- of a route of eight proxies at most
abbrev pub state_of : Route → List ℕ
state_of r = carried r (kept_of r.count (take r.count r.hops) (take (1024 * r.count) r.bytes))

-- of a route that is being prepared: the openings that it was asked for, in their order
abbrev pub preparing_with : ℕ → List ℕ → List ℕ
preparing_with count kept =
    session.state_of (record {
      stage = Awaiting (NegotiationRes NoAuth);
      started = false;
      held = 0;
      hold = replicate 261 0;
      bound = bound_of unbound;
      attempts = 0;
      requests = record { lengths = counts_of count 0; bytes = kept };
    })

abbrev pub preparing_of : List Opening → List ℕ
preparing_of os = preparing_with (length os) (kept_of (length os) (hops_for os) (bytes_for os))
