-- F-12 at the calls: a stream that leads somewhere ends there when it is delivered and end of stream follows.
use Prim.Native.Nat.{ℕ}
use native.Mathlib.Omega.{arith}
use mathlib.Core.Path.{◌≡◌, refl, ap, ◌∙◌}
use mathlib.Core.Logic.{◌⊎◌, inl, inr}
use Rattle.protocol.specs.Answers as code
use Rattle.protocol.specs.declared.Outcome.{Outcome}
use Rattle.protocol.specs.declared.Outcome.TheVariants.{Waiting, Open, Failed}
use Rattle.protocol.specs.declared.SocksError.TheVariants.{UnexpectedEof}
use Rattle.protocol.specs.Numbers.{answer_number}
use Rattle.client_session.specs.declared.Session.{Session}
use Rattle.client_session.specs.Session as session
use Rattle.client_session.specs.Calls as session-calls
use Rattle.socks.specs.Turns as session-turns
use Rattle.socks.proofs.Turns as session-turned
use Rattle.socks.proofs.Openings.{demand3_v5, demand3_v4}
use Rattle.route_session.specs.declared.calls.Route.{Route}
use Rattle.route_session.specs.calls.Calls as route
use Rattle.route.specs.Turns as route_turns
use Rattle.route.proofs.Turns as route-turned
use Rattle.route.proofs.Attempts.{through}
use Rattle.endings_spec.specs.Endings.{ending_of}
use Rattle.endings.specs.Led.{Led5, Led4, LedRoute}

-- an end is accepted of what waits, which has then failed with 9
waited : (x : Outcome) → ((x ≡ Waiting → ⊥) → ⊥) → ending_of (Failed UnexpectedEof) ≡ ending_of x
waited Waiting f = refl
waited Open f = absurd (f (λ q. let z : ◌≡◌ {A = ℕ} 0 1 = cc in omega arith))
waited (Failed e) f = absurd (f (λ q. let z : ◌≡◌ {A = ℕ} 0 1 = cc in omega arith))

ends_session : {first next : ℕ} (s : Session) → session-turns.InTurn first next s → ending_of (session.outcome (session-calls.end s).session) ≡ ending_of (session.outcome s)
ends_session s t = go (session-calls.end s).answer refl
  where
    go : (x : code.Answer) → (session-calls.end s).answer ≡ x → ending_of (session.outcome (session-calls.end s).session) ≡ ending_of (session.outcome s)
    go code.Accepted q = ap ending_of (t.end_fails q).outcomes ∙ waited (session.outcome s) (t.end_number.accepts.0 (ap answer_number q)).0
    go (code.Refused e) q = ap (λ (c : session-calls.Call). ending_of (session.outcome c.session)) (t.end_untouched e q)

end_session : (s : Session) → ending_of (session.outcome (session-calls.end s).session) ≡ ending_of (session.outcome s)
end_session s = go (session-turned.any_in_turn s)
  where
    go : session-turns.InTurn 778 778 s ⊎ session-turns.InTurn 1024 262 s → ending_of (session.outcome (session-calls.end s).session) ≡ ending_of (session.outcome s)
    go (inl t) = ends_session s t
    go (inr t) = ends_session s t

end_route : (r : Route) → ending_of (route.outcome (route.end r).session) ≡ ending_of (route.outcome r)
end_route r = let (n, Some, few, t) = route-turned.any_in_turn r in go t (route.end r).answer refl
  where
    go : {room : ℕ} → route_turns.InTurn room r → (x : code.Answer) → (route.end r).answer ≡ x → ending_of (route.outcome (route.end r).session) ≡ ending_of (route.outcome r)
    go t code.Accepted q = ap ending_of (t.end_fails q).outcomes ∙ waited (route.outcome r) (t.end_number.accepts.0 (ap answer_number q)).0
    go t (code.Refused e) q = ap (λ (c : route.Call). ending_of (route.outcome c.session)) (t.end_untouched e q)

pub led5 : Led5
led5 a x out p q ds y w h = end_session _ ∙ ap ending_of (demand3_v5 a x out p q ds y).outcome_as ∙ h

pub led4 : Led4
led4 a out p q ds y w h = end_session _ ∙ ap ending_of (demand3_v4 a out p q ds y).outcome_as ∙ h

pub led_route : LedRoute
led_route r out p ds y proxy w h = end_route _ ∙ ap ending_of (through r out p ds y).outcome_as ∙ h.1
