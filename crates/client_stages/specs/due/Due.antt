-- 01, "The call: the session": what a reply makes due, by the lengths of what is kept: the stage behind it, and how many bytes are sent.
use Rattle.std.specs.Prelude.{ℕ, ◌+◌, Bool, true, false, cond}
use Rattle.protocol.specs.declared.AuthMethod.{AuthMethod}
use Rattle.protocol.specs.declared.AuthMethod.TheVariants.{NoAuth, UserPass, NoneAcceptable}
use Rattle.protocol.specs.declared.Reply.{Reply}
use Rattle.protocol.specs.declared.Reply.TheVariants.{NegotiationRes, AuthenticationRes, ProxyRes, Response}
use Rattle.protocol.specs.declared.SocksError.TheVariants.{MethodMismatch}
use Rattle.protocol.specs.Answers.{Verdict, Good, Bad}
use Rattle.client_stages.specs.declared.due.Lengths.{Lengths}
use Rattle.client_stages.specs.declared.due.Due.{Due}
use Rattle.client_stages.specs.declared.due.Stage.{Stage}
use Rattle.client_stages.specs.declared.due.Stage.TheVariants.{Awaiting, Open, Failed}
use Rattle.client_stages.specs.due.Parts.{negotiation_size, authentication_size, proxy_size}

-- plainly a request is sent when it is due; optimistically it went at the start
abbrev pub unless_gone : Bool → ℕ → ℕ
unless_gone true n = 0
unless_gone false n = n

abbrev pub authentication_due : Lengths → ℕ
authentication_due l = unless_gone l.optimistic (authentication_size l)

abbrev pub proxy_due : Lengths → ℕ
proxy_due l = unless_gone l.optimistic (proxy_size l)

abbrev pub due_after_method : Lengths → AuthMethod → Due
due_after_method l NoAuth = record { stage = Awaiting ProxyRes; len = proxy_due l }
due_after_method l UserPass = record { stage = Awaiting AuthenticationRes; len = authentication_due l }
due_after_method l NoneAcceptable = record { stage = Failed MethodMismatch; len = 0 }

-- after a good reply
abbrev pub due_after : Lengths → Reply → Due
due_after l (NegotiationRes m) = due_after_method l m
due_after l AuthenticationRes = record { stage = Awaiting ProxyRes; len = proxy_due l }
due_after l ProxyRes = record { stage = Open; len = 0 }
due_after l Response = record { stage = Open; len = 0 }

-- after a verdict
abbrev pub due_judged : Lengths → Reply → Verdict → Due
due_judged l e Good = due_after l e
due_judged l e (Bad x) = record { stage = Failed x; len = 0 }

abbrev pub is_user_pass : AuthMethod → Bool
is_user_pass NoAuth = false
is_user_pass UserPass = true
is_user_pass NoneAcceptable = false

abbrev pub authentication_first : Reply → Bool
authentication_first (NegotiationRes m) = is_user_pass m
authentication_first AuthenticationRes = false
authentication_first ProxyRes = false
authentication_first Response = false

-- where among the bytes begins what becomes due from a reply on; what follows it stands behind it
abbrev pub due_from : Lengths → Reply → ℕ
due_from l e = cond (authentication_first e) (negotiation_size l) (negotiation_size l + authentication_due l)

-- at most so many bytes may still be due at a stage: credentials of 513 and a connect of 262
abbrev pub still_due : Stage → ℕ
still_due (Awaiting (NegotiationRes NoAuth)) = 262
still_due (Awaiting (NegotiationRes UserPass)) = 775
still_due (Awaiting (NegotiationRes NoneAcceptable)) = 0
still_due (Awaiting AuthenticationRes) = 262
still_due (Awaiting ProxyRes) = 0
still_due (Awaiting Response) = 0
still_due Open = 0
still_due (Failed x) = 0
