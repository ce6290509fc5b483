-- F-3: what follows a whole field, as the code has it: what is said and the stage behind it; and what a last field asks for.
use Rattle.std.specs.Prelude.{ℕ, ◌-◌, Bool, cond, ◌&&◌, List, length, take, drop, eqb}
use Rattle.protocol.specs.declared.SocksError.{SocksError}
use Rattle.protocol.specs.declared.SocksError.TheVariants.{Unsupported, Command, WrongCredentials}
use Rattle.protocol.specs.declared.Version.{Version}
use Rattle.protocol.specs.declared.Version.TheVariants.{V4, V5}
use Rattle.protocol.specs.Bytes.{byte, same}
use Rattle.protocol.specs.AddressReading.{ipv4, domain}
use Rattle.protocol.specs.Bound.{Endpoint, endpoint, unbound}
use Rattle.protocol.specs.Opening.{announces}
use Rattle.proxy_spec.specs.declared.Ports.{Ports}
use Rattle.proxy_spec.specs.declared.Field.{Field}
use Rattle.proxy_spec.specs.declared.Field.TheVariants.{First, Methods, User, Password, Head, Address, Request, UserId, Name}
use Rattle.proxy_spec.specs.declared.Stage.{Stage}
use Rattle.proxy_spec.specs.declared.Stage.TheVariants.{Awaiting, Asked, Open, Failed}
use Rattle.proxy_spec.specs.End.{Setup, chosen, offers, asked, said_by}
use Rattle.proxy_spec.specs.Side.{EndTalk, EndSession, is_known, ports_of, ip_of, target_of, talk_at}
use Rattle.proxy_spec.specs.declared.Says.{Says}
use Rattle.proxy_spec.specs.declared.Says.TheVariants.{Nothing, Method, Login, Reply5, Reply4}
use Rattle.proxy_decisions.specs.declared.decision.Due.{Due}
use Rattle.talk.specs.Talk.{done, failed, stop, send, waiting, ended}

abbrev pub goes_to : Field → Due
goes_to f = record { stage = Awaiting f; says = Nothing }

abbrev pub fails_with : SocksError → Says → Due
fails_with e says = record { stage = Failed e; says = says }

abbrev pub asks_in : Version → Due
asks_in v = record { stage = Asked v; says = Nothing }

abbrev pub due_first : List ℕ → Due
due_first m = cond (eqb (byte m 0) 0x05) (goes_to Methods) (goes_to Request)

abbrev pub behind_greeting : Bool → Field
behind_greeting authenticates = cond authenticates User Head

abbrev pub due_methods : Bool → List ℕ → Due
due_methods authenticates m =
    cond (offers (chosen authenticates) (drop 1 m)) (record { stage = Awaiting (behind_greeting authenticates); says = Method (chosen authenticates) }) (fails_with Unsupported (Method 0xFF))

abbrev pub due_password : Bool → List ℕ → List ℕ → Due
due_password right password m = cond (right && same (drop 1 m) password) (record { stage = Awaiting Head; says = Login 0x00 }) (fails_with WrongCredentials (Login 0x01))

abbrev pub due_head : List ℕ → Due
due_head m = cond (is_known (byte m 3)) (goes_to (Address (byte m 1) (byte m 3))) (fails_with (Command 8) (Reply5 8))

abbrev pub due_address : ℕ → Due
due_address command = cond (eqb command 1) (asks_in V5) (fails_with (Command 7) (Reply5 7))

abbrev pub due_request : Bool → ℕ → Due
due_request authenticates command =
    cond authenticates (fails_with WrongCredentials (Reply4 91)) (cond (eqb command 1) (asks_in V4) (fails_with (Command 91) (Reply4 91)))

abbrev pub due_user_id : Bool → Ports → Due
due_user_id authenticates p = cond (announces (ip_of p)) (goes_to (Name p)) (due_request authenticates p.command)

unfoldable pub due_at : Setup → Field → List ℕ → Due
due_at c First m = due_first m
due_at c Methods m = due_methods c.authenticates m
due_at c User m = goes_to (Password (same (drop 2 m) c.user))
due_at c (Password right) m = due_password right c.password m
due_at c Head m = due_head m
due_at c (Address command type) m = due_address command
due_at c Request m = goes_to (UserId (ports_of m))
due_at c (UserId p) m = due_user_id c.authenticates p
due_at c (Name p) m = due_request c.authenticates p.command

-- what is asked for, if the field is the last one
abbrev pub asks_at : Field → List ℕ → Endpoint
asks_at First m = unbound
asks_at Methods m = unbound
asks_at User m = unbound
asks_at (Password right) m = unbound
asks_at Head m = unbound
asks_at (Address command type) m = target_of type m
asks_at Request m = unbound
asks_at (UserId p) m = endpoint (ipv4 (ip_of p)) p.port
asks_at (Name p) m = endpoint (domain (take (length m - 1) m)) p.port

-- ---- a stage with what is asked for and what is held, as a side has it

abbrev pub session_at : Stage → Endpoint → List ℕ → EndSession
session_at (Awaiting f) x h = waiting f h
session_at (Asked v) x h = ended (done (asked v x))
session_at (Open v) x h = ended (done (asked v x))
session_at (Failed e) x h = ended (failed e)

abbrev pub talk_from : Setup → Stage → Endpoint → EndTalk
talk_from c (Awaiting f) x = talk_at c f
talk_from c (Asked v) x = stop (done (asked v x))
talk_from c (Open v) x = stop (done (asked v x))
talk_from c (Failed e) x = stop (failed e)

-- what is due, as a talk
abbrev pub due_talk : Setup → Due → Endpoint → EndTalk
due_talk c d x = send (said_by d.says) (talk_from c d.stage x)

-- how many fields may still come
abbrev pub rank : Field → ℕ
rank First = 6
rank Methods = 5
rank User = 4
rank (Password right) = 3
rank Head = 2
rank (Address command type) = 1
rank Request = 3
rank (UserId p) = 2
rank (Name p) = 1
