-- What the calls to the proxy's end make, in numbers.
use Prim.Native.Nat.{ℕ}
use mathlib.Core.Path.{◌≡◌, refl, ap, subst, ◌∙◌}
use mathlib.Core.Bool.{Bool, true, false, cond}
use mathlib.Core.List.{List, []}
use Rattle.protocol.specs.Answers.{Accepted}
use Rattle.protocol.specs.declared.Family.{Family}
use Rattle.protocol.specs.declared.Record.{Record}
use Rattle.protocol.specs.declared.SocksError.TheVariants.{UnexpectedEof, Settled}
use Rattle.proxy_spec.specs.End.{endpoint_of}
use Rattle.proxy_session.specs.declared.Server.{Server}
use Rattle.proxy_session.specs.declared.SetUp.{SetUp}
use Rattle.proxy_session.specs.declared.Delivered.{Delivered}
use Rattle.proxy_session.specs.declared.Answered.{Answered}
use Rattle.proxy_session.specs.declared.Ended.{Ended}
use Rattle.proxy_session.specs.Server.{view, packed}
use Rattle.proxy_session.specs.Calls.{Call, refusal, DeliverResult, AnswerResult, ended_by, set_up, deliver, answer, end}
use Rattle.raw_numbers.specs.Numbers.{truth, family_of}
use Rattle.raw_server.specs.declared.RawServer.{RawServer}
use Rattle.raw_server.specs.declared.RawServed.{RawServed}
use Rattle.raw_server.specs.Raw.{server_of, served_of}
use Rattle.talk.specs.Talk.{failed, ended, is_over}
use Rattle.raw_proxy.specs.declared.RawRecord.{RawRecord}
use Rattle.raw_proxy.specs.Calls.{record_of, set_up_served, served_by, Serves}

pub record_as : (r : RawRecord) {f : Family} → f ≡ family_of r.kind → ◌≡◌ {A = Record} (record { family = f; address = r.address }) (record_of r)
record_as r e = λ i. record { family = e i; address = r.address }

pub says_set_up : (n : ℕ) (user password : List ℕ) {t : Bool} {u : SetUp} {r : RawServed} → t ≡ truth n → u ≡ set_up t user password → r ≡ set_up_served u → r ≡ set_up_served (set_up (truth n) user password)
says_set_up n user password e h q = q ∙ ap set_up_served (h ∙ ap (λ (b : Bool). set_up b user password) e)

-- the caller's answer uses nothing, and an end of stream sends nothing either
module _ (s : Server) where
  abbrev end_by : Bool → Call
  end_by a = cond a (refusal Settled s []) (record { answer = Accepted; session = packed s (ended (failed UnexpectedEof)); used = 0; sent = 0; output = [] })

  ended_served : (a : Bool) → served_of (end_by a).answer (end_by a).session 0 0 ≡ served_by (end_by a)
  ended_served true = refl
  ended_served false = refl

  end_served : served_of (end s).answer (end s).session 0 0 ≡ served_by (end s)
  unfolding end
  end_served = ended_served (is_over (view s))

module _ (raw : RawServer) {s : Server} (e : s ≡ server_of raw) where
  pub says_delivered : (piece out out' : List ℕ) (d : Delivered) (r : RawServed) → DeliverResult (deliver s piece out) piece d out' → r ≡ served_of d.answer d.server d.used d.sent
      → Serves (deliver (server_of raw) piece out) r out'
  says_delivered piece out out' d r h q =
      let g : DeliverResult (deliver (server_of raw) piece out) piece d out' = subst (λ (t : Server). DeliverResult (deliver t piece out) piece d out') e h in
      record { returned = q ∙ ap (λ (x : Delivered). served_of x.answer x.server x.used x.sent) g.returned; output = g.output }

  pub says_answered : (status : ℕ) (bound : RawRecord) (port : ℕ) (out out' : List ℕ) {b : Record} (d : Answered) (r : RawServed) → b ≡ record_of bound
      → AnswerResult (answer s status (endpoint_of b port) out) d out' → r ≡ served_of d.answer d.server 0 d.sent → Serves (answer (server_of raw) status (endpoint_of (record_of bound) port) out) r out'
  unfolding answer
  says_answered status bound port out out' d r eb h q =
      let f : AnswerResult (answer s status (endpoint_of (record_of bound) port) out) d out' = subst (λ (x : Record). AnswerResult (answer s status (endpoint_of x port) out) d out') eb h in
      let g : AnswerResult (answer (server_of raw) status (endpoint_of (record_of bound) port) out) d out' = subst (λ (t : Server). AnswerResult (answer t status (endpoint_of (record_of bound) port) out) d out') e f in
      record { returned = q ∙ ap (λ (x : Answered). served_of x.answer x.server 0 x.sent) g.returned; output = g.output }

  pub says_ended : {d : Ended} {r : RawServed} → d ≡ ended_by (end s) → r ≡ served_of d.answer d.server 0 0 → r ≡ served_by (end (server_of raw))
  says_ended h q = q ∙ ap (λ (x : Ended). served_of x.answer x.server 0 0) (h ∙ ap (λ (t : Server). ended_by (end t)) e) ∙ end_served (server_of raw)
