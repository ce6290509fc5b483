-- What the claims of the proxy's end come to.
use Prim.Native.Nat.{ℕ, ◌≤◌, ◌<◌}
use native.Mathlib.Omega.{arith}
use mathlib.Core.Path.{◌≡◌, refl, ap, sym, ◌∙◌}
use mathlib.Core.Logic.{◌↔◌, ◌⊎◌, inl, inr}
use mathlib.Core.Bool.{Bool, true}
use mathlib.Core.List.{List, [], ◌++◌}
use lib.ListN.{length, take, drop, take-append-drop}
use lib.Seq.{drop-length}
use lib.Dec.{lit<}
use Rattle.protocol.specs.Answers as code
use Rattle.protocol.specs.declared.SocksError.{SocksError}
use Rattle.protocol.specs.declared.SocksError.TheVariants.{CredentialTooLong, UnexpectedEof, Command}
use Rattle.protocol.specs.declared.Version.{Version}
use Rattle.protocol.specs.Numbers.{number, answer_number}
use Rattle.protocol.specs.Bytes.{Bytes}
use Rattle.protocol.specs.Bound.{Endpoint}
use Rattle.protocol.proofs.Limits.{number_accepted}
use Rattle.proxy_spec.specs.End as plain
use Rattle.proxy_spec.specs.End.{Setup, asks, machine, used, reply_to, status_to, success}
use Rattle.proxy_spec.specs.Wants.{Waits, Asks, Settles}
use Rattle.proxy_decisions.specs.declared.destination.Target.{Target}
use Rattle.proxy_replies.specs.declared.stages.Outcome.{Outcome}
use Rattle.proxy_replies.specs.declared.stages.Outcome.TheVariants.{Waiting, Asked, Open, Failed}
use Rattle.proxy_session.specs.declared.Server.{Server}
use Rattle.proxy_session.specs.Server.{outcome, destination, wants}
use Rattle.proxy_session.specs.Calls.{Call, refusal, set_up, deliver, answer, end}
use Rattle.proxy.specs.Served.{outcome_by, target_by, handed_out, tunnel_of, joined_of, Alike, Served}
use Rattle.proxy.specs.Turns.{failure, Given, nowhere, SettingUp, Untouched, InTurn, Answering, AllAnswering}
use Rattle.proxy.specs.Wants.{Wanting, WantsSome}
use Rattle.talk.specs.Tunnel.{Delivery, Behind, Tunnel, rest}

-- ---- a list of deliveries: all that is told of it is the plain machine's, and of two with equal joined bytes the same

abbrev told : Tunnel Server → Outcome × Target × List ℕ × ℕ × List ℕ
told t = (outcome t.session, destination t.session, t.sent, t.count, t.rest)

pub alike_told : (t u : Tunnel Server) → Alike t u → told t ≡ told u
alike_told t u a = λ i. (a.outcomes i, a.destinations i, a.sent i, a.count i, a.rest i)

module _ (c : Setup) (s : Server) (ds : List Delivery) (k : Served c s ds) where
  pub as_machine : let bs = joined_of ds in let m = machine c bs in told (tunnel_of s ds) ≡ (outcome_by m.standing, handed_out (target_by m.standing), m.sent, used c bs, drop (used c bs) bs)
  as_machine =
      let r = k.rests_are ∙ ap (λ (n : ℕ). drop n (joined_of ds)) k.count_as in
      λ i. (k.outcome_as i, k.destination_as i, k.sent_as i, k.count_as i, r i)

  pub same_told : (ds' : List Delivery) → joined_of ds' ≡ joined_of ds → told (tunnel_of s ds') ≡ told (tunnel_of s ds)
  same_told ds' e = alike_told (tunnel_of s ds') (tunnel_of s ds) (k.alike ds' e)

-- ---- what a call answers, and tells of the end that it leaves

abbrev called : Call → code.Answer × ℕ × Outcome × Target
called c = (c.answer, failure (outcome c.session), outcome c.session, destination c.session)

-- ---- the caller's answer

-- an end that was asked replies in the version that it was asked in
pub asked_replies : AllAnswering → (c : Setup) (s : Server) (ds : List Delivery) → Served c s ds → (a : plain.Asked) → (machine c (joined_of ds)).standing ≡ asks a
    → (status : ℕ) (x : Endpoint) (out : List ℕ) → 262 ≤ length out → let r = answer (tunnel_of s ds).session status x out in take r.sent r.output ≡ reply_to a.version status x
asked_replies f c s ds k a q status x out l = (f (tunnel_of s ds).session a.version (k.asked_in a q) status x out l).sends

module _ (s : Server) (v : Version) (status : ℕ) (x : Endpoint) (out : List ℕ) (k : Answering s v status x out) where
  -- success: it is open, with its destination
  pub success_opens : status_to v status ≡ success v → called (answer s status x out) ≡ (code.Accepted, 0, Open, destination s)
  success_opens z = let t = k.opens z in λ i. (k.accepts i, failure (t.outcomes i), t.outcomes i, t.destinations i)

  -- anything else: it has failed with 15 and the status that was sent, and hands out nothing
  pub other_fails : (status_to v status ≡ success v → ⊥) → called (answer s status x out) ≡ (code.Accepted, 15, Failed (Command (status_to v status)), nowhere)
  other_fails n = let t = k.fails n in λ i. (k.accepts i, k.fails_15 n i, t.outcomes i, t.destinations i)

-- ---- set-up

refused_by : (a : code.Answer) (n : ℕ) → 0 < n → answer_number a ≡ n → (e : SocksError) × (number e ≡ n) × (a ≡ code.Refused e)
refused_by code.Accepted n l q = absurd (omega arith)
refused_by (code.Refused e) n l q = (e, q, refl)

module _ (authenticates : Bool) (user password : List ℕ) (k : SettingUp authenticates user password) where
  abbrev made : ℕ × Outcome × Target
  made = let r = set_up authenticates user password in (answer_number r.answer, outcome r.server, destination r.server)

  -- credentials of at most 255 bytes are accepted, and it waits
  pub short_accepted : length user ≤ 255 → length password ≤ 255 → made ≡ (0, Waiting, nowhere)
  short_accepted h l =
      let q = k.number.accepts.1 (λ (_, z). neither z, tt) in
      let t = k.accepted (number_accepted _ q) in
      λ i. (q i, t.outcomes i, t.destinations i)
    where
      neither : (255 < length user) ⊎ (255 < length password) → ⊥
      neither (inl z) = omega arith
      neither (inr z) = omega arith

  -- a longer user, if they are asked for: 5, and it has failed
  pub long_refused : authenticates ≡ true → 255 < length user → made ≡ (5, Failed CredentialTooLong, nowhere)
  long_refused a l =
      let q = (k.number.refuses 5 (lit< tt)).1 (inl ((a, inl l), refl)) in
      let (e, _, r) = refused_by _ 5 (lit< tt) q in
      let t = k.refused e r in
      λ i. (q i, t.outcomes i, t.destinations i)

  -- and it keeps nothing of them
  pub long_kept : (e : SocksError) → (set_up authenticates user password).answer ≡ code.Refused e → ((set_up authenticates user password).server.held ≡ 0) × ((set_up authenticates user password).server.user.len ≡ 0)
  long_kept e r = let q = k.empty e r in (ap (λ (s : Server). s.held) q, ap (λ (s : Server). s.user.len) q)

-- ---- calls in turn and out of turn, of any end

-- refused with a number, all left as it was
abbrev RefusedWith : ℕ → Call → Server → List ℕ → Type 0
RefusedWith n c s out = (e : SocksError) × (number e ≡ n) × (c ≡ refusal e s out)

refused_with : (n : ℕ) (c : Call) (s : Server) (out : List ℕ) → 0 < n → answer_number c.answer ≡ n → Untouched c s out → RefusedWith n c s out
refused_with n c s out l q u = let (e, m, r) = refused_by c.answer n l q in (e, m, u e r)

-- the output is what was sent, and behind it what was lent
abbrev Parted : Call → List ℕ → Type 0
Parted c out = ◌≡◌ {A = List ℕ × ℕ} (c.output, length c.output) (take c.sent c.output ++ drop c.sent out, length out)

parted : (c : Call) (out : List ℕ) → Behind c out → Parted c out
parted c out b =
    let e = sym (take-append-drop c.sent c.output) ∙ ap (λ (l : List ℕ). take c.sent c.output ++ l) b.bytes in
    λ i. (e i, b.size i)

module _ (s : Server) (k : InTurn s) (status : ℕ) (x : Endpoint) (piece out : List ℕ) where
  -- one that has failed: every call answers 16 and leaves all as it was
  pub settled_refuses : (n : SocksError) → outcome s ≡ Failed n → RefusedWith 16 (deliver s piece out) s out × RefusedWith 16 (answer s status x out) s out × RefusedWith 16 (end s) s []
  settled_refuses n q = (
    refused_with 16 (deliver s piece out) s out (lit< tt) (((k.deliver_number piece out).refuses 16 (lit< tt)).1 (inl (unwaiting, refl))) (k.deliver_untouched piece out),
    refused_with 16 (answer s status x out) s out (lit< tt) (((k.answering_number status x out).refuses 16 (lit< tt)).1 (inl (unasked, refl))) (k.answer_untouched status x out),
    refused_with 16 (end s) s [] (lit< tt) ((k.end_number.refuses 16 (lit< tt)).1 (inl (unwaiting, refl))) k.end_untouched,
  )
    where
      unwaiting : outcome s ≡ Waiting → ⊥
      unwaiting r = let z : ◌≡◌ {A = ℕ} 0 1 = cc in omega arith

      unasked : outcome s ≡ Asked → ⊥
      unasked r = let z : ◌≡◌ {A = ℕ} 0 1 = cc in omega arith

  -- in turn but lent less than 262 bytes: 1, and all left as it was
  pub short_refuses : length out < 262 → (outcome s ≡ Waiting → RefusedWith 1 (deliver s piece out) s out) × (outcome s ≡ Asked → RefusedWith 1 (answer s status x out) s out)
  short_refuses h = (
    λ q. refused_with 1 (deliver s piece out) s out (lit< tt) (((k.deliver_number piece out).refuses 1 (lit< tt)).1 (inr (λ n. n q, inl (h, refl)))) (k.deliver_untouched piece out),
    λ q. refused_with 1 (answer s status x out) s out (lit< tt) (((k.answering_number status x out).refuses 1 (lit< tt)).1 (inr (λ n. n q, inl (h, refl)))) (k.answer_untouched status x out),
  )

  -- one that waits: the end of the stream is taken and comes to 9, and an empty piece, lent enough, is taken and changes nothing
  pub waiting_ends : outcome s ≡ Waiting → called (end s) ≡ (code.Accepted, 9, Failed UnexpectedEof, nowhere)
  waiting_ends q =
      let a = number_accepted _ (k.end_number.accepts.1 (λ f. f q, tt)) in
      let t = k.end_fails a in
      let n = k.end_nine a in
      λ i. (a i, n i, t.outcomes i, t.destinations i)

  pub waiting_takes : outcome s ≡ Waiting → 262 ≤ length out → deliver s [] out ≡ record { answer = code.Accepted; session = s; used = 0; sent = 0; output = out }
  waiting_takes q l = k.nothing out (number_accepted _ ((k.deliver_number [] out).accepts.1 (λ f. f q, (λ h. omega arith, tt))))

  pub deliver_parted : Parted (deliver s piece out) out
  deliver_parted = parted (deliver s piece out) out (k.deliver_behind piece out)

  pub answer_parted : Given x → Parted (answer s status x out) out
  answer_parted g = parted (answer s status x out) out (k.answer_behind status x out g)

-- ---- what it wants

module _ (c : Setup) (s : Server) (ds : List Delivery) (k : Wanting c s ds) where
  abbrev J : List ℕ
  J = joined_of ds

  abbrev now : ℕ
  now = wants (tunnel_of s ds).session

  -- where a stream brings it to its question, one of just so many bytes does, and the first is no shorter
  pub shortest_asks : Waits c J → (bs : List ℕ) → Bytes bs → Asks c J bs → (now ≤ length bs) × (l : List ℕ) × Bytes l × (length l ≡ now) × Asks c J l
  shortest_asks w bs y a = let m = k.wanted.asks w bs y a in (m.none_shorter bs y a, m.stream, m.bytes, m.long, m.is)

  -- where none does, one of just so many settles it, and none of fewer
  pub shortest_settles : Waits c J → ((bs : List ℕ) → Bytes bs → Asks c J bs → ⊥)
      → (l : List ℕ) × Bytes l × (length l ≡ now) × Settles c J l × ((bs : List ℕ) → Bytes bs → Settles c J bs → length l ≤ length bs)
  shortest_settles w n =
      let m = k.wanted.fails w n in
      (m.stream, m.bytes, m.long, m.is, λ bs y z. omega (arith, m.long, m.none_shorter bs y z))

  pub settled_wants : (Waits c J → ⊥) → now ≡ 0
  settled_wants n = k.wanted.settled n

  -- who reads no more has no rest at the question
  pub nothing_left : (piece out : List ℕ) → Bytes piece → length piece ≤ now → outcome (deliver (tunnel_of s ds).session piece out).session ≡ Asked
      → rest piece (deliver (tunnel_of s ds).session piece out).used ≡ []
  nothing_left piece out y l q = ap (rest piece) (k.never_past piece out y l q) ∙ drop-length piece

-- of any end
pub wants_just : (s : Server) → WantsSome s → wants s ≡ 0 ↔ (outcome s ≡ Waiting → ⊥)
wants_just s k = (λ q w. omega (arith, k.some w), k.none)
