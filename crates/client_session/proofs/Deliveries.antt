-- What the parts of a start, a delivery and an end come to.
use Rattle.std.proofs.Common.{◌≡◌, ℕ, ◌+◌, ◌%◌, ◌^◌, ◌<◌, ◌≤◌, Bool, true, false, cond, leb, List, [], ◌∷◌, ◌++◌, length, take, drop, sym, refl, ap, ◌∙◌, zero-add, arith, zero-le, Result, Ok, Err, IfOk, length-append, length-drop, length-take, length-take-le, le-leb}
use borrow.Author.Tests.{lt-leb}
use Rattle.protocol.specs.declared.Reply.{Reply}
use Rattle.protocol.specs.declared.SocksError.{SocksError}
use Rattle.protocol.specs.declared.SocksError.TheVariants.{ShortOutput}
use Rattle.protocol.specs.Answers as code
use Rattle.protocol.specs.declared.Bound.{Bound}
use Rattle.protocol.specs.Client.{first_room, room, talk_at, client}
use Rattle.buffers.specs.write.Written.{overwrite}
use Rattle.client_stages.specs.declared.due.Lengths.{Lengths}
use Rattle.client_stages.specs.declared.due.Requests.{Requests}
use Rattle.client_stages.specs.declared.due.Stage.{Stage}
use Rattle.client_stages.specs.declared.due.Stage.TheVariants.{Awaiting, Open, Failed}
use Rattle.client_stages.specs.due.Stages.{view_at, rank}
use Rattle.client_stages.specs.due.Parts.{part, first_of}
use Rattle.client_stages.proofs.due.Stages.{awaits}
use Rattle.client_stages.specs.start.Starting.{first_size, start_at}
use Rattle.client_stages.proofs.start.Laws.{first_part, sent_fits}
use Rattle.client_stages.specs.outcome.Ends.{end_at}
use Rattle.client_delivery.specs.turns.Turns.{kept_in}
use Rattle.client_delivery.specs.declared.piece.Taken.{Taken}
use Rattle.client_delivery.specs.piece.Takes.{TakeResult}
use Rattle.client_session.specs.declared.Session.{Session}
use Rattle.client_session.specs.declared.Ended.{Ended}
use Rattle.client_session.specs.Session.{side_of, view}
use Rattle.client_session.specs.Calls.{Call, refusal, StartResult, started, starts, start, DeliverResult, delivered, moves, takes, deliver, end, ended_by}
use Rattle.client_delivery.specs.delivery.Received.{Received, Bounded, unchanged, Ways, settled, unstarted, short, none, taken, ReceiveResult}
use Rattle.talk.specs.Attempts.{decided_in, decided_by, one_if_waiting, attempts_by}
use Rattle.talk.specs.Talk.{feed, onward, is_over}

-- ---- which way a delivery goes

pub is_over_lem : (stage : Stage) (b : Bound) (h : List ℕ) → rank stage ≡ 0 → is_over (view_at stage b h) ≡ true
is_over_lem (Awaiting e) b h z = absurd (awaits e z)
is_over_lem Open b h z = refl
is_over_lem (Failed x) b h z = refl

waits_on : {stage : Stage} {e : Reply} (b : Bound) (h : List ℕ) → stage ≡ Awaiting e → is_over (view_at stage b h) ≡ false
waits_on b h q = rw q

takes_none : (s : Session) (piece out : List ℕ) → length piece ≡ 0 → takes s piece out ≡ record { answer = code.Accepted; session = s; used = 0; sent = 0; output = out }
takes_none s [] out z = refl
takes_none s (b ∷ bs) out z = absurd (omega arith)

takes_more : (s : Session) (piece out : List ℕ) → (length piece ≡ 0 → ⊥) → takes s piece out ≡ moves s (onward (side_of s) (view s) piece) (attempts_by (side_of s) (view s) piece) out
takes_more s [] out h = absurd (h refl)
takes_more s (b ∷ bs) out h = refl

-- a number of 64 bits stays as it is with no more
no_more : (a : ℕ) → a < 2 ^ 64 → (a + 0) % 2 ^ 64 ≡ a
no_more a h = omega arith

-- what a call is on a session of these parts, and after it
abbrev pub session_of : Stage → Bool → ℕ → List ℕ → Bound → ℕ → Lengths → List ℕ → Session
session_of s g n hold x a l b = record { stage = s; started = g; held = n; hold = hold; bound = x; attempts = a; requests = record { lengths = l; bytes = b } }

abbrev pub sending : Bool → Taken → List ℕ → ℕ → Lengths → List ℕ → List ℕ → Call
sending g t hold a l b out =
    record {
      answer = code.Accepted;
      session = session_of t.stage g t.held hold t.bound ((a + t.attempts) % 2 ^ 64) l b;
      used = t.used;
      sent = length (part b t.from t.sent);
      output = part b t.from t.sent ++ drop (length (part b t.from t.sent)) out;
    }

module _ (g : Bool) (held : ℕ) (l : Lengths) (hold piece : List ℕ) (x : Bound) (a : ℕ) (small : a < 2 ^ 64) (b out : List ℕ) where
  -- a piece taken behind held bytes
  moves_as : (e : Reply) {t : Taken} {hold' : List ℕ} → TakeResult l e (take held hold) piece hold x t hold'
      → moves (session_of (Awaiting e) true held hold x a l b) (feed (client (kept_in l b)) (talk_at (kept_in l b) e) (take held hold ++ piece))
      (decided_in (client (kept_in l b)) (talk_at (kept_in l b) e) (take held hold ++ piece) + one_if_waiting (feed (client (kept_in l b)) (talk_at (kept_in l b) e) (take held hold ++ piece)).session) out
      ≡ sending true t hold' a l b out
  moves_as e {t} w =
      let k = w.keeps in
      let fed = w.whole b in
      let tries = (λ i. w.decides b i + one_if_waiting (fed i).session) ∙ sym k.tries in
      (λ i. moves (session_of (Awaiting e) true held hold x a l b) (fed i) (tries i) out)
      ∙ (λ i. record {
        answer = code.Accepted;
        session = record { stage = sym k.staged i; started = true; held = sym k.counts i; hold = sym k.holds i; bound = sym k.bounds i; attempts = (a + t.attempts) % 2 ^ 64; requests = record { lengths = l; bytes = b } };
        used = sym k.uses i;
        sent = length (part b t.from t.sent);
        output = part b t.from t.sent ++ drop (length (part b t.from t.sent)) out;
      })

  -- as it was received
  abbrev pub received : Stage → Received → List ℕ → Call
  received stage (Ok t) hold' = sending g t hold' a l b out
  received stage (Err y) hold' = refusal y (session_of stage g held hold' x a l b) out

  pub goes : (stage : Stage) {r : Received} {hold' : List ℕ} → Ways stage g held l hold piece (length out) x r hold' → deliver (session_of stage g held hold x a l b) piece out ≡ received stage r hold'
  unfolding deliver onward decided_by
  goes stage (settled z q w) = rw (q, w, is_over_lem stage x (take held hold) z)
  goes stage (unstarted e s f q w) = rw (q, w, s, f)
  goes stage (short e s t h q w) = rw (q, w, s, t, lt-leb (room e) (length out) h)
  goes stage (none e s t h z q w) = rw (q, w, s, t, no_more a small, le-leb (room e) (length out) h) (takes_none (session_of (Awaiting e) true held hold x a l b) piece out z)
  goes stage (taken e y s t h z q w) = rw (q, s, t, le-leb (room e) (length out) h) (takes_more (session_of (Awaiting e) true held hold x a l b) piece out z ∙ moves_as e w)

-- ---- a delivery: what is due is sent, and the session built

pub part_long : (b : List ℕ) (from n : ℕ) → length b ≡ 1024 → from + n ≤ 778 → length (part b from n) ≡ n
part_long b from n l h = length-take n (drop from b) ∙ rw (length-drop from b) (omega arith)

-- the answer, and what was taken, by what was received
abbrev pub taken_by : Session → Received → code.Answer × Taken
taken_by s (Ok t) = (code.Accepted, t)
taken_by s (Err y) = (code.Refused y, unchanged s.stage s.held s.bound)

module _ (s : Session) (piece out : List ℕ) {r : Received} {hold' : List ℕ} (v : ReceiveResult s.stage s.started s.held s.requests.lengths s.hold piece (length out) s.bound r hold') (small : s.attempts < 2 ^ 64) where
  gone : deliver s piece out ≡ received s.started s.held s.requests.lengths s.hold piece s.bound s.attempts small s.requests.bytes out s.stage r hold'
  gone = goes s.started s.held s.requests.lengths s.hold piece s.bound s.attempts small s.requests.bytes out s.stage v.way

  pub delivers : {t : Taken} → r ≡ Ok t → {n : ℕ} → n ≡ (s.attempts + t.attempts) % 2 ^ 64 → length s.requests.bytes ≡ 1024 → {out' : List ℕ} → out' ≡ overwrite out 0 (part s.requests.bytes t.from t.sent)
      → DeliverResult (deliver s piece out) piece
      (record { answer = code.Accepted; used = t.used; sent = t.sent; session = session_of t.stage s.started t.held hold' t.bound n s.requests.lengths s.requests.bytes }) out'
  unfolding overwrite
  delivers {t} q {n = tries} more long {out'} w =
      let p = part s.requests.bytes t.from t.sent in
      let i : Bounded piece (length out) t = rw q at v.bounds in
      let n : length p ≡ t.sent = part_long s.requests.bytes t.from t.sent long i.inside in
      let c : deliver s piece out ≡ sending s.started t hold' s.attempts s.requests.lengths s.requests.bytes out = rw q at gone in
      let o : out' ≡ p ++ drop (length p) out = w ∙ ap (λ (k : ℕ). p ++ drop k out) (zero-add (length p)) in
      record {
        returned = (λ i. record { answer = code.Accepted; used = t.used; sent = sym n i; session = session_of t.stage s.started t.held hold' t.bound (more i) s.requests.lengths s.requests.bytes }) ∙ ap delivered (sym c);
        output = o ∙ ap (λ (a : Call). a.output) (sym c);
        inside = rw o (omega (arith, length-append p (drop (length p) out)));
        within = i.within;
      }

  pub delivers_refused : {y : SocksError} → r ≡ Err y
      → DeliverResult (deliver s piece out) piece (record { answer = code.Refused y; used = 0; sent = 0; session = session_of s.stage s.started s.held hold' s.bound s.attempts s.requests.lengths s.requests.bytes }) out
  delivers_refused {y} q =
      let c : deliver s piece out ≡ refusal y (session_of s.stage s.started s.held hold' s.bound s.attempts s.requests.lengths s.requests.bytes) out = rw q at gone in
      record { returned = ap delivered (sym c); output = ap (λ (a : Call). a.output) (sym c); inside = zero-le; within = zero-le }

  pub taken_within : IfOk r (Bounded piece (length out)) → {a : code.Answer × Taken} → a ≡ taken_by s r → (a.1.from + a.1.sent ≤ 778) × (a.1.sent ≤ length out)
  taken_within b q = go r b q
    where
      go : (r : Received) → IfOk r (Bounded piece (length out)) → {a : code.Answer × Taken} → a ≡ taken_by s r → (a.1.from + a.1.sent ≤ 778) × (a.1.sent ≤ length out)
      go (Ok t) i q = rw q (i.inside, i.fits)
      go (Err y) i q = rw q (zero-le, zero-le)

  pub delivers_by : {a : code.Answer × Taken} → a ≡ taken_by s r → {n : ℕ} → n ≡ (s.attempts + a.1.attempts) % 2 ^ 64 → length s.requests.bytes ≡ 1024 → {out' : List ℕ} → out' ≡ overwrite out 0 (part s.requests.bytes a.1.from a.1.sent)
      → DeliverResult (deliver s piece out) piece
      (record { answer = a.0; used = a.1.used; sent = a.1.sent; session = session_of a.1.stage s.started a.1.held hold' a.1.bound n s.requests.lengths s.requests.bytes }) out'
  unfolding overwrite
  delivers_by {a} q {n} more long {out'} w = go r refl
    where
      go : (r' : Received) → r ≡ r' → DeliverResult (deliver s piece out) piece
          (record { answer = a.0; used = a.1.used; sent = a.1.sent; session = session_of a.1.stage s.started a.1.held hold' a.1.bound n s.requests.lengths s.requests.bytes }) out'
      go (Ok t) e = let b : a ≡ (code.Accepted, t) = q ∙ ap (taken_by s) e in rw b (delivers e (rw b at more) long (rw b at w))
      go (Err y) e =
          let b : a ≡ (code.Refused y, unchanged s.stage s.held s.bound) = q ∙ ap (taken_by s) e in
          let m : n ≡ s.attempts = rw b at more ∙ no_more s.attempts small in
          let o : out' ≡ out = rw b at w in
          rw (b, m, o) (delivers_refused e)

-- ---- a start: a part of the requests is sent, and the session marked

abbrev start_call : Session → Result ℕ SocksError → List ℕ → Call
start_call s (Ok n) out = starts s (part s.requests.bytes 0 n) out
start_call s (Err e) out = refusal e s out

module _ (held : ℕ) (hold : List ℕ) (x : Bound) (n : ℕ) (q : Requests) (out : List ℕ) where
  abbrev at : Stage → Bool → Session
  at stage g = record { stage = stage; started = g; held = held; hold = hold; bound = x; attempts = n; requests = q }

  start_call_lem : (stage : Stage) (g : Bool) → start_call (at stage g) (start_at stage g q.lengths (length out)) out ≡ start (at stage g) out
  unfolding start
  start_call_lem (Awaiting e) true = refl
  start_call_lem (Awaiting e) false = go (leb (first_room e) (length out))
    where
      go : (b : Bool)
          → start_call (at (Awaiting e) false) (cond b (Ok (first_size q.lengths e)) (Err ShortOutput)) out
          ≡ cond b (starts (at (Awaiting e) false) (first_of e q) out) (refusal ShortOutput (at (Awaiting e) false) out)
      go true = ap (λ (first : List ℕ). starts (at (Awaiting e) false) first out) (sym (first_part e q))
      go false = refl
  start_call_lem Open g = refl
  start_call_lem (Failed y) g = refl

module _ (s : Session) (out : List ℕ) {r : Result ℕ SocksError} (q : r ≡ start_at s.stage s.started s.requests.lengths (length out)) where
  called : start_call s r out ≡ start s out
  called = ap (λ (x : Result ℕ SocksError). start_call s x out) q ∙ start_call_lem s.held s.hold s.bound s.attempts s.requests out s.stage s.started

  pub start_fits : {n : ℕ} → r ≡ Ok n → (n ≤ length out) × (n ≤ 1024)
  start_fits {n} w =
      let z : IfOk (start_at s.stage s.started s.requests.lengths (length out)) (λ m. (m ≤ length out) × (m ≤ 1024)) = sent_fits s.started s.requests.lengths (length out) s.stage in
      rw (sym q ∙ w) at z

  pub starts_as : {n : ℕ} → r ≡ Ok n → length s.requests.bytes ≡ 1024 → {first : List ℕ} → first ≡ take n s.requests.bytes
      → StartResult (start s out)
      (record { answer = code.Accepted; sent = n; session = record { stage = s.stage; started = true; held = s.held; hold = s.hold; bound = s.bound; attempts = s.attempts; requests = s.requests } }) (first ++ drop n out)
  starts_as {n} e long {first} w =
      let p = part s.requests.bytes 0 n in
      let k : length p ≡ n = length-take-le n s.requests.bytes (omega (arith, start_fits e)) in
      let c : starts s p out ≡ start s out = rw e at called in
      record {
        returned = (λ i. record { answer = code.Accepted; sent = sym k i; session = record { stage = s.stage; started = true; held = s.held; hold = s.hold; bound = s.bound; attempts = s.attempts; requests = s.requests } }) ∙ ap started c;
        output = (λ i. w i ++ drop (sym k i) out) ∙ ap (λ (a : Call). a.output) c;
        inside = rw w (omega (arith, k, length-append p (drop n out)));
      }

  pub starts_refused : {e : SocksError} → r ≡ Err e → StartResult (start s out) (record { answer = code.Refused e; sent = 0; session = s }) out
  starts_refused {e} w =
      let c : refusal e s out ≡ start s out = rw w at called in
      record { returned = ap started c; output = ap (λ (a : Call). a.output) c; inside = zero-le }

-- the answer, how much is sent, and whether the session is started, by what the start came to
abbrev pub started_at : Session → Result ℕ SocksError → code.Answer × ℕ × Bool
started_at s (Ok n) = (code.Accepted, n, true)
started_at s (Err e) = (code.Refused e, 0, s.started)

module _ (s : Session) (out : List ℕ) {r : Result ℕ SocksError} (q : r ≡ start_at s.stage s.started s.requests.lengths (length out)) {a : code.Answer × ℕ × Bool} (w : a ≡ started_at s r) where
  pub starts_by : length s.requests.bytes ≡ 1024 → {out' : List ℕ} → out' ≡ overwrite out 0 (take a.1 s.requests.bytes)
      → StartResult (start s out)
      (record { answer = a.0; sent = a.1; session = record { stage = s.stage; started = a.2; held = s.held; hold = s.hold; bound = s.bound; attempts = s.attempts; requests = s.requests } }) out'
  unfolding overwrite
  starts_by long {out'} f = go r refl
    where
      go : (r' : Result ℕ SocksError) → r ≡ r' → StartResult (start s out)
          (record { answer = a.0; sent = a.1; session = record { stage = s.stage; started = a.2; held = s.held; hold = s.hold; bound = s.bound; attempts = s.attempts; requests = s.requests } }) out'
      go (Ok n) e =
          let b : a ≡ (code.Accepted, n, true) = w ∙ ap (started_at s) e in
          let p = take n s.requests.bytes in
          let k : length p ≡ n = length-take-le n s.requests.bytes (omega (arith, start_fits s out q e)) in
          let o : out' ≡ p ++ drop n out = rw b at f ∙ ap (λ (m : ℕ). p ++ drop m out) (zero-add (length p) ∙ k) in
          rw (b, o) (starts_as s out q e long refl)
      go (Err y) e =
          let b : a ≡ (code.Refused y, 0, s.started) = w ∙ ap (started_at s) e in
          let o : out' ≡ out = rw b at f in
          rw (b, o) (starts_refused s out q e)

-- ---- an end: the session at the stage behind it

abbrev pub end_call : Session → Result Stage SocksError → Ended
end_call s (Ok stage) = record { answer = code.Accepted; session = record { stage = stage; started = s.started; held = 0; hold = s.hold; bound = s.bound; attempts = s.attempts; requests = s.requests } }
end_call s (Err e) = record { answer = code.Refused e; session = s }

end_call_lem : (held : ℕ) (hold : List ℕ) (x : Bound) (n : ℕ) (q : Requests) (stage : Stage) (g : Bool)
    → let s : Session = record { stage = stage; started = g; held = held; hold = hold; bound = x; attempts = n; requests = q } in
    end_call s (end_at stage g) ≡ ended_by (end s)
unfolding end
end_call_lem held hold x n q (Awaiting e) true = refl
end_call_lem held hold x n q (Awaiting e) false = refl
end_call_lem held hold x n q Open g = refl
end_call_lem held hold x n q (Failed y) g = refl

pub ends_as : (s : Session) {r : Result Stage SocksError} → r ≡ end_at s.stage s.started → end_call s r ≡ ended_by (end s)
ends_as s q = ap (end_call s) q ∙ end_call_lem s.held s.hold s.bound s.attempts s.requests s.stage s.started

-- the answer, the stage and how much is held, by what the end came to
abbrev pub ended_at : Session → Result Stage SocksError → code.Answer × Stage × ℕ
ended_at s (Ok stage) = (code.Accepted, stage, 0)
ended_at s (Err e) = (code.Refused e, s.stage, s.held)

module _ (s : Session) where
  abbrev with_end : code.Answer × Stage × ℕ → Ended
  with_end a = record { answer = a.0; session = record { stage = a.1; started = s.started; held = a.2; hold = s.hold; bound = s.bound; attempts = s.attempts; requests = s.requests } }

  with_end_lem : (r : Result Stage SocksError) → with_end (ended_at s r) ≡ end_call s r
  with_end_lem (Ok stage) = refl
  with_end_lem (Err e) = refl

  pub ends_by : {r : Result Stage SocksError} → r ≡ end_at s.stage s.started → {a : code.Answer × Stage × ℕ} → a ≡ ended_at s r → with_end a ≡ ended_by (end s)
  ends_by {r} q w = ap with_end w ∙ with_end_lem r ∙ ends_as s q
