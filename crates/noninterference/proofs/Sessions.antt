-- Two sessions alike but for stored bytes at some positions; what a start and a delivery do to both.
use Prim.Native.Nat.{ℕ, ◌+◌, ◌-◌, ◌≤◌}
use native.Mathlib.Nat.{add-zero, zero-add}
use native.Mathlib.Omega.{arith}
use mathlib.Core.Path.{◌≡◌, refl, ap, sym, ◌∙◌, subst}
use mathlib.Core.Bool.{Bool, true, false, cond}
use mathlib.Core.List.{List, [], ◌∷◌, ◌++◌}
use lib.ListN.{length, take, drop}
use lib.Seq.{take-append_seam}
use lib.Dec.{leb}
use Rattle.protocol.specs.declared.Reply.{Reply}
use Rattle.protocol.specs.declared.Reply.TheVariants.{NegotiationRes, AuthenticationRes, ProxyRes, Response}
use Rattle.protocol.specs.declared.AuthMethod.TheVariants.{NoAuth, UserPass, NoneAcceptable}
use Rattle.protocol.specs.declared.SocksError.TheVariants.{ShortOutput, Settled, OutOfOrder}
use Rattle.protocol.specs.Answers.{Answer, Accepted, Refused}
use Rattle.protocol.specs.Client.{first_room, room, client, talk_at}
use Rattle.client_stages.specs.declared.due.Lengths.{Lengths}
use Rattle.client_stages.specs.declared.due.Requests.{Requests}
use Rattle.client_stages.specs.declared.due.Stage.{Stage}
use Rattle.client_stages.specs.declared.due.Stage.TheVariants.{Awaiting, Open, Failed}
use Rattle.client_stages.specs.due.Parts.{negotiation_size, authentication_size, proxy_size, request_size, negotiation_of, authentication_of, proxy_of, requests_of, first_of}
use Rattle.client_stages.specs.due.Stages.{SideSession, SideFed, stage_of}
use Rattle.client_session.specs.declared.Session.{Session}
use Rattle.client_session.specs.Session.{held_bytes, packed, attempted}
use Rattle.client_session.specs.Calls.{Call, refusal, starts, start, moves, takes, deliver, end}
use Rattle.talk.specs.Talk.{waiting, ended, done, failed, held_by, reached, onward, feed}
use Rattle.talk.specs.Attempts.{decided_by, decided_in, one_if_waiting}
use Rattle.noninterference.specs.Places.{Agree}
use Rattle.noninterference.proofs.Bytes.{part_long, agree_all, agree_join, agree_part}
use Rattle.noninterference.proofs.Talks.{Stands, SideStands, Feeds, feed_like, decided_like, talk_like}

-- a session with other stored bytes
abbrev pub other : Session → List ℕ → Session
other s cs =
    record {
      stage = s.stage;
      started = s.started;
      held = s.held;
      hold = s.hold;
      bound = s.bound;
      attempts = s.attempts;
      requests = record { lengths = s.requests.lengths; bytes = cs };
    }

-- at a stage, started or not
abbrev at : Stage → Bool → Session → Session
at stage b s = record { stage = stage; started = b; held = s.held; hold = s.hold; bound = s.bound; attempts = s.attempts; requests = s.requests }

-- how many bytes were sent before
abbrev pub StandsAt : Lengths → Bool → Stage → ℕ → Type 0
StandsAt l true (Awaiting e) n = Stands l e n
StandsAt l false (Awaiting e) n = (n ≡ 0) × Stands l e (negotiation_size l)
StandsAt l b Open n = Unit {0}
StandsAt l b (Failed x) n = Unit {0}

pub record Goes (S : ℕ → Type 0) (n : ℕ) (s : Session) (cs : List ℕ) : Type 0 where
  pub agree : Agree S 0 s.requests.bytes cs
  pub long : 778 ≤ length s.requests.bytes
  pub stands : StandsAt s.requests.lengths s.started s.stage n

-- two calls
pub record Calls (S : ℕ → Type 0) (n : ℕ) (cs : List ℕ) (x y : Call) : Type 0 where
  pub answer : x.answer ≡ y.answer
  pub used : x.used ≡ y.used
  pub count : x.sent ≡ y.sent
  pub sent : Agree S n (take x.sent x.output) (take y.sent y.output)
  pub session : y.session ≡ other x.session cs
  pub goes : Goes S (n + length (take x.sent x.output)) x.session cs

-- two that send nothing
pub record Ends (S : ℕ → Type 0) (n : ℕ) (cs : List ℕ) (x y : Call) : Type 0 where
  pub answer : x.answer ≡ y.answer
  pub session : y.session ≡ other x.session cs
  pub goes : Goes S (n + 0) x.session cs

abbrev nothing : Answer → Session → List ℕ → Call
nothing a s out = record { answer = a; session = s; used = 0; sent = 0; output = out }

module _ (S : ℕ → Type 0) (n : ℕ) (cs : List ℕ) where
  pub still : (s : Session) → Goes S n s cs → Goes S (n + 0) s cs
  still s g = subst (λ (m : ℕ). Goes S m s cs) (sym (add-zero n)) g

  quiet : (a : Answer) (s : Session) → Goes S n s cs → (out out' : List ℕ) → Calls S n cs (nothing a s out) (nothing a (other s cs) out')
  quiet a s g out out' = record { answer = refl; used = refl; count = refl; sent = agree_all S n []; session = refl; goes = still s g }

  -- bytes at an output's start
  pub agree_out : (p q u v : List ℕ) → Agree S n p q → Agree S n (take (length p) (p ++ u)) (take (length q) (q ++ v))
  agree_out p q u v a = rw (take-append_seam p u, take-append_seam q v) a

  -- ---- start

  module _ (l : Lengths) (bs : List ℕ) (a : Agree S 0 bs cs) (long : 778 ≤ length bs) where
    abbrev one : Requests
    one = record { lengths = l; bytes = bs }

    abbrev two : Requests
    two = record { lengths = l; bytes = cs }

    all_agree : (o : Bool) → Agree S 0 (cond o (negotiation_of one ++ (authentication_of one ++ proxy_of one)) (negotiation_of one)) (cond o (negotiation_of two ++ (authentication_of two ++ proxy_of two)) (negotiation_of two))
    all_agree true =
        let n₁ : length (negotiation_of one) ≡ negotiation_size l = part_long bs 0 (negotiation_size l) (omega arith) in
        let n₂ : length (authentication_of one) ≡ authentication_size l = part_long bs (negotiation_size l) (authentication_size l) (omega arith) in
        agree_join S 0 (negotiation_of one) (negotiation_of two) (authentication_of one ++ proxy_of one) (authentication_of two ++ proxy_of two)
        (agree_part S bs cs a 0 (negotiation_size l))
        (subst (λ (k : ℕ). Agree S k (authentication_of one ++ proxy_of one) (authentication_of two ++ proxy_of two)) (sym n₁ ∙ sym (zero-add (length (negotiation_of one))))
        (agree_join S (negotiation_size l) (authentication_of one) (authentication_of two) (proxy_of one) (proxy_of two)
        (agree_part S bs cs a (negotiation_size l) (authentication_size l))
        (subst (λ (k : ℕ). Agree S (negotiation_size l + k) (proxy_of one) (proxy_of two)) (sym n₂)
        (agree_part S bs cs a (negotiation_size l + authentication_size l) (proxy_size l)))))
    all_agree false = agree_part S bs cs a 0 (negotiation_size l)

    pub first_agree : (e : Reply) → Agree S 0 (first_of e one) (first_of e two)
    first_agree (NegotiationRes m) = all_agree l.optimistic
    first_agree AuthenticationRes = all_agree l.optimistic
    first_agree ProxyRes = all_agree l.optimistic
    first_agree Response = agree_part S bs cs a 0 (request_size l)

    plain_long : (o : Bool) → o ≡ false → length (cond o (negotiation_of one ++ (authentication_of one ++ proxy_of one)) (negotiation_of one)) ≡ negotiation_size l
    plain_long o f = rw f (part_long bs 0 (negotiation_size l) (omega arith))

    pub first_stands : (e : Reply) → Stands l e (negotiation_size l) → Stands l e (length (first_of e one))
    first_stands (NegotiationRes NoAuth) p o = plain_long l.optimistic o ∙ p o
    first_stands (NegotiationRes UserPass) p o = plain_long l.optimistic o ∙ p o
    first_stands (NegotiationRes NoneAcceptable) p o = tt
    first_stands AuthenticationRes p o = plain_long l.optimistic o ∙ p o
    first_stands ProxyRes p o = tt
    first_stands Response p o = tt

  start_from : (s : Session) (e : Reply) → Goes S n (at (Awaiting e) false s) cs → (out out' : List ℕ)
      → Calls S n cs (starts (at (Awaiting e) false s) (first_of e s.requests) out) (starts (other (at (Awaiting e) false s) cs) (first_of e (other s cs).requests) out')
  start_from s e g out out' =
      let l = s.requests.lengths in
      let bs = s.requests.bytes in
      let p = first_of e s.requests in
      let q = first_of e (other s cs).requests in
      let a : Agree S 0 p q = first_agree l bs g.agree g.long e in
      let z : length p ≡ n + length (take (length p) (p ++ drop (length p) out)) = rw (take-append_seam p (drop (length p) out), g.stands.0) (sym (zero-add (length p))) in
      record {
        answer = refl;
        used = refl;
        count = a.long;
        sent = agree_out p q (drop (length p) out) (drop (length q) out') (subst (λ (k : ℕ). Agree S k p q) (sym g.stands.0) a);
        session = refl;
        goes = record { agree = g.agree; long = g.long; stands = subst (λ (k : ℕ). Stands l e k) z (first_stands l bs g.agree g.long e g.stands.1) };
      }

  start_waiting : (s : Session) (e : Reply) (b : Bool) → Goes S n (at (Awaiting e) b s) cs → (out out' : List ℕ) → length out ≡ length out'
      → Calls S n cs (start (at (Awaiting e) b s) out) (start (other (at (Awaiting e) b s) cs) out')
  unfolding start
  start_waiting s e true g out out' z = quiet (Refused OutOfOrder) (at (Awaiting e) true s) g out out'
  start_waiting s e false g out out' z = rw (sym z) (go (leb (first_room e) (length out)))
    where
      go : (k : Bool)
          → Calls S n cs (cond k (starts (at (Awaiting e) false s) (first_of e s.requests) out) (refusal ShortOutput (at (Awaiting e) false s) out))
          (cond k (starts (other (at (Awaiting e) false s) cs) (first_of e (other s cs).requests) out') (refusal ShortOutput (other (at (Awaiting e) false s) cs) out'))
      go true = start_from s e g out out'
      go false = quiet (Refused ShortOutput) (at (Awaiting e) false s) g out out'

  start_at : (s : Session) (stage : Stage) (b : Bool) → Goes S n (at stage b s) cs → (out out' : List ℕ) → length out ≡ length out'
      → Calls S n cs (start (at stage b s) out) (start (other (at stage b s) cs) out')
  unfolding start
  start_at s (Awaiting e) b g out out' z = start_waiting s e b g out out' z
  start_at s Open b g out out' z = quiet (Refused Settled) (at Open b s) g out out'
  start_at s (Failed x) b g out out' z = quiet (Refused Settled) (at (Failed x) b s) g out out'

  pub start_like : (s : Session) → Goes S n s cs → (out out' : List ℕ) → length out ≡ length out' → Calls S n cs (start s out) (start (other s cs) out')
  start_like s g out out' z = start_at s s.stage s.started g out out' z

  -- ---- deliver

  stands_on : (l : Lengths) (m : SideSession) (k : ℕ) → SideStands l m k → StandsAt l true (stage_of m) k
  stands_on l (waiting e h) k s = s
  stands_on l (ended (done x)) k s = tt
  stands_on l (ended (failed x)) k s = tt

  moves_like : (s : Session) (e : Reply) → Goes S n (at (Awaiting e) true s) cs → (f g : SideFed) → Feeds S s.requests.lengths n f g → {i j : ℕ} → i ≡ j
      → (out out' : List ℕ) → Calls S n cs (moves (at (Awaiting e) true s) f i out) (moves (other (at (Awaiting e) true s) cs) g j out')
  moves_like s e w f g d {i} t out out' =
      let l = s.requests.lengths in
      let z : n + length f.sent ≡ n + length (take (length f.sent) (f.sent ++ drop (length f.sent) out)) = ap (λ (q : List ℕ). n + length q) (sym (take-append_seam f.sent (drop (length f.sent) out))) in
      let r : reached f ≡ reached g = λ x. d.place x + length (held_by (d.session x)) in
      record {
        answer = refl;
        used = ap (λ (k : ℕ). k - length (take s.held s.hold)) r;
        count = d.sent.long;
        sent = agree_out f.sent g.sent (drop (length f.sent) out) (drop (length g.sent) out') d.sent;
        session = λ x. attempted (sym t x) (packed (other (at (Awaiting e) true s) cs) (sym d.session x));
        goes = record { agree = w.agree; long = w.long; stands = subst (λ (k : ℕ). StandsAt l true (stage_of f.session) k) z (stands_on l f.session (n + length f.sent) d.stands) };
      }

  takes_like : (s : Session) (e : Reply) → Goes S n (at (Awaiting e) true s) cs → (piece out out' : List ℕ)
      → Calls S n cs (takes (at (Awaiting e) true s) piece out) (takes (other (at (Awaiting e) true s) cs) piece out')
  unfolding onward decided_by
  takes_like s e g [] out out' = quiet Accepted (at (Awaiting e) true s) g out out'
  takes_like s e g (b ∷ more) out out' =
      let l = s.requests.lengths in
      let j = requests_of s.requests in
      let k = requests_of (other s cs).requests in
      let bs = held_bytes s ++ (b ∷ more) in
      let y = talk_like S l s.requests.bytes cs g.agree g.long e n g.stands in
      let f = feed_like S l j k n (talk_at j e) (talk_at k e) y bs in
      let d = decided_like S l j k n (talk_at j e) (talk_at k e) y bs in
      let t : decided_in (client j) (talk_at j e) bs + one_if_waiting (feed (client j) (talk_at j e) bs).session ≡ decided_in (client k) (talk_at k e) bs + one_if_waiting (feed (client k) (talk_at k e) bs).session = λ x. d x + one_if_waiting (f.session x) in
      moves_like s e g (feed (client j) (talk_at j e) bs) (feed (client k) (talk_at k e) bs) f t out out'

  deliver_waiting : (s : Session) (e : Reply) (b : Bool) → Goes S n (at (Awaiting e) b s) cs → (piece out out' : List ℕ) → length out ≡ length out'
      → Calls S n cs (deliver (at (Awaiting e) b s) piece out) (deliver (other (at (Awaiting e) b s) cs) piece out')
  unfolding deliver
  deliver_waiting s e false g piece out out' z = quiet (Refused OutOfOrder) (at (Awaiting e) false s) g out out'
  deliver_waiting s e true g piece out out' z = rw (sym z) (go (leb (room e) (length out)))
    where
      go : (k : Bool)
          → Calls S n cs (cond k (takes (at (Awaiting e) true s) piece out) (refusal ShortOutput (at (Awaiting e) true s) out))
          (cond k (takes (other (at (Awaiting e) true s) cs) piece out') (refusal ShortOutput (other (at (Awaiting e) true s) cs) out'))
      go true = takes_like s e g piece out out'
      go false = quiet (Refused ShortOutput) (at (Awaiting e) true s) g out out'

  deliver_at : (s : Session) (stage : Stage) (b : Bool) → Goes S n (at stage b s) cs → (piece out out' : List ℕ) → length out ≡ length out'
      → Calls S n cs (deliver (at stage b s) piece out) (deliver (other (at stage b s) cs) piece out')
  unfolding deliver
  deliver_at s (Awaiting e) b g piece out out' z = deliver_waiting s e b g piece out out' z
  deliver_at s Open b g piece out out' z = quiet (Refused Settled) (at Open b s) g out out'
  deliver_at s (Failed x) b g piece out out' z = quiet (Refused Settled) (at (Failed x) b s) g out out'

  pub deliver_like : (s : Session) → Goes S n s cs → (piece out out' : List ℕ) → length out ≡ length out' → Calls S n cs (deliver s piece out) (deliver (other s cs) piece out')
  deliver_like s g piece out out' z = deliver_at s s.stage s.started g piece out out' z

  -- ---- end

  end_at : (s : Session) (stage : Stage) (b : Bool) → Goes S n (at stage b s) cs → Ends S n cs (end (at stage b s)) (end (other (at stage b s) cs))
  unfolding end
  end_at s (Awaiting e) true g =
      record { answer = refl; session = refl; goes = record { agree = g.agree; long = g.long; stands = tt } }
  end_at s (Awaiting e) false g = record { answer = refl; session = refl; goes = still (at (Awaiting e) false s) g }
  end_at s Open b g = record { answer = refl; session = refl; goes = still (at Open b s) g }
  end_at s (Failed x) b g = record { answer = refl; session = refl; goes = still (at (Failed x) b s) g }

  pub end_like : (s : Session) → Goes S n s cs → Ends S n cs (end s) (end (other s cs))
  end_like s g = end_at s s.stage s.started g
