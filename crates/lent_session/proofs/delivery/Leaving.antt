-- What a start, a delivery and an end leave in lent bytes, by what the code finds and writes.
use Rattle.std.proofs.Common.{Result, Ok, Err, ◌≡◌, ℕ, ◌+◌, ◌-◌, ◌^◌, ◌<◌, ◌≤◌, Bool, true, false, cond, not, leb, List, [], ◌∷◌, ◌++◌, length, take, drop, set, sym, refl, ap, ◌∙◌, subst, true≢false, zero-le, le_refl, zero-add, arith, length-append, length-drop, length-take, drop-drop, drop_at, le-leb}
use Rattle.protocol.specs.Answers.{Accepted}
use Rattle.protocol.specs.declared.Bound.{Bound}
use Rattle.protocol.specs.declared.Reply.{Reply}
use Rattle.protocol.specs.declared.Reply.TheVariants.{NegotiationRes, AuthenticationRes, ProxyRes, Response}
use Rattle.protocol.specs.declared.SocksError.{SocksError}
use Rattle.protocol.specs.declared.SocksError.TheVariants.{ShortOutput, UnexpectedEof, Settled, OutOfOrder}
use Rattle.protocol.specs.Bytes.{Bytes, byte}
use Rattle.protocol.proofs.Bytes.{bytes_part}
use Rattle.protocol.specs.Client as client
use Rattle.protocol.specs.Numbers as numbers
use Rattle.protocol.specs.Numbers.{answer_number}
use Rattle.protocol.specs.Replies.{decide}
use Rattle.buffers.specs.write.Written.{overwrite}
use Rattle.buffers.proofs.write.Laws.{length_overwrite}
use Rattle.talk.specs.Talk as talk
use Rattle.talk.specs.Talk.{is_over}
use Rattle.client_stages.specs.declared.due.Lengths.{Lengths}
use Rattle.client_stages.specs.declared.due.Stage.{Stage}
use Rattle.client_stages.specs.declared.due.Stage.TheVariants.{Awaiting, Open, Failed}
use Rattle.client_stages.specs.due.Parts.{part}
use Rattle.client_stages.specs.due.Stages.{SideSession, view_at, stage_of, holds_of, bound_after, rank}
use Rattle.client_stages.proofs.due.Stages.{awaits}
use Rattle.client_stages.specs.start.Starting.{first_size}
use Rattle.client_stages.proofs.start.Laws.{first_part, first_within}
use Rattle.client_delivery.specs.declared.piece.Taken.{Taken}
use Rattle.client_delivery.specs.delivery.Received.{Received, Ways, settled, unstarted, short, none, taken, ReceiveResult}
use Rattle.client_delivery.proofs.delivery.Laws.{nothing_sent, took}
use Rattle.client_session.specs.declared.Session.{Session}
use Rattle.client_session.specs.declared.Delivered.{Delivered}
use Rattle.client_session.specs.Session.{view, outcome, room_at, first_room_at, first_at}
use Rattle.client_session.specs.Calls.{Call, refusal, starts, start, takes, deliver, end}
use Rattle.client_session.proofs.Deliveries.{delivers}
use Rattle.lent_numbers.specs.bytes.Numbers.{number, digits}
use Rattle.lent_numbers.specs.declared.told.RawStep.{RawStep}
use Rattle.lent_numbers.specs.told.Told.{outcome_of}
use Rattle.lent_numbers.proofs.bytes.Laws.{number_below}
use Rattle.lent_session.specs.State.{session_at, reply_number, state_of}
use Rattle.lent_session.specs.Fits.{Fits, awaited_number}
use Rattle.lent_session.specs.Calls.{step_by, left_by, Leaves}
use Rattle.lent_session.specs.delivery.Changes as changes
use Rattle.lent_session.specs.delivery.Changes.{at, holding, trying, appended, accepted}
use Rattle.lent_session.specs.delivery.Quick.{Stays}
use Rattle.lent_session.proofs.Codes as codes
use Rattle.lent_session.proofs.Codes.{reply_some}
use Rattle.lent_session.proofs.Writing.{refit, state_back, state_written, held_as, started_as}
use Rattle.lent_session.proofs.delivery.Quick.{takes_undecided}
use Rattle.lent_session.proofs.telling.Laws.{told_is}

-- ---- lent bytes hold the session that they mean

module _ (s : List ℕ) (y : Bytes s) (long : length s ≡ 1306) where
  part_long : (n m : ℕ) → n + m ≤ 1306 → length (take m (drop n s)) ≡ m
  part_long n m h = simp (length-take, length-drop) (omega arith)

  number_small : (n m : ℕ) → n + m ≤ 1306 → number (take m (drop n s)) < 256 ^ m
  number_small n m h = rw (part_long n m h) at (number_below (take m (drop n s)) (bytes_part s n m y))

  pub fits_at : Fits (session_at s)
  fits_at =
      record {
        attempts = number_small 0 8 (omega arith);
        held = number_small 8 2 (omega arith);
        first = number_small 10 2 (omega arith);
        authentication = number_small 12 2 (omega arith);
        proxy = number_small 14 2 (omega arith);
        port = number_small 16 2 (omega arith);
        hold = part_long 21 261 (omega arith);
        bytes = length-drop 282 s ∙ omega arith;
      }

-- ---- any accepted call, and any refused one

module _ {c : Call} {s s' out' : List ℕ} {k : RawStep} where
  pub accepts : (x : Session) → c.answer ≡ Accepted → c.session ≡ x → Fits x → s' ≡ state_of x → k ≡ accepted c.used c.sent x.stage → out' ≡ c.output → Leaves c s k s' out'
  accepts x a q f w r o =
      let told = told_is x.stage x.bound (take x.held x.hold) ∙ ap (λ (t : Session). outcome_of (outcome t)) (sym q) in
      record {
        returned = r ∙ (λ i. record { used = c.used; sent = c.sent; answer = answer_number (sym a i); outcome = told i });
        left = w ∙ (λ i. left_by (sym a i) (sym q i) s);
        means = ap session_at w ∙ state_back x f ∙ sym q;
        output = o;
      }

pub refuses : {c : Call} {s out : List ℕ} {k : RawStep} (e : SocksError) → c ≡ refusal e (session_at s) out → k ≡ step_by (refusal e (session_at s) []) → Leaves c s k s out
refuses {s = s} {out = out} {k = k} e q r = subst (λ (d : Call). Leaves d s k s out) (sym q) (record { returned = r; left = refl; means = refl; output = refl })

pub failed_step : (y : SocksError) {n t used sent : ℕ} → n ≡ numbers.number y → t ≡ numbers.status y
    → ◌≡◌ {A = RawStep} (record { used = used; sent = sent; answer = 0; outcome = record { state = 2; number = n; status = t } }) (accepted used sent (Failed y))
failed_step y {used = used} {sent = sent} q r = λ i. record { used = used; sent = sent; answer = 0; outcome = record { state = 2; number = q i; status = r i } }

-- a part of the requests, as the code slices it
pub sent_at : (k : ℕ) (s : List ℕ) (from n : ℕ) (out : List ℕ) {out' : List ℕ} → out' ≡ overwrite out 0 (take (k + from + n - (k + from)) (drop (k + from) s)) → out' ≡ overwrite out 0 (part (drop k s) from n)
sent_at k s from n out w = let z : k + from + n - (k + from) ≡ n = omega arith in w ∙ (λ i. overwrite out 0 (take (z i) (sym (drop-drop from k s) i)))

-- ---- which calls are refused

pub over_none : (g : Stage) (b : Bound) (h : List ℕ) → awaited_number g ≡ 0 → is_over (view_at g b h) ≡ true
over_none (Awaiting e) b h q = absurd (omega (arith, reply_some e))
over_none Open b h q = refl
over_none (Failed x) b h q = refl

pub room_small : (e : Reply) → client.room e ≤ 1024
room_small (NegotiationRes m) = omega arith
room_small AuthenticationRes = omega arith
room_small ProxyRes = omega arith
room_small Response = omega arith

module _ (x : Session) (piece out : List ℕ) where
  pub deliver_settled : {n : ℕ} → n ≡ awaited_number x.stage → n ≡ 0 → deliver x piece out ≡ refusal Settled x out
  unfolding deliver
  deliver_settled q z = rw (over_none x.stage x.bound (take x.held x.hold) (sym q ∙ z))

  module _ {e : Reply} (w : x.stage ≡ Awaiting e) where
    waits : is_over (view x) ≡ false
    waits = ap (λ (g : Stage). is_over (view_at g x.bound (take x.held x.hold))) w

    pub deliver_unstarted : x.started ≡ false → deliver x piece out ≡ refusal OutOfOrder x out
    unfolding deliver
    deliver_unstarted b = rw (waits, b)

    takes_empty : (p : List ℕ) → length p ≡ 0 → takes x p out ≡ record { answer = Accepted; session = x; used = 0; sent = 0; output = out }
    takes_empty [] z = refl
    takes_empty (c ∷ cs) z = absurd (omega arith)

    -- an empty piece changes nothing
    pub deliver_empty : x.started ≡ true → length out ≡ 1024 → length piece ≡ 0 → deliver x piece out ≡ record { answer = Accepted; session = x; used = 0; sent = 0; output = out }
    unfolding deliver
    deliver_empty b l z =
        let room : leb (room_at x.stage) (length out) ≡ true = ap (λ (g : Stage). leb (room_at g) (length out)) w ∙ le-leb (client.room e) (length out) (omega (arith, room_small e)) in
        (λ i. cond (waits i) (refusal Settled x out) (cond (not (b i)) (refusal OutOfOrder x out) (cond (room i) (takes x piece out) (refusal ShortOutput x out)))) ∙ takes_empty piece z

-- ---- a piece for a session that awaits, is started, and lends enough

not_open : (m : SideSession) (b : Bound) → (stage_of m ≡ Open → ⊥) → bound_after m b ≡ b
not_open (talk.waiting e h) b n = refl
not_open (talk.ended (talk.done x)) b n = absurd (n refl)
not_open (talk.ended (talk.failed x)) b n = refl

module _ {stage : Stage} {held : ℕ} {l : Lengths} {hold piece : List ℕ} {bound : Bound} {hold' : List ℕ} where
  never_refused : {e : Reply} {y : SocksError} → Ways stage true held l hold piece 1024 bound (Err y) hold' → stage ≡ Awaiting e → ⊥
  never_refused {e} (settled z q w) s = awaits e (ap rank (sym s) ∙ z)
  never_refused (unstarted e t f q w) s = true≢false f
  never_refused (short e t f h q w) s = omega (arith, room_small e)
  never_refused (none e t f h z q w) s = let k : ◌≡◌ {A = ℕ} 0 1 = cc in omega arith
  never_refused (taken e t u f h z q w) s = let k : ◌≡◌ {A = ℕ} 0 1 = cc in omega arith

-- a session that awaits, is started and lends enough is not refused
pub received_some : {g : Reply} {held : ℕ} {l : Lengths} {hold piece : List ℕ} {bound : Bound} {r : Received} {hold' : List ℕ} {y : SocksError} → ReceiveResult (Awaiting g) true held l hold piece 1024 bound r hold' → r ≡ Err y → ⊥
received_some v q = let w = v.way in never_refused (rw q at w) refl

module _ {stage : Stage} {g : Bool} {held : ℕ} {l : Lengths} {hold piece : List ℕ} {lent : ℕ} {bound : Bound} {t : Taken} {hold' : List ℕ} where
  holds_few : Ways stage g held l hold piece lent bound (Ok t) hold' → held < 65536 → length hold' ≡ 261 → t.held < 65536
  holds_few v h n =
      took (λ (u : Taken) (k : List ℕ). length k ≡ 261 → u.held < 65536) (λ n. h)
      (λ e u k s w n.
      let m = holds_of w.session in
      omega (arith, w.keeps.counts, ap length w.keeps.holds, length-append m (drop (length m) hold)))
      v n

  bound_stays : Ways stage g held l hold piece lent bound (Ok t) hold' → (t.stage ≡ Open → ⊥) → t.bound ≡ bound
  bound_stays v =
      took (λ (u : Taken) (k : List ℕ). (u.stage ≡ Open → ⊥) → u.bound ≡ bound) (λ n. refl)
      (λ e u k s w n. w.keeps.bounds ∙ not_open w.session bound (λ o. n (w.keeps.staged ∙ o))) v

module _ (s piece out : List ℕ) (y : Bytes s) (long : length s ≡ 1306) (lent : length out ≡ 1024) {e : Reply} (w : (session_at s).stage ≡ Awaiting e) (b : (session_at s).started ≡ true) where
  abbrev x : Session
  x = session_at s

  f : Fits x
  f = fits_at s y long

  pub empty_leaves : {k : RawStep} → length piece ≡ 0 → k ≡ accepted 0 0 (Awaiting Response) → Leaves (deliver x piece out) s k s out
  empty_leaves {k} z q =
      subst (λ (c : Call). Leaves c s k s out) (sym (deliver_empty x piece out w b lent z))
      (accepts x refl refl f (sym (state_written s y long e w)) (q ∙ (λ i. accepted 0 0 (sym w i))) refl)

  -- the state is the writing of what the piece came to
  leaves_by : {t : Taken} {hold' s' out' : List ℕ} {k : RawStep} → ReceiveResult x.stage x.started x.held x.requests.lengths x.hold piece (length out) x.bound (Ok t) hold' → length hold' ≡ 261
      → t.bound.port < 65536 → s' ≡ state_of (changes.settled t (holding hold' x)) → k ≡ accepted t.used t.sent t.stage
      → out' ≡ overwrite out 0 (part x.requests.bytes t.from t.sent) → Leaves (deliver x piece out) s k s' out'
  leaves_by {t} {hold'} v h port sw kw ow =
      let d = delivers x piece out v f.attempts refl refl f.bytes ow in
      let p = d.returned in
      accepts (changes.settled t (holding hold' x)) (sym (ap (λ (z : Delivered). z.answer) p)) (sym (ap (λ (z : Delivered). z.session) p))
      (refit f (omega arith) (holds_few v.way f.held h) port h) sw
      (kw ∙ (λ i. accepted (p i).used (p i).sent t.stage)) d.output

  -- a piece that does not decide
  pub appended_leaves : {s' : List ℕ} {k : RawStep} {held : ℕ} → held ≡ x.held → (length piece ≡ 0 → ⊥) → Stays e held x.hold (length piece) → s' ≡ state_of (appended piece x) → k ≡ accepted (length piece) 0 (Awaiting Response)
      → Leaves (deliver x piece out) s k s' out
  appended_leaves {k = k} {held = held} q some st sw kw =
      let t : Taken = record { stage = Awaiting e; held = x.held + length piece; used = length piece; from = 0; sent = 0; bound = x.bound; attempts = 1 } in
      let room : x.held + length piece ≤ 261 = omega (arith, st.room) in
      let u = takes_undecided x.requests.lengths e x.held x.hold piece x.bound f.hold (ap (λ (n : ℕ). decide e (take n x.hold ++ piece)) (sym q) ∙ st.undecided piece refl) room in
      leaves_by {t = t} {hold' = overwrite x.hold x.held piece}
      (record { way = taken e t w b (omega (arith, room_small e)) some refl u; bounds = record { within = le_refl (length piece); fits = zero-le; inside = zero-le } })
      (length_overwrite x.hold x.held piece (omega (arith, f.hold)) ∙ f.hold) f.port
      (sw ∙ (λ i. state_of (at (w i) (x.held + length piece) x.bound (holding (overwrite x.hold x.held piece) (trying 1 x)))))
      kw (nothing_sent x.requests.bytes 0 out refl)

  -- a piece that was received
  module _ (hold' : List ℕ) (h : length hold' ≡ 261) where
    abbrev put : List ℕ
    put = take 21 s ++ (hold' ++ drop 261 (drop 21 s))

    lent_as : put ≡ state_of (holding hold' x)
    unfolding digits
    lent_as =
        let q = state_written s y long e w in
        let z : drop 261 (drop 21 (state_of x)) ≡ x.requests.bytes = drop_at x.hold x.requests.bytes 261 f.hold in
        ap (λ (l : List ℕ). take 21 l ++ (hold' ++ drop 261 (drop 21 l))) (sym q) ∙ ap (λ (t : List ℕ). take 21 (state_of x) ++ (hold' ++ t)) z

    requests_kept : drop 282 put ≡ x.requests.bytes
    unfolding digits
    requests_kept = ap (drop 282) lent_as ∙ drop_at hold' x.requests.bytes 261 h

    pub received_leaves : {r : Received} (t : Taken) → r ≡ Ok t → {s' out' : List ℕ} {k : RawStep} {g : Reply} {n held : ℕ} {l : Lengths} {bound : Bound} → n ≡ reply_number e → ((e' : Reply) → n ≡ reply_number e' → g ≡ e') → held ≡ x.held → l ≡ x.requests.lengths → bound ≡ x.bound
        → ReceiveResult (Awaiting g) true held l x.hold piece 1024 bound r hold' → t.bound.port < 65536
        → out' ≡ overwrite out 0 (part (drop 282 put) t.from t.sent) → k ≡ accepted t.used t.sent t.stage
        → ((z : Session) (e' : Reply) → Fits z → z.stage ≡ Awaiting e' → ((t.stage ≡ Open → ⊥) → t.bound ≡ z.bound) → put ≡ state_of z → s' ≡ state_of (changes.settled t z))
        → Leaves (deliver x piece out) s k s' out'
    received_leaves t o {g = g} n reply p q u v port ow kw sw =
        let m : Awaiting g ≡ x.stage = ap Awaiting (reply e n) ∙ sym w in
        let v' = subst (λ (t : Type 0). t) (λ i. ReceiveResult (m i) (sym b i) (p i) (q i) x.hold piece (sym lent i) (u i) (o i) hold') v in
        leaves_by v' h port
        (sw (holding hold' x) e (refit f f.attempts f.held f.port h) w (bound_stays v'.way) lent_as)
        kw (ow ∙ ap (λ (l : List ℕ). overwrite out 0 (part l t.from t.sent)) requests_kept)

-- ---- a start

first_room_lem : (e : Reply) → client.first_room e ≤ 1024
first_room_lem (NegotiationRes m) = omega arith
first_room_lem AuthenticationRes = omega arith
first_room_lem ProxyRes = omega arith
first_room_lem Response = omega arith

module _ (x : Session) (out : List ℕ) where
  pub start_settled : {n : ℕ} → n ≡ awaited_number x.stage → n ≡ 0 → start x out ≡ refusal Settled x out
  unfolding start
  start_settled q z = rw (over_none x.stage x.bound (take x.held x.hold) (sym q ∙ z))

  pub start_again : {e : Reply} → x.stage ≡ Awaiting e → x.started ≡ true → start x out ≡ refusal OutOfOrder x out
  unfolding start
  start_again w b =
      (λ i. cond (waits x [] out w i) (refusal Settled x out) (cond (b i) (refusal OutOfOrder x out) (cond (leb (first_room_at x.stage) (length out)) (starts x (first_at x.stage x.requests) out) (refusal ShortOutput x out))))

  pub start_sends : {e : Reply} → x.stage ≡ Awaiting e → x.started ≡ false → length out ≡ 1024 → start x out ≡ starts x (first_at x.stage x.requests) out
  unfolding start
  start_sends {e} w b l =
      let room : leb (first_room_at x.stage) (length out) ≡ true = ap (λ (g : Stage). leb (first_room_at g) (length out)) w ∙ le-leb (client.first_room e) (length out) (omega (arith, first_room_lem e)) in
      (λ i. cond (waits x [] out w i) (refusal Settled x out) (cond (b i) (refusal OutOfOrder x out) (cond (room i) (starts x (first_at x.stage x.requests) out) (refusal ShortOutput x out))))

module _ (s out : List ℕ) (y : Bytes s) (long : length s ≡ 1306) (lent : length out ≡ 1024) {e : Reply} (w : (session_at s).stage ≡ Awaiting e) (b : (session_at s).started ≡ false) where
  abbrev first : ℕ → List ℕ
  first m = part (drop 282 s) 0 m

  -- what was found to be sent is what a start sends
  module _ {l : Lengths} {g : Reply} {n m : ℕ} (q : n ≡ reply_number e) (reply : (e' : Reply) → n ≡ reply_number e' → g ≡ e') (lw : l ≡ (session_at s).requests.lengths) (mw : m ≡ first_size l g) where
    sends : start (session_at s) out ≡ starts (session_at s) (first m) out
    sends =
        let x = session_at s in
        let m' : m ≡ first_size x.requests.lengths e = mw ∙ (λ i. first_size (lw i) (reply e q i)) in
        let p : first_at x.stage x.requests ≡ first m = ap (λ (g' : Stage). first_at g' x.requests) w ∙ first_part e x.requests ∙ ap first (sym m') in
        start_sends x out w b lent ∙ ap (λ (bs : List ℕ). starts x bs out) p

    first_long : m ≡ length (first m)
    first_long = sym (length-take m (drop 282 s) ∙ omega (arith, mw, first_within l g, length-drop 282 s))

    pub start_leaves : {k : RawStep} {out' : List ℕ} → out' ≡ overwrite out 0 (first m) → k ≡ accepted 0 m (Awaiting Response) → Leaves (start (session_at s) out) s k (set s 18 (byte s 18 + 8)) out'
    unfolding overwrite
    start_leaves {k} {out'} ow kw =
        let x = session_at s in
        let f = fits_at s y long in
        let x' : Session = record { stage = x.stage; started = true; held = x.held; hold = x.hold; bound = x.bound; attempts = x.attempts; requests = x.requests } in
        subst (λ (c : Call). Leaves c s k (set s 18 (byte s 18 + 8)) out') (sym sends)
        (accepts x' refl refl (refit f f.attempts f.held f.port f.hold)
        (started_as x (sym (state_written s y long e w)) b) (kw ∙ (λ i. accepted 0 (first_long i) (sym w i))) (ow ∙ ap (λ (k : ℕ). first m ++ drop k out) (zero-add (length (first m)))))

pub code_room : (s : List ℕ) {e : Reply} → (session_at s).stage ≡ Awaiting e → byte s 18 < 96
code_room s {e} w = (codes.awaits (byte s 18) (byte s 19) (byte s 20) e w).small

-- ---- an end

module _ (x : Session) where
  pub end_settled : {n : ℕ} → n ≡ awaited_number x.stage → n ≡ 0 → end x ≡ refusal Settled x []
  unfolding end
  end_settled q z = rw (over_none x.stage x.bound (take x.held x.hold) (sym q ∙ z))

  module _ {e : Reply} (w : x.stage ≡ Awaiting e) where
    pub end_unstarted : x.started ≡ false → end x ≡ refusal OutOfOrder x []
    unfolding end
    end_unstarted b = rw (waits x [] [] w, b)

    end_fails : x.started ≡ true → end x ≡ record { answer = Accepted; session = at (Failed UnexpectedEof) 0 x.bound x; used = 0; sent = 0; output = [] }
    unfolding end
    end_fails b = λ i. cond (waits x [] [] w i) (refusal Settled x []) (cond (not (b i)) (refusal OutOfOrder x []) (record { answer = Accepted; session = at (Failed UnexpectedEof) 0 x.bound x; used = 0; sent = 0; output = [] }))

pub end_leaves : (s : List ℕ) → Bytes s → length s ≡ 1306 → {e : Reply} → (session_at s).stage ≡ Awaiting e → (session_at s).started ≡ true → {s₁ s' : List ℕ} {k : RawStep} → s₁ ≡ overwrite s 8 (digits 2 0)
    → ((z : Session) (e' : Reply) → z.stage ≡ Awaiting e' → s₁ ≡ state_of z → s' ≡ state_of (at (Failed UnexpectedEof) z.held z.bound z)) → k ≡ accepted 0 0 (Failed UnexpectedEof) → Leaves (end (session_at s)) s k s' []
end_leaves s y long {e} w b {s' = s'} {k = k} u put kw =
    let x = session_at s in
    let f = fits_at s y long in
    subst (λ (c : Call). Leaves c s k s' []) (sym (end_fails x w b))
    (accepts (at (Failed UnexpectedEof) 0 x.bound x) refl refl
    (refit f f.attempts (omega arith) f.port f.hold)
    (put (at x.stage 0 x.bound x) e w (u ∙ held_as x (sym (state_written s y long e w)) 0)) kw refl)
