-- Rows of calls on two sessions alike but for stored bytes at some positions.
use Prim.Native.Nat.{ℕ, ◌+◌}
use mathlib.Core.Path.{◌≡◌, refl, ap, sym, ◌∙◌, subst}
use mathlib.Core.Bool.{Bool, true, false, cond}
use mathlib.Core.List.{List, [], ◌++◌}
use lib.ListN.{length, take, drop}
use lib.Seq.{take-append_seam}
use lib.Dec.{leb}
use Rattle.protocol.specs.declared.SocksError.TheVariants.{NotOpen, ShortText}
use Rattle.protocol.specs.Answers.{Accepted}
use Rattle.client_stages.specs.outcome.Told.{is_open}
use Rattle.address_format.specs.endpoint.Text as text
use Rattle.address_format.specs.endpoint.Written.{TextCall, unwritten, write_text}
use Rattle.client_session.specs.declared.Session.{Session}
use Rattle.client_session.specs.Session as session
use Rattle.client_session.specs.Session.{write_bound}
use Rattle.noninterference.specs.Places.{Agree}
use Rattle.noninterference.specs.Calls.{Asks, start, deliver, end, outcome, attempts, bound, bound_text, Call, Returned, started, delivered, ended, written, Made, made, SameCalls, none, more, SameBut, Hidden}
use Rattle.noninterference.proofs.Bytes.{agree_all}
use Rattle.noninterference.proofs.Sessions.{other, Goes, still, start_like, deliver_like, end_like}

-- a call on both
pub record Steps (S : ℕ → Type 0) (n : ℕ) (cs : List ℕ) (x y : Made) : Type 0 where
  pub returned : x.returned ≡ y.returned
  pub text : x.text ≡ y.text
  pub sent : Agree S n x.sent y.sent
  pub session : y.session ≡ other x.session cs
  pub goes : Goes S (n + length x.sent) x.session cs

-- ---- the text of a bound address, by the buffer's length

record Texts (x y : TextCall) : Type 0 where
  pub returned : ◌≡◌ {A = Returned} (written x.answer x.len) (written y.answer y.len)
  pub text : take x.len x.buffer ≡ take y.len y.buffer

texts_in : (t u v : List ℕ) → length u ≡ length v → Texts (write_text t u) (write_text t v)
texts_in t u v z = rw (sym z) (go (leb (length t) (length u)))
  where
    go : (b : Bool)
        → Texts (cond b (record { answer = Accepted; len = length t; buffer = t ++ drop (length t) u }) (unwritten ShortText u))
        (cond b (record { answer = Accepted; len = length t; buffer = t ++ drop (length t) v }) (unwritten ShortText v))
    go true = record { returned = refl; text = take-append_seam t (drop (length t) u) ∙ sym (take-append_seam t (drop (length t) v)) }
    go false = record { returned = refl; text = refl }

texts : (s : Session) (cs u v : List ℕ) → length u ≡ length v → Texts (write_bound s u) (write_bound (other s cs) v)
unfolding write_bound
texts s cs u v z = go (is_open s.stage)
  where
    go : (b : Bool) → Texts (cond b (write_text (text.bound_text (session.bound s)) u) (unwritten NotOpen u)) (cond b (write_text (text.bound_text (session.bound s)) v) (unwritten NotOpen v))
    go true = texts_in (text.bound_text (session.bound s)) u v z
    go false = record { returned = refl; text = refl }

module _ (S : ℕ → Type 0) (n : ℕ) (s : Session) (cs : List ℕ) (g : Goes S n s cs) where
  quiet : (r : Returned) → Steps S n cs (record { returned = r; session = s; sent = []; text = [] }) (record { returned = r; session = other s cs; sent = []; text = [] })
  quiet r = record { returned = refl; text = refl; sent = agree_all S n []; session = refl; goes = still S n cs s g }

  pub step : (q : Asks) (u v : List ℕ) → length u ≡ length v → Steps S n cs (made s q u) (made (other s cs) q v)
  step start u v z =
      let c = start_like S n cs s g u v z in
      record { returned = λ i. started (c.answer i) (c.count i); text = refl; sent = c.sent; session = c.session; goes = c.goes }
  step (deliver p) u v z =
      let c = deliver_like S n cs s g p u v z in
      record { returned = λ i. delivered (c.answer i) (c.used i) (c.count i); text = refl; sent = c.sent; session = c.session; goes = c.goes }
  step end u v z =
      let c = end_like S n cs s g in
      record { returned = ap ended c.answer; text = refl; sent = agree_all S n []; session = c.session; goes = c.goes }
  step outcome u v z = quiet _
  step attempts u v z = quiet _
  step bound u v z = quiet _
  step bound_text u v z =
      let t = texts s cs u v z in
      record { returned = t.returned; text = t.text; sent = agree_all S n []; session = refl; goes = still S n cs s g }

same : (S : ℕ → Type 0) (n : ℕ) (s : Session) (cs : List ℕ) → Goes S n s cs → SameBut S s (other s cs)
same S n s cs g =
    record { stage = refl; started = refl; held = refl; hold = refl; bound = refl; attempts = refl; lengths = refl; bytes = g.agree }

pub rows : (S : ℕ → Type 0) (n : ℕ) (s : Session) (cs : List ℕ) → Goes S n s cs → (ks ls : List Call) → SameCalls ks ls → Hidden S n s (other s cs) ks ls
unfolding Hidden
rows S n s cs g _ _ none = same S n s cs g
rows S n s cs g _ _ (more {c = c} {d = d} {cs = ks} {ds = ls} e z m) =
    let x = made s c.asks c.lent in
    let y = made (other s cs) d.asks d.lent in
    let t : Steps S n cs x y = subst (λ (q : Asks). Steps S n cs x (made (other s cs) q d.lent)) e (step S n s cs g c.asks c.lent d.lent z) in
    let r = rows S (n + length x.sent) x.session cs t.goes ks ls m in
    (same S n s cs g, t.returned, t.text, t.sent, subst (λ (k : Session). Hidden S (n + length x.sent) x.session k ks ls) (sym t.session) r)
