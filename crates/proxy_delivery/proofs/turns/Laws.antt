-- A turn by how its field is read, and turns one behind the other.
use Prim.Native.Nat.{ℕ, ◌+◌, ◌-◌, ◌≤◌}
use native.Mathlib.Nat.{le_refl, add-zero}
use native.Mathlib.Omega.{arith}
use mathlib.Core.Path.{◌≡◌, refl, sym, ap, subst, ◌∙◌}
use Rattle.std.specs.Prelude.{Option, Some, None}
use Rattle.std.proofs.lemmas.Option.{none-some, same_Some}
use mathlib.Core.Bool.{Bool, true, false, true≢false, ◌&&◌}
use mathlib.Core.List.{List, [], ◌++◌, append-nil}
use lib.ListN.{length, take, drop, length-drop, take-append-drop}
use lib.Seq.{length-take-le, drop-drop}
use Rattle.protocol.specs.declared.SocksError.{SocksError}
use Rattle.protocol.specs.declared.Version.{Version}
use lib.Dec.{eqb}
use Rattle.protocol.specs.Bytes.{Bytes, byte, same}
use Rattle.protocol.proofs.Bytes.{bytes_part}
use Rattle.protocol.specs.Answers as judge
use Rattle.protocol.specs.Client.{told, judged}
use Rattle.proxy_spec.specs.declared.Field.{Field}
use Rattle.proxy_spec.specs.declared.Field.TheVariants.{First, Methods, User, Password, Head, Address, Request, UserId, Name}
use Rattle.proxy_spec.specs.declared.Says.{Says}
use Rattle.proxy_spec.specs.declared.Says.TheVariants.{Nothing, Method, Login, Reply5, Reply4}
use Rattle.proxy_spec.specs.declared.Stage.{Stage}
use Rattle.proxy_spec.specs.declared.Stage.TheVariants.{Awaiting, Asked, Open, Failed}
use Rattle.proxy_spec.specs.End.{Setup, chosen, offers, said_by}
use Rattle.proxy_spec.specs.Side.{is_known, reads, talk_at, server}
use Rattle.proxy_spec.proofs.Side.{server_lawful, held_most}
use Rattle.proxy_decisions.specs.declared.decision.Due.{Due}
use Rattle.proxy_decisions.specs.decision.Due.{due_at, asks_at, session_at, talk_from}
use Rattle.proxy_decisions.proofs.decision.Laws.{feed_undecided, feed_bad, talk_due, feed_due, feed_over, rank_falls, never_open}
use Rattle.proxy_decisions.specs.destination.Last.{Last}
use Rattle.buffers.specs.write.Written.{Wrote, overwrite}
use Rattle.buffers.proofs.write.Laws.{then}
use Rattle.buffers.proofs.write.Parts.{part_from}
use Rattle.proxy_delivery.specs.declared.turns.Turn.{Turn}
use Rattle.proxy_delivery.specs.turns.Turns.{awaited_in, Rests, Ready, Worked, Goes, Steps}
use Rattle.talk.specs.Decision.{Decision, undecided, decided, good, bad, Verdict}
use Rattle.talk.specs.Talk.{feed, moving, sending, unmoved}
use Rattle.talk.proofs.Feed.{within_of, first_of, same_fed}

pub wrote_none : (out : List ℕ) (at : ℕ) → at ≤ length out → Wrote out at [] at out
unfolding overwrite
wrote_none out at h = record { inside = omega arith; place = omega arith; bytes = sym (rw (add-zero at) (take-append-drop at out)) }

pub said_few : (s : Says) → length (said_by s) ≤ 22
said_few Nothing = omega arith
said_few (Method m) = omega arith
said_few (Login s) = omega arith
said_few (Reply5 s) = omega arith
said_few (Reply4 s) = omega arith

-- ---- only a last field leads to a destination

abbrev is_asked : Stage → Bool
is_asked (Awaiting f) = false
is_asked (Asked v) = true
is_asked (Open v) = false
is_asked (Failed e) = false

either : {P : Type 0} (b : Bool) → (b ≡ true → P) → (b ≡ false → P) → P
either true p q = p refl
either false p q = q refl

none : {s : Stage} {v : Version} → s ≡ Asked v → is_asked s ≡ false → ⊥
none q e = true≢false (sym (ap is_asked q) ∙ e)

last_field : (c : Setup) (f : Field) (m : List ℕ) (v : Version) → (due_at c f m).stage ≡ Asked v → reads f m ≡ decided (length m) good → Last f m
unfolding due_at
last_field c First m v q r = absurd (either (eqb (byte m 0) 0x05) (λ e. none q (rw e)) (λ e. none q (rw e)))
last_field c Methods m v q r = absurd (either (offers (chosen c.authenticates) (drop 1 m)) (λ e. none q (rw e)) (λ e. none q (rw e)))
last_field c User m v q r = absurd (none q refl)
last_field c (Password right) m v q r = absurd (either (right && same (drop 1 m) c.password) (λ e. none q (rw e)) (λ e. none q (rw e)))
last_field c Head m v q r = absurd (either (is_known (byte m 3)) (λ e. none q (rw e)) (λ e. none q (rw e)))
last_field c (Address command type) m v q r = r
last_field c Request m v q r = absurd (none q refl)
last_field c (UserId p) m v q r = r
last_field c (Name p) m v q r = r

-- ---- a turn

module _ (c : Setup) (f : Field) (bytes : List ℕ) where
  -- a field is decided within the bytes that are there
  within : (bs : List ℕ) (n : ℕ) (v : Verdict SocksError) → reads f bs ≡ decided n v → n ≤ length bs
  within bs n v e = rw e at (within_of ((server_lawful c).stable f bs []))

  pub within_at : (place n : ℕ) (v : Verdict SocksError) → place ≤ length bytes → reads f (drop place bytes) ≡ decided n v → place + n ≤ length bytes
  within_at place n v h e = let i = within (drop place bytes) n v e in omega (arith, length-drop place bytes)

  -- and by its own bytes alone
  alone : (bs : List ℕ) (n : ℕ) → reads f bs ≡ decided n good → reads f (take n bs) ≡ decided (length (take n bs)) good
  alone bs n e =
      let l = length-take-le n bs (within bs n good e) in
      first_of (length (take n bs)) n (reads f (take n bs)) good l (rw (take-append-drop n bs, e) at ((server_lawful c).stable f (take n bs) (drop n bs)))

  pub rest_bytes : Bytes bytes → (place : ℕ) → Bytes (drop place bytes)
  rest_bytes y place = rw (part_from bytes place) at (bytes_part bytes place (length bytes - place) y)

  module _ (place : ℕ) (out : List ℕ) (sent : ℕ) (h : place ≤ length bytes) where
    pub waits_worked : Bytes bytes → sent ≤ length out → reads f (drop place bytes) ≡ undecided
        → Worked c f bytes place out sent (record { stage = Awaiting f; last = f; begin = place; place = place; sent = sent }) out
    waits_worked y r e =
        record {
          said = [];
          whole = same_fed _ _ (ap (λ x. x.session) (feed_undecided c f (drop place bytes) e)) (ap (λ x. x.sent) (feed_undecided c f (drop place bytes) e)) (ap (λ x. x.place) (feed_undecided c f (drop place bytes) e) ∙ omega arith);
          wrote = wrote_none out sent r;
          onward = le_refl place;
          spans = le_refl place;
          inside = h;
          rests = held_most f (drop place bytes) (rest_bytes y place) e;
          ready = tt;
        }

    pub fails_worked : (n : ℕ) (x : SocksError) → sent ≤ length out → reads f (drop place bytes) ≡ decided n (bad x)
        → Worked c f bytes place out sent (record { stage = Failed x; last = f; begin = place; place = place + n; sent = sent }) out
    fails_worked n x r e =
        let g = feed_bad c f (drop place bytes) n x e in
        record {
          said = [];
          whole = same_fed _ _ (ap (λ z. z.session) g) (ap (λ z. z.sent) g) (ap (λ z. z.place) g ∙ omega arith);
          wrote = wrote_none out sent r;
          onward = le_refl place;
          spans = omega arith;
          inside = within_at place n (bad x) h e;
          rests = tt;
          ready = tt;
        }

    -- a field that is whole and good, up to an end
    module _ (end : ℕ) (k : place ≤ end) (e : reads f (drop place bytes) ≡ decided (end - place) good) where
      abbrev pub m : List ℕ
      m = take (end - place) (drop place bytes)

      abbrev pub stepped : Stage → ℕ → Turn
      stepped s behind = record { stage = s; last = f; begin = place; place = end; sent = behind }

      within_end : end ≤ length bytes
      within_end = let i = within_at place (end - place) good h e in omega arith

      behind_end : drop (end - place) (drop place bytes) ≡ drop end bytes
      behind_end = let i : place + (end - place) ≡ end = omega arith in drop-drop (end - place) place bytes ∙ rw i

      fed : (s : Stage) → (due_at c f m).stage ≡ s
          → feed (server c) (talk_at c f) (drop place bytes) ≡ moving (end - place) (sending (said_by (due_at c f m).says) (feed (server c) (talk_from c s (asks_at f m)) (drop end bytes)))
      fed s q =
          talk_due c f (drop place bytes) (end - place) e
          ∙ ap (moving (end - place)) (feed_due c (due_at c f m) (asks_at f m) (drop (end - place) (drop place bytes)) ∙ rw (q, behind_end))

      last_of : (v : Version) → (due_at c f m).stage ≡ Asked v → Last f m
      last_of v q = last_field c f m v q (alone (drop place bytes) (end - place) e)

      pub good_steps : (behind : ℕ) (out' : List ℕ) → Wrote out sent (said_by (due_at c f m).says) behind out'
          → Steps c f bytes place out sent (stepped (due_at c f m).stage behind, awaited_in (due_at c f m).stage) out'
      good_steps behind out' w = go (due_at c f m).stage refl
        where
          over : (s : Stage) → (due_at c f m).stage ≡ s → (feed (server c) (talk_from c s (asks_at f m)) (drop end bytes) ≡ unmoved (session_at s (asks_at f m) (drop end bytes)))
              → Rests s (drop end bytes) → Ready s f m → Worked c f bytes place out sent (stepped s behind) out'
          over s q g rests ready =
              let z = fed s q ∙ ap (λ x. moving (end - place) (sending (said_by (due_at c f m).says) x)) g in
              record {
                said = said_by (due_at c f m).says;
                whole = same_fed _ _ (ap (λ x. x.session) z) (ap (λ x. x.sent) z ∙ append-nil _) (ap (λ x. x.place) z ∙ omega arith);
                wrote = w;
                onward = le_refl place;
                spans = k;
                inside = within_end;
                rests = rests;
                ready = ready;
              }

          go : (s : Stage) → (due_at c f m).stage ≡ s → Steps c f bytes place out sent (stepped s behind, awaited_in s) out'
          go (Awaiting g) q =
              record {
                stops = λ z. absurd (none-some g (sym z));
                goes = λ next z. subst (λ (x : Field). Goes c f bytes place out sent (stepped (Awaiting g) behind) x out') (same_Some g next z) (
                    record {
                      said = said_by (due_at c f m).says;
                      whole = fed (Awaiting g) q;
                      wrote = w;
                      falls = rank_falls c f g m q;
                      few = said_few (due_at c f m).says;
                      onward = k;
                      inside = within_end;
                    });
              }
          go (Asked v) q = record { stops = λ z. over (Asked v) q (feed_over c (Asked v) (asks_at f m) (drop end bytes) tt) tt (last_of v q); goes = λ next z. absurd (none-some next z) }
          go (Open v) q = absurd (never_open c f m v q)
          go (Failed x) q = record { stops = λ z. over (Failed x) q (feed_over c (Failed x) (asks_at f m) (drop end bytes) tt) tt tt; goes = λ next z. absurd (none-some next z) }

-- ---- as the code has them

module _ {c : Setup} {f : Field} {bytes : List ℕ} {place : ℕ} {out : List ℕ} {sent : ℕ} where
  pub stopped : {out' : List ℕ} (t : Turn) → Worked c f bytes place out sent t out' → Steps c f bytes place out sent (t, None) out'
  stopped t w = record { stops = λ z. w; goes = λ next z. absurd (none-some next z) }

  pub stepping : {out' : List ℕ} (end : ℕ) → place ≤ length bytes → place ≤ end → reads f (drop place bytes) ≡ decided (end - place) good
      → (d : Due) → d ≡ due_at c f (take (end - place) (drop place bytes)) → (behind : ℕ) → Wrote out sent (said_by d.says) behind out' → (a : Option Field) → a ≡ awaited_in d.stage
      → Steps c f bytes place out sent (record { stage = d.stage; last = f; begin = place; place = end; sent = behind }, a) out'
  stepping end h k e d q behind w a z = rw (z, q) (good_steps c f bytes place out sent h end k e behind _ (rw q at w))

pub told_undecided : {r : judge.Decision} {d : Decision SocksError} → told r ≡ d → r ≡ judge.Undecided → d ≡ undecided
told_undecided t e = sym t ∙ ap told e

pub told_decided : {r : judge.Decision} {d : Decision SocksError} (n : ℕ) (v w : judge.Verdict) → told r ≡ d → r ≡ judge.Decided n v → v ≡ w → d ≡ decided n (judged w)
told_decided n v w t e q = sym t ∙ ap told (e ∙ ap (judge.Decided n) q)

-- a turn that goes on, and what the next field and those behind it do
pub goes_worked : (c : Setup) (f : Field) (bytes : List ℕ) (place : ℕ) (out : List ℕ) (sent : ℕ) (r : Turn) (next : Field) (out₁ : List ℕ) (t : Turn) (out₂ : List ℕ)
    → Goes c f bytes place out sent r next out₁ → Worked c next bytes r.place out₁ r.sent t out₂ → Worked c f bytes place out sent t out₂
goes_worked c f bytes place out sent r next out₁ t out₂ g w =
    let i = g.onward in
    let j = w.onward in
    let l = w.spans in
    let z = g.whole ∙ ap (λ x. moving (r.place - place) (sending g.said x)) w.whole in
    record {
      said = g.said ++ w.said;
      whole = same_fed _ _ (ap (λ x. x.session) z) (ap (λ x. x.sent) z) (ap (λ x. x.place) z ∙ omega arith);
      wrote = then g.wrote w.wrote;
      onward = omega arith;
      spans = l;
      inside = w.inside;
      rests = w.rests;
      ready = w.ready;
    }
