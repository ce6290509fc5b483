-- The loop of a delivery: what a turn leaves to do comes to the whole, and what became due stands behind what did before.
use Prim.Native.Nat.{ℕ, ◌+◌, ◌-◌, ◌≤◌, ◌<◌, zero-le}
use native.Mathlib.Nat.{add-zero, zero-add, add_assoc}
use native.Mathlib.Omega.{arith}
use Rattle.std.specs.Prelude.{Option, Some, None}
use mathlib.Core.Path.{◌≡◌, refl, ap, sym, ◌∙◌}
use mathlib.Core.List.{List, [], ◌++◌, append_assoc, append-nil}
use lib.ListN.{length, drop, length-drop}
use lib.Seq.{drop-drop}
use Rattle.protocol.specs.declared.AuthMethod.TheVariants.{NoAuth, UserPass, NoneAcceptable}
use Rattle.protocol.specs.declared.Reply.{Reply}
use Rattle.protocol.specs.declared.Reply.TheVariants.{NegotiationRes, AuthenticationRes, ProxyRes, Response}
use Rattle.protocol.specs.declared.SocksError.{SocksError}
use Rattle.protocol.specs.Answers.{Verdict, Good, Bad, Decision, Undecided, Decided}
use Rattle.protocol.specs.Bound.{unbound}
use Rattle.protocol.specs.Replies.{decide}
use Rattle.protocol.proofs.Named.{proxy_whole, response_whole}
use Rattle.protocol.proofs.Replies.{decided_within}
use Rattle.client_stages.specs.declared.due.Lengths.{Lengths}
use Rattle.client_stages.specs.declared.due.Stage.{Stage}
use Rattle.client_stages.specs.declared.due.Stage.TheVariants.{Awaiting, Open, Failed}
use Rattle.client_stages.specs.due.Stages.{SideFed, rank}
use Rattle.client_stages.specs.due.Parts.{part}
use Rattle.client_stages.specs.declared.due.Due.{Due}
use Rattle.client_stages.specs.due.Due.{due_after, due_judged, due_from, still_due}
use Rattle.replies.specs.unread.Fewest.{fewest}
use Rattle.client_stages.proofs.due.Sending.{still_after, part_on}
use Rattle.client_delivery.specs.bound_address.Named.{last_of, Whole}
use Rattle.client_delivery.specs.declared.turns.Turn.{Turn}
use Rattle.client_delivery.specs.turns.Turns.{kept_in, on_stage, turned, decided_at, Rests, named_at, Ready, Worked}
use Rattle.client_delivery.proofs.turns.Steps.{stage_good, stage_bad, stage_rests, decides_good, decides_bad, rests_decided, rank_falls}
use Rattle.talk.specs.Talk.{sending, moving}
use Rattle.talk.proofs.Feed.{same_fed}

pub still_small : (e : Reply) → still_due (Awaiting e) ≤ 775
still_small (NegotiationRes NoAuth) = omega arith
still_small (NegotiationRes UserPass) = omega arith
still_small (NegotiationRes NoneAcceptable) = omega arith
still_small AuthenticationRes = omega arith
still_small ProxyRes = omega arith
still_small Response = omega arith

rank_most : (e : Reply) → rank (Awaiting e) ≤ 3
rank_most (NegotiationRes m) = omega arith
rank_most AuthenticationRes = omega arith
rank_most ProxyRes = omega arith
rank_most Response = omega arith

fewest_some : (e : Reply) → 0 < fewest e
fewest_some (NegotiationRes m) = omega arith
fewest_some AuthenticationRes = omega arith
fewest_some ProxyRes = omega arith
fewest_some Response = omega arith

-- ---- where the loop stands: what is left to do behind what was sent and read comes to the whole

pub record Left (whole : SideFed) (sent : List ℕ) (place : ℕ) (left : SideFed) : Type 0 where
  pub session : whole.session ≡ left.session
  pub sends : whole.sent ≡ sent ++ left.sent
  pub places : whole.place ≡ place + left.place

left_on : {whole f g : SideFed} {sent : List ℕ} (more : List ℕ) {place : ℕ} (n : ℕ) → Left whole sent place f → f ≡ moving n (sending more g) → Left whole (sent ++ more) (place + n) g
left_on {whole} {f} {g} {sent} more {place} n t e =
    record {
      session = t.session ∙ ap (λ (h : SideFed). h.session) e;
      sends = t.sends ∙ ap (λ (h : SideFed). sent ++ h.sent) e ∙ sym (append_assoc sent more g.sent);
      places = t.places ∙ ap (λ (h : SideFed). place + h.place) e ∙ sym (add_assoc place n g.place);
    }

-- ---- what becomes due stands behind what did before

abbrev Next : Lengths → ℕ → Stage → Type 0
Next l end (Awaiting (NegotiationRes m)) = due_from l (NegotiationRes m) ≡ end
Next l end (Awaiting AuthenticationRes) = due_from l AuthenticationRes ≡ end
Next l end (Awaiting ProxyRes) = Unit {0}
Next l end (Awaiting Response) = Unit {0}
Next l end Open = Unit {0}
Next l end (Failed x) = Unit {0}

next_first : (l : Lengths) (e : Reply) → Next l (due_from l e + 0) (Awaiting e)
next_first l (NegotiationRes m) = sym (add-zero _)
next_first l AuthenticationRes = sym (add-zero _)
next_first l ProxyRes = tt
next_first l Response = tt

next_on : (l : Lengths) (from sent : ℕ) (e : Reply) → Next l (from + sent) (Awaiting e) → Next l (from + (sent + (due_after l e).len)) (due_after l e).stage
next_on l from sent (NegotiationRes NoAuth) q = tt
next_on l from sent (NegotiationRes UserPass) q = omega arith
next_on l from sent (NegotiationRes NoneAcceptable) q = tt
next_on l from sent AuthenticationRes q = tt
next_on l from sent ProxyRes q = tt
next_on l from sent Response q = tt

part_none : (b : List ℕ) (from n at : ℕ) → part b from n ++ part b at 0 ≡ part b from (n + 0)
part_none b from n at = append-nil (part b from n) ∙ ap (part b from) (sym (add-zero n))

sent_on : (b : List ℕ) (l : Lengths) (from sent : ℕ) (e : Reply) → Next l (from + sent) (Awaiting e) → part b from sent ++ part b (due_from l e) (due_after l e).len ≡ part b from (sent + (due_after l e).len)
sent_on b l from sent (NegotiationRes m) q = rw q (part_on b from sent _)
sent_on b l from sent AuthenticationRes q = rw q (part_on b from sent _)
sent_on b l from sent ProxyRes q = part_none b from sent (due_from l ProxyRes)
sent_on b l from sent Response q = part_none b from sent (due_from l Response)

-- ---- a handshake ends with one reply, wherever it stands

abbrev Ends : Reply → Stage → Type 0
Ends e₀ (Awaiting e) = last_of e ≡ last_of e₀
Ends e₀ Open = Unit {0}
Ends e₀ (Failed x) = Unit {0}

ends_on : (l : Lengths) (e₀ e : Reply) → last_of e ≡ last_of e₀ → Ends e₀ (due_after l e).stage
ends_on l e₀ (NegotiationRes NoAuth) q = q
ends_on l e₀ (NegotiationRes UserPass) q = q
ends_on l e₀ (NegotiationRes NoneAcceptable) q = tt
ends_on l e₀ AuthenticationRes q = q
ends_on l e₀ ProxyRes q = tt
ends_on l e₀ Response q = tt

whole_last : (e₀ e : Reply) → last_of e ≡ last_of e₀ → (bs : List ℕ) → Whole (last_of e) bs → Whole e₀ bs
whole_last (NegotiationRes m) e q bs w = rw q at w
whole_last AuthenticationRes e q bs w = rw q at w
whole_last ProxyRes e q bs w = rw q at w
whole_last Response e q bs w = rw q at w

-- ---- the loop

pub record Going (l : Lengths) (e₀ : Reply) (bytes : List ℕ) (stage : Stage) (begin place sent decided : ℕ) : Type 0 where
  pub left : (b : List ℕ) → Left (on_stage (kept_in l b) (Awaiting e₀) unbound bytes) (part b (due_from l e₀) sent) place (on_stage (kept_in l b) stage (named_at e₀ begin bytes) (drop place bytes))
  pub counts : (b : List ℕ) → decided_at (kept_in l b) (Awaiting e₀) bytes ≡ decided + decided_at (kept_in l b) stage (drop place bytes)
  pub next : Next l (due_from l e₀ + sent) stage
  pub ends : Ends e₀ stage
  pub ready : Ready stage e₀ begin bytes
  pub room : sent + still_due stage ≤ still_due (Awaiting e₀)
  pub inside : place ≤ length bytes

pub going_first : (l : Lengths) (e : Reply) (bytes : List ℕ) → Going l e bytes (Awaiting e) 0 0 0 0
going_first l e bytes =
    record {
      left = λ b. record { session = refl; sends = refl; places = sym (zero-add _) };
      counts = λ b. sym (zero-add _);
      next = next_first l e;
      ends = refl;
      ready = tt;
      room = omega arith;
      inside = zero-le;
    }

ready_on : (l : Lengths) (e₀ : Reply) (bytes : List ℕ) (place : ℕ) (e : Reply) (n : ℕ) → decide e (drop place bytes) ≡ Decided n Good → last_of e ≡ last_of e₀ → place ≤ length bytes → Ready (due_after l e).stage e₀ place bytes
ready_on l e₀ bytes place (NegotiationRes NoAuth) n q s i = tt
ready_on l e₀ bytes place (NegotiationRes UserPass) n q s i = tt
ready_on l e₀ bytes place (NegotiationRes NoneAcceptable) n q s i = tt
ready_on l e₀ bytes place AuthenticationRes n q s i = tt
ready_on l e₀ bytes place ProxyRes n q s i = (i, whole_last e₀ ProxyRes s (drop place bytes) (proxy_whole (drop place bytes) n q))
ready_on l e₀ bytes place Response n q s i = (i, whole_last e₀ Response s (drop place bytes) (response_whole (drop place bytes) n q))

module _ {l : Lengths} {e₀ : Reply} {bytes : List ℕ} {begin place sent decided : ℕ} where
  on_good : (e : Reply) (n : ℕ) → decide e (drop place bytes) ≡ Decided n Good → Going l e₀ bytes (Awaiting e) begin place sent decided → Going l e₀ bytes (due_after l e).stage place (place + n) (sent + (due_after l e).len) (decided + 1)
  on_good e n q g =
      record {
        left = λ b.
            rw (← sent_on b l (due_from l e₀) sent e g.next, ← drop-drop n place bytes, ← g.ends)
            (left_on (part b (due_from l e) (due_after l e).len) n (g.left b) (stage_good l b e (named_at e₀ begin bytes) (drop place bytes) n q));
        counts = λ b. g.counts b ∙ rw (decides_good l b e (drop place bytes) n q, drop-drop n place bytes) (omega arith);
        next = next_on l (due_from l e₀) sent e g.next;
        ends = ends_on l e₀ e g.ends;
        ready = ready_on l e₀ bytes place e n q g.ends g.inside;
        room = omega (arith, still_after l e, g.room);
        inside = omega (arith, decided_within e (drop place bytes) n Good q, length-drop place bytes, g.inside);
      }

  on_bad : (e : Reply) (n : ℕ) (x : SocksError) → decide e (drop place bytes) ≡ Decided n (Bad x) → Going l e₀ bytes (Awaiting e) begin place sent decided → Going l e₀ bytes (Failed x) place (place + n) sent (decided + 1)
  on_bad e n x q g =
      record {
        left = λ b. rw (← append-nil (part b (due_from l e₀) sent)) (left_on [] n (g.left b) (stage_bad (kept_in l b) e (drop place bytes) n x q (named_at e₀ begin bytes)));
        counts = λ b. g.counts b ∙ rw (decides_bad (kept_in l b) e (drop place bytes) n x q) (omega arith);
        next = tt;
        ends = tt;
        ready = tt;
        room = omega (arith, g.room);
        inside = omega (arith, decided_within e (drop place bytes) n (Bad x) q, length-drop place bytes, g.inside);
      }

-- ---- a turn as the code makes it

pub judged_small : (l : Lengths) (e : Reply) (v : Verdict) {r : Due} → r ≡ due_judged l e v → r.len ≤ 775
judged_small l e Good q = rw q (omega (arith, still_after l e, still_small e))
judged_small l e (Bad x) q = rw q zero-le

module _ (e : Reply) (bytes : List ℕ) (place : ℕ) {d : Decision} (p : d ≡ decide e (drop place bytes)) {n : ℕ} {v : Verdict} (q : d ≡ Decided n v) where
  pub decided_inside : place ≤ length bytes → place + n ≤ length bytes
  decided_inside h = omega (arith, decided_within e (drop place bytes) n v (sym p ∙ q), length-drop place bytes)

-- ---- the loop

-- where it stands, with so many turns left
pub record Loops (l : Lengths) (e₀ : Reply) (bytes : List ℕ) (t : Turn) (left : ℕ) : Type 0 where
  pub going : Going l e₀ bytes t.stage t.begin t.place t.sent t.decided
  pub ends : rank t.stage ≤ left
  pub most : t.decided + left ≤ 3

pub loops_first : (l : Lengths) (e : Reply) (bytes : List ℕ) → Loops l e bytes (record { stage = Awaiting e; begin = 0; place = 0; sent = 0; decided = 0 }) 3
loops_first l e bytes = record { going = going_first l e bytes; ends = rank_most e; most = omega arith }

-- the loop is left where nothing is left to do
going_last : {l : Lengths} {e₀ : Reply} {bytes : List ℕ} {stage : Stage} {begin place sent decided : ℕ} → Going l e₀ bytes stage begin place sent decided → decided ≤ 3 → Rests stage (drop place bytes)
    → Worked l e₀ bytes stage begin place sent decided
going_last {l} {e₀} {bytes} {stage} {begin} {place} {sent} {decided} g k r =
    record {
      whole = λ b.
          let t = g.left b in
          let s = stage_rests (kept_in l b) stage (named_at e₀ begin bytes) (drop place bytes) r in
          same_fed _ _ (t.session ∙ ap (λ (f : SideFed). f.session) s)
          (t.sends ∙ ap (λ (f : SideFed). part b (due_from l e₀) sent ++ f.sent) s ∙ append-nil _)
          (t.places ∙ ap (λ (f : SideFed). place + f.place) s ∙ add-zero place);
      decides = λ b. g.counts b ∙ rw (rests_decided (kept_in l b) stage (drop place bytes) r) (add-zero decided);
      most = k;
      inside = g.inside;
      rests = r;
      ready = g.ready;
      few = omega (arith, g.room);
    }

settled : (stage : Stage) (rest : List ℕ) → rank stage ≤ 0 → Rests stage rest
settled (Awaiting (NegotiationRes m)) rest z = absurd (omega arith)
settled (Awaiting AuthenticationRes) rest z = absurd (omega arith)
settled (Awaiting ProxyRes) rest z = absurd (omega arith)
settled (Awaiting Response) rest z = absurd (omega arith)
settled Open rest z = tt
settled (Failed x) rest z = tt

pub rank_none : (stage : Stage) → ((e : Reply) → stage ≡ Awaiting e → ⊥) → rank stage ≤ 0
rank_none (Awaiting e) h = absurd (h e refl)
rank_none Open h = zero-le
rank_none (Failed x) h = zero-le

some_is : {a b : Turn} → ◌≡◌ {A = Option Turn} (Some a) (Some b) → a ≡ b
some_is q = cc

none_some : {a : Turn} → ◌≡◌ {A = Option Turn} None (Some a) → ⊥
none_some q = let z : ◌≡◌ {A = ℕ} 0 1 = cc in omega arith

module _ {l : Lengths} {e₀ : Reply} {bytes : List ℕ} where
  -- a turn that reads a reply
  pub going_on : {t t' : Turn} {e : Reply} → Going l e₀ bytes t.stage t.begin t.place t.sent t.decided → t.stage ≡ Awaiting e → turned l e t (decide e (drop t.place bytes)) ≡ Some t' → Going l e₀ bytes t'.stage t'.begin t'.place t'.sent t'.decided
  going_on {t} {t'} {e} g s h = go (decide e (drop t.place bytes)) refl h
    where
      waits : Going l e₀ bytes (Awaiting e) t.begin t.place t.sent t.decided
      waits = rw s at g

      go : (d : Decision) → decide e (drop t.place bytes) ≡ d → turned l e t d ≡ Some t' → Going l e₀ bytes t'.stage t'.begin t'.place t'.sent t'.decided
      go Undecided q h = absurd (none_some h)
      go (Decided n Good) q h = rw (sym (some_is h)) (on_good e n q waits)
      go (Decided n (Bad x)) q h = rw (sym (some_is h)) (rw (add-zero t.sent) (on_bad e n x q waits))

module _ {l : Lengths} {e₀ : Reply} {bytes : List ℕ} {left : ℕ} where
  -- a reply was read
  pub loops_on : {t t' : Turn} {e : Reply} {r : Option Turn} → Loops l e₀ bytes t left → t.stage ≡ Awaiting e → r ≡ turned l e t (decide e (drop t.place bytes)) → r ≡ Some t' → {left' : ℕ} → left' ≡ left - 1 → Loops l e₀ bytes t' left'
  loops_on {t} {t'} {e} g s q h y = rw y (go (decide e (drop t.place bytes)) refl (sym q ∙ h))
    where
      goes : Going l e₀ bytes t'.stage t'.begin t'.place t'.sent t'.decided
      goes = going_on g.going s (sym q ∙ h)

      few : rank (Awaiting e) ≤ left
      few = let z = g.ends in rw s at z

      go : (d : Decision) → decide e (drop t.place bytes) ≡ d → turned l e t d ≡ Some t' → Loops l e₀ bytes t' (left - 1)
      go Undecided q h = absurd (none_some h)
      go (Decided n Good) q h =
          record { going = goes; ends = rw (sym (some_is h)) (omega (arith, few, rank_falls l e)); most = rw (sym (some_is h)) (omega (arith, g.most, few, rank_falls l e)) }
      go (Decided n (Bad x)) q h =
          record { going = goes; ends = rw (sym (some_is h)) zero-le; most = rw (sym (some_is h)) (omega (arith, g.most, few, rank_falls l e)) }

  -- the reply is undecided
  pub loops_undecided : {t : Turn} {e : Reply} {r : Option Turn} → Loops l e₀ bytes t left → t.stage ≡ Awaiting e → r ≡ turned l e t (decide e (drop t.place bytes)) → r ≡ None → length (drop t.place bytes) ≤ 261
      → Worked l e₀ bytes t.stage t.begin t.place t.sent t.decided
  loops_undecided {t} {e} g s q h few = going_last g.going (omega (arith, g.most)) (rw s (go (decide e (drop t.place bytes)) (sym q ∙ h), few))
    where
      go : (d : Decision) → turned l e t d ≡ None → d ≡ Undecided
      go Undecided h = refl
      go (Decided n v) h = absurd (none_some (sym h))

  -- no reply is awaited
  pub loops_settled : {t : Turn} → Loops l e₀ bytes t left → rank t.stage ≤ 0 → Worked l e₀ bytes t.stage t.begin t.place t.sent t.decided
  loops_settled {t} g z = going_last g.going (omega (arith, g.most)) (settled t.stage (drop t.place bytes) z)

  -- no turn is left
  pub loops_end : {t : Turn} → Loops l e₀ bytes t left → left ≤ 0 → Worked l e₀ bytes t.stage t.begin t.place t.sent t.decided
  loops_end g z = loops_settled g (omega (arith, g.ends))
