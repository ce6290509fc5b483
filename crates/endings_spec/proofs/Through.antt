-- F-12, replies in turn: the least streams are built of their words.
use Prim.Native.Nat.{ℕ, ◌≤◌, zero-le}
use native.Mathlib.Omega.{arith}
use mathlib.Core.Path.{◌≡◌, refl, ap, sym}
use mathlib.Core.Logic.{◌⊎◌, inl, inr}
use mathlib.Core.Bool.{false≢true}
use Rattle.std.specs.Prelude.{Option, None, Some}
use mathlib.Core.List.{List, [], ◌∷◌, ◌++◌}
use lib.ListN.{length, take, drop, length-drop, take-append-drop}
use lib.Seq.{drop-append_seam, length-take-le}
use Rattle.protocol.specs.declared.Outcome.TheVariants.{Waiting, Open}
use Rattle.protocol.specs.declared.Reply.{Reply}
use Rattle.protocol.specs.declared.Reply.TheVariants.{NegotiationRes, AuthenticationRes, ProxyRes, Response}
use Rattle.protocol.specs.Answers.{Good, Bad, Decision, Undecided, Decided}
use Rattle.protocol.specs.Replies.{decide}
use Rattle.protocol.proofs.Bytes.{bytes_join}
use Rattle.protocol.proofs.Replies.{stays_decided, decided_within}
use Rattle.endings_spec.specs.declared.OutcomeStatus.{OutcomeStatus}
use Rattle.endings_spec.specs.Endings.{ending_of}
use Rattle.endings_spec.specs.Streams.{is_of, if}
use Rattle.endings_spec.proofs.Order.{AtMost, at_most_append, at_most_longer, at_most_nil, Best}
use Rattle.endings_spec.proofs.ReplyWords.{good_for, bad_for, ends_for}
use Rattle.endings_spec.proofs.Words.{test, First, size_of, GoodWord, good_word, is_plain, undecided_nil, HereOr, Here, EndWord, end_word, first_good, first_end}

-- ---- replies in turn

-- the one, or else the other; and both, the one before the other
abbrev pub or_else : Option (List ℕ) → Option (List ℕ) → Option (List ℕ)
or_else None later = later
or_else (Some a) later = Some a

abbrev pub then : Option (List ℕ) → Option (List ℕ) → Option (List ℕ)
then None r = None
then (Some a) None = None
then (Some a) (Some b) = Some (a ++ b)

-- good ones up to the first that can end so; if none can, good ones all and what is given behind them
unfoldable pub through : (Reply → Option (List ℕ)) → List Reply → Option (List ℕ) → Option (List ℕ)
through ends [] r = r
through ends (e ∷ es) r = or_else (ends e) (then (good_for e) (through ends es r))

-- ---- a good word, and behind it the least stream of what follows

abbrev Then : Reply → (List ℕ → Type 0) → List ℕ → Type 0
Then e Q bs = (n : ℕ) × (decide e bs ≡ Decided n Good) × Q (drop n bs)

then_best : (e : Reply) (Q : List ℕ → Type 0) (r : Option (List ℕ)) → Best Q r → Best (Then e Q) (then (good_for e) r)
then_best e Q r b = go (good_for e) (good_word e) (first_good e) r b
  where
    go : (g : Option (List ℕ)) → GoodWord e g → ((cs : List ℕ) (n : ℕ) → decide e cs ≡ Decided n Good → First g (take n cs)) → (r : Option (List ℕ)) → Best Q r → Best (Then e Q) (then g r)
    go None g f r b = λ cs (n, d, q). f cs n d
    go (Some u) g f None b = λ cs (n, d, q). b (drop n cs) q
    go (Some u) (g, l) f (Some v) b =
        record {
          bytes = bytes_join u v g.bytes b.bytes;
          leads = (length u, stays_decided e u v (length u) Good g.decides, rw (drop-append_seam u v) b.leads);
          least = λ cs (n, d, q). rw (take-append-drop n cs) at (at_most_append (f cs n d) (b.least (drop n cs) q));
        }

-- ---- two ways to a property, of which the first, where there is one, is the better

or_best : (A B P : List ℕ → Type 0) (r s : Option (List ℕ)) → ((bs : List ℕ) → P bs → A bs ⊎ B bs) → ((bs : List ℕ) → A bs → P bs) → ((bs : List ℕ) → B bs → P bs)
    → Best A r → Best B s → ((u : List ℕ) → r ≡ Some u → (cs : List ℕ) → B cs → AtMost u cs) → Best P (or_else r s)
or_best A B P None None either a b p q m = λ cs h. go cs (either cs h)
  where
    go : (cs : List ℕ) → A cs ⊎ B cs → ⊥
    go cs (inl h) = p cs h
    go cs (inr h) = q cs h
or_best A B P None (Some v) either a b p q m = record { bytes = q.bytes; leads = b v q.leads; least = λ cs h. go cs (either cs h) }
  where
    go : (cs : List ℕ) → A cs ⊎ B cs → AtMost v cs
    go cs (inl h) = absurd (p cs h)
    go cs (inr h) = q.least cs h
or_best A B P (Some u) s either a b p q m = record { bytes = p.bytes; leads = a u p.leads; least = λ cs h. go cs (either cs h) }
  where
    go : (cs : List ℕ) → A cs ⊎ B cs → AtMost u cs
    go cs (inl h) = p.least cs h
    go cs (inr h) = m u refl cs h

-- ---- replies in turn: it ends at one of them as S says, or all are good and what is left has Q

abbrev pub Ends : (OutcomeStatus → Type 0) → (List ℕ → Type 0) → List Reply → List ℕ → Type 0
Ends S Q [] bs = Q bs
Ends S Q (e ∷ es) bs = HereOr S (decide e bs) (λ n. Ends S Q es (drop n bs))

-- it ends so at a reply only with no byte at all: what must hold where the empty stream leads there too
abbrev pub Blank : (Reply → Option (List ℕ)) → Type 0
Blank ends = (e : Reply) (u : List ℕ) → ends e ≡ Some u → u ≡ []

pub record Aim (S : OutcomeStatus → Type 0) (ends : Reply → Option (List ℕ)) : Type 0 where
  pub best : (e : Reply) → Best (λ bs. Here S (decide e bs)) (ends e)
  pub small : (e : Reply) (u : List ℕ) → ends e ≡ Some u → length u ≤ size_of e
  pub blank : S (ending_of Waiting) → Blank ends

module _ (S : OutcomeStatus → Type 0) (ends : Reply → Option (List ℕ)) (aim : Aim S ends) (Q : List ℕ → Type 0) (blank : Q [] → Blank ends) where
  ends_blank : (es : List Reply) → Ends S Q es [] → Blank ends
  ends_blank [] q = blank q
  ends_blank (e ∷ es) q = aim.blank (rw (undecided_nil e) at q)

  -- to end at this reply takes no more bytes than a good one has, and behind a good one something follows
  better : (e : Reply) (es : List Reply) (u : List ℕ) → ends e ≡ Some u → (cs : List ℕ) → Then e (Ends S Q es) cs → AtMost u cs
  better e es u q cs (n, d, p) = go (drop n cs) refl p
    where
      size : (g : Option (List ℕ)) → GoodWord e g → First g (take n cs) → size_of e ≤ n
      size None g f = absurd f
      size (Some v) (g, l) f = omega (arith, f.short, length-take-le n cs (decided_within e cs n Good d))

      go : (l : List ℕ) → drop n cs ≡ l → Ends S Q es l → AtMost u cs
      go [] f p = rw (ends_blank es p e u q) (at_most_nil cs)
      go (a ∷ l) f p = at_most_longer (omega (arith, aim.small e u q, size (good_for e) (good_word e) (first_good e cs n d), length-drop n cs, ap length f))

  pub through_best : (r : Option (List ℕ)) → Best Q r → (es : List Reply) → Best (Ends S Q es) (through ends es r)
  unfolding through
  through_best r b [] = b
  through_best r b (e ∷ es) =
      or_best (λ bs. Here S (decide e bs)) (Then e (Ends S Q es)) (Ends S Q (e ∷ es)) (ends e) (then (good_for e) (through ends es r))
      (λ bs. either bs (decide e bs)) (λ bs. here bs (decide e bs)) (λ bs (n, d, p). rw d p)
      (aim.best e) (then_best e (Ends S Q es) (through ends es r) (through_best r b es)) (better e es)
    where
      either : (bs : List ℕ) (d : Decision) → HereOr S d (λ n. Ends S Q es (drop n bs)) → Here S d ⊎ ((n : ℕ) × (d ≡ Decided n Good) × Ends S Q es (drop n bs))
      either bs Undecided h = inl h
      either bs (Decided n Good) h = inr (n, refl, h)
      either bs (Decided n (Bad x)) h = inl h

      here : (bs : List ℕ) (d : Decision) → Here S d → HereOr S d (λ n. Ends S Q es (drop n bs))
      here bs Undecided h = h
      here bs (Decided n Good) h = absurd h
      here bs (Decided n (Bad x)) h = h

-- ---- to end with an outcome and status

pub ending_aim : (w : OutcomeStatus) → Aim (λ v. v ≡ w) (ends_for w)
unfolding ends_for
ending_aim w =
    record {
      best = λ e. go e (ends_for w e) (end_word w e) (first_end w e);
      small = λ e u q. (rw q at (end_word w e)).2;
      blank = λ h e u q. let n : Some [] ≡ Some u = rw (← h) at q in cc;
    }
  where
    go : (e : Reply) (r : Option (List ℕ)) → EndWord w e r → ((cs : List ℕ) → Here (λ v. v ≡ w) (decide e cs) → First r cs) → Best (λ bs. Here (λ v. v ≡ w) (decide e bs)) r
    go e None b f = f
    go e (Some u) (y, h, l) f = record { bytes = y; leads = h; least = f }

-- ---- to end nowhere, and go on

pub onward_aim : Aim (λ v. ⊥) (λ e. None)
onward_aim =
    record {
      best = λ e cs. go (decide e cs);
      small = λ e u q. let z : ◌≡◌ {A = ℕ} 0 1 = cc in absurd (omega arith);
      blank = λ h. absurd h;
    }
  where
    go : (d : Decision) → Here (λ v. ⊥) d → ⊥
    go Undecided h = h
    go (Decided n Good) h = h
    go (Decided n (Bad x)) h = h

-- ---- to be open behind them all

pub open_best : (w : OutcomeStatus) → Best (λ cs. ending_of Open ≡ w) (if (is_of w 0 0 0) [] None)
open_best w =
    test (Best (λ cs. ending_of Open ≡ w)) (is_of w 0 0 0)
    (λ t. record { bytes = λ i. zero-le; leads = is_plain w 0 t; least = λ cs q. at_most_nil cs })
    (λ t cs q. false≢true (rw (← q) at (sym t)))

-- what is open has ended at no reply
pub open_ends : (w : OutcomeStatus) → w.number ≡ 0 → (e : Reply) → ends_for w e ≡ None
unfolding ends_for bad_for
open_ends w q (NegotiationRes m) = rw q
open_ends w q AuthenticationRes = rw q
open_ends w q ProxyRes = rw q
open_ends w q Response = rw q

pub open_blank : (w : OutcomeStatus) → ending_of Open ≡ w → Blank (ends_for w)
open_blank w q e u p = let n = open_ends w (ap (λ (v : OutcomeStatus). v.number) (sym q)) e in let z : ◌≡◌ {A = ℕ} 0 1 = cc in absurd (omega arith)
