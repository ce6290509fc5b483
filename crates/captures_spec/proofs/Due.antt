-- F-10: what the plain machine has sent and read on more and more bytes, and when these are just one reply sequence.
use Prim.Native.Nat.{ℕ, ◌+◌, ◌≤◌}
use native.Mathlib.Nat.{add-zero}
use native.Mathlib.Omega.{arith}
use mathlib.Core.Path.{◌≡◌, refl, ap, sym, subst, ◌∙◌}
use mathlib.Core.Logic.{◌↔◌}
use mathlib.Core.Bool.{Bool, true, false}
use mathlib.Core.List.{List, [], ◌∷◌, ◌++◌, append-nil}
use lib.ListN.{length, length-append}
use Rattle.protocol.specs.declared.Outcome.TheVariants.{Open}
use Rattle.protocol.specs.Bytes.{Bytes}
use Rattle.protocol.specs.Bound.{Endpoint}
use Rattle.protocol.specs.Opening.{Opening}
use Rattle.protocol.specs.Machine.{Machine, machine, used}
use Rattle.protocol.specs.Grammar.{Sequence}
use Rattle.protocol.specs.Client.{kept, begun, side}
use Rattle.protocol.proofs.Client.{client_lawful, begun_shaped, machine_feed, used_feed}
use Rattle.protocol.proofs.Sequences.{open_just, open_one}
use Rattle.talk.specs.Talk.{FedOf, feed, onward, is_over, reached}
use Rattle.talk.specs.Lawful.{Begins}
use Rattle.talk.proofs.Feed.{feed_append, feed_within, feed_exact, onward_over}

module _ (o : Opening) where
  abbrev fed : List ℕ → FedOf (side o)
  fed bs = feed (side o) (begun o) bs

  -- on more bytes it has sent what it had, and perhaps more
  unfoldable pub grown : List ℕ → List ℕ → List ℕ
  grown a b = (onward (side o) (fed a).session b).sent

  pub sent_grows : (a b : List ℕ) → (machine o (a ++ b)).sent ≡ (machine o a).sent ++ grown a b
  unfolding grown
  sent_grows a b =
      ap (λ (m : Machine). m.sent) (machine_feed o (a ++ b))
      ∙ ap (λ (f : FedOf (side o)). f.sent) (feed_append (side o) (client_lawful (kept o)) (begun o) (begun_shaped o) a b)
      ∙ ap (λ (m : Machine). m.sent ++ (onward (side o) (feed (side o) (begun o) a).session b).sent) (sym (machine_feed o a))

  pub sent_more : (a b : List ℕ) → length (machine o a).sent ≤ length (machine o (a ++ b)).sent
  sent_more a b = omega (arith, ap length (sent_grows a b), length-append (machine o a).sent (grown a b))

  -- what is read to the end was so at each beginning
  pub read_before : (a b : List ℕ) → used o (a ++ b) ≡ length (a ++ b) → used o a ≡ length a
  read_before a b q = go (is_over (feed (side o) (begun o) a).session) refl
    where
      go : (t : Bool) → is_over (feed (side o) (begun o) a).session ≡ t → used o a ≡ length a
      go false e = used_feed o a ∙ feed_exact (side o) (client_lawful (kept o)) (begun o) a e
      go true e =
          let f = feed (side o) (begun o) a in
          let same : reached (feed (side o) (begun o) (a ++ b)) ≡ reached f =
          ap reached (feed_append (side o) (client_lawful (kept o)) (begun o) (begun_shaped o) a b)
          ∙ rw (onward_over (side o) (client_lawful (kept o)) f.session b e, add-zero) in
          omega (arith, q, used_feed o a, used_feed o (a ++ b), same, feed_within (side o) (client_lawful (kept o)) (begun o) a, length-append a b)

  -- ---- just one reply sequence: open, with nothing unread

  pub replied_just : (bs : List ℕ) → Bytes bs → ((x : Endpoint) × Sequence o bs x) ↔ (((machine o bs).outcome ≡ Open) × (used o bs ≡ length bs))
  replied_just bs y = (there, back)
    where
      there : (x : Endpoint) × Sequence o bs x → ((machine o bs).outcome ≡ Open) × (used o bs ≡ length bs)
      there (x, s) =
          let b : Begins bs bs = ([], sym (append-nil bs)) in
          let q = (open_just o bs y).1 (bs, x, b, s) in
          let j = open_one o bs y q in
          (q, j.long ∙ ap length (sym (j.only bs x b s).0))

      all_of : (p f : List ℕ) → bs ≡ p ++ f → length bs ≡ length p → p ≡ bs
      all_of p [] e l = sym (append-nil p) ∙ sym e
      all_of p (z ∷ f) e l = absurd (omega (arith, ap length e, length-append p (z ∷ f)))

      back : ((machine o bs).outcome ≡ Open) × (used o bs ≡ length bs) → (x : Endpoint) × Sequence o bs x
      back (q, u) =
          let j = open_one o bs y q in
          ((machine o bs).bound, subst (λ (p : List ℕ). Sequence o p (machine o bs).bound) (all_of j.begin j.begins.0 j.begins.1 (sym u ∙ j.long)) j.is)
