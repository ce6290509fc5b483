-- F-10: an accepted capture, entry by entry: what is left of it behind a beginning.
use Prim.Native.Nat.{ℕ, ◌+◌, ◌≤◌}
use native.Mathlib.Omega.{arith}
use mathlib.Core.Path.{◌≡◌, ap, sym, ◌∙◌}
use mathlib.Core.Logic.{◌↔◌}
use mathlib.Core.List.{List, [], ◌∷◌, ◌++◌, append_assoc, append-nil}
use lib.ListN.{length, take, drop, length-append, length-drop, length-take, take-append-drop}
use lib.Seq.{take-append_seam, drop-append_seam, take-append-le, drop-append-le, drop-drop}
use Rattle.protocol.specs.declared.Outcome.TheVariants.{Open}
use Rattle.protocol.specs.Bytes.{Bytes}
use Rattle.protocol.specs.Opening.{Opening}
use Rattle.protocol.specs.Machine.{machine, used}
use Rattle.captures_spec.specs.Captures as C
use Rattle.captures_spec.specs.Captures.{sent, received, Entry, entry, joined, Beginning, Accepted}
use Rattle.captures_spec.proofs.Due.{grown, sent_grows, sent_more, replied_just}

-- what is left behind a beginning that received bytes and sent so many: the entries open the session with nothing unread, send all that is left, and
-- none ahead
pub record Left (o : Opening) (got : List ℕ) (n : ℕ) (es : List Entry) : Type 0 where
  pub opens : (machine o (got ++ joined received es)).outcome ≡ Open
  pub reads : used o (got ++ joined received es) ≡ length (got ++ joined received es)
  pub all : joined sent es ≡ drop n (machine o (got ++ joined received es)).sent
  pub none_ahead : (b : List Entry) → Beginning b es → n + length (joined sent b) ≤ length (machine o (got ++ joined received b)).sent

module _ (o : Opening) where
  abbrev due : List ℕ → List ℕ
  due got = (machine o got).sent

  -- ---- the end

  pub left_none : (got : List ℕ) → used o got ≡ length got → (machine o got).outcome ≡ Open → Left o got (length (due got)) []
  unfolding joined
  left_none got u q =
      record {
        opens = rw (append-nil got) q;
        reads = rw (append-nil got) u;
        all = rw (append-nil got) (sym (drop-append_seam (due got) []) ∙ ap (drop (length (due got))) (append-nil (due got)));
        none_ahead = λ _ b. ends b;
      }
    where
      ends : {b : List Entry} → Beginning b [] → length (due got) + length (joined sent b) ≤ length (due (got ++ joined received b))
      ends C.nothing = rw (append-nil got) (omega arith)

  pub none_left : (got : List ℕ) (n : ℕ) → n ≤ length (due got) → Left o got n [] → ((machine o got).outcome ≡ Open) × (n ≡ length (due got))
  unfolding joined
  none_left got n h l =
      let a : [] ≡ drop n (due got) = rw (append-nil got) at l.all in
      (rw (append-nil got) at l.opens, omega (arith, ap length a, length-drop n (due got)))

  -- ---- received bytes

  module _ (got bs : List ℕ) (n : ℕ) (es : List Entry) where
    shift : (b : List Entry) → got ++ (bs ++ joined received b) ≡ (got ++ bs) ++ joined received b
    shift b = sym (append_assoc got bs (joined received b))

    pub left_received : n ≤ length (due got) → Left o (got ++ bs) n es → Left o got n (entry received bs ∷ es)
    unfolding joined
    left_received h l =
        record {
          opens = rw (shift es) l.opens;
          reads = rw (shift es) l.reads;
          all = rw (shift es) l.all;
          none_ahead = λ _ b. go b;
        }
      where
        go : {b : List Entry} → Beginning b (entry received bs ∷ es) → n + length (joined sent b) ≤ length (due (got ++ joined received b))
        go C.nothing = rw (append-nil got) (omega arith)
        go (C.part k _) = omega (arith, sent_more o got (take k bs ++ []))
        go (C.next _ {b} x) = rw (shift b) (l.none_ahead b x)

    pub received_left : Left o got n (entry received bs ∷ es) → Left o (got ++ bs) n es
    unfolding joined
    received_left l =
        record {
          opens = rw (← shift es) l.opens;
          reads = rw (← shift es) l.reads;
          all = rw (← shift es) l.all;
          none_ahead = λ b x. rw (← shift b) (l.none_ahead (entry received bs ∷ b) (C.next (entry received bs) x));
        }

  -- ---- sent bytes

  -- of what is due on some bytes and more, a part that was due on the first
  part_due : (got more : List ℕ) (n k : ℕ) → n + k ≤ length (due got) → take k (drop n (due (got ++ more))) ≡ take k (drop n (due got))
  part_due got more n k h =
      rw (sent_grows o got more, drop-append-le n (due got) (grown o got more) (omega arith))
      (take-append-le k (drop n (due got)) (grown o got more) (omega (arith, length-drop n (due got))))

  module _ (got bs : List ℕ) (n : ℕ) (es : List Entry) where
    pub left_sent : n + length bs ≤ length (due got) → bs ≡ take (length bs) (drop n (due got)) → Left o got (n + length bs) es → Left o got n (entry sent bs ∷ es)
    unfolding joined
    left_sent h e l =
        record {
          opens = l.opens;
          reads = l.reads;
          all =
              (λ i. e i ++ l.all i)
              ∙ (λ i. sym (part_due got (joined received es) n (length bs) h) i ++ sym (drop-drop (length bs) n (due (got ++ joined received es))) i)
              ∙ take-append-drop (length bs) (drop n (due (got ++ joined received es)));
          none_ahead = λ _ b. go b;
        }
      where
        go : {b : List Entry} → Beginning b (entry sent bs ∷ es) → n + length (joined sent b) ≤ length (due (got ++ joined received b))
        go C.nothing = rw (append-nil got) (omega arith)
        go (C.part k _) = rw (append-nil got, append-nil) (omega (arith, length-take k bs))
        go (C.next _ {b} x) = omega (arith, l.none_ahead b x, length-append bs (joined sent b))

    pub record SentLeft : Type 0 where
      pub fits : n + length bs ≤ length (due got)
      pub are : bs ≡ take (length bs) (drop n (due got))
      pub behind : Left o got (n + length bs) es

    pub sent_left : Left o got n (entry sent bs ∷ es) → SentLeft
    unfolding joined
    sent_left l =
        let f : n + length bs ≤ length (due got) = rw (append-nil got, append-nil bs) at (l.none_ahead (entry sent bs ∷ []) (C.next (entry sent bs) C.nothing)) in
        record {
          fits = f;
          are = sym (take-append_seam bs (joined sent es)) ∙ ap (take (length bs)) l.all ∙ part_due got (joined received es) n (length bs) f;
          behind = record {
            opens = l.opens;
            reads = l.reads;
            all = sym (drop-append_seam bs (joined sent es)) ∙ ap (drop (length bs)) l.all ∙ drop-drop (length bs) n (due (got ++ joined received es));
            none_ahead = λ b x. omega (arith, l.none_ahead (entry sent bs ∷ b) (C.next (entry sent bs) x), length-append bs (joined sent b));
          };
        }

  -- ---- the whole

  pub accepted_just : (es : List Entry) → Bytes (joined received es) → Accepted o es ↔ Left o [] 0 es
  accepted_just es y = (there, back)
    where
      there : Accepted o es → Left o [] 0 es
      there a =
          let (q, u) = (replied_just o (joined received es) y).0 (a.bound, a.replied) in
          record { opens = q; reads = u; all = a.all; none_ahead = λ b x. omega (arith, a.none_ahead b x) }

      back : Left o [] 0 es → Accepted o es
      back l =
          let (x, s) = (replied_just o (joined received es) y).1 (l.opens, l.reads) in
          record { bound = x; replied = s; all = l.all; none_ahead = λ b z. omega (arith, l.none_ahead b z) }
