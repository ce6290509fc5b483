-- The plain machines in turn are open exactly on the grammars of their openings in that order.
use Prim.Native.Nat.{ℕ, ◌+◌}
use native.Mathlib.Omega.{arith}
use mathlib.Core.Path.{◌≡◌, refl, ap, sym, ◌∙◌}
use mathlib.Core.Logic.{◌↔◌}
use mathlib.Core.List.{List, [], ◌∷◌, ◌++◌, append_assoc}
use lib.ListN.{length, take, drop, length-append, take-append-drop}
use lib.Seq.{take_at, drop_at}
use Rattle.protocol.specs.declared.Outcome.{Outcome}
use Rattle.protocol.specs.declared.Outcome.TheVariants.{Waiting, Open, Failed}
use Rattle.protocol.specs.Bytes.{Bytes}
use Rattle.protocol.specs.Bound.{Endpoint}
use Rattle.protocol.specs.Opening.{Opening}
use Rattle.protocol.specs.Machine.{Machine, machine, used}
use Rattle.protocol.specs.Grammar.{Sequence}
use Rattle.protocol.proofs.Bytes.{bytes_right}
use Rattle.protocol.proofs.Sequences.{open_just, open_one}
use Rattle.route_spec.specs.Route.{followed, machines_from, machines, used_in_turn, SequencesFrom, Sequences, RepliedInTurn, JustOneRow}
use Rattle.talk.specs.Lawful.{Begins}

bytes_drop : (n : ℕ) (bs : List ℕ) → Bytes bs → Bytes (drop n bs)
bytes_drop n bs y = bytes_right (take n bs) (drop n bs) (rw (take-append-drop n bs) y)

-- ---- what a beginning that is of the grammars comes to

record Opened (m : Machine) (p : List ℕ) (x : Endpoint) : Type 0 where
  is : m.outcome ≡ Open
  long : m.place ≡ length p
  named : m.bound ≡ x

open_place : (o : Opening) (bs : List ℕ) → (machine o bs).outcome ≡ Open → used o bs ≡ (machine o bs).place
unfolding used
open_place o bs q = rw q

opened : (o : Opening) (bs p : List ℕ) (x : Endpoint) → Bytes bs → Begins p bs → Sequence o p x → Opened (machine o bs) p x
opened o bs p x y b s =
    let q = (open_just o bs y).1 (p, x, b, s) in
    let j = open_one o bs y q in
    let (e, n) = j.only p x b s in
    record { is = q; long = sym (open_place o bs q) ∙ j.long ∙ sym (ap length e); named = sym n }

opened_row : (o : Opening) (os : List Opening) (bs p : List ℕ) (x : Endpoint) → Bytes bs → Begins p bs → SequencesFrom o os p x → Opened (machines_from o os bs) p x
unfolding machines_from
opened_row o [] bs p x y b s = opened o bs p x y b s
opened_row o (q ∷ qs) bs p x y (f, b) (a, c, v, e, s, t) =
    let b' : bs ≡ a ++ (c ++ f) = cc (append_assoc a c f) in
    let w = opened o bs a v y (c ++ f, b') s in
    let n = (machine o bs).place in
    let d : drop n bs ≡ c ++ f = ap (drop n) b' ∙ drop_at a (c ++ f) n (sym w.long) in
    let r = opened_row q qs (drop n bs) c x (bytes_drop n bs y) (f, d) t in
    rw w.is (record { is = r.is; long = omega (arith, w.long, r.long, length-append a c, ap length e); named = r.named })

-- ---- and back

abbrev Rowed : Opening → List Opening → List ℕ → Endpoint → Type 0
Rowed o os bs x = (p : List ℕ) × Begins p bs × SequencesFrom o os p x

-- one machine, and once it is open the next
replied_on : (o p : Opening) (ps : List Opening) (bs : List ℕ) (next : Machine) → Bytes bs → (r : Outcome) → (machine o bs).outcome ≡ r → (followed (machine o bs) r next).outcome ≡ Open
    → (next.outcome ≡ Open → Rowed p ps (drop (machine o bs).place bs) next.bound)
    → Rowed o (p ∷ ps) bs (followed (machine o bs) r next).bound
replied_on o p ps bs next y Waiting e q ih = let z : ◌≡◌ {A = ℕ} 0 1 = cc in absurd (omega arith)
replied_on o p ps bs next y (Failed x) e q ih = let z : ◌≡◌ {A = ℕ} 0 1 = cc in absurd (omega arith)
replied_on o p ps bs next y Open e q ih =
    let j = open_one o bs y e in
    let (c, (f, b), s) = ih q in
    let (r, i) = j.begins in
    let n = (machine o bs).place in
    let l : n ≡ length j.begin = sym (open_place o bs e) ∙ j.long in
    let d : drop n bs ≡ r = ap (drop n) i ∙ drop_at j.begin r n (sym l) in
    (j.begin ++ c, (f, cc (append_assoc j.begin c f)), (j.begin, c, (machine o bs).bound, refl, j.is, s))

replied_row : (o : Opening) (os : List Opening) (bs : List ℕ) → Bytes bs → (machines_from o os bs).outcome ≡ Open → Rowed o os bs (machines_from o os bs).bound
unfolding machines_from
replied_row o [] bs y q = let j = open_one o bs y q in (j.begin, j.begins, j.is)
replied_row o (p ∷ ps) bs y q =
    let n = (machine o bs).place in
    replied_on o p ps bs (machines_from p ps (drop n bs)) y (machine o bs).outcome refl q (replied_row p ps (drop n bs) (bytes_drop n bs y))

-- ---- open exactly when the bytes begin with the grammars in that order

pub in_turn_just : (o : Opening) (os : List Opening) (bs : List ℕ) → Bytes bs → (machines (o ∷ os) bs).outcome ≡ Open ↔ RepliedInTurn (o ∷ os) bs
in_turn_just o os bs y =
    (λ q. let (p, b, s) = replied_row o os bs y q in (p, (machines (o ∷ os) bs).bound, b, s), λ (p, x, b, s). (opened_row o os bs p x y b s).is)

begins_take : (p bs : List ℕ) (n : ℕ) → Begins p bs → n ≡ length p → p ≡ take n bs
begins_take p bs n (f, b) l = sym (take_at p f n (sym l)) ∙ ap (take n) (sym b)

-- and then it is the only such beginning, so many bytes are used, and the address is the one that it names
pub in_turn_one : (o : Opening) (os : List Opening) (bs : List ℕ) → Bytes bs → (machines (o ∷ os) bs).outcome ≡ Open → JustOneRow (o ∷ os) bs (used_in_turn (o ∷ os) bs) (machines (o ∷ os) bs).bound
in_turn_one o os bs y q =
    let m = machines (o ∷ os) bs in
    let (p, b, s) = replied_row o os bs y q in
    let w = opened_row o os bs p m.bound y b s in
    record {
      begin = p;
      begins = b;
      is = s;
      only = λ p' x b' s'.
          let v = opened_row o os bs p' x y b' s' in
          (begins_take p' bs m.place b' v.long ∙ sym (begins_take p bs m.place b w.long), sym v.named);
      long = rw q w.long;
    }

-- the count is the sum of their lengths: of one's and of those behind it
pub row_length : {os : List Opening} {bs : List ℕ} {n : ℕ} {x : Endpoint} → JustOneRow os bs n x → (p : List ℕ) (y : Endpoint) → Begins p bs → Sequences os p y → n ≡ length p
row_length j p y b s = j.long ∙ sym (ap length (j.only p y b s).0)

pub row_sum : {o q : Opening} {qs : List Opening} {bs : List ℕ} {n : ℕ} {x : Endpoint} → JustOneRow (o ∷ q ∷ qs) bs n x → (a b : List ℕ) (y z : Endpoint)
    → Begins (a ++ b) bs → Sequence o a y → Sequences (q ∷ qs) b z → n ≡ length a + length b
row_sum j a b y z i s t = row_length j (a ++ b) z i (a, b, y, refl, s, t) ∙ length-append a b
