-- A text of which no byte is 00 goes on; and what the tests on a field's bytes come to.
use Prim.Native.Nat.{ℕ, zero, suc, ◌+◌, ◌-◌, ◌≤◌, ◌<◌, min}
use native.Mathlib.Numerals.{add-one}
use native.Mathlib.Omega.{arith}
use mathlib.Core.Path.{◌≡◌, refl, sym, ap, ◌∙◌}
use mathlib.Core.Bool.{Bool, true, not, true≢false}
use mathlib.Core.List.{List, [], ◌∷◌, ◌++◌}
use lib.ListN.{length, take, drop, length-append}
use lib.Seq.{take_all, take-take}
use lib.Dec.{ltb}
use borrow.Author.Tests.{ne_eqb, lt-leb, ltb-true}
use Rattle.protocol.specs.declared.SocksError.{SocksError}
use Rattle.std.specs.Prelude.{Some, None, is_some}
use Rattle.protocol.specs.Answers as code
use Rattle.protocol.specs.Client.{told}
use Rattle.protocol.specs.Bytes.{byte}
use Rattle.proxy_spec.specs.declared.Field.{Field}
use Rattle.proxy_spec.specs.declared.Field.TheVariants.{Address, Request, UserId, Name}
use Rattle.proxy_spec.specs.declared.Ports.{Ports}
use Rattle.proxy_spec.specs.Reads.{text_in, short}
use Rattle.proxy_spec.specs.Side.{reads, read_address, read_text, read_name}
use Rattle.talk.specs.Decision.{Decision, undecided}
use Rattle.lent_proxy.specs.State.{field_of}
use Rattle.lent_proxy.specs.delivery.Lacking.{NoNull, Lacks}

null_append : (xs ys : List ℕ) → NoNull xs → NoNull ys → NoNull (xs ++ ys)
null_append [] ys n m = m
null_append (x ∷ xs) ys (n, ns) m = (n, null_append xs ys ns m)

text_open : (most : ℕ) (bs : List ℕ) → length bs ≤ most → NoNull bs → text_in most bs ≡ short
unfolding text_in
text_open most [] h n = refl
text_open zero (b ∷ bs) h n = absurd (omega arith)
text_open (suc most) (b ∷ bs) h (n, ns) = rw (ne_eqb b 0x00 n, text_open most bs (omega arith) ns)

pub text_goes : (most : ℕ) (xs ys : List ℕ) → length xs + length ys ≤ most → NoNull xs → NoNull ys → text_in most (xs ++ ys) ≡ short
text_goes most xs ys h n m = text_open most (xs ++ ys) (rw (length-append xs ys) h) (null_append xs ys n m)

-- ---- the least of the bytes so far

take_next : (bs : List ℕ) (i : ℕ) → i < length bs → NoNull (take i bs) → (byte bs i ≡ 0x00 → ⊥) → NoNull (take (suc i) bs)
take_next [] i h n m = absurd (omega arith)
take_next (b ∷ bs) zero h n m = (m, tt)
take_next (b ∷ bs) (suc i) h (n, ns) m = (n, take_next bs i (omega arith) ns m)

pub null_on : (bs : List ℕ) (i : ℕ) {l l' : ℕ} → i < length bs → l' ≡ min l (byte bs i) → (0 < l → NoNull (take i bs)) → 0 < l' → NoNull (take (i + 1) bs)
null_on bs i h q n p = rw (add-one i) (take_next bs i h (n (omega arith)) (λ e. absurd (omega arith)))

pub null_all : (bs : List ℕ) (i : ℕ) {l : ℕ} → length bs ≤ i → (0 < l → NoNull (take i bs)) → ltb 0 l ≡ true → NoNull bs
null_all bs i {l} h n e = rw (take_all i bs h) at (n (ltb-true 0 l e))

pub null_one : (bs : List ℕ) → length bs ≡ 1 → ltb 0 (byte bs 0) ≡ true → NoNull bs
null_one [] l e = absurd (omega arith)
null_one (b ∷ []) l e = let h = ltb-true 0 b e in (λ z. omega arith, tt)
null_one (b ∷ c ∷ bs) l e = absurd (omega arith)

-- ---- a field's bytes

module _ {f : Field} (n k m : ℕ) (bs : List ℕ) (q : n ≡ k) (w : field_of k m ≡ f) where
  pub lacks_by : reads f bs ≡ undecided → reads (field_of n m) bs ≡ undecided
  lacks_by e = rw (q, w) e

-- a reader that gives none has not decided
pub untold : (d : code.Decision) {b : Bool} → is_some d ≡ not b → b ≡ true → told d ≡ undecided
untold None q e = refl
untold (Some x) q e = absurd (true≢false (q ∙ ap not e))

pub lacks_address : (c t : ℕ) (bs : List ℕ) {k : ℕ} {d : Decision SocksError} → k ≡ t → d ≡ read_address k bs → d ≡ undecided → reads (Address c t) bs ≡ undecided
unfolding reads
lacks_address c t bs q e u = ap (λ (n : ℕ). read_address n bs) (sym q) ∙ sym e ∙ u

pub lacks_request : (xs ys : List ℕ) → ltb (length xs + length ys) 7 ≡ true → reads Request (xs ++ ys) ≡ undecided
unfolding reads
lacks_request xs ys e = rw (lt-leb 7 (length (xs ++ ys)) (rw (length-append xs ys) (ltb-true (length xs + length ys) 7 e)))

pub lacks_user_id : (p : Ports) (bs : List ℕ) → text_in 255 bs ≡ short → reads (UserId p) bs ≡ undecided
unfolding reads
lacks_user_id p bs e = ap read_text e

pub lacks_name : (p : Ports) (bs : List ℕ) → text_in 1014 bs ≡ short → reads (Name p) bs ≡ undecided
unfolding reads
lacks_name p bs e = ap read_name e

pub held_lacks : {f : Field} (s piece : List ℕ) (held : ℕ) → length piece ≤ 1014 → held ≤ 1014 - length piece → reads f (take (15 + held - 15) (drop 15 s) ++ piece) ≡ undecided → Lacks f (take 1014 (drop 15 s)) held piece
held_lacks {f} s piece held h i e =
    let z : 15 + held - 15 ≡ held = omega arith in
    let t = take-take held 1014 (drop 15 s) (omega arith) in
    record { room = omega arith; reads = rw t (rw z at e) }
