-- The proxy's end is a lawful side: each field is decided by its own bytes, whatever comes behind them.
use Prim.Native.Nat.{ℕ, zero, suc, ◌+◌, ◌≤◌, zero-le}
use native.Mathlib.Nat.{le_trans, le_refl}
use native.Mathlib.Omega.{arith}
use mathlib.Core.Path.{◌≡◌, refl, ap, sym}
use mathlib.Core.Bool.{Bool, true, false, true≢false, cond, ◌&&◌, ◌||◌}
use mathlib.Core.List.{List, [], ◌∷◌, ◌++◌}
use lib.ListN.{length, drop, length-append, get_or-append}
use lib.Dec.{leb, eqb, lit≤}
use borrow.Author.Tests.{leb-true, leb-false, le-leb, eqb-true, eq-eqb}
use Rattle.protocol.specs.declared.SocksError.{SocksError}
use Rattle.protocol.specs.declared.SocksError.TheVariants.{Malformed}
use Rattle.protocol.specs.Bytes.{Bytes, byte, same}
use Rattle.protocol.specs.AddressReading.{Destination}
use Rattle.protocol.specs.Opening.{announces}
use Rattle.proxy_spec.specs.Reads.{Seen, short, wrong, unknown, whole, text_in}
use Rattle.proxy_spec.specs.End.{Setup, chosen, offers}
use Rattle.proxy_spec.specs.declared.Ports.{Ports}
use Rattle.proxy_spec.specs.declared.Field.{Field}
use Rattle.proxy_spec.specs.declared.Field.TheVariants.{First, Methods, User, Password, Head, Address, Request, UserId, Name}
use Rattle.proxy_spec.specs.Side.{once, test, read_address, read_text, read_name, reads, EndTalk, at_address, is_known, at_head, at_password, at_user, at_methods, ports_of, ip_of, unless_other4, at_name, at_user_id, at_request, talk_at, server}
use Rattle.talk.specs.Decision.{Decision, undecided, decided, good, bad}
use Rattle.talk.specs.Lawful.{Late, Extends, waits, stays, Shaped, Lawful}

-- ---- the law of extension

abbrev Read : Type 0
Read = Decision SocksError

late_cond : (b : Bool) (n : ℕ) (d e : Read) → Late n d → Late n e → Late n (cond b d e)
late_cond true n d e p q = p
late_cond false n d e p q = q

late_once : (k n : ℕ) (bs : List ℕ) (d : Read) → Late n d → Late n (once k bs d)
late_once k n bs d p = late_cond (leb k (length bs)) n d undecided p tt

late_less : (n m : ℕ) (d : Read) → n ≤ m → Late m d → Late n d
late_less n m undecided h p = tt
late_less n m (decided k v) h p = le_trans h p

ext_once : (n : ℕ) (bs cs : List ℕ) (d e : Read) → length bs ≤ length cs → Late n e → (n ≤ length bs → Extends (length bs) d e)
    → Extends (length bs) (once n bs d) (once n cs e)
ext_once n bs cs d e le late ext = go (leb n (length bs)) refl
  where
    go : (b : Bool) → leb n (length bs) ≡ b → Extends (length bs) (cond b d undecided) (once n cs e)
    go true q = rw (le-leb n (length cs) (le_trans (leb-true n (length bs) q) le)) (ext (leb-true n (length bs) q))
    go false q = waits (late_once n (suc (length bs)) cs e (late_less (suc (length bs)) n e (leb-false n (length bs) q) late))

ext_cond : (n : ℕ) (b : Bool) (d d' e e' : Read) → Extends n d d' → Extends n e e' → Extends n (cond b d e) (cond b d' e')
ext_cond n true d d' e e' p q = p
ext_cond n false d d' e e' p q = q

longer : (bs more : List ℕ) → length bs ≤ length (bs ++ more)
longer bs more = omega (arith, length-append bs more)

-- so many bytes, whatever they are
ext_size : (n : ℕ) (bs more : List ℕ) → Extends (length bs) (once n bs (decided n good)) (once n (bs ++ more) (decided n good))
ext_size n bs more = ext_once n bs (bs ++ more) _ _ (longer bs more) (le_refl n) (λ h. stays h)

late_size : (k n : ℕ) (bs : List ℕ) → k ≤ n → Late k (once n bs (decided n good))
late_size k n bs h = late_once n k bs (decided n good) h

-- a length, and that many bytes and some
ext_counted : (k : ℕ) (bs more : List ℕ) → 1 ≤ k
    → Extends (length bs) (once 1 bs (test (leb 1 (byte bs 0)) 1 (once (k + byte bs 0) bs (decided (k + byte bs 0) good))))
    (once 1 (bs ++ more) (test (leb 1 (byte (bs ++ more) 0)) 1 (once (k + byte (bs ++ more) 0) (bs ++ more) (decided (k + byte (bs ++ more) 0) good))))
ext_counted k bs more h =
    ext_once 1 bs (bs ++ more) _ _ (longer bs more)
    (late_cond (leb 1 (byte (bs ++ more) 0)) 1 _ (decided 1 (bad Malformed)) (late_size 1 (k + byte (bs ++ more) 0) (bs ++ more) (omega arith)) (le_refl 1))
    λ h1. rw (get_or-append bs more 0 0 (omega arith))
    (ext_cond (length bs) (leb 1 (byte bs 0)) _ _ _ _ (ext_size (k + byte bs 0) bs more) (stays h1))

ext_first : (bs more : List ℕ) → Extends (length bs) (reads First bs) (reads First (bs ++ more))
unfolding reads
ext_first bs more =
    ext_once 1 bs (bs ++ more) _ _ (longer bs more)
    (late_cond (eqb (byte (bs ++ more) 0) 0x05 || eqb (byte (bs ++ more) 0) 0x04) 1 _ (decided 1 (bad Malformed)) (le_refl 1) (le_refl 1))
    λ h. rw (get_or-append bs more 0 0 (omega arith)) (ext_cond (length bs) (eqb (byte bs 0) 0x05 || eqb (byte bs 0) 0x04) _ _ _ _ (stays h) (stays h))

ext_user : (bs more : List ℕ) → Extends (length bs) (reads User bs) (reads User (bs ++ more))
unfolding reads
ext_user bs more =
    ext_once 1 bs (bs ++ more) _ _ (longer bs more)
    (late_cond (eqb (byte (bs ++ more) 0) 0x01) 1 _ (decided 1 (bad Malformed))
    (late_once 2 1 (bs ++ more) _ (late_size 1 (2 + byte (bs ++ more) 1) (bs ++ more) (omega arith))) (le_refl 1))
    λ h. rw (get_or-append bs more 0 0 (omega arith))
    (ext_cond (length bs) (eqb (byte bs 0) 0x01) _ _ _ _
    (ext_once 2 bs (bs ++ more) _ _ (longer bs more) (late_size 2 (2 + byte (bs ++ more) 1) (bs ++ more) (omega arith))
    λ h2. rw (get_or-append bs more 0 1 (omega arith)) (ext_size (2 + byte bs 1) bs more))
    (stays h))

ext_password : (right : Bool) (bs more : List ℕ) → Extends (length bs) (reads (Password right) bs) (reads (Password right) (bs ++ more))
unfolding reads
ext_password right bs more =
    ext_once 1 bs (bs ++ more) _ _ (longer bs more) (late_size 1 (1 + byte (bs ++ more) 0) (bs ++ more) (omega arith))
    λ h. rw (get_or-append bs more 0 0 (omega arith)) (ext_size (1 + byte bs 0) bs more)

ext_head : (bs more : List ℕ) → Extends (length bs) (reads Head bs) (reads Head (bs ++ more))
unfolding reads
ext_head bs more =
    ext_once 1 bs (bs ++ more) _ _ (longer bs more)
    (late_cond (eqb (byte (bs ++ more) 0) 0x05) 1 _ (decided 1 (bad Malformed))
    (late_once 3 1 (bs ++ more) _ (late_cond (eqb (byte (bs ++ more) 2) 0x00) 1 _ (decided 3 (bad Malformed)) (late_size 1 4 (bs ++ more) (lit≤ tt)) (lit≤ tt))) (le_refl 1))
    λ h. rw (get_or-append bs more 0 0 (omega arith))
    (ext_cond (length bs) (eqb (byte bs 0) 0x05) _ _ _ _
    (ext_once 3 bs (bs ++ more) _ _ (longer bs more)
    (late_cond (eqb (byte (bs ++ more) 2) 0x00) 3 _ (decided 3 (bad Malformed)) (late_size 3 4 (bs ++ more) (lit≤ tt)) (le_refl 3))
    λ h3. rw (get_or-append bs more 0 2 (omega arith)) (ext_cond (length bs) (eqb (byte bs 2) 0x00) _ _ _ _ (ext_size 4 bs more) (stays h3)))
    (stays h))

ext_address : (type : ℕ) (bs more : List ℕ) → Extends (length bs) (read_address type bs) (read_address type (bs ++ more))
ext_address type bs more =
    ext_cond (length bs) (eqb type 0x01) _ _ _ _ (ext_size 6 bs more)
    (ext_cond (length bs) (eqb type 0x04) _ _ _ _ (ext_size 18 bs more) (ext_counted 3 bs more (lit≤ tt)))

-- ---- texts up to a 00

-- a text seen a byte earlier
abbrev pub later : Seen ℕ → Seen ℕ
later short = short
later (wrong n) = wrong (suc n)
later (unknown n) = unknown (suc n)
later (whole n m) = whole (suc n) (suc m)

pub text_cons : (most b : ℕ) (bs : List ℕ) → text_in (suc most) (b ∷ bs) ≡ cond (eqb b 0x00) (whole 1 0) (later (text_in most bs))
unfolding text_in
text_cons most b bs = go (text_in most bs) refl
  where
    go : (s : Seen ℕ) → text_in most bs ≡ s → text_in (suc most) (b ∷ bs) ≡ cond (eqb b 0x00) (whole 1 0) (later s)
    go short e = rw e
    go (wrong n) e = rw e
    go (unknown n) e = rw e
    go (whole n m) e = rw e

-- a text that is not whole yet is no longer than it may be; a whole one is its bytes and the 00; and no address type is met in one
abbrev pub TextLaw : ℕ → List ℕ → Seen ℕ → Type 0
TextLaw most bs short = length bs ≤ most
TextLaw most bs (wrong n) = Unit {0}
TextLaw most bs (unknown n) = ⊥
TextLaw most bs (whole n m) = (n ≡ suc m) × (n ≤ length bs)

law_cond : (most : ℕ) (bs : List ℕ) (b : Bool) (s t : Seen ℕ) → TextLaw most bs s → TextLaw most bs t → TextLaw most bs (cond b s t)
law_cond most bs true s t p q = p
law_cond most bs false s t p q = q

law_later : (most b : ℕ) (bs : List ℕ) (s : Seen ℕ) → TextLaw most bs s → TextLaw (suc most) (b ∷ bs) (later s)
law_later most b bs short h = omega arith
law_later most b bs (wrong n) h = tt
law_later most b bs (unknown n) h = h
law_later most b bs (whole n m) h = (ap suc h.0, omega (arith, h.1))

pub text_law : (most : ℕ) (bs : List ℕ) → TextLaw most bs (text_in most bs)
unfolding text_in
text_law most [] = zero-le
text_law zero (b ∷ bs) = law_cond zero (b ∷ bs) (eqb b 0x00) (whole 1 0) (wrong 1) (refl, omega arith) tt
text_law (suc most) (b ∷ bs) =
    rw (text_cons most b bs) (law_cond (suc most) (b ∷ bs) (eqb b 0x00) (whole 1 0) (later (text_in most bs)) (refl, omega arith) (law_later most b bs (text_in most bs) (text_law most bs)))

-- what is shown is shown by at least n, at most n bytes
abbrev SeenLate : ℕ → Seen ℕ → Type 0
SeenLate n short = Unit {0}
SeenLate n (wrong k) = n ≤ k
SeenLate n (unknown k) = n ≤ k
SeenLate n (whole k m) = n ≤ k

abbrev SeenWithin : ℕ → Seen ℕ → Type 0
SeenWithin n short = Unit {0}
SeenWithin n (wrong k) = k ≤ n
SeenWithin n (unknown k) = k ≤ n
SeenWithin n (whole k m) = k ≤ n

data SeenOn (n : ℕ) : Seen ℕ → Seen ℕ → Type 0 where
  unseen : {s : Seen ℕ} → SeenLate (suc n) s → SeenOn n short s
  seen : {s : Seen ℕ} → SeenWithin n s → SeenOn n s s

late_later : (n : ℕ) (s : Seen ℕ) → SeenLate n s → SeenLate (suc n) (later s)
late_later n short h = tt
late_later n (wrong k) h = omega arith
late_later n (unknown k) h = omega arith
late_later n (whole k m) h = omega arith

within_later : (n : ℕ) (s : Seen ℕ) → SeenWithin n s → SeenWithin (suc n) (later s)
within_later n short h = tt
within_later n (wrong k) h = omega arith
within_later n (unknown k) h = omega arith
within_later n (whole k m) h = omega arith

on_later : (n : ℕ) (s t : Seen ℕ) → SeenOn n s t → SeenOn (suc n) (later s) (later t)
on_later n _ t (unseen p) = unseen (late_later (suc n) t p)
on_later n s _ (seen p) = seen (within_later n s p)

on_cond : (n : ℕ) (b : Bool) (s t u : Seen ℕ) → SeenWithin n s → SeenOn n t u → SeenOn n (cond b s t) (cond b s u)
on_cond n true s t u p q = seen p
on_cond n false s t u p q = q

late_any : (s : Seen ℕ) → SeenLate 0 s
late_any short = tt
late_any (wrong k) = zero-le
late_any (unknown k) = zero-le
late_any (whole k m) = zero-le

late_bool : (b : Bool) (n : ℕ) (s t : Seen ℕ) → SeenLate n s → SeenLate n t → SeenLate n (cond b s t)
late_bool true n s t p q = p
late_bool false n s t p q = q

late_text : (most : ℕ) (bs : List ℕ) → SeenLate 1 (text_in most bs)
unfolding text_in
late_text most [] = tt
late_text zero (b ∷ bs) = late_bool (eqb b 0x00) 1 (whole 1 0) (wrong 1) (le_refl 1) (le_refl 1)
late_text (suc most) (b ∷ bs) =
    rw (text_cons most b bs) (late_bool (eqb b 0x00) 1 (whole 1 0) (later (text_in most bs)) (le_refl 1) (late_later 0 (text_in most bs) (late_any (text_in most bs))))

on_text : (most : ℕ) (bs more : List ℕ) → SeenOn (length bs) (text_in most bs) (text_in most (bs ++ more))
unfolding text_in
on_text most [] more = unseen (late_text most more)
on_text zero (b ∷ bs) more = on_cond (suc (length bs)) (eqb b 0x00) (whole 1 0) (wrong 1) (wrong 1) (omega arith) (seen (omega arith))
on_text (suc most) (b ∷ bs) more =
    rw (text_cons most b bs, text_cons most b (bs ++ more))
    (on_cond (suc (length bs)) (eqb b 0x00) (whole 1 0) (later (text_in most bs)) (later (text_in most (bs ++ more))) (omega arith)
    (on_later (length bs) (text_in most bs) (text_in most (bs ++ more)) (on_text most bs more)))

late_read : (n : ℕ) (s : Seen ℕ) → SeenLate n s → Late n (read_text s)
late_read n short h = tt
late_read n (wrong k) h = h
late_read n (unknown k) h = h
late_read n (whole k m) h = h

late_name : (n : ℕ) (s : Seen ℕ) → SeenLate n s → Late n (read_name s)
late_name n short h = tt
late_name n (wrong k) h = h
late_name n (unknown k) h = h
late_name n (whole k zero) h = h
late_name n (whole k (suc m)) h = h

same_read : (n : ℕ) (s : Seen ℕ) → SeenWithin n s → Extends n (read_text s) (read_text s)
same_read n short h = waits tt
same_read n (wrong k) h = stays h
same_read n (unknown k) h = stays h
same_read n (whole k m) h = stays h

same_name : (n : ℕ) (s : Seen ℕ) → SeenWithin n s → Extends n (read_name s) (read_name s)
same_name n short h = waits tt
same_name n (wrong k) h = stays h
same_name n (unknown k) h = stays h
same_name n (whole k zero) h = stays h
same_name n (whole k (suc m)) h = stays h

ext_text : (n : ℕ) (s t : Seen ℕ) → SeenOn n s t → Extends n (read_text s) (read_text t)
ext_text n _ t (unseen p) = waits (late_read (suc n) t p)
ext_text n s _ (seen p) = same_read n s p

ext_name : (n : ℕ) (s t : Seen ℕ) → SeenOn n s t → Extends n (read_name s) (read_name t)
ext_name n _ t (unseen p) = waits (late_name (suc n) t p)
ext_name n s _ (seen p) = same_name n s p

pub extends : (s : Field) (bs more : List ℕ) → Extends (length bs) (reads s bs) (reads s (bs ++ more))
unfolding reads
extends First bs more = ext_first bs more
extends Methods bs more = ext_counted 1 bs more (lit≤ tt)
extends User bs more = ext_user bs more
extends (Password right) bs more = ext_password right bs more
extends Head bs more = ext_head bs more
extends (Address command type) bs more = ext_address type bs more
extends Request bs more = ext_size 7 bs more
extends (UserId p) bs more = ext_text (length bs) (text_in 255 bs) (text_in 255 (bs ++ more)) (on_text 255 bs more)
extends (Name p) bs more = ext_name (length bs) (text_in 1014 bs) (text_in 1014 (bs ++ more)) (on_text 1014 bs more)

-- ---- wherever it waits, what is left to do is what the stage says

module _ (c : Setup) where
  either : (b : Bool) (t u : EndTalk) → Shaped (server c) t → Shaped (server c) u → Shaped (server c) (cond b t u)
  either true t u p q = p
  either false t u p q = q

  shaped_address : (command type : ℕ) → Shaped (server c) (at_address command type)
  shaped_address command type = (refl, λ m. either (eqb command 1) _ _ tt tt)

  shaped_head : Shaped (server c) at_head
  shaped_head = (refl, λ m. either (is_known (byte m 3)) _ _ (shaped_address (byte m 1) (byte m 3)) tt)

  shaped_password : (right : Bool) → Shaped (server c) (at_password c right)
  shaped_password right = (refl, λ m. either (right && same (drop 1 m) c.password) _ _ shaped_head tt)

  shaped_user : Shaped (server c) (at_user c)
  shaped_user = (refl, λ m. shaped_password (same (drop 2 m) c.user))

  shaped_methods : Shaped (server c) (at_methods c)
  shaped_methods =
      (refl, λ m. either (offers (chosen c.authenticates) (drop 1 m)) _ _ (either c.authenticates (at_user c) at_head shaped_user shaped_head) tt)

  shaped_other : (p : Ports) (d : Destination) → Shaped (server c) (unless_other4 c p d)
  shaped_other p d = either c.authenticates _ _ tt (either (eqb p.command 1) _ _ tt tt)

  shaped_name : (p : Ports) → Shaped (server c) (at_name c p)
  shaped_name p = (refl, λ m. shaped_other p _)

  shaped_id : (p : Ports) → Shaped (server c) (at_user_id c p)
  shaped_id p = (refl, λ m. either (announces (ip_of p)) _ _ (shaped_name p) (shaped_other p _))

  shaped_request : Shaped (server c) (at_request c)
  shaped_request = (refl, λ m. shaped_id (ports_of m))

  shaped_at : (s : Field) → Shaped (server c) (talk_at c s)
  shaped_at First = (refl, λ m. either (eqb (byte m 0) 0x05) _ _ shaped_methods shaped_request)
  shaped_at Methods = shaped_methods
  shaped_at User = shaped_user
  shaped_at (Password right) = shaped_password right
  shaped_at Head = shaped_head
  shaped_at (Address command type) = shaped_address command type
  shaped_at Request = shaped_request
  shaped_at (UserId p) = shaped_id p
  shaped_at (Name p) = shaped_name p

pub server_lawful : (c : Setup) → Lawful (server c)
server_lawful c = record { stable = extends; shaped = shaped_at c }

-- ---- how many bytes are held: the most that leave a field undecided

abbrev pub most : Field → ℕ
most First = 0
most Methods = 255
most User = 256
most (Password right) = 255
most Head = 3
most (Address command type) = cond (eqb type 0x01) 5 (cond (eqb type 0x04) 17 257)
most Request = 6
most (UserId p) = 255
most (Name p) = 1014

-- undecided, they are at most n
abbrev Bounded : ℕ → List ℕ → Read → Type 0
Bounded n bs undecided = length bs ≤ n
Bounded n bs (decided k v) = Unit {0}

bounded_once : (k n : ℕ) (bs : List ℕ) (d : Read) → k ≤ suc n → (k ≤ length bs → Bounded n bs d) → Bounded n bs (once k bs d)
bounded_once k n bs d h f = go (leb k (length bs)) refl
  where
    go : (b : Bool) → leb k (length bs) ≡ b → Bounded n bs (cond b d undecided)
    go true e = f (leb-true k (length bs) e)
    go false e = omega (arith, leb-false k (length bs) e)

bounded_test : (b : Bool) (k n : ℕ) (bs : List ℕ) (d : Read) → Bounded n bs d → Bounded n bs (test b k d)
bounded_test true k n bs d p = p
bounded_test false k n bs d p = tt

bounded_size : (k n : ℕ) (bs : List ℕ) → k ≤ suc n → Bounded n bs (once k bs (decided k good))
bounded_size k n bs h = bounded_once k n bs (decided k good) h (λ l. tt)

bounded_counted : (k n : ℕ) (bs : List ℕ) → 1 ≤ k → k + byte bs 0 ≤ suc n → Bounded n bs (once 1 bs (test (leb 1 (byte bs 0)) 1 (once (k + byte bs 0) bs (decided (k + byte bs 0) good))))
bounded_counted k n bs o h = bounded_once 1 n bs _ (omega arith) (λ l. bounded_test (leb 1 (byte bs 0)) 1 n bs _ (bounded_size (k + byte bs 0) n bs h))

bounded_address : (type : ℕ) (bs : List ℕ) → byte bs 0 ≤ 255 → Bounded (cond (eqb type 0x01) 5 (cond (eqb type 0x04) 17 257)) bs (read_address type bs)
bounded_address type bs y = go (eqb type 0x01) (eqb type 0x04)
  where
    go : (a b : Bool) → Bounded (cond a 5 (cond b 17 257)) bs
        (cond a (once 6 bs (decided 6 good))
        (cond b (once 18 bs (decided 18 good)) (once 1 bs (test (leb 1 (byte bs 0)) 1 (once (3 + byte bs 0) bs (decided (3 + byte bs 0) good))))))
    go true b = bounded_size 6 5 bs (le_refl 6)
    go false true = bounded_size 18 17 bs (le_refl 18)
    go false false = bounded_counted 3 257 bs (lit≤ tt) (omega arith)

bounded_text : (n : ℕ) (bs : List ℕ) (s : Seen ℕ) → TextLaw n bs s → Bounded n bs (read_text s)
bounded_text n bs short h = h
bounded_text n bs (wrong k) h = tt
bounded_text n bs (unknown k) h = tt
bounded_text n bs (whole k m) h = tt

bounded_name : (n : ℕ) (bs : List ℕ) (s : Seen ℕ) → TextLaw n bs s → Bounded n bs (read_name s)
bounded_name n bs short h = h
bounded_name n bs (wrong k) h = tt
bounded_name n bs (unknown k) h = tt
bounded_name n bs (whole k zero) h = tt
bounded_name n bs (whole k (suc m)) h = tt

bounded : (s : Field) (bs : List ℕ) → byte bs 0 ≤ 255 → byte bs 1 ≤ 255 → Bounded (most s) bs (reads s bs)
unfolding reads
bounded First bs y z = bounded_once 1 0 bs _ (le_refl 1) (λ l. bounded_test (eqb (byte bs 0) 0x05 || eqb (byte bs 0) 0x04) 1 0 bs (decided 1 good) tt)
bounded Methods bs y z = bounded_counted 1 255 bs (le_refl 1) (omega arith)
bounded User bs y z =
    bounded_once 1 256 bs _ (lit≤ tt)
    λ l. bounded_test (eqb (byte bs 0) 0x01) 1 256 bs _ (bounded_once 2 256 bs _ (lit≤ tt) (λ l. bounded_size (2 + byte bs 1) 256 bs (omega arith)))
bounded (Password right) bs y z = bounded_once 1 255 bs _ (lit≤ tt) (λ l. bounded_size (1 + byte bs 0) 255 bs (omega arith))
bounded Head bs y z =
    bounded_once 1 3 bs _ (lit≤ tt)
    λ l. bounded_test (eqb (byte bs 0) 0x05) 1 3 bs _
    (bounded_once 3 3 bs _ (lit≤ tt) (λ l. bounded_test (eqb (byte bs 2) 0x00) 3 3 bs _ (bounded_size 4 3 bs (le_refl 4))))
bounded (Address command type) bs y z = bounded_address type bs y
bounded Request bs y z = bounded_size 7 6 bs (le_refl 7)
bounded (UserId p) bs y z = bounded_text 255 bs (text_in 255 bs) (text_law 255 bs)
bounded (Name p) bs y z = bounded_name 1014 bs (text_in 1014 bs) (text_law 1014 bs)

-- of the bytes it matters for the first two that they are bytes: a length stands there
pub held_by : (s : Field) (bs : List ℕ) → byte bs 0 ≤ 255 → byte bs 1 ≤ 255 → reads s bs ≡ undecided → length bs ≤ most s
held_by s bs y z q = rw q at (bounded s bs y z)

most_1014 : (s : Field) → most s ≤ 1014
most_1014 First = lit≤ tt
most_1014 Methods = lit≤ tt
most_1014 User = lit≤ tt
most_1014 (Password right) = lit≤ tt
most_1014 Head = lit≤ tt
most_1014 (Address command type) = go (eqb type 0x01) (eqb type 0x04)
  where
    go : (a b : Bool) → cond a 5 (cond b 17 257) ≤ 1014
    go true b = lit≤ tt
    go false true = lit≤ tt
    go false false = lit≤ tt
most_1014 Request = lit≤ tt
most_1014 (UserId p) = lit≤ tt
most_1014 (Name p) = lit≤ tt

pub held_most : (s : Field) (bs : List ℕ) → Bytes bs → reads s bs ≡ undecided → length bs ≤ 1014
held_most s bs y q = le_trans (held_by s bs (y 0) (y 1) q) (most_1014 s)

-- ---- a method is offered if it stands among those that are

or_true : (a b : Bool) → b ≡ true → (a || b) ≡ true
or_true true b e = refl
or_true false b e = e

-- behind methods that are others, the one that is sought
pub offers_there : (m : ℕ) (xs ys : List ℕ) → offers m (xs ++ (m ∷ ys)) ≡ true
unfolding offers
offers_there m [] ys = rw (eq-eqb m m refl)
offers_there m (x ∷ xs) ys = or_true (eqb x m) (offers m (xs ++ (m ∷ ys))) (offers_there m xs ys)

pub offers_some : (m : ℕ) (l : List ℕ) → offers m l ≡ true → (xs : List ℕ) × (ys : List ℕ) × (l ≡ xs ++ (m ∷ ys))
unfolding offers
offers_some m [] e = absurd (true≢false (sym e))
offers_some m (x ∷ l) e = go (eqb x m) refl e (offers_some m l)
  where
    go : (b : Bool) → eqb x m ≡ b → (b || offers m l) ≡ true → (offers m l ≡ true → (xs : List ℕ) × (ys : List ℕ) × (l ≡ xs ++ (m ∷ ys)))
        → (xs : List ℕ) × (ys : List ℕ) × (x ∷ l ≡ xs ++ (m ∷ ys))
    go true q e ih = ([], l, ap (λ (z : ℕ). z ∷ l) (eqb-true x m q))
    go false q e ih = let r = ih e in (x ∷ r.0, r.1, ap (λ (z : List ℕ). x ∷ z) r.2)
