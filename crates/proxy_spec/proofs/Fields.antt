-- What the bytes of a field that is good, or not decided yet, are.
use Prim.Native.Nat.{ℕ, zero, suc, ◌+◌, ◌≤◌}
use native.Mathlib.Omega.{arith}
use mathlib.Core.Path.{◌≡◌, refl}
use mathlib.Core.Bool.{Bool, true, false, cond, ◌||◌}
use mathlib.Core.List.{List}
use lib.ListN.{length}
use lib.Dec.{leb, eqb}
use borrow.Author.Tests.{leb-true, le-leb, eqb-true}
use Rattle.protocol.specs.declared.SocksError.{SocksError}
use Rattle.protocol.specs.Bytes.{byte}
use Rattle.proxy_spec.specs.Reads.{Seen, short, wrong, unknown, whole, text_in}
use Rattle.proxy_spec.specs.declared.Ports.{Ports}
use Rattle.proxy_spec.specs.declared.Field.TheVariants.{First, Methods, User, Password, Head, Address, Request, UserId, Name}
use Rattle.proxy_spec.specs.Side.{once, test, read_text, read_name, reads}
use Rattle.proxy_spec.proofs.Side.{TextLaw, text_law}
use Rattle.talk.specs.Decision.{Verdict, Decision, undecided, decided, good}

abbrev pub Read : Type 0
Read = Decision SocksError

-- ---- a test on the way, by what it led to

pub once_in : (n : ℕ) (bs : List ℕ) (d : Read) (k : ℕ) (v : Verdict SocksError) → once n bs d ≡ decided k v → (n ≤ length bs) × (d ≡ decided k v)
once_in n bs d k v q = go (leb n (length bs)) refl q
  where
    go : (b : Bool) → leb n (length bs) ≡ b → cond b d undecided ≡ decided k v → (n ≤ length bs) × (d ≡ decided k v)
    go true e r = (leb-true n (length bs) e, r)
    go false e r = let z : ◌≡◌ {A = ℕ} 0 1 = cc in absurd (omega arith)

test_in : (b : Bool) (n : ℕ) (d : Read) (k : ℕ) → test b n d ≡ decided k good → (b ≡ true) × (d ≡ decided k good)
test_in true n d k q = (refl, q)
test_in false n d k q = let z : ◌≡◌ {A = ℕ} 0 1 = cc in absurd (omega arith)

sized_in : (n : ℕ) (bs : List ℕ) (k : ℕ) → once n bs (decided n good) ≡ decided k good → (n ≤ length bs) × (k ≡ n)
sized_in n bs k q = let (h, e) = once_in n bs (decided n good) k good q in (h, cc)

once_yes : (n : ℕ) (bs : List ℕ) (d : Read) → n ≤ length bs → once n bs d ≡ d
once_yes n bs d h = rw (le-leb n (length bs) h)

-- ---- good fields

pub good_first : (m : List ℕ) (n : ℕ) → reads First m ≡ decided n good → n ≡ 1
unfolding reads
good_first m n q = let (h, e) = once_in 1 m _ n good q in let (_, r) = test_in (eqb (byte m 0) 0x05 || eqb (byte m 0) 0x04) 1 (decided 1 good) n e in cc

pub good_methods : (m : List ℕ) (n : ℕ) → reads Methods m ≡ decided n good → (1 ≤ byte m 0) × (n ≡ 1 + byte m 0)
unfolding reads
good_methods m n q =
    let (_, e) = once_in 1 m _ n good q in
    let (t, r) = test_in (leb 1 (byte m 0)) 1 _ n e in
    (leb-true 1 (byte m 0) t, (sized_in (1 + byte m 0) m n r).1)

pub good_user : (m : List ℕ) (n : ℕ) → reads User m ≡ decided n good → (byte m 0 ≡ 0x01) × (n ≡ 2 + byte m 1)
unfolding reads
good_user m n q =
    let (_, e) = once_in 1 m _ n good q in
    let (t, r) = test_in (eqb (byte m 0) 0x01) 1 _ n e in
    let (_, s) = once_in 2 m _ n good r in
    (eqb-true (byte m 0) 0x01 t, (sized_in (2 + byte m 1) m n s).1)

pub good_password : (right : Bool) (m : List ℕ) (n : ℕ) → reads (Password right) m ≡ decided n good → n ≡ 1 + byte m 0
unfolding reads
good_password right m n q = let (_, e) = once_in 1 m _ n good q in (sized_in (1 + byte m 0) m n e).1

pub good_head : (m : List ℕ) (n : ℕ) → reads Head m ≡ decided n good → n ≡ 4
unfolding reads
good_head m n q =
    let (_, e) = once_in 1 m _ n good q in
    let (_, r) = test_in (eqb (byte m 0) 0x05) 1 _ n e in
    let (_, s) = once_in 3 m _ n good r in
    let (_, u) = test_in (eqb (byte m 2) 0x00) 3 _ n s in
    (sized_in 4 m n u).1

pub good_request : (m : List ℕ) (n : ℕ) → reads Request m ≡ decided n good → n ≡ 7
unfolding reads
good_request m n q = (sized_in 7 m n q).1

-- an address field by its type: IPv4, IPv6, or a name of at least a byte
pub data Sized (type : ℕ) (m : List ℕ) (n : ℕ) : Type 0 where
  four : eqb type 0x01 ≡ true → n ≡ 6 → Sized type m n
  six : eqb type 0x01 ≡ false → eqb type 0x04 ≡ true → n ≡ 18 → Sized type m n
  named : eqb type 0x01 ≡ false → eqb type 0x04 ≡ false → 1 ≤ byte m 0 → n ≡ 3 + byte m 0 → Sized type m n

pub good_address : (command type : ℕ) (m : List ℕ) (n : ℕ) → reads (Address command type) m ≡ decided n good → Sized type m n
unfolding reads
good_address command type m n q = go (eqb type 0x01) (eqb type 0x04) refl refl q
  where
    go : (a b : Bool) → eqb type 0x01 ≡ a → eqb type 0x04 ≡ b
        → cond a (once 6 m (decided 6 good)) (cond b (once 18 m (decided 18 good)) (once 1 m (test (leb 1 (byte m 0)) 1 (once (3 + byte m 0) m (decided (3 + byte m 0) good))))) ≡ decided n good
        → Sized type m n
    go true b e f r = four e (sized_in 6 m n r).1
    go false true e f r = six e f (sized_in 18 m n r).1
    go false false e f r =
        let (_, s) = once_in 1 m _ n good r in
        let (t, u) = test_in (leb 1 (byte m 0)) 1 _ n s in
        named e f (leb-true 1 (byte m 0) t) (sized_in (3 + byte m 0) m n u).1

-- a text has its 00, a name a byte too
pub good_id : (p : Ports) (m : List ℕ) (n : ℕ) → reads (UserId p) m ≡ decided n good → 1 ≤ n
unfolding reads
good_id p m n q = go (text_in 255 m) (text_law 255 m) q
  where
    go : (s : Seen ℕ) → TextLaw 255 m s → read_text s ≡ decided n good → 1 ≤ n
    go short h r = let z : ◌≡◌ {A = ℕ} 0 1 = cc in absurd (omega arith)
    go (wrong k) h r = let z : ◌≡◌ {A = ℕ} 0 1 = cc in absurd (omega arith)
    go (unknown k) h r = absurd h
    go (whole k j) h r = let e : k ≡ n = cc in omega (arith, h.0)

pub good_name : (p : Ports) (m : List ℕ) (n : ℕ) → reads (Name p) m ≡ decided n good → 2 ≤ n
unfolding reads
good_name p m n q = go (text_in 1014 m) (text_law 1014 m) q
  where
    go : (s : Seen ℕ) → TextLaw 1014 m s → read_name s ≡ decided n good → 2 ≤ n
    go short h r = let z : ◌≡◌ {A = ℕ} 0 1 = cc in absurd (omega arith)
    go (wrong k) h r = let z : ◌≡◌ {A = ℕ} 0 1 = cc in absurd (omega arith)
    go (unknown k) h r = absurd h
    go (whole k zero) h r = let z : ◌≡◌ {A = ℕ} 0 1 = cc in absurd (omega arith)
    go (whole k (suc j)) h r = let e : k ≡ n = cc in omega (arith, h.0)
