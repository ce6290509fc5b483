-- Where a last field names its destination, and a destination as a value.
use Prim.Native.Nat.{ℕ, zero, suc, ◌+◌, ◌-◌, ◌≤◌, min}
use native.Mathlib.Nat.{le_refl}
use native.Mathlib.Omega.{arith}
use mathlib.Core.Path.{◌≡◌, refl, ap, sym, subst, ◌∙◌}
use mathlib.Core.Bool.{Bool, true, false, cond}
use mathlib.Core.List.{List, [], ◌∷◌, ◌++◌}
use lib.ListN.{length, take, drop, replicate, length-append, length-drop}
use lib.Seq.{take-take, length-take-le}
use lib.Dec.{leb, eqb, lit≤}
use borrow.Author.Tests.{ne_eqb, leb-true}
use Rattle.protocol.specs.declared.AddressKind.TheVariants.{Ipv4, Ipv6, Domain}
use Rattle.protocol.specs.declared.Bound.{Bound}
use Rattle.protocol.specs.declared.SocksError.{SocksError}
use Rattle.protocol.specs.Bytes.{byte, two_of}
use Rattle.protocol.specs.AddressReading.{ipv4, domain}
use Rattle.protocol.specs.Requests.{kind_of}
use Rattle.protocol.specs.Bound.{Endpoint, endpoint}
use Rattle.protocol.proofs.Named.{drop_first}
use Rattle.buffers.specs.write.Written.{overwrite, Wrote}
use Rattle.buffers.proofs.write.Parts.{part_two}
use Rattle.proxy_spec.specs.declared.Ports.{Ports}
use Rattle.proxy_spec.specs.declared.Field.{Field}
use Rattle.proxy_spec.specs.declared.Field.TheVariants.{First, Methods, User, Password, Head, Address, Request, UserId, Name}
use Rattle.proxy_spec.specs.Reads.{Seen, short, wrong, unknown, whole, text_in}
use Rattle.proxy_spec.specs.Side.{once, test, read_name, reads, target_of, ip_of}
use Rattle.proxy_decisions.specs.decision.Due.{asks_at}
use Rattle.talk.specs.Decision.{Decision, undecided, decided, good, bad}
use Rattle.buffers.specs.declared.hold.Found.{Found}
use Rattle.buffers.specs.hold.Held.{Finds, Binds}
use Rattle.buffers.proofs.hold.Laws.{standing, kind_back, first_bytes}
use Rattle.proxy_decisions.specs.destination.Last.{Last, target_as}
use Rattle.proxy_decisions.specs.destination.Sizes.{address_size, Tells}

-- ---- a whole field's size

-- a decision is a good one of so many bytes
abbrev Good : ℕ → Decision SocksError → Type 0
Good n undecided = ⊥
Good n (decided k good) = k ≡ n
Good n (decided k (bad e)) = ⊥

is_good : {n : ℕ} {d : Decision SocksError} → d ≡ decided n good → Good n d
is_good {n} e = subst (Good n) (sym e) refl

once_came : (n k : ℕ) (bs : List ℕ) (d : Decision SocksError) → Good n (once k bs d) → (k ≤ length bs) × Good n d
once_came n k bs d = go (leb k (length bs)) refl
  where
    go : (b : Bool) → leb k (length bs) ≡ b → Good n (cond b d undecided) → (k ≤ length bs) × Good n d
    go true q g = (leb-true k (length bs) q, g)
    go false q g = absurd g

test_held : (n : ℕ) (b : Bool) (k : ℕ) (d : Decision SocksError) → Good n (test b k d) → Good n d
test_held n true k d g = g
test_held n false k d g = absurd g

pub address_whole : (command type : ℕ) (m : List ℕ) → reads (Address command type) m ≡ decided (length m) good → address_size type m ≤ length m
unfolding reads address_size
address_whole command type m e = go (eqb type 0x01) (eqb type 0x04) (is_good e)
  where
    go : (a b : Bool) → Good (length m) (cond a (once 6 m (decided 6 good)) (cond b (once 18 m (decided 18 good)) (once 1 m (test (leb 1 (byte m 0)) 1 (once (3 + byte m 0) m (decided (3 + byte m 0) good))))))
        → cond a 6 (cond b 18 (3 + byte m 0)) ≤ length m
    go true b g = (once_came (length m) 6 m (decided 6 good) g).0
    go false true g = (once_came (length m) 18 m (decided 18 good) g).0
    go false false g =
        let h = once_came (length m) 1 m (test (leb 1 (byte m 0)) 1 (once (3 + byte m 0) m (decided (3 + byte m 0) good))) g in
        let i = test_held (length m) (leb 1 (byte m 0)) 1 (once (3 + byte m 0) m (decided (3 + byte m 0) good)) h.1 in
        (once_came (length m) (3 + byte m 0) m (decided (3 + byte m 0) good) i).0

-- a whole text has a 00, behind so many bytes at most
abbrev Sized : ℕ → Seen ℕ → Type 0
Sized most short = Unit {0}
Sized most (wrong n) = Unit {0}
Sized most (unknown n) = Unit {0}
Sized most (whole n m) = (1 ≤ n) × (n ≤ suc most)

sized_cond : (most : ℕ) (t : Bool) (d : Seen ℕ) → Sized most d → Sized most (cond t (whole 1 0) d)
sized_cond most true d h = (le_refl 1, omega arith)
sized_cond most false d h = h

text_sized : (most : ℕ) (bs : List ℕ) → Sized most (text_in most bs)
unfolding text_in
text_sized zero [] = tt
text_sized (suc most) [] = tt
text_sized zero (b ∷ bs) = sized_cond zero (eqb b 0x00) (wrong 1) tt
text_sized (suc most) (b ∷ bs) = go (text_in most bs) refl (text_sized most bs)
  where
    go : (d : Seen ℕ) → text_in most bs ≡ d → Sized most d → Sized (suc most) (text_in (suc most) (b ∷ bs))
    go short q h = rw q (sized_cond (suc most) (eqb b 0x00) short tt)
    go (wrong n) q h = rw q (sized_cond (suc most) (eqb b 0x00) (wrong (suc n)) tt)
    go (unknown n) q h = rw q (sized_cond (suc most) (eqb b 0x00) (unknown (suc n)) tt)
    go (whole n m) q h = rw q (sized_cond (suc most) (eqb b 0x00) (whole (suc n) (suc m)) (omega arith, omega arith))

pub name_whole : (p : Ports) (m : List ℕ) → reads (Name p) m ≡ decided (length m) good → (1 ≤ length m) × (length m ≤ 1015)
unfolding reads
name_whole p m e = go (text_in 1014 m) (text_sized 1014 m) (is_good e)
  where
    go : (d : Seen ℕ) → Sized 1014 d → Good (length m) (read_name d) → (1 ≤ length m) × (length m ≤ 1015)
    go short s g = absurd g
    go (wrong n) s g = absurd g
    go (unknown n) s g = absurd g
    go (whole n zero) s g = absurd g
    go (whole n (suc k)) s g = (omega arith, omega arith)

-- ---- which field it is

module _ (f : Field) (m : List ℕ) where
  pub told_name : (p : Ports) → f ≡ Name p → Tells f m → (1 ≤ length m) × (length m ≤ 1015)
  told_name p e t = name_whole p m (subst (λ (x : Field). Tells x m) e t)

  pub told_address : (command type : ℕ) → f ≡ Address command type → Tells f m → address_size type m ≤ length m
  told_address command type e t = address_whole command type m (subst (λ (x : Field). Tells x m) e t)

pub told_other : (f : Field) (m : List ℕ) → Last f m → ((p : Ports) → f ≡ UserId p → ⊥) → Tells f m
told_other First m l u = l
told_other Methods m l u = l
told_other User m l u = l
told_other (Password right) m l u = l
told_other Head m l u = l
told_other (Address command type) m l u = l
told_other Request m l u = l
told_other (UserId p) m l u = absurd (u p refl)
told_other (Name p) m l u = l

pub no_other : (f : Field) (m : List ℕ) → Tells f m → ((p : Ports) → f ≡ Name p → ⊥) → ((command type : ℕ) → f ≡ Address command type → ⊥) → ⊥
no_other First m t u v = t
no_other Methods m t u v = t
no_other User m t u v = t
no_other (Password right) m t u v = t
no_other Head m t u v = t
no_other (Address command type) m t u v = v command type refl
no_other Request m t u v = t
no_other (UserId p) m t u v = t
no_other (Name p) m t u v = u p refl

-- ---- where it stands

module _ (m : List ℕ) {type : ℕ} {r : Found} {port : ℕ} (h : address_size type m ≤ length m) where
  pub finds_four : type ≡ 0x01 → port ≡ two_of (drop 4 m) → r ≡ standing Ipv4 0 4 port → Finds 1014 (target_of type m) m r
  unfolding address_size
  finds_four t p q = let w : 6 ≤ length m = rw t at h in rw (q, p) (record { names = rw t; inside = omega arith; small = lit≤ tt })

  pub finds_six : type ≡ 0x04 → port ≡ two_of (drop 16 m) → r ≡ standing Ipv6 0 16 port → Finds 1014 (target_of type m) m r
  unfolding address_size
  finds_six t p q = let w : 18 ≤ length m = rw t at h in rw (q, p) (record { names = rw t; inside = omega arith; small = lit≤ tt })

  pub finds_named : {n : ℕ} → (type ≡ 0x01 → ⊥) → (type ≡ 0x04 → ⊥) → n ≡ byte m 0 → n ≤ 255 → port ≡ two_of (drop (1 + n) m) → r ≡ standing Domain 1 n port → Finds 1014 (target_of type m) m r
  unfolding address_size
  finds_named {n} s t e l p q =
      let w : 3 + byte m 0 ≤ length m = rw (ne_eqb type 0x01 s, ne_eqb type 0x04 t) at h in
      rw (q, p) (record { names = rw (ne_eqb type 0x01 s, ne_eqb type 0x04 t, ← e); inside = omega arith; small = omega arith })

pub finds_name : (m : List ℕ) {r : Found} {port n : ℕ} → (1 ≤ length m) × (length m ≤ 1015) → n ≡ length m → r ≡ standing Domain 0 (n - 1) port
    → Finds 1014 (endpoint (domain (take (length m - 1) m)) port) m r
finds_name m s e q = rw (q, e) (record { names = refl; inside = omega arith; small = omega arith })

-- ---- a message in a hold and a piece

-- what was found in the first bytes was found in all
finds_more : {most : ℕ} {x : Endpoint} (k : ℕ) (bs : List ℕ) {r : Found} → k ≤ length bs → Finds most x (take k bs) r → Finds most x bs r
finds_more k bs {r} l f =
    let i = f.inside in
    let n : length (take k bs) ≡ k = length-take-le k bs l in
    let s : take r.len (drop r.at (take k bs)) ≡ take r.len (drop r.at bs) = ap (take r.len) (drop_first k bs l r.at (omega arith)) ∙ take-take r.len (k - r.at) (drop r.at bs) (omega arith) in
    record { names = f.names ∙ ap (λ (t : List ℕ). endpoint (kind_of r.bound.kind t) r.bound.port) s; inside = omega arith; small = f.small }

pub found_in : (f : Field) (hold p : List ℕ) (n from to : ℕ) {r : Found} → n ≤ length hold → from ≤ to → to ≤ n + length p
    → (let m = take (to - from) (drop from (take n hold ++ p)) in Finds 1014 (asks_at f m) m r → Finds 1014 (asks_at f m) (drop from (take n hold ++ p)) r)
found_in f hold p n from to {r} l h i w =
    finds_more (to - from) (drop from (take n hold ++ p)) (omega (arith, length-drop from (take n hold ++ p), length-append (take n hold) p, length-take-le n hold l)) w

-- ---- what is kept, and handed out

pub keeps_ip : (p : Ports) {hold hold' : List ℕ} {next : ℕ} → Wrote hold 0 (ip_of p) next hold'
    → Binds (endpoint (ipv4 (ip_of p)) p.port) hold (record { len = 4; bound = record { kind = Ipv4; port = p.port } }) hold'
unfolding overwrite
keeps_ip p w = record { bound = refl; long = refl; holds = w.bytes }

pub target_is : (b : Bound) (held : List ℕ) {n : ℕ} {zeros bytes : List ℕ} {next : ℕ} → n ≡ min (length held) 1014 → zeros ≡ replicate 1014 0 → Wrote zeros 0 (take n held) next bytes
    → record { kind = b.kind; len = n; bytes = bytes; port = b.port } ≡ target_as (endpoint (kind_of b.kind held) b.port)
target_is b held e z w =
    let (k, v) = kind_back b.kind held in
    let p = first_bytes 1014 held e z w in
    rw (k, v) (λ i. record { kind = b.kind; len = e i; bytes = p i; port = b.port })
