-- A UTF-8 text read so far can be completed just within the bytes that its last character lacks.
use Prim.Native.Nat.{ℕ, zero, suc, ◌-◌, zero-le}
use native.Mathlib.Omega.{arith}
use mathlib.Core.Path.{◌≡◌, refl}
use mathlib.Core.Bool.{Bool, true, false, cond, false≢true}
use mathlib.Core.List.{List, [], ◌∷◌, ◌++◌}
use lib.ListN.{length, replicate, length-append, length-replicate}
use lib.Dec.{leb, ltb}
use borrow.Author.Tests.{leb-true, le-leb}
use Rattle.protocol.specs.declared.Utf8State.{Utf8State}
use Rattle.protocol.specs.declared.Utf8State.TheVariants.{Boundary, Tail1, Tail2, Tail3, AfterE0, AfterEd, AfterF0, AfterF4, Invalid}
use Rattle.protocol.specs.Bytes.{Bytes}
use Rattle.protocol.specs.Utf8.{class_of, among, first, next, scan, is_boundary}
use Rattle.protocol.proofs.Bytes.{are_bytes, bytes_are, bytes_zeros, bytes_join}
use Rattle.utf8.proofs.text.Laws.{scan_append}
use Rattle.client_delivery.specs.wants.Still.{ends_within}

-- ---- it ends, so it had room to

among_ends : (lo hi c : ℕ) (st : Utf8State) (n : ℕ) → ends_within (among lo hi c st) n ≡ true → ends_within st n ≡ true
unfolding among
among_ends lo hi c st n q = go (ltb c lo) (ltb hi c) q
  where
    go : (x y : Bool) → ends_within (cond x Invalid (cond y Invalid st)) n ≡ true → ends_within st n ≡ true
    go true y r = absurd (false≢true r)
    go false true r = absurd (false≢true r)
    go false false r = r

more : (k n : ℕ) → leb k n ≡ true → leb (suc k) (suc n) ≡ true
more k n q = le-leb (suc k) (suc n) (omega (arith, leb-true k n q))

before : (st : Utf8State) (c n : ℕ) → ends_within (next st c) n ≡ true → ends_within st (suc n) ≡ true
unfolding next
before Boundary c n q = refl
before Tail1 c n q = le-leb 1 (suc n) (omega arith)
before Tail2 c n q = more 1 n (among_ends 1 3 c Tail1 n q)
before Tail3 c n q = more 2 n (among_ends 1 3 c Tail2 n q)
before AfterE0 c n q = more 1 n (among_ends 3 3 c Tail1 n q)
before AfterEd c n q = more 1 n (among_ends 1 2 c Tail1 n q)
before AfterF0 c n q = more 2 n (among_ends 2 3 c Tail2 n q)
before AfterF4 c n q = more 2 n (among_ends 1 1 c Tail2 n q)
before Invalid c n q = absurd (false≢true q)

at_end : (st : Utf8State) → is_boundary st ≡ true → ends_within st 0 ≡ true
unfolding is_boundary
at_end Boundary q = refl
at_end Tail1 q = absurd (false≢true q)
at_end Tail2 q = absurd (false≢true q)
at_end Tail3 q = absurd (false≢true q)
at_end AfterE0 q = absurd (false≢true q)
at_end AfterEd q = absurd (false≢true q)
at_end AfterF0 q = absurd (false≢true q)
at_end AfterF4 q = absurd (false≢true q)
at_end Invalid q = absurd (false≢true q)

pub ends_within_lem : (st : Utf8State) (t : List ℕ) → is_boundary (scan st t) ≡ true → ends_within st (length t) ≡ true
unfolding scan
ends_within_lem st [] q = at_end st q
ends_within_lem st (c ∷ t) q = before st (class_of c) (length t) (ends_within_lem (next st (class_of c)) t q)

-- ---- it has room to, so it can end

pub record Ending (st : Utf8State) (n : ℕ) : Type 0 where
  pub text : List ℕ
  pub bytes : Bytes text
  pub long : length text ≡ n
  pub ends : is_boundary (scan st text) ≡ true

zeros_end : (n : ℕ) → scan Boundary (replicate n 0) ≡ Boundary
unfolding scan next first class_of
zeros_end zero = refl
zeros_end (suc n) = zeros_end n

-- the tails that are lacking, and then 00
by_tails : (st : Utf8State) (t : List ℕ) (n : ℕ) → are_bytes t ≡ true → scan st t ≡ Boundary → leb (length t) n ≡ true → Ending st n
unfolding is_boundary
by_tails st t n y q h =
    let k = leb-true (length t) n h in
    record {
      text = t ++ replicate (n - length t) 0;
      bytes = bytes_join t (replicate (n - length t) 0) (bytes_are t y) (bytes_zeros (n - length t));
      long = omega (arith, length-append t (replicate (n - length t) 0), length-replicate {A = ℕ} (n - length t) 0);
      ends = rw (scan_append st t (replicate (n - length t) 0), q, zeros_end (n - length t));
    }

pub can_end : (st : Utf8State) (n : ℕ) → ends_within st n ≡ true → Ending st n
unfolding scan next among first class_of
can_end Boundary n q = by_tails Boundary [] n refl refl (le-leb 0 n zero-le)
can_end Tail1 n q = by_tails Tail1 (0x80 ∷ []) n refl refl q
can_end Tail2 n q = by_tails Tail2 (0x80 ∷ 0x80 ∷ []) n refl refl q
can_end Tail3 n q = by_tails Tail3 (0x80 ∷ 0x80 ∷ 0x80 ∷ []) n refl refl q
can_end AfterE0 n q = by_tails AfterE0 (0xA0 ∷ 0x80 ∷ []) n refl refl q
can_end AfterEd n q = by_tails AfterEd (0x80 ∷ 0x80 ∷ []) n refl refl q
can_end AfterF0 n q = by_tails AfterF0 (0x90 ∷ 0x80 ∷ 0x80 ∷ []) n refl refl q
can_end AfterF4 n q = by_tails AfterF4 (0x80 ∷ 0x80 ∷ 0x80 ∷ []) n refl refl q
can_end Invalid n q = absurd (false≢true q)
