-- IPv6 text: what a turn of the loop over its groups reads.
use Rattle.std.proofs.Common.{◌≡◌, ℕ, zero, suc, ◌+◌, ◌-◌, ◌/◌, ◌%◌, ◌<◌, ◌≤◌, Bool, true, false, cond, eqb, List, [], ◌++◌, length, take, drop, set, replicate, sym, refl, ap, ◌∙◌, append_assoc, arith, length-append, take_at}
use mathlib.Core.Option.{none, some}
use lib.Seq.{take-set-le, take-paste, length-paste, paste}
use Rattle.protocol.specs.declared.Digits.{Digits}
use Rattle.protocol.specs.declared.Follows.{Follows}
use Rattle.protocol.specs.declared.Follows.TheVariants.{Bad, End, Dot, Colons, Colon}
use Rattle.protocol.specs.Bytes.{two}
use Rattle.protocol.specs.AddressReading.{group_of, mark_at, ipv4_of, follows_at, Row, no_row, ends, gap, ahead_row, quad_row, row_by, row}
use Rattle.protocol.proofs.AddressDigits.{mark_is}
use Rattle.protocol.proofs.AddressIpv4.{ipv4_sound}
use Rattle.protocol.proofs.AddressIpv6.{dotted_length}
use Rattle.address_text.specs.declared.groups.Stop.TheVariants.{Ends, Gap}
use Rattle.address_text.specs.groups.Rows.{Shows}
use Rattle.address_text.proofs.ipv4.Texts.{from, from_drop, length_from, drop_from}
use Rattle.address_text.proofs.groups.Stored.{stored, length_stored, take_stored}

-- a colon that follows is within the text, and so are two
abbrev Inside : List ℕ → ℕ → Follows → Type 0
Inside s n Bad = Unit {0}
Inside s n End = Unit {0}
Inside s n Dot = Unit {0}
Inside s n Colons = n + 1 < length s
Inside s n Colon = n < length s

follows_inside : (s : List ℕ) (n : ℕ) → Inside s n (follows_at s n)
unfolding follows_at
follows_inside s n = go (eqb n 0) (eqb n (length s)) (mark_at 0x2E s n) (mark_at 0x3A s n) refl (mark_at 0x3A s (n + 1)) refl
  where
    go : (t u v w : Bool) → mark_at 0x3A s n ≡ w → (x : Bool) → mark_at 0x3A s (n + 1) ≡ x
        → Inside s n (cond t Bad (cond u End (cond v Dot (cond w (cond x Colons Colon) Bad))))
    go true u v w h x i = tt
    go false true v w h x i = tt
    go false false true w h x i = tt
    go false false false false h x i = tt
    go false false false true h true i = (mark_is 0x3A s (n + 1) i).inside
    go false false false true h false i = (mark_is 0x3A s n h).inside

ahead_row_none : (r : Row) → ahead_row [] r ≡ r
ahead_row_none no_row = refl
ahead_row_none (ends vs) = refl
ahead_row_none (gap vs t) = refl

ahead_row_more : (us vs : List ℕ) (r : Row) → ahead_row us (ahead_row vs r) ≡ ahead_row (us ++ vs) r
ahead_row_more us vs no_row = refl
ahead_row_more us vs (ends ws) = ap ends (sym (append_assoc us vs ws))
ahead_row_more us vs (gap ws t) = ap (λ (l : List ℕ). gap l t) (sym (append_assoc us vs ws))

-- k groups are read, up to the place at; what is left to read gives the whole
pub record Rows (s bytes : List ℕ) (at k : ℕ) : Type 0 where
  pub few : k ≤ 8
  pub inside : at ≤ length s
  pub sixteen : length bytes ≡ 16
  pub rest : ahead_row (take (k + k) bytes) (row (8 - k) (drop at s)) ≡ row 8 s

pub no_rows : (s : List ℕ) → Rows s (replicate 16 0) 0 0
no_rows s = record { few = omega arith; inside = omega arith; sixteen = refl; rest = ahead_row_none (row 8 s) }

pub rows_end : {s bytes : List ℕ} {at k : ℕ} → Rows s bytes at k → 8 ≤ k → row 8 s ≡ no_row
unfolding row
rows_end {s} {bytes} {at} {k} i h =
    let f = i.few in
    let z : 8 - k ≡ 0 = omega arith in
    sym (rw z at i.rest)

-- after a group whose bytes are stored, by what follows it
module _ (s : List ℕ) (at k : ℕ) (g : Digits) (all : List ℕ) where
  abbrev pub GroupTurn : Follows → Type 0
  GroupTurn Bad = row 8 s ≡ no_row
  GroupTurn Dot = row 8 s ≡ ahead_row (take (k + k) all) (quad_row (7 - k) (ipv4_of (from s at)))
  GroupTurn End = Shows s (row 8 s) (record { stop = Ends; len = k + k + 2; bytes = all; next = 0 })
  GroupTurn Colons = Shows s (row 8 s) (record { stop = Gap; len = k + k + 2; bytes = all; next = at + g.count + 2 })
  GroupTurn Colon = Rows s all (at + g.count + 1) (k + 1)

module _ {s bytes : List ℕ} {at k : ℕ} (i : Rows s bytes at k) (h : k < 8) (g : Digits) (e : g ≡ group_of (from s at))
    (a b : ℕ) (ea : a ≡ g.value / 256) (eb : b ≡ g.value % 256) where
  abbrev all : List ℕ
  all = stored bytes (k + k) a b

  sixteen : length all ≡ 16
  sixteen = length_stored bytes (k + k) a b ∙ i.sixteen

  bytes_on : take (k + k + 2) all ≡ take (k + k) bytes ++ two g.value
  bytes_on = let x = i.sixteen in rw (take_stored bytes (k + k) a b (omega arith), ea, eb)

  bytes_before : take (k + k) all ≡ take (k + k) bytes
  bytes_before = take-set-le (k + k) (set bytes (k + k) a) (k + k + 1) b (omega arith) ∙ take-set-le (k + k) bytes (k + k) a (omega arith)

  abbrev behind : Follows → Row
  behind w = ahead_row (take (k + k) bytes) (row_by w (7 - k) (from s at) g (row (7 - k) (drop (g.count + 1) (from s at))))

  more_left : ahead_row (take (k + k) bytes) (row (suc (7 - k)) (from s at)) ≡ row 8 s
  more_left = let z : suc (7 - k) ≡ 8 - k = omega arith in rw (z, from_drop s at) i.rest

  turned : behind (follows_at (from s at) g.count) ≡ row 8 s
  unfolding row
  turned = rw e more_left

  by_follows : (w : Follows) → Inside (from s at) g.count w → behind w ≡ row 8 s → GroupTurn s at k g all w
  by_follows Bad j q = sym q
  by_follows Dot j q = rw bytes_before (sym q)
  by_follows End j q = record { shown = rw bytes_on q; few = omega arith; sixteen = sixteen; inside = omega arith }
  by_follows Colons j q =
      let l = length_from s at in
      let x = i.inside in
      record { shown = rw (bytes_on, ← drop_from s at g.count 2) q; few = omega arith; sixteen = sixteen; inside = omega arith }
  by_follows Colon j q =
      let l = length_from s at in
      let x = i.inside in
      let y : (k + 1) + (k + 1) ≡ k + k + 2 = omega arith in
      let u : 8 - (k + 1) ≡ 7 - k = omega arith in
      record {
        few = omega arith;
        inside = omega arith;
        sixteen = sixteen;
        rest =
            rw (y, u, bytes_on, ← drop_from s at g.count 1)
            (sym (ahead_row_more (take (k + k) bytes) (two g.value) (row (7 - k) (drop (g.count + 1) (from s at)))) ∙ q);
      }

  pub group_turn : (w : Follows) → w ≡ follows_at (from s at) g.count → GroupTurn s at k g all w
  group_turn w f = rw f (by_follows (follows_at (from s at) g.count) (follows_inside (from s at) g.count) turned)

-- ---- IPv4 text in place of the last two groups

pub quad_nothing : (us : List ℕ) (n : ℕ) → ahead_row us (quad_row n none) ≡ no_row
quad_nothing us zero = refl
quad_nothing us (suc n) = refl

quad_some : (us bs : List ℕ) (n : ℕ) → 1 ≤ n → ahead_row us (quad_row n (some bs)) ≡ ends (us ++ bs)
quad_some us bs zero h = absurd (omega arith)
quad_some us bs (suc n) h = refl

pub quad_shows : (bytes src bs t s : List ℕ) (k : ℕ) → length bytes ≡ 16 → k < 7 → ipv4_of t ≡ some bs → src ≡ bs ++ replicate 12 0
    → Shows s (ahead_row (take (k + k) bytes) (quad_row (7 - k) (ipv4_of t))) (record { stop = Ends; len = k + k + 4; bytes = paste bytes (k + k) src 4; next = 0 })
quad_shows bytes src bs t s k l h e f =
    let n : length bs ≡ 4 = dotted_length (ipv4_sound t bs e) in
    let m : 4 ≤ length src = rw f (simp length-append (omega arith)) in
    record {
      shown = rw (e, take-paste bytes (k + k) src 4 (omega arith) m, quad_some (take (k + k) bytes) bs (7 - k) (omega arith), f, take_at bs (replicate 12 0) 4 n);
      few = omega arith;
      sixteen = length-paste bytes (k + k) src 4 (omega arith) m ∙ l;
      inside = omega arith;
    }
