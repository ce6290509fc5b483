use Rattle.std.proofs.Common.{◌≡◌, ℕ, suc, ◌+◌, ◌%◌, ◌<◌, ◌≤◌, max, Bool, true, false, cond, ◌&&◌, leb, List, length, get_or, drop, refl, ◌∙◌, add-one, arith, drop_of_length-le, drop-cons, le-leb, leb-false, leb-true}
use borrow.Author.Tests.{lt-leb}
use Rattle.protocol.specs.Host.{allowed, all_allowed}
use Rattle.address_text.proofs.host.all_allowed.Goals as goal

-- a byte is allowed where its distance from 21 is at most 5D: below 21 the distance wraps, and is above
higher_tells : (top d b : ℕ) (x : Bool) → d ≤ 255 → (d + 0x21) % 256 ≡ b → (leb (max top d) 0x5D && x) ≡ (leb top 0x5D && cond (allowed b) x false)
higher_tells top d b x h e = go (leb top 0x5D) refl (leb d 0x5D) refl
  where
    go : (t : Bool) → leb top 0x5D ≡ t → (u : Bool) → leb d 0x5D ≡ u → (leb (max top d) 0x5D && x) ≡ (t && cond (allowed b) x false)
    go true p true q =
        let j = leb-true top 0x5D p in
        let k = leb-true d 0x5D q in
        rw (le-leb (max top d) 0x5D (omega arith), le-leb 0x21 b (omega arith), le-leb b 0x7E (omega arith))
    go true p false q = let k = leb-false d 0x5D q in rw (lt-leb (max top d) 0x5D (omega arith)) (far (leb 0x21 b) refl)
      where
        far : (t : Bool) → leb 0x21 b ≡ t → false ≡ cond (t && leb b 0x7E) x false
        far true r = let k = leb-false d 0x5D q in let l = leb-true 0x21 b r in rw (lt-leb b 0x7E (omega arith))
        far false r = refl
    go false p u q = let j = leb-false top 0x5D p in rw (lt-leb (max top d) 0x5D (omega arith))

turn : (host : List ℕ) (top d i : ℕ) → i < length host → d ≤ 255 → (d + 0x21) % 256 ≡ get_or host i 0
    → (leb (max top d) 0x5D && all_allowed (drop (i + 1) host)) ≡ (leb top 0x5D && all_allowed (drop i host))
unfolding all_allowed
turn host top d i h k e = rw (drop-cons host i 0 h, add-one i) (higher_tells top d (get_or host i 0) (all_allowed (drop (suc i) host)) k e)

and_true : (a : Bool) → a ≡ (a && true)
and_true true = refl
and_true false = refl

pub loop-b-preserved : goal.loop-b-preserved
loop-b-preserved c =
    let l = c.loop-b in
    let b = get_or c.args.host.now l.b-index 0 in
    let f : b < 256 = omega (arith, c.type_inv.host l.b-index) in
    let e : ((b + 223) % 256 + 0x21) % 256 ≡ b = omega arith in
    rw c.max-top.ensures (turn c.args.host.now l.top ((b + 223) % 256) l.b-index c.loop-b-test.true (omega arith) e ∙ l.invariant)

pub returns : goal.returns
unfolding all_allowed
returns c = and_true (leb c.loop-b.top 0x5D) ∙ (rw (drop_of_length-le _ c.loop-b-test.false) at c.loop-b.invariant)
