-- Replies read where they stand.
use Prim.Native.Nat.{ℕ, ◌+◌, ◌-◌, ◌≤◌, ◌<◌, min}
use native.Mathlib.Omega.{arith}
use mathlib.Core.Path.{◌≡◌, refl, sym}
use mathlib.Core.Bool.{Bool, true, false}
use mathlib.Core.List.{List, ◌++◌}
use lib.ListN.{length, take, drop, get_or-append}
use lib.Seq.{get_or-append-add}
use lib.Dec.{ltb}
use borrow.Author.Tests.{lt-leb, ltb-true, ltb-false}
use Rattle.protocol.specs.declared.Reply.{Reply}
use Rattle.protocol.specs.declared.Reply.TheVariants.{NegotiationRes, AuthenticationRes, ProxyRes, Response}
use Rattle.protocol.specs.Answers.{Undecided}
use Rattle.protocol.specs.Bytes.{byte}
use Rattle.protocol.specs.Replies.{decide, proxy_at}
use Rattle.buffers.proofs.write.Parts.{part_from, drop_two}
use Rattle.replies.specs.unread.Fewest.{fewest}

-- no reply is decided by fewer bytes
pub too_few : (e : Reply) (bs : List ℕ) → length bs < fewest e → decide e bs ≡ Undecided
unfolding decide proxy_at
too_few (NegotiationRes m) bs h = rw (lt-leb 2 (length bs) h)
too_few AuthenticationRes bs h = rw (lt-leb 2 (length bs) h)
too_few ProxyRes bs h = rw (lt-leb 3 (length bs) h)
too_few Response bs h = rw (lt-leb 8 (length bs) h)

-- ---- from a place of held bytes and a piece

pub any_byte : (h p : List ℕ) → ((i : ℕ) → byte h i ≤ 255) → ((i : ℕ) → byte p i ≤ 255) → (i : ℕ) → byte (h ++ p) i ≤ 255
any_byte h p u v i = go (ltb i (length h)) refl
  where
    go : (b : Bool) → ltb i (length h) ≡ b → byte (h ++ p) i ≤ 255
    go true e = rw (get_or-append h p 0 i (ltb-true i (length h) e)) (u i)
    go false e = let k = ltb-false i (length h) e in let z : i ≡ length h + (i - length h) = omega arith in rw (z, get_or-append-add h p (i - length h) 0) (v (i - length h))

pub unread_parts : (h p : List ℕ) (place a : ℕ) → a ≡ min place (length h)
    → take (length h - a) (drop a h) ++ take (length p - (place - a)) (drop (place - a) p) ≡ drop place (h ++ p)
unread_parts h p place a e = rw (part_from h a, part_from p (place - a)) (sym (drop_two place h p a e))
