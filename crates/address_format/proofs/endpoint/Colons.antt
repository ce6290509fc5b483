-- F-1: a text is split at its last colon in one way.
use Prim.Native.Nat.{ℕ, ◌<◌}
use native.Mathlib.Omega.{arith}
use mathlib.Core.Path.{◌≡◌, refl, sym, ◌∙◌}
use mathlib.Core.List.{List, [], ◌∷◌, ◌++◌}
use lib.ListN.{length, length-append}
use lib.Seq.{get_or-append_seam}
use Rattle.protocol.specs.Bytes.{byte}
use Rattle.address_format.specs.endpoint.ReadBack.{LastColon}

abbrev pub NoColon : List ℕ → Type 0
NoColon s = (i : ℕ) → i < length s → byte s i ≡ 0x3A → ⊥

-- a text with a colon in it has one
colon_in : (s p q : List ℕ) → s ≡ p ++ (0x3A ∷ q) → NoColon s → ⊥
colon_in s p q e f = rw e at f (length p) (simp length-append (omega arith)) (get_or-append_seam p 0x3A q 0)

same_split : (p q a b : List ℕ) → p ++ (0x3A ∷ q) ≡ a ++ (0x3A ∷ b) → NoColon q → NoColon b → (p ≡ a) × (q ≡ b)
same_split [] q [] b e f g = (refl, cc)
same_split [] q (c ∷ a) b e f g = absurd (colon_in q a b (cc) f)
same_split (c ∷ p) q [] b e f g = absurd (colon_in b p q (cc) g)
same_split (c ∷ p) q (d ∷ a) b e f g = let (h, k) = same_split p q a b (cc) f g in let l : c ≡ d = cc in (cc, k)

pub one_split : (s p q a b : List ℕ) → LastColon s p q → LastColon s a b → (p ≡ a) × (q ≡ b)
one_split s p q a b x y = same_split p q a b (sym x.splits ∙ y.splits) x.last y.last
