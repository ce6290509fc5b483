-- A law for each return of the reader of a ProxyRes.
use mathlib.Core.Path.{◌≡◌, sym, ap, ◌∙◌}
use mathlib.Core.Bool.{true, false}
use mathlib.Core.List.{List}
use Prim.Native.Nat.{ℕ, ◌≤◌}
use lib.ListN.{length}
use borrow.Author.Tests.{le-leb}
use Rattle.protocol.specs.declared.SocksError.TheVariants.{Parsing}
use Rattle.protocol.specs.Answers.{Verdict, Bad, Decision, Decided}
use Rattle.protocol.specs.Bytes.{byte}
use Rattle.protocol.specs.Replies.{head_allowed, type_allowed, proxy_size, proxy_verdict, name_field, whole_at, type_at, proxy_at}
use Rattle.reader.specs.declared.Two.{Two}
use Rattle.reader.specs.declared.Three.{Three}
use Rattle.reader.proofs.Came.{CameTwo, CameThree}

module _ (bs : List ℕ) (p : Three) (k : CameThree bs 0 p) where
  same_head : head_allowed p.first p.second p.third ≡ head_allowed (byte bs 0) (byte bs 1) (byte bs 2)
  same_head = let a = k.first in let b = k.second in let c = k.third in cc

  pub head_passed : head_allowed p.first p.second p.third ≡ true → type_at bs ≡ proxy_at bs
  unfolding proxy_at
  head_passed t = rw (le-leb 3 (length bs) k.inside, sym same_head ∙ t)

  pub head_refused : head_allowed p.first p.second p.third ≡ false → Decided 3 (Bad Parsing) ≡ proxy_at bs
  unfolding proxy_at
  head_refused t = rw (le-leb 3 (length bs) k.inside, sym same_head ∙ t)

module _ (bs : List ℕ) (p : Two) (k : CameTwo bs 3 2 p) where
  same_type : type_allowed p.first p.second ≡ type_allowed (byte bs 3) (byte bs 4)
  same_type = let a = k.first in let b = k.second in cc

  pub type_passed : (d : Decision) → d ≡ whole_at (proxy_size p.first p.second) bs → type_allowed p.first p.second ≡ true → d ≡ type_at bs
  type_passed d e t = rw (le-leb 5 (length bs) k.inside, sym same_type ∙ t) (e ∙ ap (λ (n : ℕ). whole_at n bs) sizes)
    where
      sizes : proxy_size p.first p.second ≡ proxy_size (byte bs 3) (byte bs 4)
      sizes = let a = k.first in let b = k.second in cc

  pub type_refused : type_allowed p.first p.second ≡ false → Decided 5 (Bad Parsing) ≡ type_at bs
  type_refused t = rw (le-leb 5 (length bs) k.inside, sym same_type ∙ t)

pub whole_decided : (bs : List ℕ) (rep atyp size : ℕ) (name : List ℕ) (v : Verdict) → v ≡ proxy_verdict rep atyp name → rep ≡ byte bs 1 → atyp ≡ byte bs 3 → name ≡ name_field bs
    → size ≤ length bs → Decided size v ≡ whole_at size bs
whole_decided bs rep atyp size name v e a b c h = rw (le-leb size (length bs) h) cc
