use mathlib.Core.Path.{◌≡◌, ◌∙◌}
use mathlib.Core.List.{List, ◌++◌}
use Prim.Native.Nat.{ℕ, ◌+◌, ◌≤◌}
use lib.ListN.{length, take, drop}
use Rattle.protocol.specs.Bytes.{byte}
use Rattle.protocol.specs.Answers.{Verdict, Decided}
use native.Mathlib.Omega.{arith}
use Rattle.protocol.specs.Replies.{proxy_size, name_field, proxy_verdict, whole_at}
use Rattle.reader.proofs.Came.{bytes_came, bytes_short}
use Rattle.replies.proofs.v5.Returns.{whole_decided}
use Rattle.reader.proofs.Returns.{undecided}
use Rattle.replies.proofs.v5.whole_at.Goals as goal

-- a reply with a name has room for it
named : (atyp len rest : ℕ) → 5 + rest ≡ proxy_size atyp len → atyp ≡ 0x03 → rest ≡ len + 2
unfolding proxy_size
named atyp len rest e t = let f : 5 + rest ≡ 7 + len = e ∙ rw t in omega arith

-- the whole reply, over plain values: what `cc` and `omega` read is then short
whole : (bs : List ℕ) (at rest rep atyp len place : ℕ) (v : Verdict)
    → at ≡ 5 → rep ≡ byte bs 1 → atyp ≡ byte bs 3 → len ≡ byte bs 4 → 5 + rest ≡ proxy_size atyp len
    → (at + rest ≤ length bs) × (place ≡ at + rest) → v ≡ proxy_verdict rep atyp (take len (drop at bs)) → Decided place v ≡ whole_at (proxy_size atyp len) bs
unfolding name_field
whole bs at rest rep atyp len place v five one three four size k e =
    let z : place ≡ proxy_size atyp len = omega arith in
    let f : take len (drop at bs) ≡ name_field bs = cc in
    rw z (whole_decided bs rep atyp (proxy_size atyp len) (take len (drop at bs)) v e one three f (omega arith))

pub proxy_verdict-requires : goal.proxy_verdict-requires
proxy_verdict-requires c =
    let args = c.args in
    let bs = args.held.now ++ args.piece.now in
    let rest = c.rest_size in
    let p = c.bytes_at-p in
    let k = bytes_came bs args.at rest.result p.result p.ensures c.if-p.true in
    (c.requires.0, λ t. let n = named args.atyp args.len rest.result rest.ensures.0 t in omega arith)

pub returns-then-p : goal.returns-then-p
returns-then-p c =
    let args = c.args in
    let bs = args.held.now ++ args.piece.now in
    let rest = c.rest_size in
    let p = c.bytes_at-p in
    whole bs args.at rest.result args.rep args.atyp args.len p.result.at c.proxy_verdict.result
    c.requires.0 c.requires.1 c.requires.2 c.requires.3 rest.ensures.0
    (bytes_came bs args.at rest.result p.result p.ensures c.if-p.true) c.proxy_verdict.ensures

pub returns : goal.returns
returns c =
    let args = c.args in
    let bs = args.held.now ++ args.piece.now in
    let rest = c.rest_size in
    let p = c.bytes_at-p in
    let k = bytes_short bs args.at rest.result p.result p.ensures c.if-p.false in
    let five = c.requires.0 in
    let e = rest.ensures.0 in
    undecided (proxy_size args.atyp args.len) bs _ (omega arith)
