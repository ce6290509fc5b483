use Rattle.std.proofs.Common.{◌≡◌, ◌-◌, arith, rules}
use Rattle.protocol.specs.AddressReading.{ipv4_of}
use Rattle.address_text.proofs.ipv4.Dots.{Read4, read4}
use Rattle.address_text.proofs.groups.Colons.{quad_nothing, quad_shows}
use Rattle.address_text.proofs.groups.read_ipv4_tail.Goals as goal

pub returns-then-k-eq7 : goal.returns-then-k-eq7
returns-then-k-eq7 c = λ s.
    let z : 7 - c.args.k ≡ 0 = omega (arith, c.if-k-eq7.true) in
    rw z (c.no_groups.ensures s)

pub returns-in-Ipv4 : goal.returns-in-Ipv4
returns-in-Ipv4 c = λ s.
    let a = c.args in
    let told : Read4 (ipv4_of c.args.text.now) c.read_ipv4-four.result.bytes c.read_ipv4-four.result.kind = rw c.read_ipv4-four.ensures (read4 (ipv4_of c.args.text.now)) in
    let (bs, e, f) = rw c.in-Ipv4.is at told in
    let n = c.if-k-eq7.false in
    let p = c.requires in
    rw c.copied-all.ensures (quad_shows a.bytes _ bs a.text.now s a.k (search rules) (omega arith) e f)

pub returns-in-Ipv6 : goal.returns-in-Ipv6
returns-in-Ipv6 c = λ s.
    let told : Read4 (ipv4_of c.args.text.now) c.read_ipv4-four.result.bytes c.read_ipv4-four.result.kind = rw c.read_ipv4-four.ensures (read4 (ipv4_of c.args.text.now)) in
    absurd (rw c.in-Ipv6.is at told)

pub returns-in-Domain : goal.returns-in-Domain
returns-in-Domain c = λ s.
    let told : Read4 (ipv4_of c.args.text.now) c.read_ipv4-four.result.bytes c.read_ipv4-four.result.kind = rw c.read_ipv4-four.ensures (read4 (ipv4_of c.args.text.now)) in
    rw (rw c.in-Domain.is at told, quad_nothing) (c.no_groups-in-Domain.ensures s)
