use Rattle.protocol.specs.AddressReading.{ipv4_of, destination_of}
use Rattle.address_text.proofs.ipv4.Dots.{Read4, read4}
use Rattle.address_text.proofs.address.Names.{any_name}
use Rattle.address_text.proofs.address.read_address.Goals as goal

pub returns-then-lacks_mark : goal.returns-then-lacks_mark
returns-then-lacks_mark c = rw (c.lacks_mark.ensures c.if-lacks_mark.true) c.no_address.ensures

pub returns-in-Ipv4 : goal.returns-in-Ipv4
unfolding destination_of
returns-in-Ipv4 c =
    let told : Read4 (ipv4_of c.args.text.now) c.read_ipv4-four.result.bytes c.read_ipv4-four.result.kind = rw c.read_ipv4-four.ensures (read4 (ipv4_of c.args.text.now)) in
    let (bs, e, f) = rw c.in-Ipv4.is at told in
    rw e (rw e at c.read_ipv4-four.ensures)

pub returns-in-Ipv6 : goal.returns-in-Ipv6
unfolding destination_of
returns-in-Ipv6 c =
    let told : Read4 (ipv4_of c.args.text.now) c.read_ipv4-four.result.bytes c.read_ipv4-four.result.kind = rw c.read_ipv4-four.ensures (read4 (ipv4_of c.args.text.now)) in
    absurd (rw c.in-Ipv6.is at told)

pub returns-in-Domain : goal.returns-in-Domain
unfolding destination_of
returns-in-Domain c =
    let told : Read4 (ipv4_of c.args.text.now) c.read_ipv4-four.result.bytes c.read_ipv4-four.result.kind = rw c.read_ipv4-four.ensures (read4 (ipv4_of c.args.text.now)) in
    let e = rw c.in-Domain.is at told in
    rw (e, any_name) c.read_ipv6.ensures
