use Rattle.address_format.proofs.endpoint.Texts.{host_four, host_six, host_name, adds}
use native.Mathlib.Omega.{arith}
use borrow.Author.Rules.{rules}
use Rattle.address_format.proofs.endpoint.put_host.Goals as goal

pub put_ipv4-requires : goal.put_ipv4-requires
put_ipv4-requires c = (rw c.in-Ipv4.is at c.requires.0, search rules)

pub put_ipv6-requires : goal.put_ipv6-requires
put_ipv6-requires c = (rw c.in-Ipv6.is at c.requires.0, search rules)

pub returns-in-Ipv4 : goal.returns-in-Ipv4
returns-in-Ipv4 c =
    let a = c.args in
    record { upper_bound = search rules; adds = rw (host_four a.kind a.bytes.now c.in-Ipv4.is) c.put_ipv4.ensures.adds }

pub returns-in-Ipv6 : goal.returns-in-Ipv6
returns-in-Ipv6 c =
    let a = c.args in
    record { upper_bound = search rules; adds = rw (host_six a.kind a.bytes.now c.in-Ipv6.is) c.put_ipv6.ensures.adds }

pub returns-in-Domain : goal.returns-in-Domain
returns-in-Domain c =
    let a = c.args in
    record { upper_bound = omega (arith, c.copy.ensures.place); adds = rw (host_name a.kind a.bytes.now c.in-Domain.is) (adds c.copy.ensures) }
