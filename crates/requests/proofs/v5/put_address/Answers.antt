use native.Mathlib.Omega.{arith}
use Rattle.protocol.specs.Requests.{address_field}
use Rattle.requests.proofs.v5.put_address.Goals as goal

pub put_typed-requires : goal.put_typed-requires
put_typed-requires c = let p = rw c.in-Ipv4.is at c.requires.1 in omega arith

pub put_typed-requires-in-Ipv6 : goal.put_typed-requires-in-Ipv6
put_typed-requires-in-Ipv6 c = let p = rw c.in-Ipv6.is at c.requires.1 in omega arith

pub put_named-requires : goal.put_named-requires
put_named-requires c = let p = rw c.in-Domain.is at c.requires.1 in (c.requires.0, omega arith)

pub returns-in-Ipv4 : goal.returns-in-Ipv4
unfolding address_field
returns-in-Ipv4 c = rw c.in-Ipv4.is c.put_typed.ensures

pub returns-in-Ipv6 : goal.returns-in-Ipv6
unfolding address_field
returns-in-Ipv6 c = rw c.in-Ipv6.is c.put_typed-in-Ipv6.ensures

pub returns-in-Domain : goal.returns-in-Domain
returns-in-Domain c = rw c.in-Domain.is c.put_named.ensures
