use native.Mathlib.Omega.{arith}
use Rattle.replies.proofs.unread.Reading.{any_byte}
use Rattle.replies.proofs.unread.read_reply.Goals as goal

pub returns-in-NegotiationRes : goal.returns-in-NegotiationRes
returns-in-NegotiationRes c =
    (rw c.in-NegotiationRes.is c.read_negotiation_res.ensures, any_byte c.args.held.now c.args.piece.now (λ i. let h = c.type_inv.held i in omega arith) (λ i. let h = c.type_inv.piece i in omega arith) 4)

pub returns-in-AuthenticationRes : goal.returns-in-AuthenticationRes
returns-in-AuthenticationRes c =
    (rw c.in-AuthenticationRes.is c.read_authentication_res.ensures, any_byte c.args.held.now c.args.piece.now (λ i. let h = c.type_inv.held i in omega arith) (λ i. let h = c.type_inv.piece i in omega arith) 4)

pub returns-in-ProxyRes : goal.returns-in-ProxyRes
returns-in-ProxyRes c =
    (rw c.in-ProxyRes.is c.read_proxy_res.ensures, any_byte c.args.held.now c.args.piece.now (λ i. let h = c.type_inv.held i in omega arith) (λ i. let h = c.type_inv.piece i in omega arith) 4)

pub returns-in-Response : goal.returns-in-Response
returns-in-Response c =
    (rw c.in-Response.is c.read_response.ensures, any_byte c.args.held.now c.args.piece.now (λ i. let h = c.type_inv.held i in omega arith) (λ i. let h = c.type_inv.piece i in omega arith) 4)
