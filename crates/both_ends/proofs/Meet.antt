-- F-3: an opening and a proxy's end that fit each other meet, however the bytes went.
use Prim.Native.Nat.{ℕ, ◌+◌}
use mathlib.Core.Path.{◌≡◌, refl, ap, sym, ◌∙◌}
use mathlib.Core.Bool.{true, false}
use mathlib.Core.List.{List, [], ◌∷◌, ◌++◌, append_assoc}
use lib.ListN.{length, take}
use Rattle.protocol.specs.declared.AuthMethod.TheVariants.{NoAuth, UserPass}
use Rattle.protocol.specs.declared.Reply.TheVariants.{NegotiationRes, AuthenticationRes, ProxyRes}
use Rattle.protocol.specs.Bound.{Endpoint, unbound}
use Rattle.protocol.specs.Requests.{negotiation_req, authentication_req}
use Rattle.protocol.specs.Opening.{Opening, v5, v4, no_auth, user_pass, requests}
use Rattle.protocol.specs.Grammar.{method_00, method_02}
use Rattle.protocol.specs.Machine as client
use Rattle.proxy_spec.specs.End.{Setup, End, method_reply, login_reply, machine, used, used_by}
use Rattle.proxy.specs.Turns.{Given}
use Rattle.talk.specs.Lawful.{Begins}
use Rattle.both_ends.specs.Ends.{Sendable, SameCredentials, answer_to, all_sent, all_replies, all_requests, Arrived, Met}
use Rattle.both_ends.proofs.Begins.{begins_then}
use Rattle.both_ends.proofs.Requests.{greeted, signs, connecting_sends, signing_sends, asks_all}
use Rattle.both_ends.proofs.Replies.{heard_sends, first_sent, heard_first, heard_login, opens_all}

module _ (o : Opening) (c : Setup) (x : Endpoint) (toClient toEnd tail tail' : List ℕ) (a : Arrived o c x toClient toEnd tail tail') where
  to_end : (q : List ℕ) → Begins q (client.machine o toClient).sent → Begins q toEnd
  to_end q b = begins_then q (client.machine o toClient).sent toEnd b (tail', a.from_client)

  to_client : (w : List ℕ) → Begins w (machine c toEnd).sent → Begins w toClient
  to_client w b =
      let e = machine c toEnd in
      begins_then w e.sent toClient b (answer_to e.standing x ++ tail, a.from_end ∙ append_assoc e.sent (answer_to e.standing x) tail)

  first : Begins (client.sends (take 1 (requests o)) []) toEnd
  first = to_end (client.sends (take 1 (requests o)) []) (first_sent o toClient)

  -- a reply to the requests so far, and the request that follows it
  round : (q w q' : List ℕ) → ((r : List ℕ) → Begins w (machine c (q ++ r)).sent) → ((r : List ℕ) → Begins q' (client.machine o (w ++ r)).sent) → Begins q toEnd → Begins q' toEnd
  round q w q' f g (r, e) =
      let b : Begins w (machine c toEnd).sent = rw e (f r) in
      let (s, h) = to_client w b in
      to_end q' (rw h (g s))

  -- all requests are there
  meets : Sendable o → SameCredentials o c → Given x → Begins (all_requests o) toEnd → Met o c x toClient toEnd
  unfolding used client.used
  meets z g h (r, e) =
      let m = ap (machine c) e ∙ asks_all o c z g r in
      let s : all_sent (machine c toEnd) x ≡ all_replies o x = ap (λ (k : End). all_sent k x) m in
      let t = ap (client.machine o) (a.from_end ∙ ap (λ (l : List ℕ). l ++ tail) s) ∙ opens_all o x h tail in
      record {
        opened = ap (λ (k : client.Machine). k.outcome) t;
        bound = ap (λ (k : client.Machine). k.bound) t;
        asks_for = ap (λ (k : End). k.standing) m;
        requests_gone = ap (λ (k : client.Machine). k.sent) t;
        client_used = ap (λ (k : client.Machine). client.used_by k.outcome k.place toClient) t ∙ ap length (sym s);
        end_used = ap (λ (k : End). used_by k.standing k.place toEnd) m;
      }

-- over v5: a round, and with credentials two
all_there : (o : Opening) (c : Setup) (x : Endpoint) → SameCredentials o c → (toClient toEnd tail tail' : List ℕ) → Arrived o c x toClient toEnd tail tail' → Begins (all_requests o) toEnd
unfolding negotiation_req
all_there (v5 no_auth d port b) c x g toClient toEnd tail tail' a =
    let o = v5 no_auth d port b in
    round o c x toClient toEnd tail tail' a (negotiation_req NoAuth) (method_reply 0x00) (all_requests o)
    (λ r. rw (greeted c false r g) (connecting_sends (method_reply 0x00) 3 (5 ∷ 1 ∷ 0 ∷ r)))
    (λ r. rw (heard_first o (NegotiationRes NoAuth) (ProxyRes ∷ []) unbound (method_reply 0x00) r refl method_00) (heard_sends o 1 (ProxyRes ∷ []) unbound 2 (method_reply 0x00 ++ r)))
    (first o c x toClient toEnd tail tail' a)
all_there (v5 (user_pass u p) d port b) c x (g, (e, f)) toClient toEnd tail tail' a =
    let o = v5 (user_pass u p) d port b in
    let l = authentication_req u p in
    let next = round o c x toClient toEnd tail tail' a in
    next (negotiation_req UserPass ++ l) (method_reply 0x02 ++ login_reply 0x00) (all_requests o)
    (λ r. rw (signs c u p g e f r) (connecting_sends (method_reply 0x02 ++ login_reply 0x00) (3 + length l) (5 ∷ 1 ∷ 2 ∷ (l ++ r))))
    (λ r. rw (heard_login u p d port b r) (heard_sends o 2 (ProxyRes ∷ []) unbound 4 (method_reply 0x02 ++ (login_reply 0x00 ++ r))))
    (next (negotiation_req UserPass) (method_reply 0x02) (negotiation_req UserPass ++ l)
    (λ r. rw (greeted c true r g) (signing_sends c (method_reply 0x02) 3 (5 ∷ 1 ∷ 2 ∷ r)))
    (λ r. rw (heard_first o (NegotiationRes UserPass) (AuthenticationRes ∷ ProxyRes ∷ []) unbound (method_reply 0x02) r refl method_02) (heard_sends o 1 (AuthenticationRes ∷ ProxyRes ∷ []) unbound 2 (method_reply 0x02 ++ r)))
    (first o c x toClient toEnd tail tail' a))
all_there (v4 d port) c x g toClient toEnd tail tail' a = first (v4 d port) c x toClient toEnd tail tail' a

pub met : (o : Opening) (c : Setup) (x : Endpoint) → Sendable o → SameCredentials o c → Given x
    → (toClient toEnd tail tail' : List ℕ) → Arrived o c x toClient toEnd tail tail' → Met o c x toClient toEnd
met o c x z g h toClient toEnd tail tail' a = meets o c x toClient toEnd tail tail' a z g h (all_there o c x g toClient toEnd tail tail' a)

-- and there are such bytes: all requests and all replies
pub arrived : (o : Opening) (c : Setup) (x : Endpoint) → Sendable o → SameCredentials o c → Given x
    → (tail tail' : List ℕ) → Arrived o c x (all_replies o x ++ tail) (all_requests o ++ tail') tail tail'
arrived o c x z g h tail tail' =
    record {
      from_end = ap (λ (k : End). all_sent k x ++ tail) (sym (asks_all o c z g tail'));
      from_client = ap (λ (k : client.Machine). k.sent ++ tail') (sym (opens_all o x h tail));
    }
