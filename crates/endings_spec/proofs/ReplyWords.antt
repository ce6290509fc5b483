-- F-12, the words of a reply: a good one, a bad one, and the bytes at which it ends. Words.antt holds them to what is decided.
use Prim.Native.Nat.{ℕ}
use Rattle.std.specs.Prelude.{Option, None, Some}
use mathlib.Core.List.{List, [], ◌∷◌}
use Rattle.protocol.specs.declared.AuthMethod.{AuthMethod}
use Rattle.protocol.specs.declared.AuthMethod.TheVariants.{NoAuth, UserPass, NoneAcceptable}
use Rattle.protocol.specs.declared.Reply.{Reply}
use Rattle.protocol.specs.declared.Reply.TheVariants.{NegotiationRes, AuthenticationRes, ProxyRes, Response}
use Rattle.endings_spec.specs.declared.OutcomeStatus.{OutcomeStatus}
use Rattle.endings_spec.specs.Streams.{connect_reply, v4_reply, is_of, if}

-- a good one
abbrev pub good_for : Reply → Option (List ℕ)
good_for (NegotiationRes NoAuth) = Some (0x05 ∷ 0x00 ∷ [])
good_for (NegotiationRes UserPass) = Some (0x05 ∷ 0x02 ∷ [])
good_for (NegotiationRes NoneAcceptable) = None
good_for AuthenticationRes = Some (0x01 ∷ 0x00 ∷ [])
good_for ProxyRes = Some (connect_reply 0x00)
good_for Response = Some (v4_reply 0x5A)

-- a method that was not offered
abbrev pub other_method : AuthMethod → ℕ
other_method NoAuth = 0x02
other_method UserPass = 0x00
other_method NoneAcceptable = 0x00

-- a bad one, by its failure's number and status
unfoldable pub bad_for : OutcomeStatus → Reply → Option (List ℕ)
bad_for w (NegotiationRes sent) =
    if (is_of w 10 0 0) (0x00 ∷ 0x00 ∷ []) (if (is_of w 12 0 0) (0x05 ∷ 0xFF ∷ []) (if (is_of w 13 0 0) (0x05 ∷ other_method sent ∷ []) None))
bad_for w AuthenticationRes = if (is_of w 10 0 0) (0x00 ∷ 0x00 ∷ []) (if (is_of w 14 0 0) (0x01 ∷ 0x01 ∷ []) None)
bad_for w ProxyRes = if (is_of w 10 0 0) (0x00 ∷ 0x00 ∷ 0x00 ∷ []) (if (is_of w 15 1 8) (connect_reply w.status) None)
bad_for w Response = if (is_of w 10 0 0) (v4_reply 0x00) (if (is_of w 15 91 93) (v4_reply w.status) None)

-- at which it ends so: nothing comes, or a bad one
unfoldable pub ends_for : OutcomeStatus → Reply → Option (List ℕ)
ends_for w e = if (is_of w 9 0 0) [] (bad_for w e)
