-- The texts of errors' numbers and of the statuses that a proxy answers.
use Rattle.std.specs.Prelude.{ℕ, ◌-◌, ◌≡◌, cond, List, [], ◌∷◌, ◌++◌, length, drop, get_or, eqb, ltb}
use Rattle.protocol.specs.Examples.{text}

unfoldable pub unknown_error : List ℕ
unknown_error = text "unknown error"

-- from 0 on; there is no error 11
unfoldable pub error_texts : List (List ℕ)
error_texts =
    text "no error"
    ∷ text "the output buffer is too short"
    ∷ text "the host is missing"
    ∷ text "the host has a byte that no host has"
    ∷ text "the port is missing"
    ∷ text "the user or the password has more than 255 bytes"
    ∷ text "the host name is too long"
    ∷ text "SOCKS4 takes no IPv6 address"
    ∷ text "the lookup found no address that serves"
    ∷ text "the other side closed within the handshake"
    ∷ text "the proxy's reply is malformed"
    ∷ unknown_error
    ∷ text "no authentication method is acceptable"
    ∷ text "the proxy chose a method that was not offered"
    ∷ text "the proxy refused the user and password"
    ∷ text "the proxy refused the request; the status says why"
    ∷ text "the call is out of turn, or the handshake is settled"
    ∷ text "the session is not open"
    ∷ text "the text buffer is too short"
    ∷ text "the client's request is malformed"
    ∷ text "the client's user or password is wrong"
    ∷ text "a route takes one to eight proxies"
    ∷ text "the session is not started, or was started before"
    ∷ text "SOCKS4 cannot ask for an address 0.0.0.x"
    ∷ text "the proxy line goes wrong"
    ∷ text "an entry runs past the capture's end"
    ∷ text "the capture is not a lawful handshake"
    ∷ text "the stream buffer is too short"
    ∷ []

unfoldable pub error_text : ℕ → List ℕ
error_text n = get_or error_texts n unknown_error

unfoldable pub unassigned : List ℕ
unassigned = text "unassigned"

-- RFC 1928, section 6: REP from 0 on
unfoldable pub texts5 : List (List ℕ)
texts5 =
    text "succeeded"
    ∷ text "general SOCKS server failure"
    ∷ text "connection not allowed by ruleset"
    ∷ text "network unreachable"
    ∷ text "host unreachable"
    ∷ text "connection refused"
    ∷ text "TTL expired"
    ∷ text "command not supported"
    ∷ text "address type not supported"
    ∷ []

-- the SOCKS4 memo: CD from 90 on
unfoldable pub texts4 : List (List ℕ)
texts4 =
    text "request granted"
    ∷ text "request rejected or failed"
    ∷ text "request rejected: cannot connect to identd on the client"
    ∷ text "request rejected: client and identd report different user-ids"
    ∷ []

-- any version but 5 is 4
unfoldable pub status_text : ℕ → ℕ → List ℕ
status_text version status =
    cond (eqb version 5) (get_or texts5 status unassigned)
    (cond (ltb status 90) unassigned (get_or texts4 (status - 90) unassigned))

-- a text at a buffer's start: its length is told, and the bytes behind it are as they were
pub record Copies (text : List ℕ) (buffer : List ℕ) (r : ℕ) (buffer' : List ℕ) : Type 0 where
  pub len : r ≡ length text
  pub bytes : buffer' ≡ text ++ drop (length text) buffer
