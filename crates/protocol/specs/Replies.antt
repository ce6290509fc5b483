-- Document 01, "The call: reading replies": the prefix at which a reply is decided, and how.
use Rattle.std.specs.Prelude.{ℕ, ◌+◌, Bool, cond, ◌&&◌, ◌||◌, not, List, length, take, drop, leb, eqb}
use Rattle.protocol.specs.declared.AuthMethod.{AuthMethod}
use Rattle.protocol.specs.declared.SocksError.TheVariants.{Parsing, Unsupported, MethodMismatch, Failed, Command}
use Rattle.protocol.specs.declared.Reply.{Reply}
use Rattle.protocol.specs.declared.Reply.TheVariants.{NegotiationRes, AuthenticationRes, ProxyRes, Response}
use Rattle.protocol.specs.Answers.{Verdict, Good, Bad, Decision, Undecided, Decided}
use Rattle.protocol.specs.Bytes.{byte}
use Rattle.protocol.specs.Requests.{method_byte}
use Rattle.protocol.specs.Utf8.{is_utf8}

-- with at least n bytes, what is given; else undecided
abbrev pub upon : ℕ → List ℕ → Decision → Decision
upon n bs d = cond (leb n (length bs)) d Undecided

-- Method reply: VER, METHOD (RFC 1928, section 3)
unfoldable pub negotiation_verdict : AuthMethod → ℕ → ℕ → Verdict
negotiation_verdict sent ver method =
    cond (eqb ver 0x05)
    (cond (eqb method 0x00 || (eqb method 0x02 || eqb method 0xFF))
    (cond (eqb method 0xFF) (Bad Unsupported) (cond (eqb method (method_byte sent)) Good (Bad MethodMismatch)))
    (Bad Parsing))
    (Bad Parsing)

-- Credential reply: VER, STATUS (RFC 1929, section 2)
unfoldable pub authentication_verdict : ℕ → ℕ → Verdict
authentication_verdict ver status = cond (eqb ver 0x01) (cond (eqb status 0x00) Good (Bad Failed)) (Bad Parsing)

-- v4 reply: VN, CD (the SOCKS4 memo)
unfoldable pub response_verdict : ℕ → ℕ → Verdict
response_verdict vn cd =
    cond (eqb vn 0x00)
    (cond (leb 90 cd && leb cd 93) (cond (eqb cd 90) Good (Bad (Command cd))) (Bad Parsing))
    (Bad Parsing)

-- Connect reply: VER, REP, RSV, ATYP, BND.ADDR, BND.PORT (RFC 1928, section 6)

-- VER, REP and RSV may stand
unfoldable pub head_allowed : ℕ → ℕ → ℕ → Bool
head_allowed ver rep rsv = eqb ver 0x05 && (leb rep 0x08 && eqb rsv 0x00)

-- ATYP may stand, with the byte after it
unfoldable pub type_allowed : ℕ → ℕ → Bool
type_allowed atyp len = eqb atyp 0x01 || (eqb atyp 0x04 || (eqb atyp 0x03 && leb 1 len))

-- how many bytes it has in all
unfoldable pub proxy_size : ℕ → ℕ → ℕ
proxy_size atyp len = cond (eqb atyp 0x01) 10 (cond (eqb atyp 0x04) 22 (7 + len))

-- the name of ATYP 03
unfoldable pub name_field : List ℕ → List ℕ
name_field bs = take (byte bs 4) (drop 5 bs)

-- a whole one: a name is UTF-8, and REP says how it went
unfoldable pub proxy_verdict : ℕ → ℕ → List ℕ → Verdict
proxy_verdict rep atyp s = cond (not (eqb atyp 0x03) || is_utf8 s) (cond (eqb rep 0x00) Good (Bad (Command rep))) (Bad Parsing)

-- at its whole size, at 5 bytes, and at 3
abbrev pub whole_at : ℕ → List ℕ → Decision
whole_at size bs = upon size bs (Decided size (proxy_verdict (byte bs 1) (byte bs 3) (name_field bs)))

abbrev pub type_at : List ℕ → Decision
type_at bs = upon 5 bs (cond (type_allowed (byte bs 3) (byte bs 4)) (whole_at (proxy_size (byte bs 3) (byte bs 4)) bs) (Decided 5 (Bad Parsing)))

unfoldable pub proxy_at : List ℕ → Decision
proxy_at bs = upon 3 bs (cond (head_allowed (byte bs 0) (byte bs 1) (byte bs 2)) (type_at bs) (Decided 3 (Bad Parsing)))

-- a reply on the unread bytes
unfoldable pub decide : Reply → List ℕ → Decision
decide (NegotiationRes sent) bs = upon 2 bs (Decided 2 (negotiation_verdict sent (byte bs 0) (byte bs 1)))
decide AuthenticationRes bs = upon 2 bs (Decided 2 (authentication_verdict (byte bs 0) (byte bs 1)))
decide ProxyRes bs = proxy_at bs
decide Response bs = upon 8 bs (Decided 8 (response_verdict (byte bs 0) (byte bs 1)))
