-- F-3: the proxy's end as a side of a handshake: its messages are the fields of a request, so that little is held. Written apart from the plain machine.
use Rattle.std.specs.Prelude.{ℕ, zero, suc, ◌+◌, ◌-◌, Bool, cond, ◌&&◌, ◌||◌, List, [], ◌∷◌, length, take, drop, leb, eqb}
use Rattle.protocol.specs.declared.SocksError.{SocksError}
use Rattle.protocol.specs.declared.SocksError.TheVariants.{Unsupported, Command, Settled, ShortOutput, Malformed, WrongCredentials}
use Rattle.protocol.specs.Bytes.{byte, two_of, same}
use Rattle.protocol.specs.declared.Version.TheVariants.{V4, V5}
use Rattle.protocol.specs.AddressReading.{Destination, ipv4, ipv6, domain}
use Rattle.protocol.specs.Bound.{Endpoint, endpoint}
use Rattle.protocol.specs.Opening.{announces}
use Rattle.proxy_spec.specs.Reads.{short, wrong, unknown, whole, Seen, text_in}
use Rattle.proxy_spec.specs.declared.Ports.{Ports}
use Rattle.proxy_spec.specs.declared.Field.{Field}
use Rattle.proxy_spec.specs.declared.Field.TheVariants.{First, Methods, User, Password, Head, Address, Request, UserId, Name}
use Rattle.proxy_spec.specs.End.{Setup, Asked, asked, Standing, waits, asks, fails, chosen, method_reply, login_reply, own_reply5, own_reply4, offers}
use Rattle.talk.specs.Decision.{Decision, undecided, decided, good, bad}
use Rattle.talk.specs.Talk.{done, failed, Talk, stop, send, await, Side, Session, waiting, ended}

-- ---- how a field is read

abbrev pub once : ℕ → List ℕ → Decision SocksError → Decision SocksError
once n bs d = cond (leb n (length bs)) d undecided

abbrev pub test : Bool → ℕ → Decision SocksError → Decision SocksError
test b n d = cond b d (decided n (bad Malformed))

abbrev pub read_address : ℕ → List ℕ → Decision SocksError
read_address type bs =
    cond (eqb type 0x01) (once 6 bs (decided 6 good))
    (cond (eqb type 0x04) (once 18 bs (decided 18 good)) (once 1 bs (test (leb 1 (byte bs 0)) 1 (once (3 + byte bs 0) bs (decided (3 + byte bs 0) good)))))

abbrev pub read_text : Seen ℕ → Decision SocksError
read_text short = undecided
read_text (wrong n) = decided n (bad Malformed)
read_text (unknown n) = decided n (bad Malformed)
read_text (whole n m) = decided n good

-- a name has a byte
abbrev pub read_name : Seen ℕ → Decision SocksError
read_name short = undecided
read_name (wrong n) = decided n (bad Malformed)
read_name (unknown n) = decided n (bad Malformed)
read_name (whole n zero) = decided n (bad Malformed)
read_name (whole n (suc m)) = decided n good

unfoldable pub reads : Field → List ℕ → Decision SocksError
reads First bs = once 1 bs (test (eqb (byte bs 0) 0x05 || eqb (byte bs 0) 0x04) 1 (decided 1 good))
reads Methods bs = once 1 bs (test (leb 1 (byte bs 0)) 1 (once (1 + byte bs 0) bs (decided (1 + byte bs 0) good)))
reads User bs = once 1 bs (test (eqb (byte bs 0) 0x01) 1 (once 2 bs (once (2 + byte bs 1) bs (decided (2 + byte bs 1) good))))
reads (Password right) bs = once 1 bs (once (1 + byte bs 0) bs (decided (1 + byte bs 0) good))
reads Head bs = once 1 bs (test (eqb (byte bs 0) 0x05) 1 (once 3 bs (test (eqb (byte bs 2) 0x00) 3 (once 4 bs (decided 4 good)))))
reads (Address command type) bs = read_address type bs
reads Request bs = once 7 bs (decided 7 good)
reads (UserId before) bs = read_text (text_in 255 bs)
reads (Name before) bs = read_name (text_in 1014 bs)

-- ---- the talk: answers that come ahead of failing are sent by what follows a good message

abbrev pub EndTalk : Type 0
EndTalk = Talk Field Asked SocksError

abbrev pub refuses : List ℕ → SocksError → EndTalk
refuses reply e = send reply (stop (failed e))

abbrev pub unless_other5 : ℕ → Endpoint → EndTalk
unless_other5 command x = cond (eqb command 1) (stop (done (asked V5 x))) (refuses (own_reply5 7) (Command 7))

abbrev pub target_of : ℕ → List ℕ → Endpoint
target_of type m =
    cond (eqb type 0x01) (endpoint (ipv4 (take 4 m)) (two_of (drop 4 m)))
    (cond (eqb type 0x04) (endpoint (ipv6 (take 16 m)) (two_of (drop 16 m)))
    (endpoint (domain (take (byte m 0) (drop 1 m))) (two_of (drop (1 + byte m 0) m))))

abbrev pub at_address : ℕ → ℕ → EndTalk
at_address command type = await (Address command type) (λ m. unless_other5 command (target_of type m))

abbrev pub is_known : ℕ → Bool
is_known type = eqb type 0x01 || (eqb type 0x04 || eqb type 0x03)

abbrev pub at_head : EndTalk
at_head = await Head (λ m. cond (is_known (byte m 3)) (at_address (byte m 1) (byte m 3)) (refuses (own_reply5 8) (Command 8)))

abbrev pub at_password : Setup → Bool → EndTalk
at_password c right =
    await (Password right) (λ m. cond (right && same (drop 1 m) c.password) (send (login_reply 0x00) at_head) (refuses (login_reply 0x01) WrongCredentials))

abbrev pub at_user : Setup → EndTalk
at_user c = await User (λ m. at_password c (same (drop 2 m) c.user))

abbrev pub at_methods : Setup → EndTalk
at_methods c =
    await Methods (λ m.
    cond (offers (chosen c.authenticates) (drop 1 m))
    (send (method_reply (chosen c.authenticates)) (cond c.authenticates (at_user c) at_head))
    (refuses (method_reply 0xFF) Unsupported))

-- the seven bytes ahead of a v4 request's user id, and the address among them
abbrev pub ports_of : List ℕ → Ports
ports_of m = record { command = byte m 0; port = two_of (drop 1 m); first = byte m 3; second = byte m 4; third = byte m 5; fourth = byte m 6 }

abbrev pub ip_of : Ports → List ℕ
ip_of p = p.first ∷ p.second ∷ p.third ∷ p.fourth ∷ []

abbrev pub unless_other4 : Setup → Ports → Destination → EndTalk
unless_other4 c p d =
    cond c.authenticates (refuses (own_reply4 91) WrongCredentials)
    (cond (eqb p.command 1) (stop (done (asked V4 (endpoint d p.port)))) (refuses (own_reply4 91) (Command 91)))

abbrev pub at_name : Setup → Ports → EndTalk
at_name c p = await (Name p) (λ m. unless_other4 c p (domain (take (length m - 1) m)))

abbrev pub at_user_id : Setup → Ports → EndTalk
at_user_id c p = await (UserId p) (λ m. cond (announces (ip_of p)) (at_name c p) (unless_other4 c p (ipv4 (ip_of p))))

abbrev pub at_request : Setup → EndTalk
at_request c = await Request (λ m. at_user_id c (ports_of m))

abbrev pub at_first : Setup → EndTalk
at_first c = await First (λ m. cond (eqb (byte m 0) 0x05) (at_methods c) (at_request c))

abbrev pub talk_at : Setup → Field → EndTalk
talk_at c First = at_first c
talk_at c Methods = at_methods c
talk_at c User = at_user c
talk_at c (Password right) = at_password c right
talk_at c Head = at_head
talk_at c (Address command type) = at_address command type
talk_at c Request = at_request c
talk_at c (UserId p) = at_user_id c p
talk_at c (Name p) = at_name c p

abbrev pub server : Setup → Side
server c =
    record {
      Stage = Field;
      Result = Asked;
      Error = SocksError;
      reads = reads;
      talk_at = talk_at c;
      over = Settled;
      short = ShortOutput;
    }

-- ---- the plain machine's state that the talk, fed with bytes, stands for

abbrev pub EndSession : Type 0
EndSession = Session Field Asked SocksError

abbrev pub standing_of : EndSession → Standing
standing_of (waiting s held) = waits
standing_of (ended (done x)) = asks x
standing_of (ended (failed e)) = fails e
