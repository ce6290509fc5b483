-- F-3: how much of the bytes that are there is a request, decided at the byte that shows it.
use Rattle.std.specs.Prelude.{ℕ, zero, suc, ◌+◌, Bool, cond, List, [], ◌∷◌, length, take, drop, leb, eqb}
use Rattle.protocol.specs.Bytes.{byte, two_of}
use Rattle.protocol.specs.AddressReading.{ipv4, ipv6, domain}
use Rattle.protocol.specs.Bound.{Endpoint, endpoint}
use Rattle.protocol.specs.Opening.{announces}

-- what the bytes show: nothing yet; that they go wrong at the last of so many; an address type that is not known, at the last of so many; or a
-- whole request of so many, and what it says
pub data Seen (A : Type 0) : Type 0 where
  short : Seen A
  wrong : ℕ → Seen A
  unknown : ℕ → Seen A
  whole : ℕ → A → Seen A

-- once so many bytes are there
abbrev pub from : {A : Type 0} → ℕ → List ℕ → Seen A → Seen A
from n bs seen = cond (leb n (length bs)) seen short

-- a test on the last of so many bytes
abbrev pub held : {A : Type 0} → Bool → ℕ → Seen A → Seen A
held b n seen = cond b seen (wrong n)

unfoldable pub greeting_in : List ℕ → Seen (List ℕ)
greeting_in bs =
    from 1 bs (held (eqb (byte bs 0) 0x05) 1
    (from 2 bs (held (leb 1 (byte bs 1)) 2
    (from (2 + byte bs 1) bs (whole (2 + byte bs 1) (take (byte bs 1) (drop 2 bs)))))))

-- the second length stands behind the user
abbrev pub password_at : List ℕ → ℕ
password_at bs = 2 + byte bs 1

unfoldable pub login_in : List ℕ → Seen (List ℕ × List ℕ)
login_in bs =
    from 1 bs (held (eqb (byte bs 0) 0x01) 1
    (from 2 bs (from (password_at bs + 1) bs
    (let n = password_at bs + 1 + byte bs (password_at bs) in
    from n bs (whole n (take (byte bs 1) (drop 2 bs), take (byte bs (password_at bs)) (drop (password_at bs + 1) bs)))))))

-- by the type, the fourth byte
unfoldable pub target_in : ℕ → List ℕ → Seen (ℕ × Endpoint)
target_in command bs =
    cond (eqb (byte bs 3) 0x01) (from 10 bs (whole 10 (command, endpoint (ipv4 (take 4 (drop 4 bs))) (two_of (drop 8 bs)))))
    (cond (eqb (byte bs 3) 0x04) (from 22 bs (whole 22 (command, endpoint (ipv6 (take 16 (drop 4 bs))) (two_of (drop 20 bs)))))
    (cond (eqb (byte bs 3) 0x03)
    (from 5 bs (held (leb 1 (byte bs 4)) 5
    (from (7 + byte bs 4) bs (whole (7 + byte bs 4) (command, endpoint (domain (take (byte bs 4) (drop 5 bs))) (two_of (drop (5 + byte bs 4) bs)))))))
    (unknown 4)))

-- the version, any command, the reserved byte, then the type
unfoldable pub connect_in : List ℕ → Seen (ℕ × Endpoint)
connect_in bs = from 1 bs (held (eqb (byte bs 0) 0x05) 1 (from 3 bs (held (eqb (byte bs 2) 0x00) 3 (from 4 bs (target_in (byte bs 1) bs)))))

-- a text up to a 00, of at most so many bytes: how many stand before the 00
unfoldable pub text_in : ℕ → List ℕ → Seen ℕ
text_in most [] = short
text_in zero (b ∷ bs) = cond (eqb b 0x00) (whole 1 0) (wrong 1)
text_in (suc most) (b ∷ bs) = cond (eqb b 0x00) (whole 1 0) (behind (text_in most bs))
  where
    behind : Seen ℕ → Seen ℕ
    behind short = short
    behind (wrong n) = wrong (suc n)
    behind (unknown n) = unknown (suc n)
    behind (whole n m) = whole (suc n) (suc m)

-- so many bytes further on
abbrev pub further : {A B : Type 0} → ℕ → Seen A → (ℕ → A → Seen B) → Seen B
further n short on = short
further n (wrong k) on = wrong (n + k)
further n (unknown k) on = unknown (n + k)
further n (whole k a) on = on (n + k) a

-- command, port and address are the bytes ahead of the user id
abbrev pub port_in : List ℕ → ℕ
port_in bs = two_of (drop 2 bs)

-- a name of which the 00 is the last of so many bytes; an empty one goes wrong at its 00
abbrev pub name_in : List ℕ → ℕ → ℕ → ℕ → Seen (ℕ × Endpoint)
name_in bs at n zero = wrong n
name_in bs at n (suc m) = whole n (byte bs 1, endpoint (domain (take (suc m) (drop at bs))) (port_in bs))

abbrev pub behind_user : List ℕ → ℕ → Seen (ℕ × Endpoint)
behind_user bs at =
    cond (announces (take 4 (drop 4 bs))) (further at (text_in 1014 (drop at bs)) (name_in bs at))
    (whole at (byte bs 1, endpoint (ipv4 (take 4 (drop 4 bs))) (port_in bs)))

unfoldable pub request_in : List ℕ → Seen (ℕ × Endpoint)
request_in bs = from 1 bs (held (eqb (byte bs 0) 0x04) 1 (from 8 bs (further 8 (text_in 255 (drop 8 bs)) (λ at m. behind_user bs at))))
