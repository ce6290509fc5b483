-- What the proxy's end wants, by the field that it awaits, the bytes held of it, and what the end was set up with.
use Rattle.std.specs.Prelude.{ℕ, ◌+◌, ◌-◌, Bool, true, cond, not, ◌&&◌, List, length, take, drop, leb, ltb, eqb}
use Rattle.protocol.specs.Bytes.{byte, same}
use Rattle.protocol.specs.Opening.{announces}
use Rattle.proxy_spec.specs.declared.Ports.{Ports}
use Rattle.proxy_spec.specs.declared.Field.{Field}
use Rattle.proxy_spec.specs.declared.Field.TheVariants.{First, Methods, User, Password, Head, Address, Request, UserId, Name}
use Rattle.proxy_spec.specs.End.{Setup}
use Rattle.proxy_spec.specs.Side.{EndSession, ip_of}
use Rattle.talk.specs.Talk.{waiting, ended}

-- what bytes lack to so many: one at the least, since nothing is decided yet
abbrev pub lacking : ℕ → List ℕ → ℕ
lacking n bs = cond (ltb (length bs) n) (n - length bs) 1

-- ---- the shortest requests from a field on: a connect with a name of one byte; PLEN, PASSWD and a connect; credentials and a connect

abbrev pub from_head : ℕ
from_head = 8

abbrev pub from_password : List ℕ → ℕ
from_password password = 1 + length password + from_head

abbrev pub from_user : List ℕ → List ℕ → ℕ
from_user user password = 2 + length user + from_password password

-- behind a greeting
abbrev pub from_login : Setup → ℕ
from_login c = cond c.authenticates (from_user c.user c.password) from_head

-- ---- by the held bytes

-- they may still become a text: its length stands at a place, the text behind it
unfoldable pub agrees : ℕ → List ℕ → List ℕ → Bool
agrees at bs text = cond (ltb at (length bs)) (eqb (byte bs at) (length text) && same (drop (at + 1) bs) (take (length bs - (at + 1)) text)) true

-- with credentials set only v5 leads to a question; else v4 is the shorter: the version, CD, DSTPORT, DSTIP and a NULL
abbrev pub wants_first : Setup → ℕ
wants_first c = cond c.authenticates (3 + from_user c.user c.password) 9

-- behind a count the chosen method may still come; a count of one is the least
abbrev pub wants_methods : Setup → List ℕ → ℕ
wants_methods c bs = lacking (cond (leb 1 (length bs)) (1 + byte bs 0) 2 + from_login c) bs

-- another user fails behind a password, of which an empty one is the shortest
abbrev pub wants_user : List ℕ → List ℕ → List ℕ → ℕ
wants_user user password bs = cond (agrees 1 bs user) (lacking (from_user user password) bs) (lacking (3 + byte bs 1) bs)

abbrev pub wants_password : List ℕ → Bool → List ℕ → ℕ
wants_password password right bs = cond (right && agrees 0 bs password) (lacking (from_password password) bs) (lacking (1 + byte bs 0) bs)

-- behind a command other than 1 a reserved byte or a type that is wrong settles it
abbrev pub wants_head : List ℕ → ℕ
wants_head bs = cond (leb 2 (length bs) && not (eqb (byte bs 1) 1)) 1 (lacking from_head bs)

-- a name of one byte and the port; behind a command other than 1 a length of 0 settles it
abbrev pub address_size : ℕ → ℕ → List ℕ → ℕ
address_size command type bs = cond (eqb type 0x01) 6 (cond (eqb type 0x04) 18 (cond (leb 1 (length bs)) (3 + byte bs 0) (cond (eqb command 1) 4 1)))

-- whether a whole v4 request is asked for
abbrev pub takes4 : Bool → Ports → Bool
takes4 authenticates p = not authenticates && eqb p.command 1

-- a NULL, and a name of one byte and its NULL; else a NULL for each, or a byte too many
abbrev pub wants_user_id : Bool → Ports → List ℕ → ℕ
wants_user_id authenticates p bs = cond (announces (ip_of p)) (cond (takes4 authenticates p) 3 (cond (leb 255 (length bs)) 1 2)) 1

abbrev pub wants_name : Bool → Ports → List ℕ → ℕ
wants_name authenticates p bs = cond (takes4 authenticates p && ltb (length bs) 1) 2 1

unfoldable pub wants_at : Setup → Field → List ℕ → ℕ
wants_at c First bs = wants_first c
wants_at c Methods bs = wants_methods c bs
wants_at c User bs = wants_user c.user c.password bs
wants_at c (Password right) bs = wants_password c.password right bs
wants_at c Head bs = wants_head bs
wants_at c (Address command type) bs = lacking (address_size command type bs) bs
wants_at c Request bs = lacking 8 bs
wants_at c (UserId p) bs = wants_user_id c.authenticates p bs
wants_at c (Name p) bs = wants_name c.authenticates p bs

-- nothing once it is settled
abbrev pub wants_by : Setup → EndSession → ℕ
wants_by c (waiting f held) = wants_at c f held
wants_by c (ended e) = 0
