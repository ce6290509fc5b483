-- The lines that document 01 marks with †, computed by the calls: preparing and a start, then the bytes received in two deliveries.
use Rattle.std.specs.Prelude.{ℕ, ◌-◌, ◌≡◌, List, [], ◌∷◌, map, take, drop, replicate}
use Rattle.protocol.specs.Answers.{Answer, Accepted, Refused}
use Rattle.protocol.specs.Numbers.{number, status, answer_number}
use Rattle.protocol.specs.Opening.{V5}
use Rattle.protocol.specs.Examples.{Case, host, over5, over4, Shown, fails, shown, computed, open5, signed5, open4, address, success}
use Rattle.client_session.specs.Session.{outcome, wants}
use Rattle.client_session.specs.declared.Session.{Session}
use Rattle.client_session.specs.Calls.{Call, prepare5, prepare4, start, deliver, end}
use Rattle.socks.specs.InTwo.{in_two}
use Rattle.socks.specs.Demand3.{receiver}
use Rattle.talk.specs.Tunnel.{Delivery, after, tunnel}

-- a piece with an output of so many bytes
abbrev pub lent : ℕ → List ℕ → Delivery
lent room piece = record { piece = piece; output = replicate room 0xEE }

-- the bytes cut behind so many of them
abbrev pub cut_at : ℕ → ℕ → List ℕ → List Delivery
cut_at room n bs = lent room (take n bs) ∷ lent room (drop n bs) ∷ []

abbrev pub ran_by : Answer → ℕ → Call → List Delivery → (Shown → ℕ → List ℕ → Case) → Case
ran_by Accepted room c ds made = let t = tunnel (receiver room) c.session (take c.sent c.output) ds in made (shown (outcome t.session)) t.count t.sent
ran_by (Refused e) room c ds made = made (fails (number e) (status e)) c.used (take c.sent c.output)

abbrev pub ran : ℕ → Call → List Delivery → (Shown → ℕ → List ℕ → Case) → Case
ran room c ds made = ran_by c.answer room c ds made

-- a case as the calls have it, each lent what it asks; a host has no call of its own
abbrev pub called : ℕ → Case → Case
called n (host h s d) = computed (host h s d)
called n (over5 a bs r u q) = ran 778 (in_two (prepare5 a) (replicate 778 0xEE)) (cut_at 778 n bs) (over5 a bs)
called n (over4 a bs r u q) = ran 262 (in_two (prepare4 a) (replicate 1024 0xEE)) (cut_at 262 n bs) (over4 a bs)

abbrev pub number_of : Call → ℕ
number_of c = answer_number c.answer

-- F-7, worked: the numbers that calls on a prepared session answer in turn: a delivery and an end before the start, which lend nothing; a start with one byte less
-- than it asks, one with enough, and a second
abbrev pub in_turn : Session → ℕ → List ℕ
in_turn s room =
    let begun = start s (replicate room 0xEE) in
    number_of (deliver s (0x05 ∷ []) []) ∷ number_of (end s) ∷ number_of (start s (replicate (room - 1) 0xEE)) ∷ number_of begun ∷ number_of (start begun.session []) ∷ []

pub record Turns : Type 0 where
  pub over5 : in_turn (prepare5 (open5 address)).session 778 ≡ 22 ∷ 22 ∷ 1 ∷ 0 ∷ 22 ∷ []
  pub over4 : in_turn (prepare4 (open4 address)).session 1024 ≡ 22 ∷ 22 ∷ 1 ∷ 0 ∷ 22 ∷ []

-- F-11, worked: the attempts of replies that open, delivered at once and byte by byte
abbrev pub singly : List ℕ → List Delivery
singly bs = map (λ b. lent 778 (b ∷ [])) bs

abbrev pub tried_by : V5 → List Delivery → ℕ
tried_by a ds = (after (receiver 778) (in_two (prepare5 a) (replicate 778 0xEE)).session ds).attempts

pub record Tries : Type 0 where
  pub plain : tried_by (open5 address) (lent 778 (0x05 ∷ 0x00 ∷ success) ∷ []) ≡ 2
  pub plainly_singly : tried_by (open5 address) (singly (0x05 ∷ 0x00 ∷ success)) ≡ 13
  pub signed : tried_by (signed5 address 1 1) (lent 778 (0x05 ∷ 0x02 ∷ 0x01 ∷ 0x00 ∷ success) ∷ []) ≡ 3
  pub signed_singly : tried_by (signed5 address 1 1) (singly (0x05 ∷ 0x02 ∷ 0x01 ∷ 0x00 ∷ success)) ≡ 16

-- how many bytes are wanted, worked: behind each of some beginnings, delivered at once
abbrev pub wants5 : V5 → List ℕ → ℕ
wants5 a bs = wants (after (receiver 778) (in_two (prepare5 a) (replicate 778 0xEE)).session (lent 778 bs ∷ []))

abbrev pub wants4 : List ℕ → ℕ
wants4 bs = wants (after (receiver 262) (in_two (prepare4 (open4 address)) (replicate 1024 0xEE)).session (lent 262 bs ∷ []))

-- behind the method reply, what came of the connect reply
abbrev pub wants_then : List ℕ → ℕ
wants_then bs = wants5 (open5 address) (0x05 ∷ 0x00 ∷ bs)

pub record Wanting : Type 0 where
  pub plain : map (wants5 (open5 address)) ([] ∷ (0x05 ∷ []) ∷ (0x05 ∷ 0x00 ∷ []) ∷ (0x05 ∷ 0x00 ∷ success) ∷ []) ≡ 10 ∷ 9 ∷ 8 ∷ 0 ∷ []
  pub signed : map (wants5 (signed5 address 1 1)) ([] ∷ (0x05 ∷ []) ∷ (0x05 ∷ 0x02 ∷ []) ∷ (0x05 ∷ 0x02 ∷ 0x01 ∷ []) ∷ (0x05 ∷ 0x02 ∷ 0x01 ∷ 0x00 ∷ []) ∷ []) ≡ 12 ∷ 11 ∷ 10 ∷ 9 ∷ 8 ∷ []
  pub old : map wants4 ([] ∷ (0x00 ∷ []) ∷ (0x00 ∷ 0x5A ∷ 0x00 ∷ []) ∷ []) ≡ 8 ∷ 7 ∷ 5 ∷ []
  -- a name, an IPv4 and an IPv6 address
  pub connects : map wants_then ((0x05 ∷ []) ∷ (0x05 ∷ 0x00 ∷ []) ∷ (0x05 ∷ 0x00 ∷ 0x00 ∷ []) ∷ (0x05 ∷ 0x00 ∷ 0x00 ∷ 0x03 ∷ []) ∷ (0x05 ∷ 0x00 ∷ 0x00 ∷ 0x03 ∷ 0x09 ∷ []) ∷ (0x05 ∷ 0x00 ∷ 0x00 ∷ 0x01 ∷ []) ∷ (0x05 ∷ 0x00 ∷ 0x00 ∷ 0x04 ∷ []) ∷ []) ≡ 7 ∷ 6 ∷ 5 ∷ 4 ∷ 11 ∷ 6 ∷ 18 ∷ []
  -- what can only fail: a version; a status, which a bad reserved byte, a bad type, a name without bytes settles sooner; a name that is not UTF-8, as any other
  pub fails : map (wants5 (open5 address)) ((0x04 ∷ []) ∷ []) ≡ 1 ∷ []
  pub fails_then : map wants_then ((0x04 ∷ []) ∷ (0x05 ∷ 0x05 ∷ []) ∷ (0x05 ∷ 0x05 ∷ 0x00 ∷ []) ∷ (0x05 ∷ 0x05 ∷ 0x00 ∷ 0x03 ∷ []) ∷ (0x05 ∷ 0x05 ∷ 0x00 ∷ 0x04 ∷ []) ∷ (0x05 ∷ 0x00 ∷ 0x00 ∷ 0x02 ∷ []) ∷ (0x05 ∷ 0x00 ∷ 0x00 ∷ 0x03 ∷ 0x09 ∷ 0xFF ∷ []) ∷ []) ≡ 2 ∷ 1 ∷ 2 ∷ 1 ∷ 18 ∷ 1 ∷ 10 ∷ []
  -- prepared and not started
  pub prepared : wants (prepare5 (open5 address)).session ≡ 0
