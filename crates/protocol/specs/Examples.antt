-- The lines that document 01 marks with †, as cases: what goes in, and what must come of it.
use Rattle.std.specs.Prelude.{ℕ, true, false, List, [], ◌∷◌, ◌++◌, replicate}
use Prim.Native.Char.{code}
use Prim.Native.String.{String, [] as empty, ◌∷◌ as ◌⋮◌}
use Rattle.protocol.specs.Answers.{Given, Answer, Accepted, Refused}
use Rattle.protocol.specs.declared.Outcome.{Outcome}
use Rattle.protocol.specs.declared.Outcome.TheVariants.{Waiting, Open, Failed}
use Rattle.protocol.specs.Numbers.{number, status}
use Rattle.protocol.specs.Host.{strip}
use Rattle.protocol.specs.AddressReading.{Destination, ipv6, domain, destination_of}
use Rattle.protocol.specs.Opening.{V5, V4, check5, check4, opening5, opening4}
use Rattle.protocol.specs.Machine.{machine, used}

-- the bytes of an ASCII text
abbrev pub text : String → List ℕ
text empty = []
text (c ⋮ s) = code c ∷ text s

-- an outcome with 01's number and status
pub data Shown : Type 0 where
  waits opens : Shown
  fails : ℕ → ℕ → Shown

abbrev pub shown : Outcome → Shown
shown Waiting = waits
shown Open = opens
shown (Failed e) = fails (number e) (status e)

-- a host: its bytes, the same stripped, and what they are
-- a session: its arguments and the bytes received; its outcome, how many bytes it used, and the bytes sent
pub data Case : Type 0 where
  host : List ℕ → List ℕ → Destination → Case
  over5 : V5 → List ℕ → Shown → ℕ → List ℕ → Case
  over4 : V4 → List ℕ → Shown → ℕ → List ℕ → Case

abbrev pub run5 : V5 → List ℕ → Answer → Case
run5 a bs Accepted = let o = opening5 a in over5 a bs (shown (machine o bs).outcome) (used o bs) (machine o bs).sent
run5 a bs (Refused e) = over5 a bs (fails (number e) (status e)) 0 []

abbrev pub run4 : V4 → List ℕ → Answer → Case
run4 a bs Accepted = let o = opening4 a in over4 a bs (shown (machine o bs).outcome) (used o bs) (machine o bs).sent
run4 a bs (Refused e) = over4 a bs (fails (number e) (status e)) 0 []

-- a case as the definitions have it
abbrev pub computed : Case → Case
computed (host h s d) = host h (strip h) (destination_of (strip h))
computed (over5 a bs r n q) = run5 a bs (check5 a)
computed (over4 a bs r n q) = run4 a bs (check4 a)

-- plain openings, port 443: v5 without credentials, v5 with, v4
abbrev pub open5 : List ℕ → V5
open5 h =
    record {
      config = record { proxy_auth = false; local_dns = false; optimistic = false };
      host = h;
      port = Given 443;
      user = [];
      password = [];
      records = [];
    }

abbrev pub signed5 : List ℕ → ℕ → ℕ → V5
signed5 h u p =
    record {
      config = record { proxy_auth = true; local_dns = false; optimistic = false };
      host = h;
      port = Given 443;
      user = replicate u 0x75;
      password = replicate p 0x70;
      records = [];
    }

abbrev pub open4 : List ℕ → V4
open4 h = record { local_dns = false; host = h; port = Given 443; records = [] }

abbrev pub name_of : ℕ → List ℕ
name_of n = replicate n 0x61

abbrev pub address : List ℕ
address = text "192.0.2.7"

-- what these openings send, by its bytes: a greeting without credentials and with, credentials, and a connect by name and by the address
abbrev pub greeting : List ℕ
greeting = 0x05 ∷ 0x01 ∷ 0x00 ∷ []

abbrev pub greeting_signed : List ℕ
greeting_signed = 0x05 ∷ 0x01 ∷ 0x02 ∷ []

abbrev pub credentials : ℕ → ℕ → List ℕ
credentials u p = 0x01 ∷ u ∷ (replicate u 0x75 ++ (p ∷ replicate p 0x70))

abbrev pub connect_name : ℕ → List ℕ
connect_name n = 0x05 ∷ 0x01 ∷ 0x00 ∷ 0x03 ∷ n ∷ (name_of n ++ (0x01 ∷ 0xBB ∷ []))

abbrev pub connect : List ℕ
connect = 0x05 ∷ 0x01 ∷ 0x00 ∷ 0x01 ∷ 0xC0 ∷ 0x00 ∷ 0x02 ∷ 0x07 ∷ 0x01 ∷ 0xBB ∷ []

-- over v4, by a name of 11 bytes
abbrev pub request4 : List ℕ
request4 = 0x04 ∷ 0x01 ∷ 0x01 ∷ 0xBB ∷ 0x00 ∷ 0x00 ∷ 0x00 ∷ 0xFF ∷ 0x00 ∷ (name_of 11 ++ (0x00 ∷ []))

-- a connect reply that says success
abbrev pub success : List ℕ
success = 0x05 ∷ 0x00 ∷ 0x00 ∷ 0x01 ∷ 0xC0 ∷ 0x00 ∷ 0x02 ∷ 0x07 ∷ 0x1F ∷ 0x90 ∷ []

abbrev pub cases : List Case
cases =
    -- `[2001:db8::1]` loses its brackets; `[` is a name
    host (text "[2001:db8::1]") (text "2001:db8::1") (ipv6 (0x20 ∷ 0x01 ∷ 0x0D ∷ 0xB8 ∷ (replicate 11 0 ++ (1 ∷ []))))
    ∷ host (text "[") (text "[") (domain (text "["))
    -- address texts and names
    ∷ host (text "01.2.3.4") (text "01.2.3.4") (domain (text "01.2.3.4"))
    ∷ host (text "1:2:3:4:5:6:7::") (text "1:2:3:4:5:6:7::") (ipv6 (0 ∷ 1 ∷ 0 ∷ 2 ∷ 0 ∷ 3 ∷ 0 ∷ 4 ∷ 0 ∷ 5 ∷ 0 ∷ 6 ∷ 0 ∷ 7 ∷ 0 ∷ 0 ∷ []))
    ∷ host (text "1:2:3:4:5:6:7:8::") (text "1:2:3:4:5:6:7:8::") (domain (text "1:2:3:4:5:6:7:8::"))
    ∷ host (text "1.2.3.4::") (text "1.2.3.4::") (domain (text "1.2.3.4::"))
    -- no credentials: a 252-byte name opens; with 253, `05 00` brings waiting after 263 sent bytes
    ∷ over5 (open5 (name_of 252)) (0x05 ∷ 0x00 ∷ success) opens 12 (greeting ++ connect_name 252)
    ∷ over5 (open5 (name_of 253)) (0x05 ∷ 0x00 ∷ []) waits 2 (greeting ++ connect_name 253)
    -- IPv4 with credentials of 246 bytes together sends 262; with 247, waiting after 263 sent bytes
    ∷ over5 (signed5 address 123 123) (0x05 ∷ 0x02 ∷ 0x01 ∷ 0x00 ∷ success) opens 14 (greeting_signed ++ (credentials 123 123 ++ connect))
    ∷ over5 (signed5 address 123 124) (0x05 ∷ 0x02 ∷ 0x01 ∷ 0x00 ∷ []) waits 4 (greeting_signed ++ (credentials 123 124 ++ connect))
    -- no credentials: `05 02` 13, `05 FF` 12, `05 01` 10
    ∷ over5 (open5 address) (0x05 ∷ 0x02 ∷ []) (fails 13 0) 2 greeting
    ∷ over5 (open5 address) (0x05 ∷ 0xFF ∷ []) (fails 12 0) 2 greeting
    ∷ over5 (open5 address) (0x05 ∷ 0x01 ∷ []) (fails 10 0) 2 greeting
    -- with credentials: `05 02 01 07` 14
    ∷ over5 (signed5 address 1 1) (0x05 ∷ 0x02 ∷ 0x01 ∷ 0x07 ∷ []) (fails 14 0) 4 (greeting_signed ++ credentials 1 1)
    -- connect reply `05 05 00 09` waits; one byte more, 10
    ∷ over5 (open5 address) (0x05 ∷ 0x00 ∷ 0x05 ∷ 0x05 ∷ 0x00 ∷ 0x09 ∷ []) waits 6 (greeting ++ connect)
    ∷ over5 (open5 address) (0x05 ∷ 0x00 ∷ 0x05 ∷ 0x05 ∷ 0x00 ∷ 0x09 ∷ 0x00 ∷ []) (fails 10 0) 7 (greeting ++ connect)
    -- `05 00 00 03 00` 10; `05 00 00 03 01 FF 00 50` 10, at its eighth byte
    ∷ over5 (open5 address) (0x05 ∷ 0x00 ∷ 0x05 ∷ 0x00 ∷ 0x00 ∷ 0x03 ∷ 0x00 ∷ []) (fails 10 0) 7 (greeting ++ connect)
    ∷ over5 (open5 address) (0x05 ∷ 0x00 ∷ 0x05 ∷ 0x00 ∷ 0x00 ∷ 0x03 ∷ 0x01 ∷ 0xFF ∷ 0x00 ∷ []) waits 9 (greeting ++ connect)
    ∷ over5 (open5 address) (0x05 ∷ 0x00 ∷ 0x05 ∷ 0x00 ∷ 0x00 ∷ 0x03 ∷ 0x01 ∷ 0xFF ∷ 0x00 ∷ 0x50 ∷ []) (fails 10 0) 10 (greeting ++ connect)
    -- v4: seven bytes beginning `04 5A` wait, the eighth brings 10
    ∷ over4 (open4 (name_of 11)) (0x04 ∷ 0x5A ∷ replicate 5 0) waits 7 request4
    ∷ over4 (open4 (name_of 11)) (0x04 ∷ 0x5A ∷ replicate 6 0) (fails 10 0) 8 request4
    -- `00 5B` and six bytes: 15, status 91
    ∷ over4 (open4 (name_of 11)) (0x00 ∷ 0x5B ∷ replicate 6 0) (fails 15 91) 8 request4
    -- 01's example of a tunnel: what follows the last reply is not used
    ∷ over5 (open5 address) (0x05 ∷ 0x00 ∷ (success ++ text "SDF")) opens 12 (greeting ++ connect)
    ∷ []
