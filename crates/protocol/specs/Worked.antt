-- Worked openings, by document 01's own words: the whole bytes of each request, and each number that preparing is refused with.
use Rattle.std.specs.Prelude.{ℕ, true, false, List, [], ◌∷◌, ◌++◌, replicate}
use Rattle.protocol.specs.Answers.{Port, Missing, Given}
use Rattle.protocol.specs.declared.Family.TheVariants.{Four, Six}
use Rattle.protocol.specs.declared.Record.{Record}
use Rattle.protocol.specs.Numbers.{answer_number}
use Rattle.protocol.specs.Opening.{V5, V4, check5, check4, opening5, opening4, requests}
use Rattle.protocol.specs.Examples.{text, name_of, address}

-- an opening and its requests; an opening, and the number that its preparing is answered with
pub data Worked : Type 0 where
  asks5 : V5 → List (List ℕ) → Worked
  asks4 : V4 → List (List ℕ) → Worked
  answers5 : V5 → ℕ → Worked
  answers4 : V4 → ℕ → Worked

-- as the definitions have it
abbrev pub working : Worked → Worked
working (asks5 a qs) = asks5 a (requests (opening5 a))
working (asks4 a qs) = asks4 a (requests (opening4 a))
working (answers5 a n) = answers5 a (answer_number (check5 a))
working (answers4 a n) = answers4 a (answer_number (check4 a))

-- a host and a port; over v5 with credentials or without, and with answers of a lookup or without
abbrev pub plain5 : List ℕ → Port → V5
plain5 h p =
    record {
      config = record { proxy_auth = false; local_dns = false; optimistic = false };
      host = h;
      port = p;
      user = [];
      password = [];
      records = [];
    }

abbrev pub signed5 : List ℕ → Port → List ℕ → List ℕ → V5
signed5 h p user password =
    record {
      config = record { proxy_auth = true; local_dns = false; optimistic = false };
      host = h;
      port = p;
      user = user;
      password = password;
      records = [];
    }

abbrev pub looked5 : List ℕ → Port → List Record → V5
looked5 h p rs =
    record {
      config = record { proxy_auth = false; local_dns = true; optimistic = false };
      host = h;
      port = p;
      user = [];
      password = [];
      records = rs;
    }

abbrev pub plain4 : List ℕ → Port → V4
plain4 h p = record { local_dns = false; host = h; port = p; records = [] }

abbrev pub looked4 : List ℕ → Port → List Record → V4
looked4 h p rs = record { local_dns = true; host = h; port = p; records = rs }

-- port 8080 is `1F 90`
abbrev pub port : Port
port = Given 8080

abbrev pub name : List ℕ
name = text "example.com"

-- 2001:db8::1, and 198.51.100.9 in an answer's sixteen bytes
abbrev pub sixteen : List ℕ
sixteen = 0x20 ∷ 0x01 ∷ 0x0D ∷ 0xB8 ∷ (replicate 11 0x00 ++ (0x01 ∷ []))

abbrev pub six : Record
six = record { family = Six; address = sixteen }

abbrev pub four : Record
four = record { family = Four; address = 0xC6 ∷ 0x33 ∷ 0x64 ∷ 0x09 ∷ replicate 12 0xFF }

-- 0.0.0.9
abbrev pub marked : Record
marked = record { family = Four; address = 0x00 ∷ 0x00 ∷ 0x00 ∷ 0x09 ∷ replicate 12 0xFF }

abbrev pub worked : List Worked
worked =
    -- greeting without credentials; connect by an IPv4 address
    asks5 (plain5 address port)
    ((0x05 ∷ 0x01 ∷ 0x00 ∷ []) ∷ (0x05 ∷ 0x01 ∷ 0x00 ∷ 0x01 ∷ 0xC0 ∷ 0x00 ∷ 0x02 ∷ 0x07 ∷ 0x1F ∷ 0x90 ∷ []) ∷ [])
    -- greeting with credentials; credentials of lengths 0; connect by an IPv6 address
    ∷ asks5 (signed5 (text "[2001:db8::1]") port [] [])
    ((0x05 ∷ 0x01 ∷ 0x02 ∷ []) ∷ (0x01 ∷ 0x00 ∷ 0x00 ∷ []) ∷ (0x05 ∷ 0x01 ∷ 0x00 ∷ 0x04 ∷ (sixteen ++ (0x1F ∷ 0x90 ∷ []))) ∷ [])
    -- credentials of lengths 1; connect by a name of 11 bytes
    ∷ asks5 (signed5 name port (0x75 ∷ []) (0x70 ∷ []))
    ((0x05 ∷ 0x01 ∷ 0x02 ∷ []) ∷ (0x01 ∷ 0x01 ∷ 0x75 ∷ 0x01 ∷ 0x70 ∷ []) ∷ (0x05 ∷ 0x01 ∷ 0x00 ∷ 0x03 ∷ 11 ∷ (name ++ (0x1F ∷ 0x90 ∷ []))) ∷ [])
    -- looked up: the first answer
    ∷ asks5 (looked5 name port (six ∷ four ∷ []))
    ((0x05 ∷ 0x01 ∷ 0x00 ∷ []) ∷ (0x05 ∷ 0x01 ∷ 0x00 ∷ 0x04 ∷ (sixteen ++ (0x1F ∷ 0x90 ∷ []))) ∷ [])
    -- over v4 by an address; by a name of 11 bytes, 21 bytes; looked up: the first answer of family four
    ∷ asks4 (plain4 address port) ((0x04 ∷ 0x01 ∷ 0x1F ∷ 0x90 ∷ 0xC0 ∷ 0x00 ∷ 0x02 ∷ 0x07 ∷ 0x00 ∷ []) ∷ [])
    ∷ asks4 (plain4 name port) ((0x04 ∷ 0x01 ∷ 0x1F ∷ 0x90 ∷ 0x00 ∷ 0x00 ∷ 0x00 ∷ 0xFF ∷ 0x00 ∷ (name ++ (0x00 ∷ []))) ∷ [])
    ∷ asks4 (looked4 name port (six ∷ four ∷ [])) ((0x04 ∷ 0x01 ∷ 0x1F ∷ 0x90 ∷ 0xC6 ∷ 0x33 ∷ 0x64 ∷ 0x09 ∷ 0x00 ∷ []) ∷ [])
    -- v5 refused with each of its numbers, and accepted
    ∷ answers5 (plain5 [] Missing) 2
    ∷ answers5 (plain5 (text "[]") port) 2
    ∷ answers5 (plain5 (0x20 ∷ []) Missing) 3
    ∷ answers5 (signed5 name Missing (replicate 256 0x75) []) 4
    ∷ answers5 (signed5 (name_of 256) port (replicate 256 0x75) []) 5
    ∷ answers5 (signed5 name port [] (replicate 256 0x70)) 5
    ∷ answers5 (looked5 (name_of 256) port []) 6
    ∷ answers5 (looked5 name port []) 8
    ∷ answers5 (plain5 name port) 0
    -- v4 refused with each of its numbers, and accepted
    ∷ answers4 (plain4 [] Missing) 2
    ∷ answers4 (plain4 (0x7F ∷ []) Missing) 3
    ∷ answers4 (plain4 (text "::1") Missing) 4
    ∷ answers4 (plain4 (text "::1") port) 7
    ∷ answers4 (looked4 (name_of 1015) port []) 6
    ∷ answers4 (looked4 name port (six ∷ [])) 8
    ∷ answers4 (plain4 (name_of 1014) port) 0
    -- F-8: 0.0.0.x, typed, in brackets, or the first answer of family four; and what goes as before
    ∷ answers4 (plain4 (text "0.0.0.1") port) 23
    ∷ answers4 (plain4 (text "[0.0.0.255]") port) 23
    ∷ answers4 (looked4 name port (six ∷ marked ∷ four ∷ [])) 23
    ∷ answers4 (looked4 (text "0.0.0.1") port []) 23
    ∷ answers4 (plain4 (text "0.0.0.0") port) 0
    ∷ answers4 (plain4 (text "0.0.1.0") port) 0
    ∷ answers4 (looked4 name port (four ∷ marked ∷ [])) 0
    ∷ []
