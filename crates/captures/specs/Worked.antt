-- F-10, worked: captures of 01's plain opening for 192.0.2.7, port 443, in bytes, and the number that each is answered with.
use Rattle.std.specs.Prelude.{ℕ, ◌≡◌, true, false, Ok, List, [], ◌∷◌, ◌++◌}
use Rattle.protocol.specs.Numbers.{answer_number}
use Rattle.protocol.specs.Examples.{open5, address}
use Rattle.captures.specs.Calls.{check5, compare5}

-- an entry each: what the client sends, and what it is sent
abbrev pub greeting : List ℕ
greeting = 0x00 ∷ 0x03 ∷ 0x05 ∷ 0x01 ∷ 0x00 ∷ []

abbrev pub method : List ℕ
method = 0x80 ∷ 0x02 ∷ 0x05 ∷ 0x00 ∷ []

abbrev pub connect : List ℕ
connect = 0x00 ∷ 0x0A ∷ 0x05 ∷ 0x01 ∷ 0x00 ∷ 0x01 ∷ 0xC0 ∷ 0x00 ∷ 0x02 ∷ 0x07 ∷ 0x01 ∷ 0xBB ∷ []

abbrev pub reply : List ℕ
reply = 0x80 ∷ 0x0A ∷ 0x05 ∷ 0x00 ∷ 0x00 ∷ 0x01 ∷ 0xC0 ∷ 0x00 ∷ 0x02 ∷ 0x07 ∷ 0x1F ∷ 0x90 ∷ []

-- greeting and connect in one entry; the two replies in one; the connect without its last byte; the reply in two, with an entry of no bytes between
abbrev pub at_once : List ℕ
at_once = 0x00 ∷ 0x0D ∷ 0x05 ∷ 0x01 ∷ 0x00 ∷ 0x05 ∷ 0x01 ∷ 0x00 ∷ 0x01 ∷ 0xC0 ∷ 0x00 ∷ 0x02 ∷ 0x07 ∷ 0x01 ∷ 0xBB ∷ []

abbrev pub replies : List ℕ
replies = 0x80 ∷ 0x0C ∷ 0x05 ∷ 0x00 ∷ 0x05 ∷ 0x00 ∷ 0x00 ∷ 0x01 ∷ 0xC0 ∷ 0x00 ∷ 0x02 ∷ 0x07 ∷ 0x1F ∷ 0x90 ∷ []

abbrev pub unended : List ℕ
unended = 0x00 ∷ 0x09 ∷ 0x05 ∷ 0x01 ∷ 0x00 ∷ 0x01 ∷ 0xC0 ∷ 0x00 ∷ 0x02 ∷ 0x07 ∷ 0x01 ∷ []

abbrev pub in_two : List ℕ
in_two = 0x80 ∷ 0x04 ∷ 0x05 ∷ 0x00 ∷ 0x00 ∷ 0x01 ∷ 0x00 ∷ 0x00 ∷ 0x80 ∷ 0x06 ∷ 0xC0 ∷ 0x00 ∷ 0x02 ∷ 0x07 ∷ 0x1F ∷ 0x90 ∷ []

abbrev pub numbered : List ℕ → ℕ
numbered c = answer_number (check5 (open5 address) c)

pub record Worked : Type 0 where
  pub accepted : numbered (greeting ++ (method ++ (connect ++ reply))) ≡ 0
  pub cut_elsewhere : numbered (greeting ++ (method ++ (connect ++ in_two))) ≡ 0
  -- later is lawful, behind the last reply too
  pub late : numbered (greeting ++ (replies ++ connect)) ≡ 0
  pub all_late : numbered (replies ++ at_once) ≡ 0
  -- the connect ahead of the method's reply
  pub ahead : numbered (at_once ++ replies) ≡ 26
  pub byte_missing : numbered (greeting ++ (method ++ (unended ++ reply))) ≡ 26
  pub byte_behind : numbered (greeting ++ (method ++ (connect ++ (reply ++ (0x80 ∷ 0x01 ∷ 0x53 ∷ []))))) ≡ 26
  pub empty : numbered [] ≡ 26
  -- an entry runs past the end
  pub bytes_cut : numbered (greeting ++ unended ++ (0x80 ∷ 0x02 ∷ 0x05 ∷ [])) ≡ 25
  pub header_cut : numbered (greeting ++ (0x80 ∷ [])) ≡ 25
  -- alike in other cuts and another order
  pub alike : compare5 (open5 address) (greeting ++ (method ++ (connect ++ reply))) (at_once ++ replies) ≡ Ok true
  pub unlike : compare5 (open5 address) (greeting ++ (method ++ (connect ++ reply))) (greeting ++ replies) ≡ Ok false
