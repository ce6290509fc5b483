-- F-3, worked: what the end has sent, where it stands and how many bytes it has used, after given bytes. Both the plain machine and the side, fed, come to it.
use Rattle.std.specs.Prelude.{ℕ, ◌≡◌, true, false, List, [], ◌∷◌, ◌++◌, replicate}
use Rattle.protocol.specs.Numbers.{number, status, numbers}
use Rattle.protocol.specs.declared.Family.TheVariants.{Four, Six}
use Rattle.protocol.specs.declared.Version.TheVariants.{V4, V5}
use Rattle.protocol.specs.AddressReading.{ipv4, ipv6, domain}
use Rattle.protocol.specs.Bound.{endpoint}
use Rattle.proxy_spec.specs.declared.Field.TheVariants.{First}
use Rattle.proxy_spec.specs.declared.Stage.{Stage}
use Rattle.proxy_spec.specs.declared.Stage.TheVariants as stage
use Rattle.proxy_spec.specs.End as end
use Rattle.proxy_spec.specs.End.{Setup, Asked, asked, Standing, machine, used, endpoint_of, reply5, reply4, stage_after}
use Rattle.proxy_spec.specs.Side.{talk_at, server, standing_of}
use Rattle.talk.specs.Talk.{feed, reached}

-- how it stands, a failure by document 01's number and its status
pub data Shown : Type 0 where
  waits : Shown
  asks : Asked → Shown
  fails : ℕ → ℕ → Shown

abbrev pub shown : Standing → Shown
shown end.waits = waits
shown (end.asks x) = asks x
shown (end.fails e) = fails (number e) (status e)

pub record Outcome : Type 0 where
  pub sent : List ℕ
  pub standing : Shown
  pub used : ℕ

abbrev pub outcome : List ℕ → Shown → ℕ → Outcome
outcome sent s n = record { sent = sent; standing = s; used = n }

abbrev pub plain : Setup → List ℕ → Outcome
plain c bs = outcome (machine c bs).sent (shown (machine c bs).standing) (used c bs)

abbrev pub fed : Setup → List ℕ → Outcome
fed c bs =
    let f = feed (server c) (talk_at c First) bs in
    outcome f.sent (shown (standing_of f.session)) (reached f)

abbrev pub Gives : Setup → List ℕ → List ℕ → Shown → ℕ → Type 0
Gives c bs sent s n = (plain c bs ≡ outcome sent s n) × (fed c bs ≡ outcome sent s n)

-- ---- what is set up, and what a client sends

-- no credentials; the user u with the password pw; credentials of no byte
abbrev pub anyone : Setup
anyone = record { authenticates = false; user = []; password = [] }

abbrev pub known : Setup
known = record { authenticates = true; user = 0x75 ∷ []; password = 0x70 ∷ 0x77 ∷ [] }

abbrev pub blank : Setup
blank = record { authenticates = true; user = []; password = [] }

-- a greeting that offers one method, and the credentials of u
abbrev pub offering : ℕ → List ℕ → List ℕ
offering m more = 0x05 ∷ 0x01 ∷ m ∷ more

abbrev pub login : List ℕ → List ℕ
login more = 0x01 ∷ 0x01 ∷ 0x75 ∷ 0x02 ∷ 0x70 ∷ 0x77 ∷ more

-- 1.2.3.4, port 80, by a command; over v4 up to the user id
abbrev pub connect : ℕ → List ℕ → List ℕ
connect command more = 0x05 ∷ command ∷ 0x00 ∷ 0x01 ∷ 1 ∷ 2 ∷ 3 ∷ 4 ∷ 0x00 ∷ 0x50 ∷ more

abbrev pub request : ℕ → List ℕ → List ℕ
request command more = 0x04 ∷ command ∷ 0x00 ∷ 0x50 ∷ 1 ∷ 2 ∷ 3 ∷ 4 ∷ more

-- 0.0.0.1, port 80, and no user id
abbrev pub announced : List ℕ → List ℕ
announced more = 0x04 ∷ 0x01 ∷ 0x00 ∷ 0x50 ∷ 0 ∷ 0 ∷ 0 ∷ 1 ∷ 0x00 ∷ more

-- a stage's number and status: 0 unless it has failed
abbrev pub failure : Stage → ℕ × ℕ
failure (stage.Awaiting f) = (0, 0)
failure (stage.Asked v) = (0, 0)
failure (stage.Open v) = (0, 0)
failure (stage.Failed e) = numbers e

-- ---- the document's sentences

pub record Worked : Type 0 where
  -- "their first byte, `05` or `04`, picks the version": till it is there nothing is known, and another is wrong at once
  pub no_byte : Gives anyone [] [] waits 0
  pub version : Gives anyone (0x06 ∷ 0x01 ∷ []) [] (fails 19 0) 1
  -- "a greeting with 1 to 255 methods": a count of 0 is wrong at its byte; 255 methods are read to the last
  pub count_none : Gives anyone (0x05 ∷ 0x00 ∷ []) [] (fails 19 0) 2
  pub count_most : Gives anyone (0x05 ∷ 0xFF ∷ (replicate 254 0x01 ++ (0x00 ∷ []))) (0x05 ∷ 0x00 ∷ []) waits 257
  pub count_short : Gives anyone (0x05 ∷ 0x02 ∷ 0x01 ∷ []) [] waits 3
  -- "It chooses `02` when credentials are set, else `00`."
  pub chooses2 : Gives known (offering 0x02 []) (0x05 ∷ 0x02 ∷ []) waits 3
  pub chooses0 : Gives anyone (offering 0x00 []) (0x05 ∷ 0x00 ∷ []) waits 3
  -- "It answers `FF` and fails with 12 if the client did not offer that.", and "Later bytes are unread."
  pub not_offered2 : Gives known (offering 0x00 (connect 1 [])) (0x05 ∷ 0xFF ∷ []) (fails 12 0) 3
  pub not_offered0 : Gives anyone (offering 0x02 (connect 1 [])) (0x05 ∷ 0xFF ∷ []) (fails 12 0) 3
  -- "Credential lengths 0 are taken."
  pub login_blank : Gives blank (offering 0x02 (0x01 ∷ 0x00 ∷ 0x00 ∷ [])) (0x05 ∷ 0x02 ∷ 0x01 ∷ 0x00 ∷ []) waits 6
  pub login_right : Gives known (offering 0x02 (login [])) (0x05 ∷ 0x02 ∷ 0x01 ∷ 0x00 ∷ []) waits 9
  -- "20 for wrong credentials, once they are whole, sending `01 01`": a password of the same length; a user, of which the password is not there yet
  pub login_wrong : Gives known (offering 0x02 (0x01 ∷ 0x01 ∷ 0x75 ∷ 0x02 ∷ 0x70 ∷ 0x78 ∷ connect 1 [])) (0x05 ∷ 0x02 ∷ 0x01 ∷ 0x01 ∷ []) (fails 20 0) 9
  pub login_short : Gives known (offering 0x02 (0x01 ∷ 0x01 ∷ 0x76 ∷ 0x02 ∷ 0x70 ∷ [])) (0x05 ∷ 0x02 ∷ []) waits 8
  -- "19, at the byte that shows it, for a version, reserved byte, count or length other than these, sending nothing more"
  pub login_version : Gives known (offering 0x02 (0x05 ∷ [])) (0x05 ∷ 0x02 ∷ []) (fails 19 0) 4
  pub connect_version : Gives anyone (offering 0x00 (0x01 ∷ [])) (0x05 ∷ 0x00 ∷ []) (fails 19 0) 4
  pub reserved : Gives anyone (offering 0x00 (0x05 ∷ 0x01 ∷ 0x01 ∷ 0x07 ∷ [])) (0x05 ∷ 0x00 ∷ []) (fails 19 0) 6
  -- "An unknown address type is answered with status 8 at its byte", whatever the command is; "replies of its own carry IPv4 zeros and port 0"
  pub unknown_type : Gives anyone (offering 0x00 (0x05 ∷ 0x02 ∷ 0x00 ∷ 0x05 ∷ [])) (0x05 ∷ 0x00 ∷ 0x05 ∷ 0x08 ∷ 0x00 ∷ 0x01 ∷ replicate 6 0x00) (fails 15 8) 7
  -- "else a whole request with a command other than 1 gets 7 (v5) or 91 (v4). Both fail with 15 and that status"
  pub command5 : Gives anyone (offering 0x00 (connect 2 (0x05 ∷ []))) (0x05 ∷ 0x00 ∷ 0x05 ∷ 0x07 ∷ 0x00 ∷ 0x01 ∷ replicate 6 0x00) (fails 15 7) 13
  pub command5_short : Gives anyone (offering 0x00 (0x05 ∷ 0x02 ∷ 0x00 ∷ 0x01 ∷ 1 ∷ 2 ∷ 3 ∷ 4 ∷ 0x00 ∷ [])) (0x05 ∷ 0x00 ∷ []) waits 12
  pub command4 : Gives anyone (request 2 (0x75 ∷ 0x00 ∷ 0x05 ∷ [])) (0x00 ∷ 91 ∷ replicate 6 0x00) (fails 15 91) 10
  -- "or, ahead of 15, for a whole v4 request when credentials are set, sending a reply with 91"
  pub secret4 : Gives known (request 2 (0x00 ∷ [])) (0x00 ∷ 91 ∷ replicate 6 0x00) (fails 20 0) 9
  pub secret4_short : Gives known (request 2 []) [] waits 8
  -- "A v4 user id has at most 255 bytes": the 256th is wrong at its byte
  pub user_most : Gives anyone (request 1 (replicate 255 0x75 ++ (0x00 ∷ []))) [] (asks (asked V4 (endpoint (ipv4 (1 ∷ 2 ∷ 3 ∷ 4 ∷ [])) 80))) 264
  pub user_over : Gives anyone (request 1 (replicate 257 0x75)) [] (fails 19 0) 264
  -- "a v5 name 1 to 255": a length of 0 is wrong at its byte
  pub name_none : Gives anyone (offering 0x00 (0x05 ∷ 0x01 ∷ 0x00 ∷ 0x03 ∷ 0x00 ∷ 0x00 ∷ 0x50 ∷ [])) (0x05 ∷ 0x00 ∷ []) (fails 19 0) 8
  pub name5 : Gives anyone (offering 0x00 (0x05 ∷ 0x01 ∷ 0x00 ∷ 0x03 ∷ 0x01 ∷ 0x61 ∷ 0x01 ∷ 0xBB ∷ [])) (0x05 ∷ 0x00 ∷ []) (asks (asked V5 (endpoint (domain (0x61 ∷ [])) 443))) 11
  -- "a 4a name 1 to 1,014": one of no byte is wrong at its 00, and the 1,015th byte is
  pub name_none4 : Gives anyone (announced (0x00 ∷ [])) [] (fails 19 0) 10
  pub name4 : Gives anyone (announced (0x61 ∷ 0x00 ∷ 0x05 ∷ [])) [] (asks (asked V4 (endpoint (domain (0x61 ∷ [])) 80))) 11
  pub name_most4 : Gives anyone (announced (replicate 1014 0x61 ++ (0x00 ∷ []))) [] (asks (asked V4 (endpoint (domain (replicate 1014 0x61)) 80))) 1024
  pub name_over4 : Gives anyone (announced (replicate 1016 0x61)) [] (fails 19 0) 1024
  -- "It hands out the destination; then only the caller's answer is in turn", and "Later bytes are unread."
  pub hands4 : Gives anyone (offering 0x00 (connect 1 (0x05 ∷ []))) (0x05 ∷ 0x00 ∷ []) (asks (asked V5 (endpoint (ipv4 (1 ∷ 2 ∷ 3 ∷ 4 ∷ [])) 80))) 13
  pub hands6 : Gives known (offering 0x02 (login (0x05 ∷ 0x01 ∷ 0x00 ∷ 0x04 ∷ (replicate 15 0x00 ++ (0x01 ∷ 0x00 ∷ 0x50 ∷ []))))) (0x05 ∷ 0x02 ∷ 0x01 ∷ 0x00 ∷ []) (asks (asked V5 (endpoint (ipv6 (replicate 15 0x00 ++ (0x01 ∷ []))) 80))) 31
  -- "The caller gives back a status and a bound IPv4 or IPv6 address with port"
  pub gives4 : endpoint_of (record { family = Four; address = 1 ∷ 2 ∷ 3 ∷ 4 ∷ replicate 12 0x00 }) 443 ≡ endpoint (ipv4 (1 ∷ 2 ∷ 3 ∷ 4 ∷ [])) 443
  pub gives6 : endpoint_of (record { family = Six; address = replicate 16 0x01 }) 80 ≡ endpoint (ipv6 (replicate 16 0x01)) 80
  pub answers5 : reply5 0 (endpoint (ipv4 (1 ∷ 2 ∷ 3 ∷ 4 ∷ [])) 443) ≡ 0x05 ∷ 0x00 ∷ 0x00 ∷ 0x01 ∷ 1 ∷ 2 ∷ 3 ∷ 4 ∷ 0x01 ∷ 0xBB ∷ []
  pub answers4 : reply4 90 (endpoint (ipv4 (1 ∷ 2 ∷ 3 ∷ 4 ∷ [])) 443) ≡ 0x00 ∷ 90 ∷ 0x01 ∷ 0xBB ∷ 1 ∷ 2 ∷ 3 ∷ 4 ∷ []
  -- "a status unknown to the version goes as 1 or 91, an IPv6 address to v4 as zeros"
  pub strange5 : reply5 9 (endpoint (ipv6 (replicate 16 0x01)) 80) ≡ 0x05 ∷ 0x01 ∷ 0x00 ∷ 0x04 ∷ (replicate 16 0x01 ++ (0x00 ∷ 0x50 ∷ []))
  pub strange4 : reply4 89 (endpoint (ipv6 (replicate 16 0x01)) 80) ≡ 0x00 ∷ 91 ∷ 0x00 ∷ 0x50 ∷ replicate 4 0x00
  -- "The end is then open, or failed with 15 and the status sent."
  pub opens : (stage_after V5 0 ≡ stage.Open V5) × (stage_after V4 90 ≡ stage.Open V4)
  pub refuses : (failure (stage_after V5 8) ≡ (15, 8)) × (failure (stage_after V4 93) ≡ (15, 93))
  pub refuses_strange : (failure (stage_after V5 9) ≡ (15, 1)) × (failure (stage_after V4 0) ≡ (15, 91))
