-- Routes by F-5's own words, worked out: what each proxy is asked for, each number of the checks, and what their machines come to.
use Prim.Native.Nat.{ℕ}
use mathlib.Core.Path.{◌≡◌, refl}
use mathlib.Core.Bool.{true, false}
use mathlib.Core.List.{List, [], ◌∷◌, ◌++◌}
use lib.ListN.{take, replicate}
use Rattle.protocol.specs.Answers.{Missing, Given}
use Rattle.protocol.specs.declared.Outcome.TheVariants.{Waiting, Open}
use Rattle.protocol.specs.Host.{strip, all_allowed}
use Rattle.protocol.specs.AddressReading.{ipv4, domain, hex_value, digits_from, decimal_goes, hex_goes, number_of, group_of, mark_at, dotted, ipv4_of, follows_at, row, right_of, join_of, whole_of, starts_gap, ipv6_of, destination_of}
use Rattle.protocol.specs.Requests.{negotiation_req, address_field, proxy_req, name, request}
use Rattle.protocol.specs.Bound.{endpoint, unbound, proxy_bound, response_bound}
use Rattle.protocol.specs.Numbers.{answer_number}
use Rattle.protocol.specs.Opening.{announces, check5, check4, opening5, opening4, no_auth, user_pass, v5, v4}
use Rattle.protocol.specs.Replies.{negotiation_verdict, response_verdict, head_allowed, type_allowed, proxy_size, proxy_verdict, proxy_at, decide}
use Rattle.protocol.specs.Machine.{Machine, has, run, machine}
use Rattle.protocol.specs.Examples.{text}
use Rattle.protocol.specs.declared.Version.TheVariants.{V4, V5}
use Rattle.route_spec.specs.Route.{Proxy, Route, asked_of, openings, check_in_turn, check, machines_from, machines}

-- a v5 proxy with credentials that sends optimistically, a v4 proxy, and a plain v5 proxy
abbrev signed : Proxy
signed = record { version = V5; host = text "one"; port = Given 1; authenticates = true; optimistic = true; user = 0x75 ∷ []; password = 0x70 ∷ [] }

abbrev four : Proxy
four = record { version = V4; host = text "192.0.2.7"; port = Given 1080; authenticates = true; optimistic = true; user = replicate 256 0x75; password = [] }

abbrev plain : Proxy
plain = record { version = V5; host = text "two"; port = Given 8080; authenticates = false; optimistic = false; user = []; password = [] }

abbrev to : List Proxy → List ℕ → Route
to ps host = record { proxies = ps; host = host; port = Given 443 }

-- each is asked for the next; over v4 credentials and the option are ignored
pub asks : openings (to (signed ∷ four ∷ plain ∷ []) (text "example.com"))
    ≡ v5 (user_pass (0x75 ∷ []) (0x70 ∷ [])) (ipv4 (192 ∷ 0 ∷ 2 ∷ 7 ∷ [])) 1080 true ∷ v4 (name (text "two")) 8080 ∷ v5 no_auth (domain (text "example.com")) 443 false ∷ []
unfolding asked_of opening5 opening4 strip hex_value digits_from decimal_goes hex_goes number_of group_of mark_at dotted ipv4_of follows_at row right_of join_of whole_of starts_gap ipv6_of destination_of
asks = refl

-- the numbers: none and nine; a byte of output short; the second proxy's; the first one's ahead of the second's
abbrev portless : Proxy
portless = record { version = V4; host = text "192.0.2.7"; port = Missing; authenticates = false; optimistic = false; user = []; password = [] }

abbrev answers : List (Route × ℕ) → List ℕ
answers [] = []
answers ((r, n) ∷ cs) = answer_number (check r n) ∷ answers cs

pub refusals : answers
    ((to [] (text "a"), 9216)
    ∷ (to (replicate 9 plain) [], 0)
    ∷ (to (replicate 8 plain) (text "a"), 8192)
    ∷ (to (replicate 8 plain) [], 8191)
    ∷ (to (plain ∷ four ∷ []) (text "a"), 2048)
    ∷ (to (plain ∷ four ∷ []) (text "::1"), 2047)
    ∷ (to (plain ∷ four ∷ []) (text "::1"), 2048)
    ∷ (to (plain ∷ portless ∷ []) [], 2048)
    ∷ [])
    ≡ 21 ∷ 21 ∷ 0 ∷ 1 ∷ 0 ∷ 1 ∷ 7 ∷ 4 ∷ []
unfolding check check_in_turn asked_of check5 check4 announces all_allowed strip hex_value digits_from decimal_goes hex_goes number_of group_of mark_at dotted ipv4_of follows_at row right_of join_of whole_of starts_gap ipv6_of destination_of
refusals = refl

-- a plain v5 proxy and then a v4 proxy: what goes to each, their replies, and three bytes behind them
abbrev to_first : List ℕ
to_first = 0x05 ∷ 0x01 ∷ 0x00 ∷ 0x05 ∷ 0x01 ∷ 0x00 ∷ 0x01 ∷ 192 ∷ 0 ∷ 2 ∷ 7 ∷ 0x04 ∷ 0x38 ∷ []

abbrev to_second : List ℕ
to_second = 0x04 ∷ 0x01 ∷ 0x01 ∷ 0xBB ∷ 0 ∷ 0 ∷ 0 ∷ 0xFF ∷ 0 ∷ (text "example.com" ++ (0 ∷ []))

abbrev replied : List ℕ
replied = 0x05 ∷ 0x00 ∷ 0x05 ∷ 0x00 ∷ 0x00 ∷ 0x01 ∷ 192 ∷ 0 ∷ 2 ∷ 1 ∷ 0 ∷ 80 ∷ 0x00 ∷ 0x5A ∷ 0x1F ∷ 0x90 ∷ 10 ∷ 0 ∷ 0 ∷ 1 ∷ 0x53 ∷ 0x44 ∷ 0x46 ∷ []

abbrev came : ℕ → Machine
came n = machines (openings (to (plain ∷ four ∷ []) (text "example.com"))) (take n replied)

-- all of it, then up to the first one's last reply, and a byte less
pub worked : came 23 ∷ came 12 ∷ came 11 ∷ []
    ≡ has (to_first ++ to_second) Open (endpoint (ipv4 (10 ∷ 0 ∷ 0 ∷ 1 ∷ [])) 8080) 20 ∷ has (to_first ++ to_second) Waiting unbound 12 ∷ has to_first Waiting unbound 2 ∷ []
unfolding machines_from machine run decide proxy_at negotiation_verdict response_verdict head_allowed type_allowed proxy_size proxy_verdict proxy_bound response_bound asked_of opening5 opening4 negotiation_req proxy_req address_field request strip hex_value digits_from decimal_goes hex_goes number_of group_of mark_at dotted ipv4_of follows_at row right_of join_of whole_of starts_gap ipv6_of destination_of
worked = refl
