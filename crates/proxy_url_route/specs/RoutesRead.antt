-- F-9's promise of a route from lines: 21 for no line or more than eight, else 24 with the number of the first line that is not lawful and the place in it, else the route that the lines stand for.
use Rattle.std.specs.Prelude.{ℕ, suc, ◌+◌, ◌-◌, ◌*◌, ◌≤◌, ◌<◌, ◌≡◌, ◌⊎◌, false, length, take, drop, replicate, get_or}
use mathlib.Core.List.{List, [], ◌∷◌, map, Memᴰ}
use Rattle.protocol.specs.Answers.{Port, Given, Accepted}
use Rattle.protocol.specs.Numbers.{answer_number}
use Rattle.protocol.specs.Opening.{Condition, ◌↣◌, Answers}
use Rattle.route_spec.specs.Route as route
use Rattle.route_session.specs.declared.plan.Part.{Part}
use Rattle.route_session.specs.declared.plan.Proxy.{Proxy}
use Rattle.route_session.specs.plan.Plan.{no_proxy, route_of}
use Rattle.proxy_url_spec.specs.Grammar.{Value, Line}
use Rattle.proxy_url_spec.specs.Place.{Place}
use Rattle.proxy_url.specs.Coded.{is_given, user_of, password_of}
use Rattle.proxy_url.specs.Reads.{Unlawful}
use Rattle.proxy_url_route.specs.Lines.{lines_of}
use Rattle.proxy_url_route.specs.Calls.{Call, read_lines}

-- ---- what lines stand for

-- the proxy of a line's value: local lookup plays no part, and it is not optimistic
abbrev pub proxy_for : Value → route.Proxy
proxy_for v =
    record {
      version = v.version;
      host = v.host;
      port = Given v.port;
      authenticates = is_given v.credentials;
      optimistic = false;
      user = user_of v.credentials;
      password = password_of v.credentials;
    }

-- lawful lines and their values
pub data Values : List (List ℕ) → List Value → Type 0 where
  end : Values [] []
  line : {l : List ℕ} {ls : List (List ℕ)} {v : Value} {vs : List Value} → Line l v → Values ls vs → Values (l ∷ ls) (v ∷ vs)

-- ---- lines that are not lawful

abbrev pub SomeUnlawful : List (List ℕ) → Type 0
SomeUnlawful ls = (l : List ℕ) × Memᴰ l ls × Unlawful l

-- the number, counted from 1, of the first that is not, and the place in it
pub data FirstUnlawful : List (List ℕ) → ℕ → ℕ → Type 0 where
  here : {l : List ℕ} {ls : List (List ℕ)} {place : ℕ} → Unlawful l → Place l place → FirstUnlawful (l ∷ ls) 1 place
  later : {l : List ℕ} {ls : List (List ℕ)} {v : Value} {n place : ℕ} → Line l v → FirstUnlawful ls n place → FirstUnlawful (l ∷ ls) (suc n) place

-- ---- where in the buffer

-- host, user and password of each of some proxies, behind so many, 255 bytes apart
abbrev pub Placed : ℕ → List Proxy → Type 0
Placed n [] = Unit {0}
Placed n (p ∷ ps) = (p.host.from ≡ n * 765) × (p.user.from ≡ n * 765 + 255) × (p.password.from ≡ n * 765 + 510) × Placed (suc n) ps

-- a place is in no part of some proxies
abbrev pub Outside : ℕ → Part → Type 0
Outside j p = (j < p.from) ⊎ (p.from + p.len ≤ j)

abbrev pub OutsideAll : ℕ → List Proxy → Type 0
OutsideAll j [] = Unit {0}
OutsideAll j (p ∷ ps) = Outside j p.host × Outside j p.user × Outside j p.password × OutsideAll j ps

-- ---- the promise

abbrev pub conditions : List (List ℕ) → List Condition
conditions ls = (((length ls ≡ 0) ⊎ (8 < length ls)) ↣ 21) ∷ (SomeUnlawful ls ↣ 24) ∷ []

-- the lines have values, and what the route's opening makes of the proxies, their count and the buffer is the route of these values
pub record IsRoute (ls : List (List ℕ)) (buffer : List ℕ) (c : Call) : Type 0 where
  pub values : List Value
  pub have : Values ls values
  pub count_is : c.lines.count ≡ length ls
  pub route_is : (host : List ℕ) (port : Port)
      → route_of c.buffer c.lines.proxies c.lines.count host port ≡ record { proxies = map proxy_for values; host = host; port = port }
  -- no proxy is given behind them
  pub none_behind : drop c.lines.count c.lines.proxies ≡ replicate (8 - c.lines.count) no_proxy
  -- each field has its place, and every other byte is as it was
  pub placed : Placed 0 (take c.lines.count c.lines.proxies)
  pub others_stay : (j : ℕ) → OutsideAll j (take c.lines.count c.lines.proxies) → get_or c.buffer j 0 ≡ get_or buffer j 0

pub record ReadsRoute (ls : List (List ℕ)) (buffer : List ℕ) (c : Call) : Type 0 where
  -- the numbers in their order
  pub answers : Answers (answer_number c.lines.answer) (conditions ls)
  -- with 24 the first line that is not lawful, and its place; with no other answer a line or a place
  pub first_told : answer_number c.lines.answer ≡ 24 → FirstUnlawful ls c.lines.line c.lines.place
  pub none_told : (answer_number c.lines.answer ≡ 24 → ⊥) → (c.lines.line ≡ 0) × (c.lines.place ≡ 0)
  -- accepted, the route that the lines stand for
  pub accepted : c.lines.answer ≡ Accepted → IsRoute ls buffer c
  -- refused, nothing is written, and no proxy is given
  pub unwritten : (c.lines.answer ≡ Accepted → ⊥) → c.buffer ≡ buffer
  pub none_given : (c.lines.answer ≡ Accepted → ⊥) → (c.lines.count ≡ 0) × (c.lines.proxies ≡ replicate 8 no_proxy)
  -- the buffer keeps its length
  pub long : length c.buffer ≡ length buffer

-- for every text, and every buffer of 6,120 bytes
abbrev pub ReadsRoutes : Type 0
ReadsRoutes = (text buffer : List ℕ) → length buffer ≡ 6120 → ReadsRoute (lines_of text) buffer (read_lines text buffer)
