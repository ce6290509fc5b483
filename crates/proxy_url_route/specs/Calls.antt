-- F-9: what the call that reads a route's lines answers, and the buffer that it leaves, for any text.
use Rattle.std.specs.Prelude.{ℕ, suc, ◌+◌, ◌-◌, ◌*◌, ◌≡◌, Bool, true, false, cond, ◌||◌, List, [], ◌∷◌, ◌++◌, length, take, drop, replicate, eqb, ltb}
use Rattle.protocol.specs.declared.SocksError.{SocksError}
use Rattle.protocol.specs.declared.SocksError.TheVariants.{RouteLength, BadLine}
use Rattle.protocol.specs.Answers.{Answer, Accepted, Refused, Given}
use Rattle.buffers.specs.write.Written.{overwrite}
use Rattle.route_session.specs.declared.plan.Proxy.{Proxy}
use Rattle.route_session.specs.plan.Plan.{no_proxy}
use Rattle.proxy_url.specs.declared.ProxyLine.{ProxyLine}
use Rattle.proxy_url.specs.Calls.{read_of}
use Rattle.proxy_url_route.specs.declared.RouteLines.{RouteLines}
use Rattle.proxy_url_route.specs.declared.RefusedLine.{RefusedLine}
use Rattle.proxy_url_route.specs.Lines.{lines_of}

pub record Call : Type 0 where
  pub lines : RouteLines
  pub buffer : List ℕ

-- what a function returns, and the buffer that it leaves, are the call's
pub record RouteResult (c : Call) (r : RouteLines) (buffer : List ℕ) : Type 0 where
  pub returned : r ≡ c.lines
  pub left : buffer ≡ c.buffer

-- ---- the first line that is refused, counted from 1; 0 if none is

abbrev pub accepts : Answer → Bool
accepts Accepted = true
accepts (Refused e) = false

abbrev pub none_refused : RefusedLine
none_refused = record { line = 0; place = 0 }

-- of lines behind so many
unfoldable pub first_refused : ℕ → List (List ℕ) → RefusedLine
first_refused n [] = none_refused
first_refused n (l ∷ ls) = cond (accepts (read_of l).answer) (first_refused (suc n) ls) (record { line = suc n; place = (read_of l).place })

-- ---- what is written: a line's host, user and password, each at its place, 255 bytes apart

abbrev pub host_in : List ℕ → ProxyLine → List ℕ
host_in line r = take r.host_len (drop r.host_at line)

abbrev pub user_in : ProxyLine → List ℕ
user_in r = take r.user_len r.user

abbrev pub password_in : ProxyLine → List ℕ
password_in r = take r.password_len r.password

abbrev pub fields_written : ℕ → List ℕ → List ℕ → List ℕ → List ℕ → List ℕ
fields_written at host user password buffer = overwrite (overwrite (overwrite buffer at host) (at + 255) user) (at + 510) password

unfoldable pub line_written : ℕ → List ℕ → List ℕ → List ℕ
line_written at line buffer = let r = read_of line in fields_written at (host_in line r) (user_in r) (password_in r) buffer

-- of lines behind so many
unfoldable pub written_by : ℕ → List (List ℕ) → List ℕ → List ℕ
written_by n [] buffer = buffer
written_by n (l ∷ ls) buffer = written_by (suc n) ls (line_written (n * 765) l buffer)

-- ---- the proxies, whose parts these are

abbrev pub proxy_at : ℕ → ProxyLine → Proxy
proxy_at at r =
    record {
      version = r.version;
      host = record { from = at; len = r.host_len };
      port = Given r.port;
      proxy_auth = r.proxy_auth;
      optimistic = false;
      user = record { from = at + 255; len = r.user_len };
      password = record { from = at + 510; len = r.password_len };
    }

unfoldable pub proxies_from : ℕ → List (List ℕ) → List Proxy
proxies_from n [] = []
proxies_from n (l ∷ ls) = proxy_at (n * 765) (read_of l) ∷ proxies_from (suc n) ls

-- in an array of eight, and none behind them
abbrev pub proxies_by : List (List ℕ) → List Proxy
proxies_by ls = proxies_from 0 ls ++ replicate (8 - length ls) no_proxy

-- ---- the call

abbrev pub refused_with : SocksError → ℕ → ℕ → RouteLines
refused_with e line place = record { answer = Refused e; line = line; place = place; count = 0; proxies = replicate 8 no_proxy }

abbrev pub unwritten : SocksError → RefusedLine → List ℕ → Call
unwritten e at buffer = record { lines = refused_with e at.line at.place; buffer = buffer }

abbrev pub written : List (List ℕ) → List ℕ → Call
written ls buffer =
    record {
      lines = record { answer = Accepted; line = 0; place = 0; count = length ls; proxies = proxies_by ls };
      buffer = written_by 0 ls buffer;
    }

-- 21, then 24, then the route
abbrev pub read_by : List (List ℕ) → List ℕ → Call
read_by ls buffer =
    cond (eqb (length ls) 0 || ltb 8 (length ls)) (unwritten RouteLength none_refused buffer)
    (cond (eqb (first_refused 0 ls).line 0) (written ls buffer) (unwritten BadLine (first_refused 0 ls) buffer))

unfoldable pub read_lines : List ℕ → List ℕ → Call
read_lines text buffer = read_by (lines_of text) buffer
