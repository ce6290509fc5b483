-- F-9 in numbers: what the call that reads a line tells of it, and the arrays that it leaves.
use Rattle.std.specs.Prelude.{ℕ, ◌≡◌, List}
use Rattle.protocol.specs.Answers.{Answer, Accepted, Refused}
use Rattle.protocol.specs.declared.Version.{Version}
use Rattle.protocol.specs.declared.Version.TheVariants.{V5, V4}
use Rattle.protocol.specs.Numbers.{answer_number}
use Rattle.proxy_url.specs.declared.ProxyLine.{ProxyLine}
use Rattle.raw_numbers.specs.Numbers.{bit}
use Rattle.lent_line.specs.declared.RawLine.{RawLine}

abbrev pub version_number : Version → ℕ
version_number V5 = 5
version_number V4 = 4

-- all but user and password
abbrev pub raw_line : ProxyLine → RawLine
raw_line p =
    record {
      place = p.place;
      host_at = p.host_at;
      host_len = p.host_len;
      user_len = p.user_len;
      password_len = p.password_len;
      port = p.port;
      answer = answer_number p.answer;
      version = version_number p.version;
      local_dns = bit p.local_dns;
      proxy_auth = bit p.proxy_auth;
    }

-- an array that is written if the line was accepted, and else stays
abbrev pub written : Answer → List ℕ → List ℕ → List ℕ
written Accepted bs before = bs
written (Refused e) bs before = before

pub record ReadsInto (p : ProxyLine) (user password : List ℕ) (r : RawLine) (user' password' : List ℕ) : Type 0 where
  pub returned : r ≡ raw_line p
  pub user_left : user' ≡ written p.answer p.user user
  pub password_left : password' ≡ written p.answer p.password password
