-- F-9: what the call that reads a line answers, for any line.
use Rattle.std.specs.Prelude.{ℕ, false, List, length}
use Rattle.protocol.specs.declared.SocksError.TheVariants.{BadLine}
use Rattle.protocol.specs.Answers.{Answer, Accepted, Refused}
use Rattle.protocol.specs.declared.Version.TheVariants.{V4}
use Rattle.protocol.specs.Bytes.{padded}
use Rattle.proxy_url_spec.specs.Grammar.{Value}
use Rattle.proxy_url_spec.specs.Reading.{Read, reads, dies, line_of}
use Rattle.proxy_url.specs.declared.ProxyLine.{ProxyLine}
use Rattle.proxy_url.specs.Coded.{zeros, is_given, user_of, password_of}

abbrev pub bad_line : Answer
bad_line = Refused BadLine

-- 24 and its place, beside which all else is empty
abbrev pub refused_at : ℕ → ProxyLine
refused_at n =
    record {
      answer = bad_line;
      place = n;
      version = V4;
      local_dns = false;
      proxy_auth = false;
      user = zeros;
      user_len = 0;
      password = zeros;
      password_len = 0;
      host_at = 0;
      host_len = 0;
      port = 0;
    }

-- a value as the call tells it: user and password at the start of arrays, the host as a part of the line
abbrev pub accepted_as : Value → ProxyLine
accepted_as v =
    record {
      answer = Accepted;
      place = 0;
      version = v.version;
      local_dns = v.local_dns;
      proxy_auth = is_given v.credentials;
      user = padded 255 (user_of v.credentials);
      user_len = length (user_of v.credentials);
      password = padded 255 (password_of v.credentials);
      password_len = length (password_of v.credentials);
      host_at = v.host_at;
      host_len = length v.host;
      port = v.port;
    }

abbrev pub line_coded : Read Value → ProxyLine
line_coded (reads v n) = accepted_as v
line_coded (dies n) = refused_at n

unfoldable pub read_of : List ℕ → ProxyLine
read_of line = line_coded (line_of line)
