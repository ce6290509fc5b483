-- F-9 in numbers.
use Prim.Native.Nat.{ℕ, ◌+◌, ◌≤◌}
use native.Mathlib.Omega.{arith}
use mathlib.Core.Path.{◌≡◌}
use Rattle.protocol.specs.Numbers.{answer_number}
use Rattle.proxy_url.specs.declared.ProxyLine.{ProxyLine}
use Rattle.raw_numbers.specs.Numbers.{bit}
use Rattle.lent_line.specs.declared.RawLine.{RawLine}
use Rattle.lent_line.specs.Line.{version_number, raw_line}

pub line_as : (p : ProxyLine) {a v l x : ℕ} → a ≡ answer_number p.answer → v ≡ version_number p.version → l ≡ bit p.local_dns → x ≡ bit p.proxy_auth
    → ◌≡◌ {A = RawLine}
    (record { place = p.place; host_at = p.host_at; host_len = p.host_len; user_len = p.user_len; password_len = p.password_len; port = p.port; answer = a; version = v; local_dns = l; proxy_auth = x })
    (raw_line p)
line_as p a v l x =
    λ i. record { place = p.place; host_at = p.host_at; host_len = p.host_len; user_len = p.user_len; password_len = p.password_len; port = p.port; answer = a i; version = v i; local_dns = l i; proxy_auth = x i }

-- a text of a line has room in the bytes lent for it
pub fits : {m n : ℕ} → m ≡ 255 → n ≡ 255 → 0 + m ≤ n
fits h l = omega arith
