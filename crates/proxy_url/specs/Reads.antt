-- F-9's promise: a line is accepted with a value exactly if the grammar has it with that value; otherwise the answer is 24, with its place.
use Rattle.std.specs.Prelude.{ℕ, ◌-◌, ◌≤◌, ◌≡◌, ◌↔◌, Bool, true, false, List, [], ◌∷◌, take, drop, replicate}
use Rattle.std.proofs.Math.Option.{Option, none, some}
use Rattle.protocol.specs.Answers.{Accepted}
use Rattle.protocol.specs.declared.Version.TheVariants.{V4}
use Rattle.protocol.specs.Numbers.{answer_number}
use Rattle.protocol.specs.Opening.{◌↣◌, Answers}
use Rattle.proxy_url_spec.specs.Grammar.{Value, Line}
use Rattle.proxy_url_spec.specs.Place.{Place}
use Rattle.proxy_url.specs.declared.ProxyLine.{ProxyLine}
use Rattle.proxy_url.specs.Calls.{read_of}

-- the value that an answer tells of a line: the first bytes of its arrays, if they are given, and the host, a part of the line
abbrev pub given_by : Bool → List ℕ → List ℕ → Option (List ℕ × List ℕ)
given_by true user password = some (user, password)
given_by false user password = none

abbrev pub told : List ℕ → ProxyLine → Value
told line r =
    record {
      version = r.version;
      local_dns = r.local_dns;
      credentials = given_by r.proxy_auth (take r.user_len r.user) (take r.password_len r.password);
      host_at = r.host_at;
      host = take r.host_len (drop r.host_at line);
      port = r.port;
    }

-- the grammar has not this line
abbrev pub Unlawful : List ℕ → Type 0
Unlawful line = (v : Value) → Line line v → ⊥

-- with 24 all but its place is empty
pub record Empty (r : ProxyLine) : Type 0 where
  pub version : r.version ≡ V4
  pub local_dns : r.local_dns ≡ false
  pub proxy_auth : r.proxy_auth ≡ false
  pub user : r.user ≡ replicate 255 0
  pub user_len : r.user_len ≡ 0
  pub password : r.password ≡ replicate 255 0
  pub password_len : r.password_len ≡ 0
  pub host_at : r.host_at ≡ 0
  pub host_len : r.host_len ≡ 0
  pub port : r.port ≡ 0

-- behind user and password their arrays have zeros, and both are empty where none are given
pub record Filled (r : ProxyLine) : Type 0 where
  pub user_few : r.user_len ≤ 255
  pub user_rest : drop r.user_len r.user ≡ replicate (255 - r.user_len) 0
  pub password_few : r.password_len ≤ 255
  pub password_rest : drop r.password_len r.password ≡ replicate (255 - r.password_len) 0
  pub none_given : r.proxy_auth ≡ false → (r.user_len ≡ 0) × (r.password_len ≡ 0)

pub record ReadsLine (line : List ℕ) (r : ProxyLine) : Type 0 where
  -- 24 exactly if the grammar has not this line
  pub answers : Answers (answer_number r.answer) ((Unlawful line ↣ 24) ∷ [])
  -- accepted with a value exactly if the grammar has the line with it
  pub value_just : (v : Value) → ((r.answer ≡ Accepted) × (told line r ≡ v)) ↔ Line line v
  -- one reading exists
  pub once : (u v : Value) → Line line u → Line line v → u ≡ v
  -- the place of 24 is the length of the longest beginning that goes on, and there is just one
  pub place_is : Unlawful line → Place line r.place
  pub place_once : (m n : ℕ) → Place line m → Place line n → m ≡ n
  -- nothing is told beside it, no place beside a value, and nothing behind user and password
  pub empty : Unlawful line → Empty r
  pub no_place : r.answer ≡ Accepted → r.place ≡ 0
  pub filled : Filled r

-- for every line
abbrev pub ReadsEach : Type 0
ReadsEach = (line : List ℕ) → ReadsLine line (read_of line)
