-- What F-9's promise comes to. Each of its fields is used here.
use Prim.Native.Nat.{ℕ, suc, ◌≤◌, ◌<◌}
use native.Mathlib.Omega.{arith}
use mathlib.Core.Path.{◌≡◌, refl, ap}
use mathlib.Core.Logic.{◌↔◌, inl}
use mathlib.Core.Bool.{false}
use mathlib.Core.List.{List}
use lib.Dec.{lit<}
use lib.ListN.{length, take, drop, replicate}
use Rattle.protocol.specs.Answers.{Accepted}
use Rattle.protocol.specs.Numbers.{answer_number}
use Rattle.proxy_url_spec.specs.Grammar.{Value, Line}
use Rattle.proxy_url_spec.specs.Place.{GoesOn}
use Rattle.proxy_url_spec.proofs.Places.{place_end}
use Rattle.proxy_url.specs.declared.ProxyLine.{ProxyLine}
use Rattle.proxy_url.specs.Calls.{read_of}
use Rattle.proxy_url.specs.Reads.{told, Unlawful, ReadsLine}
use Rattle.proxy_url.proofs.Promise.{reads_each}

module _ (line : List ℕ) (r : ProxyLine) (p : ReadsLine line r) where
  -- a lawful line is accepted, with its value; what is accepted is lawful, with the value told
  pub lawful_accepted : (v : Value) → Line line v → (r.answer ≡ Accepted) × (told line r ≡ v)
  lawful_accepted v x = (p.value_just v).1 x

  pub accepted_lawful : r.answer ≡ Accepted → Line line (told line r)
  accepted_lawful q = (p.value_just (told line r)).0 (q, refl)

  -- the host that the second call returns is the value's
  pub host_is : (v : Value) → Line line v → take r.host_len (drop r.host_at line) ≡ v.host
  host_is v x = ap (λ (z : Value). z.host) (lawful_accepted v x).1

  -- 0 with a lawful line, 24 with any other
  pub answers_0 : (v : Value) → Line line v → answer_number r.answer ≡ 0
  answers_0 v x = p.answers.accepts.1 ((λ f. f v x), tt)

  pub answers_24 : Unlawful line → answer_number r.answer ≡ 24
  answers_24 f = (p.answers.refuses 24 (lit< tt)).1 (inl (f, refl))

  -- no lawful line goes on with the byte at the place
  pub dead_at : Unlawful line → r.place < length line → GoesOn (take (suc r.place) line) → ⊥
  dead_at f h g = let l = (p.place_is f).longest (suc r.place) h g in omega arith

  -- before it one does
  pub alive_at : Unlawful line → GoesOn (take r.place line)
  alive_at f = (p.place_is f).goes_on

  -- the place is the line's length just if the line stops short
  pub stops_short : Unlawful line → r.place ≡ length line ↔ GoesOn line
  stops_short f =
      ((λ e. (place_end line).0 (rw e at (p.place_is f))), (λ g. p.place_once r.place (length line) (p.place_is f) ((place_end line).1 g)))

  -- two values of a line are one
  pub one_value : (u v : Value) → Line line u → Line line v → u ≡ v
  one_value = p.once

  -- nothing is left of what was read, nor a place beside a value
  pub port_0 : Unlawful line → r.port ≡ 0
  port_0 f = (p.empty f).port

  pub place_0 : r.answer ≡ Accepted → r.place ≡ 0
  place_0 q = p.no_place q

  -- without credentials both arrays are zeros
  pub no_credentials : r.proxy_auth ≡ false → (r.user ≡ replicate 255 0) × (r.password ≡ replicate 255 0)
  no_credentials q =
      let f = p.filled in
      let (u, w) = f.none_given q in
      (rw u at f.user_rest, rw w at f.password_rest)

  -- an accepted line's user has at most 255 bytes, and so has its password
  pub few : (r.user_len ≤ 255) × (r.password_len ≤ 255)
  few = (p.filled.user_few, p.filled.password_few)

-- for every line
pub value_told : (line : List ℕ) (v : Value) → Line line v → told line (read_of line) ≡ v
value_told line v x = (lawful_accepted line (read_of line) (reads_each line) v x).1
