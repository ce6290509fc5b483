-- F-9's promise in numbers: nothing of a line's value is lost, and nothing is left by a refusal.
use Prim.Native.Nat.{ℕ}
use native.Mathlib.Omega.{arith}
use mathlib.Core.Path.{◌≡◌, refl, ap, ◌∙◌}
use mathlib.Core.List.{List}
use lib.ListN.{take, drop}
use Rattle.protocol.specs.Answers.{Answer, Accepted, Refused}
use Rattle.protocol.specs.Numbers.{answer_number}
use Rattle.proxy_url_spec.specs.Grammar.{Value, Line}
use Rattle.proxy_url_spec.specs.Place.{Place}
use Rattle.proxy_url.specs.Calls.{read_of}
use Rattle.proxy_url.specs.Reads.{given_by, told, Unlawful}
use Rattle.proxy_url.proofs.Promise.{reads_each}
use Rattle.proxy_url.proofs.Claims.{lawful_accepted, answers_24}
use Rattle.raw_numbers.specs.Numbers.{truth, bit}
use Rattle.raw_numbers.proofs.Back.{bit_back}
use Rattle.lent_line.specs.declared.RawLine.{RawLine}
use Rattle.lent_line.specs.Line.{version_number, written, ReadsInto}

stays : (a : Answer) (bs before : List ℕ) → answer_number a ≡ 24 → written a bs before ≡ before
stays Accepted bs before q = absurd (omega arith)
stays (Refused e) bs before q = refl

module _ (line user password : List ℕ) {r : RawLine} {user' password' : List ℕ} (h : ReadsInto (read_of line) user password r user' password') where
  -- a line of the grammar: 0, and its value
  module _ (v : Value) (x : Line line v) where
    accepted : (read_of line).answer ≡ Accepted
    accepted = (lawful_accepted line (read_of line) (reads_each line) v x).0

    value : told line (read_of line) ≡ v
    value = (lawful_accepted line (read_of line) (reads_each line) v x).1

    pub answer_0 : r.answer ≡ 0
    answer_0 = ap (λ (z : RawLine). z.answer) h.returned ∙ ap answer_number accepted

    pub version_told : r.version ≡ version_number v.version
    version_told = ap (λ (z : RawLine). z.version) h.returned ∙ ap (λ (z : Value). version_number z.version) value

    pub lookup_told : r.local_dns ≡ bit v.local_dns
    lookup_told = ap (λ (z : RawLine). z.local_dns) h.returned ∙ ap (λ (z : Value). bit z.local_dns) value

    user_is : user' ≡ (read_of line).user
    user_is = h.user_left ∙ ap (λ (a : Answer). written a (read_of line).user user) accepted

    password_is : password' ≡ (read_of line).password
    password_is = h.password_left ∙ ap (λ (a : Answer). written a (read_of line).password password) accepted

    -- the first bytes of the arrays, if they are given
    pub credentials_told : given_by (truth r.proxy_auth) (take r.user_len user') (take r.password_len password') ≡ v.credentials
    credentials_told =
        let g : truth r.proxy_auth ≡ (read_of line).proxy_auth = ap (λ (z : RawLine). truth z.proxy_auth) h.returned ∙ bit_back (read_of line).proxy_auth in
        (λ i. given_by (g i) (take (h.returned i).user_len (user_is i)) (take (h.returned i).password_len (password_is i))) ∙ ap (λ (z : Value). z.credentials) value

    pub host_told : take r.host_len (drop r.host_at line) ≡ v.host
    host_told = ap (λ (z : RawLine). take z.host_len (drop z.host_at line)) h.returned ∙ ap (λ (z : Value). z.host) value

    pub port_told : r.port ≡ v.port
    port_told = ap (λ (z : RawLine). z.port) h.returned ∙ ap (λ (z : Value). z.port) value

  -- any other: 24 and its place, and the arrays are as they were
  module _ (f : Unlawful line) where
    refused : answer_number (read_of line).answer ≡ 24
    refused = answers_24 line (read_of line) (reads_each line) f

    pub answer_24 : r.answer ≡ 24
    answer_24 = ap (λ (z : RawLine). z.answer) h.returned ∙ refused

    pub place_told : Place line r.place
    place_told = rw (ap (λ (z : RawLine). z.place) h.returned) ((reads_each line).place_is f)

    pub user_stays : user' ≡ user
    user_stays = h.user_left ∙ stays (read_of line).answer (read_of line).user user refused

    pub password_stays : password' ≡ password
    password_stays = h.password_left ∙ stays (read_of line).answer (read_of line).password password refused
